-- `kinds::operators::lookup::from_slice` meets its contract, by what `binding_of` and `tokens_of` ensure.
-- Assumes nothing.
use Rattle.std.specs.Prelude.{ℕ, ◌≡◌, refl, Bool, true, false, cond, ◌&&◌, eqb}
use Rattle.std.proofs.Common.{ap, ◌∙◌, arith, eqb-true}
use Rattle.definition.specs.Classes.{among}
use Rattle.definition.specs.Kinds.{K-is, K-not}
use Rattle.definition.specs.Operators.{bindings, binding_in, from_slice}
use Rattle.kinds.proofs.operators.lookup.from_slice.Goals as goal

-- what is no operator is one token, since `is` is an operator
one_token : (k : ℕ) (b x : Bool) → eqb k K-is ≡ b → 0 ≡ binding_in k bindings → ◌≡◌ {A = ℕ} 1 (cond (b && x) 2 1)
unfolding among bindings binding_in
one_token k false x e h = refl
one_token k true x e h =
    let clash : ◌≡◌ {A = ℕ} 0 13 = h ∙ ap (λ (m : ℕ). binding_in m bindings) (eqb-true k K-is e) in
    absurd (omega arith)

pub returns-in_err-binding : goal.returns-in_err-binding
unfolding from_slice
returns-in_err-binding c =
    let k = c.args.k in
    let zero : 0 ≡ binding_in k bindings = rw c.in_err-binding.was at c.binding_of.ensures.is in
    rw (c.from_residual.ensures, ← zero, ← one_token k (eqb k K-is) (eqb c.args.j K-not) refl zero)

pub returns : goal.returns
unfolding from_slice
returns c =
    let found : c.in_ok-binding.binding ≡ binding_in c.args.k bindings = rw c.in_ok-binding.was at c.binding_of.ensures.is in
    rw (found, c.tokens_of.ensures)
