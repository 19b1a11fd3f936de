-- Two programs that document 01 wants shut out: one that refuses everything, and one that answers one fixed tree. `a` and `a+b`, in each entry, tell them apart.
-- Assumes nothing.
use Rattle.std.specs.Prelude.{ℕ, ◌≡◌, refl, List, [], ◌∷◌}
use Rattle.std.proofs.Common.{ap, arith}
use Rattle.definition.specs.Kinds.{K-ident, K-+}
use Rattle.definition.specs.Parse.{Entry}
use Rattle.laws.specs.Known.{answered, promised}
use Rattle.entry.specs.Promise.{Answered}
use Rattle.answers.specs.ShutOut.{Asked, in_root, in_exprs, in_format, name, sum, known, element}

-- ## What every entry answers to `a` and `a+b`

name_result : {e : Entry} → Asked e → answered (name e) ≡ promised (name e)
unfolding answered
name_result in_root = refl
name_result in_exprs = refl
name_result in_format = refl

sum_result : {e : Entry} → Asked e → answered (sum e) ≡ promised (sum e)
unfolding answered
sum_result in_root = refl
sum_result in_exprs = refl
sum_result in_format = refl

-- ## Refusing everything

-- No entry refuses `a+b`.
pub no_refusing_all : {e : Entry} {number place count : ℕ} {table : List ℕ} → Asked e →
    Answered e (K-ident ∷ K-+ ∷ K-ident ∷ []) (1 ∷ 1 ∷ 1 ∷ []) 40 256 number place count table → number ≡ 0
no_refusing_all {e} k p = ap (element 0) (known (sum e) (sum_result k) p)

-- ## One fixed tree

-- In each entry `a` and `a+b` are answered with different row counts and different tables.
pub no_fixed_tree : {e : Entry} {number number' place place' count count' : ℕ} {table table' : List ℕ} → Asked e →
    Answered e (K-ident ∷ []) (1 ∷ []) 40 256 number place count table →
    Answered e (K-ident ∷ K-+ ∷ K-ident ∷ []) (1 ∷ 1 ∷ 1 ∷ []) 40 256 number' place' count' table' →
    (count ≡ count' → ⊥) × (table ≡ table' → ⊥)
no_fixed_tree {e} k p q =
    let f = known (name e) (name_result k) p in
    let g = known (sum e) (sum_result k) q in
    -- the third row is an Expr's, or `+`
    (λ same. omega (arith, ap (element 2) f, ap (element 2) g), λ same. omega (arith, ap (element 11) f, ap (element 11) g, ap (element 8) same))
