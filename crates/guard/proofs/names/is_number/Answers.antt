use Rattle.std.proofs.Common.{◌≡◌, refl, ℕ, Bool, true, Option, Some, None, eqb, sym, ap, ◌∙◌}
use Rattle.std.specs.Option.{option_eq}
use borrow.Author.Tests.{eqb-true}
use Rattle.guard.specs.Names.{one}
use Rattle.guard.proofs.names.is_number.Goals as goal

same_some : {r : Bool} (o : Option ℕ) (n : ℕ) → r ≡ option_eq eqb o (Some n) → r ≡ true → o ≡ Some n
same_some None n e t = cc
same_some (Some k) n e t = ap Some (eqb-true k n (sym e ∙ t))

pub returns-then-eq : goal.returns-then-eq
returns-then-eq c =
    let is = same_some c.numbers.result 1 c.eq.ensures c.if-eq.true in
    rw c.numbers.ensures.1 (one c.args.text.now c.args.number (sym c.numbers.ensures.0 ∙ is) refl)
