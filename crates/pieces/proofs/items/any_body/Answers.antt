-- Written by tools/walk.py from the code and its program; docs/CONTRIBUTING.md says how.
-- Assumes nothing.
use Rattle.std.proofs.Math.Path.{refl}
use Rattle.std.proofs.Common.{arith}
use borrow.Author.Tests.{eq-eqb, ne_eqb}
use Rattle.definition.specs.Grammar.{any_body}
use Rattle.tape.specs.Steps.{not_key, if_yes, if_no, look}
use Rattle.pieces.proofs.items.any_body.Goals as goal

pub returns-in-22 : goal.returns-in-22
unfolding any_body
returns-in-22 c =
    record { under = λ m. look c.peek.ensures (if_yes (eq-eqb _ _ c.in-22.is) (c.field_body.ensures.under _)) }

pub returns-in-18 : goal.returns-in-18
unfolding any_body
returns-in-18 c =
    record { under = λ m. look c.peek.ensures (if_no (not_key 22 c.in-18.is refl) (if_yes (eq-eqb _ _ c.in-18.is) (c.field_body-in-18.ensures.under _))) }

pub returns-in_default : goal.returns-in_default
unfolding any_body
returns-in_default c =
    record { under = λ m. look c.peek.ensures (if_no (ne_eqb _ _ (omega arith)) (if_no (ne_eqb _ _ (omega arith)) (c.empty.ensures.under _))) }
