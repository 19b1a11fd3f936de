-- Written by tools/walk.py from the code and its program; docs/CONTRIBUTING.md says how.
-- Assumes nothing.
use Rattle.definition.specs.Grammar.{enum_body}
use Rattle.tape.specs.Steps.{both, cut, thrown, ends, if_yes, if_no, nothing}
use Rattle.pieces.proofs.items.enum_body.Goals as goal

pub returns-in_err-bump_if : goal.returns-in_err-bump_if
unfolding enum_body
returns-in_err-bump_if c =
    record { under = λ m. thrown c.from_residual.ensures (cut (c.in_err-bump_if.ensures.under _)) }

pub returns-in_err-variants : goal.returns-in_err-variants
unfolding enum_body
returns-in_err-variants c =
    record { under = λ m. thrown c.from_residual-in_err-variants.ensures (both (c.in_ok-bump_if.ensures.under _) (if_yes c.if-branch.true (cut (c.in_err-variants.ensures.under _)))) }

pub returns-in_err-bump_if-2 : goal.returns-in_err-bump_if-2
unfolding enum_body
returns-in_err-bump_if-2 c =
    record { under = λ m. thrown c.from_residual-in_err-bump_if-2.ensures (both (c.in_ok-bump_if.ensures.under _) (if_yes c.if-branch.true (both (c.in_ok-variants.ensures.under _) (cut (c.in_err-bump_if-2.ensures.under _))))) }

pub returns-in_ok-bump_if-2 : goal.returns-in_ok-bump_if-2
unfolding enum_body
returns-in_ok-bump_if-2 c =
    record { under = λ m. both (c.in_ok-bump_if.ensures.under _) (if_yes c.if-branch.true (both (c.in_ok-variants.ensures.under _) (ends (c.in_ok-bump_if-2.ensures.under _)))) }

pub returns-else-branch : goal.returns-else-branch
unfolding enum_body
returns-else-branch c =
    record { under = λ m. both (c.in_ok-bump_if.ensures.under _) (if_no c.if-branch.false nothing) }
