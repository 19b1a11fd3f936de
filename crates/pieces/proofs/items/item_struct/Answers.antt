-- Written by tools/walk.py from the code and its program; docs/CONTRIBUTING.md says how.
-- Assumes nothing.
use Rattle.definition.specs.Grammar.{item_struct}
use Rattle.tape.specs.Steps.{both, cut, thrown, ends}
use Rattle.pieces.proofs.items.item_struct.Goals as goal

pub returns-in_err-bump : goal.returns-in_err-bump
unfolding item_struct
returns-in_err-bump c =
    record { under = λ m. thrown c.from_residual.ensures (cut (c.in_err-bump.ensures.under _)) }

pub returns-in_err-bump_if : goal.returns-in_err-bump_if
unfolding item_struct
returns-in_err-bump_if c =
    record { under = λ m. thrown c.from_residual-in_err-bump_if.ensures (both (c.in_ok-bump.ensures.under _) (cut (cut (c.in_err-bump_if.ensures.under _)))) }

pub returns : goal.returns
unfolding item_struct
returns c =
    record { under = λ m. both (c.in_ok-bump.ensures.under _) (both (ends (c.in_ok-bump_if.ensures.under _)) (c.any_body.ensures.under _)) }
