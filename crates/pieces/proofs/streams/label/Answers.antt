-- Written by tools/walk.py from the code and its program; docs/CONTRIBUTING.md says how.
-- Assumes nothing.
use Rattle.definition.specs.Grammar.{label}
use Rattle.tape.specs.Steps.{both, cut, thrown, ends}
use Rattle.pieces.proofs.streams.label.Goals as goal

pub returns-in_err-bump : goal.returns-in_err-bump
unfolding label
returns-in_err-bump c =
    record { under = λ m. thrown c.from_residual.ensures (cut (c.in_err-bump.ensures.under _)) }

pub returns-in_err-bump_while : goal.returns-in_err-bump_while
unfolding label
returns-in_err-bump_while c =
    record { under = λ m. thrown c.from_residual-in_err-bump_while.ensures (both (c.in_ok-bump.ensures.under _) (cut (c.in_err-bump_while.ensures.under _))) }

pub returns : goal.returns
unfolding label
returns c =
    record { under = λ m. both (c.in_ok-bump.ensures.under _) (ends (c.in_ok-bump_while.ensures.under _)) }
