-- Written by tools/walk.py from the code and its program; docs/CONTRIBUTING.md says how.
-- Assumes nothing.
use Rattle.definition.specs.Grammar.{attribute_stream}
use Rattle.tape.specs.Steps.{both, cut, thrown, if_yes, if_no, nothing}
use Rattle.pieces.proofs.streams.attribute_stream.Goals as goal

pub returns-in_err-bump_if : goal.returns-in_err-bump_if
unfolding attribute_stream
returns-in_err-bump_if c =
    record { under = λ m. thrown c.from_residual.ensures (cut (c.in_err-bump_if.ensures.under _)) }

pub returns-in_err-token_stream : goal.returns-in_err-token_stream
unfolding attribute_stream
returns-in_err-token_stream c =
    record { under = λ m. thrown c.from_residual-in_err-token_stream.ensures (both (c.in_ok-bump_if.ensures.under _) (if_yes c.if-branch.true (cut (c.in_err-token_stream.ensures.under _)))) }

pub returns-in_err-bump : goal.returns-in_err-bump
unfolding attribute_stream
returns-in_err-bump c =
    record { under = λ m. thrown c.from_residual-in_err-bump.ensures (both (c.in_ok-bump_if.ensures.under _) (if_yes c.if-branch.true (both (c.in_ok-token_stream.ensures.under _) (c.in_err-bump.ensures.under _)))) }

pub returns-in_ok-bump : goal.returns-in_ok-bump
unfolding attribute_stream
returns-in_ok-bump c =
    record { under = λ m. both (c.in_ok-bump_if.ensures.under _) (if_yes c.if-branch.true (both (c.in_ok-token_stream.ensures.under _) (c.in_ok-bump.ensures.under _))) }

pub returns-else-branch : goal.returns-else-branch
unfolding attribute_stream
returns-else-branch c =
    record { under = λ m. both (c.in_ok-bump_if.ensures.under _) (if_no c.if-branch.false nothing) }
