-- Written by tools/walk.py from the code and its program; docs/CONTRIBUTING.md says how.
-- Assumes nothing.
use Rattle.definition.specs.Grammar.{token_stream}
use Rattle.tape.specs.Steps.{marked_now, step_marked, both, cut, thrown_ran, scoped, unscoped}
use Rattle.pieces.proofs.streams.token_stream.Goals as goal

pub returns-in_err-c : goal.returns-in_err-c
unfolding token_stream
returns-in_err-c c =
    thrown_ran c.from_residual.ensures (unscoped c.in_err-c.ensures)

pub returns-in_err-stream : goal.returns-in_err-stream
unfolding token_stream
returns-in_err-stream c =
    thrown_ran c.from_residual-in_err-stream.ensures (scoped c.in_ok-c.ensures (cut (c.in_err-stream.ensures.under _)))

pub close_at-requires : goal.close_at-requires
close_at-requires c =
    step_marked (c.in_ok-stream.ensures.under _) (marked_now c.in_ok-c.ensures)

pub returns : goal.returns
unfolding token_stream
returns c =
    scoped c.in_ok-c.ensures (both (c.in_ok-stream.ensures.under _) c.close_at.ensures)
