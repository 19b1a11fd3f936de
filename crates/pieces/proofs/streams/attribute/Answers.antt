-- Written by tools/walk.py from the code and its program; docs/CONTRIBUTING.md says how.
-- Assumes nothing.
use Rattle.definition.specs.Grammar.{attribute}
use Rattle.tape.specs.Steps.{marked_now, step_marked, both, cut, thrown_ran, scoped, unscoped}
use Rattle.pieces.proofs.streams.attribute.Goals as goal

pub returns-in_err-c : goal.returns-in_err-c
unfolding attribute
returns-in_err-c c =
    thrown_ran c.from_residual.ensures (unscoped c.in_err-c.ensures)

pub returns-in_err-bump : goal.returns-in_err-bump
unfolding attribute
returns-in_err-bump c =
    thrown_ran c.from_residual-in_err-bump.ensures (scoped c.in_ok-c.ensures (cut (c.in_err-bump.ensures.under _)))

pub returns-in_err-attribute_stream : goal.returns-in_err-attribute_stream
unfolding attribute
returns-in_err-attribute_stream c =
    thrown_ran c.from_residual-in_err-attribute_stream.ensures (scoped c.in_ok-c.ensures (both (c.in_ok-bump.ensures.under _) (cut (c.in_err-attribute_stream.ensures.under _))))

pub close_at-requires : goal.close_at-requires
close_at-requires c =
    step_marked (c.in_ok-attribute_stream.ensures.under _) (step_marked (c.in_ok-bump.ensures.under _) (marked_now c.in_ok-c.ensures))

pub returns : goal.returns
unfolding attribute
returns c =
    scoped c.in_ok-c.ensures (both (c.in_ok-bump.ensures.under _) (both (c.in_ok-attribute_stream.ensures.under _) c.close_at.ensures))
