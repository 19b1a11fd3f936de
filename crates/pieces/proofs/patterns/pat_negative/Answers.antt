-- Written by tools/walk.py from the code and its program; docs/CONTRIBUTING.md says how.
-- Assumes nothing.
use Rattle.definition.specs.Grammar.{pat_negative}
use Rattle.tape.specs.Steps.{marked_now, step_marked, both, cut, thrown_ran, ends, scoped, unscoped}
use Rattle.pieces.proofs.patterns.pat_negative.Goals as goal

pub returns-in_err-c : goal.returns-in_err-c
unfolding pat_negative
returns-in_err-c c =
    thrown_ran c.from_residual.ensures (unscoped c.in_err-c.ensures)

pub returns-in_err-bump : goal.returns-in_err-bump
unfolding pat_negative
returns-in_err-bump c =
    thrown_ran c.from_residual-in_err-bump.ensures (scoped c.in_ok-c.ensures (cut (c.in_err-bump.ensures.under _)))

pub returns-in_err-bump_if : goal.returns-in_err-bump_if
unfolding pat_negative
returns-in_err-bump_if c =
    thrown_ran c.from_residual-in_err-bump_if.ensures (scoped c.in_ok-c.ensures (both (c.in_ok-bump.ensures.under _) (cut (cut (c.in_err-bump_if.ensures.under _)))))

pub close_at-requires : goal.close_at-requires
close_at-requires c =
    step_marked (c.in_ok-bump_if.ensures.under _) (step_marked (c.in_ok-bump.ensures.under _) (marked_now c.in_ok-c.ensures))

pub returns : goal.returns
unfolding pat_negative
returns c =
    scoped c.in_ok-c.ensures (both (c.in_ok-bump.ensures.under _) (both (ends (c.in_ok-bump_if.ensures.under _)) c.close_at.ensures))
