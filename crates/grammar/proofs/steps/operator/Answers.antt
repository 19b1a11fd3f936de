-- Written by tools/walk.py from the code and its program; docs/CONTRIBUTING.md says how.
-- Assumes nothing.
use Rattle.definition.specs.Grammar.{operator}
use Rattle.tape.specs.Steps.{marked_now, step_marked, both, cut, thrown_ran, scoped, unscoped}
use Rattle.grammar.proofs.steps.operator.Goals as goal

pub returns-in_err-c : goal.returns-in_err-c
unfolding operator
returns-in_err-c c =
    thrown_ran c.from_residual.ensures (unscoped c.in_err-c.ensures)

pub returns-in_err-advance : goal.returns-in_err-advance
unfolding operator
returns-in_err-advance c =
    thrown_ran c.from_residual-in_err-advance.ensures (scoped c.in_ok-c.ensures (cut (c.in_err-advance.ensures.under _)))

pub close_at-requires : goal.close_at-requires
close_at-requires c =
    step_marked (c.in_ok-advance.ensures.under _) (marked_now c.in_ok-c.ensures)

pub returns : goal.returns
unfolding operator
returns c =
    scoped c.in_ok-c.ensures (both (c.in_ok-advance.ensures.under _) c.close_at.ensures)
