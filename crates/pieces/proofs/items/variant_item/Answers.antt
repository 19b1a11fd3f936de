-- Written by tools/walk.py from the code and its program; docs/CONTRIBUTING.md says how.
-- Assumes nothing.
use Rattle.definition.specs.Grammar.{variant_item}
use Rattle.tape.specs.Steps.{marked_now, step_marked, both, cut, thrown_ran, scoped, unscoped}
use Rattle.pieces.proofs.items.variant_item.Goals as goal

pub returns-in_err-c : goal.returns-in_err-c
unfolding variant_item
returns-in_err-c c =
    thrown_ran c.from_residual.ensures (unscoped c.in_err-c.ensures)

pub returns-in_err-bump : goal.returns-in_err-bump
unfolding variant_item
returns-in_err-bump c =
    thrown_ran c.from_residual-in_err-bump.ensures (scoped c.in_ok-c.ensures (cut (c.in_err-bump.ensures.under _)))

pub returns-in_err-any_body : goal.returns-in_err-any_body
unfolding variant_item
returns-in_err-any_body c =
    thrown_ran c.from_residual-in_err-any_body.ensures (scoped c.in_ok-c.ensures (both (c.in_ok-bump.ensures.under _) (cut (c.in_err-any_body.ensures.under _))))

pub close_at-requires : goal.close_at-requires
close_at-requires c =
    step_marked (c.in_ok-any_body.ensures.under _) (step_marked (c.in_ok-bump.ensures.under _) (marked_now c.in_ok-c.ensures))

pub returns : goal.returns
unfolding variant_item
returns c =
    scoped c.in_ok-c.ensures (both (c.in_ok-bump.ensures.under _) (both (c.in_ok-any_body.ensures.under _) c.close_at.ensures))
