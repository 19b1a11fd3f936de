-- Written by tools/walk.py from the code and its program; docs/CONTRIBUTING.md says how.
-- Assumes nothing.
use Rattle.krosstavel.specs.Starting.{some_is_some}
use Rattle.std.proofs.Math.Path.{sym}
use Rattle.std.proofs.Common.{◌∙◌}
use Rattle.definition.specs.Grammar.{format, while_turn}
use Rattle.laws.specs.Progress.{bump_further}
use Rattle.tape.specs.Steps.{burns, step_marked, both, cut, thrown, if_yes, if_no, ask, nothing, inv_start, inv_again, inv_end, last, last_cut}
use Rattle.tape.specs.Counted.{goes_some}
use Rattle.krosstavel.proofs.rules.format_rule.Goals as goal

pub returns-in_err-expr : goal.returns-in_err-expr
unfolding format while_turn
returns-in_err-expr c =
    thrown c.from_residual.ensures (cut (c.in_err-expr.ensures.under _))

pub loop-p-init : goal.loop-p-init
unfolding format while_turn
loop-p-init c =
    record { under = λ m. inv_start }

pub loop-p-smaller : goal.loop-p-smaller
loop-p-smaller c =
    burns (c.in_ok-bump.ensures.under 0).kept (goes_some (c.in_ok-bump.ensures.under 0) c.peek.ensures (some_is_some _ (sym c.is_some.ensures ∙ c.loop-p-test.true)) bump_further)

pub loop-p-preserved : goal.loop-p-preserved
unfolding format while_turn
loop-p-preserved c =
    record { under = λ m. inv_again (c.loop-p.invariant.under m) (ask c.peek.ensures (if_yes (sym c.is_some.ensures ∙ c.loop-p-test.true) (both (c.in_ok-bump.ensures.under _) nothing))) (goes_some (c.in_ok-bump.ensures.under 0) c.peek.ensures (some_is_some _ (sym c.is_some.ensures ∙ c.loop-p-test.true)) bump_further) }

pub returns-in_err-bump : goal.returns-in_err-bump
unfolding format while_turn
returns-in_err-bump c =
    thrown c.from_residual-in_err-bump.ensures (both (c.in_ok-expr.ensures.under _) (cut (inv_end (c.loop-p.invariant.under _) (last_cut (ask c.peek.ensures (if_yes (sym c.is_some.ensures ∙ c.loop-p-test.true) (cut (c.in_err-bump.ensures.under _))))))))

pub close_root-requires : goal.close_root-requires
close_root-requires c =
    (c.loop-p.invariant.under _).marked (step_marked (c.in_ok-expr.ensures.under _) c.requires)

pub returns : goal.returns
unfolding format while_turn
returns c =
    both (c.in_ok-expr.ensures.under _) (both (inv_end (c.loop-p.invariant.under _) (last (ask c.peek.ensures (if_no (sym c.is_some.ensures ∙ c.loop-p-test.false) nothing)))) c.close_root.ensures)
