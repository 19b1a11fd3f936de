-- Written by tools/walk.py from the code and its program; docs/CONTRIBUTING.md says how.
-- Assumes nothing.
use Rattle.std.proofs.Math.Path.{sym}
use Rattle.std.proofs.Common.{◌∙◌}
use Rattle.definition.specs.Grammar.{recovery, while_turn}
use Rattle.laws.specs.Progress.{bump_further, recovering_some}
use Rattle.tape.specs.Steps.{burns, both, cut, thrown, if_yes, if_no, ask_second, nothing, inv_start, inv_again, inv_end, last, last_cut}
use Rattle.tape.specs.Counted.{goes_some}
use Rattle.grammar.proofs.steps.recovery.Goals as goal

pub loop-p-init : goal.loop-p-init
unfolding recovery while_turn
loop-p-init c =
    record { under = λ m. inv_start }

pub loop-p-smaller : goal.loop-p-smaller
loop-p-smaller c =
    burns (c.in_ok-bump.ensures.under 0).kept (goes_some (c.in_ok-bump.ensures.under 0) c.peek.ensures (recovering_some _ _ (sym c.is_stmt_recovering.ensures ∙ c.loop-p-test.true)) bump_further)

pub loop-p-preserved : goal.loop-p-preserved
unfolding recovery while_turn
loop-p-preserved c =
    record { under = λ m. inv_again (c.loop-p.invariant.under m) (ask_second c.peek.ensures c.peek_second.ensures (if_yes (sym c.is_stmt_recovering.ensures ∙ c.loop-p-test.true) (both (c.in_ok-bump.ensures.under _) nothing))) (goes_some (c.in_ok-bump.ensures.under 0) c.peek.ensures (recovering_some _ _ (sym c.is_stmt_recovering.ensures ∙ c.loop-p-test.true)) bump_further) }

pub returns-in_err-bump : goal.returns-in_err-bump
unfolding recovery while_turn
returns-in_err-bump c =
    record { under = λ m. thrown c.from_residual.ensures (inv_end (c.loop-p.invariant.under _) (last_cut (ask_second c.peek.ensures c.peek_second.ensures (if_yes (sym c.is_stmt_recovering.ensures ∙ c.loop-p-test.true) (cut (c.in_err-bump.ensures.under _)))))) }

pub returns : goal.returns
unfolding recovery while_turn
returns c =
    record { under = λ m. inv_end (c.loop-p.invariant.under _) (last (ask_second c.peek.ensures c.peek_second.ensures (if_no (sym c.is_stmt_recovering.ensures ∙ c.loop-p-test.false) nothing))) }
