-- Written by tools/walk.py from the code and its program; docs/CONTRIBUTING.md says how.
-- Assumes nothing.
use Rattle.std.proofs.Math.Path.{sym}
use Rattle.std.proofs.Common.{◌∙◌}
use Rattle.definition.specs.Grammar.{root, while_turn}
use Rattle.laws.specs.Progress.{stmt_further}
use Rattle.tape.specs.Steps.{burns, both, cut, thrown, if_yes, if_no, ask, nothing, inv_start, inv_again, inv_end, last, last_cut}
use Rattle.tape.specs.Counted.{goes_on}
use Rattle.krosstavel.proofs.rules.root_rule.Goals as goal

pub loop-p-init : goal.loop-p-init
unfolding root while_turn
loop-p-init c =
    record { under = λ m. inv_start }

pub loop-p-smaller : goal.loop-p-smaller
loop-p-smaller c =
    burns (c.in_ok-stmt.ensures.under 0).kept (goes_on (c.in_ok-stmt.ensures.under 0) stmt_further)

pub loop-p-preserved : goal.loop-p-preserved
unfolding root while_turn
loop-p-preserved c =
    record { under = λ m. inv_again (c.loop-p.invariant.under m) (ask c.peek.ensures (if_yes (sym c.is_some.ensures ∙ c.loop-p-test.true) (both (c.in_ok-stmt.ensures.under _) nothing))) (goes_on (c.in_ok-stmt.ensures.under 0) stmt_further) }

pub returns-in_err-stmt : goal.returns-in_err-stmt
unfolding root while_turn
returns-in_err-stmt c =
    thrown c.from_residual.ensures (cut (inv_end (c.loop-p.invariant.under _) (last_cut (ask c.peek.ensures (if_yes (sym c.is_some.ensures ∙ c.loop-p-test.true) (cut (c.in_err-stmt.ensures.under _)))))))

pub close_root-requires : goal.close_root-requires
close_root-requires c =
    (c.loop-p.invariant.under _).marked c.requires

pub returns : goal.returns
unfolding root while_turn
returns c =
    both (inv_end (c.loop-p.invariant.under _) (last (ask c.peek.ensures (if_no (sym c.is_some.ensures ∙ c.loop-p-test.false) nothing)))) c.close_root.ensures
