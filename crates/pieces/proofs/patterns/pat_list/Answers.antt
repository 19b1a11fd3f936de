-- Written by tools/walk.py from the code and its program; docs/CONTRIBUTING.md says how.
-- Assumes nothing.
use Rattle.std.proofs.Math.Path.{sym}
use Rattle.std.proofs.Common.{◌∙◌}
use Rattle.definition.specs.Classes.{kind_is_pat}
use Rattle.definition.specs.Grammar.{pat_list, while_turn}
use Rattle.laws.specs.Progress.{pat_further}
use Rattle.tape.specs.Steps.{burns, kept_on, both, cut, thrown, ends, if_yes, if_no, ask_glued, nothing, inv_start, inv_again, inv_end, last, last_cut}
use Rattle.tape.specs.Counted.{goes_glued, and_on}
use Rattle.pieces.proofs.patterns.pat_list.Goals as goal

pub loop-p-init : goal.loop-p-init
unfolding pat_list while_turn
loop-p-init c =
    record { under = λ m. inv_start }

pub returns-in_err-pat : goal.returns-in_err-pat
unfolding pat_list while_turn
returns-in_err-pat c =
    record { under = λ m. thrown c.from_residual.ensures (inv_end (c.loop-p.invariant.under _) (last_cut (ask_glued c.peek.ensures c.glued.ensures (if_yes (sym c.is_pat.ensures ∙ c.loop-p-test.true) (cut (cut (c.in_err-pat.ensures.under _))))))) }

pub loop-p-smaller : goal.loop-p-smaller
loop-p-smaller c =
    burns (kept_on (c.in_ok-pat.ensures.under 0).kept (c.in_ok-bump_while.ensures.under 0).kept) (and_on (goes_glued (c.in_ok-pat.ensures.under 0) c.peek.ensures c.glued.ensures kind_is_pat (sym c.is_pat.ensures ∙ c.loop-p-test.true) pat_further) (c.in_ok-bump_while.ensures.under 0))

pub loop-p-preserved : goal.loop-p-preserved
unfolding pat_list while_turn
loop-p-preserved c =
    record { under = λ m. inv_again (c.loop-p.invariant.under m) (ask_glued c.peek.ensures c.glued.ensures (if_yes (sym c.is_pat.ensures ∙ c.loop-p-test.true) (both (both (c.in_ok-pat.ensures.under _) (ends (c.in_ok-bump_while.ensures.under _))) nothing))) (and_on (goes_glued (c.in_ok-pat.ensures.under 0) c.peek.ensures c.glued.ensures kind_is_pat (sym c.is_pat.ensures ∙ c.loop-p-test.true) pat_further) (c.in_ok-bump_while.ensures.under 0)) }

pub returns-in_err-bump_while : goal.returns-in_err-bump_while
unfolding pat_list while_turn
returns-in_err-bump_while c =
    record { under = λ m. thrown c.from_residual-in_err-bump_while.ensures (inv_end (c.loop-p.invariant.under _) (last_cut (ask_glued c.peek.ensures c.glued.ensures (if_yes (sym c.is_pat.ensures ∙ c.loop-p-test.true) (cut (both (c.in_ok-pat.ensures.under _) (cut (c.in_err-bump_while.ensures.under _)))))))) }

pub returns : goal.returns
unfolding pat_list while_turn
returns c =
    record { under = λ m. inv_end (c.loop-p.invariant.under _) (last (ask_glued c.peek.ensures c.glued.ensures (if_no (sym c.is_pat.ensures ∙ c.loop-p-test.false) nothing))) }
