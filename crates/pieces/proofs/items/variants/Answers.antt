-- Written by tools/walk.py from the code and its program; docs/CONTRIBUTING.md says how.
-- Assumes nothing.
use Rattle.std.proofs.Common.{arith}
use borrow.Author.Tests.{eq-eqb, ne_eqb}
use Rattle.definition.specs.Grammar.{variants, while_turn}
use Rattle.laws.specs.Progress.{variant_further}
use Rattle.tape.specs.Steps.{burns, both, cut, thrown, if_yes, if_no, ask, nothing, inv_start, inv_again, inv_end, last, last_cut}
use Rattle.tape.specs.Counted.{goes_some}
use Rattle.pieces.proofs.items.variants.Goals as goal

pub loop-p-init : goal.loop-p-init
unfolding variants while_turn
loop-p-init c =
    record { under = λ m. inv_start }

pub loop-p-smaller : goal.loop-p-smaller
loop-p-smaller c =
    burns (c.in_ok-variant.ensures.under 0).kept (goes_some (c.in_ok-variant.ensures.under 0) c.peek.ensures (λ z. omega (arith, c.loop-p-test.true)) variant_further)

pub loop-p-preserved : goal.loop-p-preserved
unfolding variants while_turn
loop-p-preserved c =
    record { under = λ m. inv_again (c.loop-p.invariant.under m) (ask c.peek.ensures (if_yes (eq-eqb _ _ c.loop-p-test.true) (both (c.in_ok-variant.ensures.under _) nothing))) (goes_some (c.in_ok-variant.ensures.under 0) c.peek.ensures (λ z. omega (arith, c.loop-p-test.true)) variant_further) }

pub returns-in_err-variant : goal.returns-in_err-variant
unfolding variants while_turn
returns-in_err-variant c =
    record { under = λ m. thrown c.from_residual.ensures (inv_end (c.loop-p.invariant.under _) (last_cut (ask c.peek.ensures (if_yes (eq-eqb _ _ c.loop-p-test.true) (cut (c.in_err-variant.ensures.under _)))))) }

pub returns : goal.returns
unfolding variants while_turn
returns c =
    record { under = λ m. inv_end (c.loop-p.invariant.under _) (last (ask c.peek.ensures (if_no (ne_eqb _ _ c.loop-p-test.false) nothing))) }
