-- Written by tools/walk.py from the code and its program; docs/CONTRIBUTING.md says how.
-- Assumes nothing.
use Rattle.std.proofs.Math.Path.{refl, sym}
use Rattle.std.proofs.Common.{◌∙◌}
use Rattle.definition.specs.Grammar.{attributes, while_turn}
use Rattle.laws.specs.Progress.{attribute_further, glues_some}
use Rattle.tape.specs.Steps.{burns, both, cut, thrown, if_yes, if_no, ask_glued, nothing, inv_start, inv_again, inv_end, last, last_cut}
use Rattle.tape.specs.Counted.{goes_some}
use Rattle.pieces.proofs.streams.attributes.Goals as goal

pub loop-p-init : goal.loop-p-init
unfolding attributes while_turn
loop-p-init c =
    record { under = λ m. inv_start }

pub loop-p-smaller : goal.loop-p-smaller
loop-p-smaller c =
    burns (c.in_ok-attribute.ensures.under 0).kept (goes_some (c.in_ok-attribute.ensures.under 0) c.peek.ensures (glues_some _ _ _ _ refl (sym c.glues.ensures ∙ c.loop-p-test.true)) attribute_further)

pub loop-p-preserved : goal.loop-p-preserved
unfolding attributes while_turn
loop-p-preserved c =
    record { under = λ m. inv_again (c.loop-p.invariant.under m) (ask_glued c.peek.ensures c.glued.ensures (if_yes (sym c.glues.ensures ∙ c.loop-p-test.true) (both (c.in_ok-attribute.ensures.under _) nothing))) (goes_some (c.in_ok-attribute.ensures.under 0) c.peek.ensures (glues_some _ _ _ _ refl (sym c.glues.ensures ∙ c.loop-p-test.true)) attribute_further) }

pub returns-in_err-attribute : goal.returns-in_err-attribute
unfolding attributes while_turn
returns-in_err-attribute c =
    record { under = λ m. thrown c.from_residual.ensures (inv_end (c.loop-p.invariant.under _) (last_cut (ask_glued c.peek.ensures c.glued.ensures (if_yes (sym c.glues.ensures ∙ c.loop-p-test.true) (cut (c.in_err-attribute.ensures.under _)))))) }

pub returns : goal.returns
unfolding attributes while_turn
returns c =
    record { under = λ m. inv_end (c.loop-p.invariant.under _) (last (ask_glued c.peek.ensures c.glued.ensures (if_no (sym c.glues.ensures ∙ c.loop-p-test.false) nothing))) }
