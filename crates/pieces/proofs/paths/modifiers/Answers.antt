-- Written by tools/walk.py from the code and its program; docs/CONTRIBUTING.md says how.
-- Assumes nothing.
use Rattle.std.proofs.Math.Path.{refl}
use Rattle.std.proofs.Common.{arith}
use borrow.Author.Tests.{eq-eqb, ne_eqb}
use Rattle.definition.specs.Grammar.{modifiers, modifiers_turn}
use Rattle.laws.specs.Progress.{bump_further, modifier_pub_further}
use Rattle.tape.specs.Steps.{burns, either, marked_now, not_key, both, cut, thrown_ran, ends, if_yes, if_no, look, scoped, unscoped, nothing, inv_start, inv_again, inv_end, last, last_cut}
use Rattle.tape.specs.Counted.{goes_some}
use Rattle.pieces.proofs.paths.modifiers.Goals as goal

pub returns-in_err-c : goal.returns-in_err-c
unfolding modifiers modifiers_turn
returns-in_err-c c =
    thrown_ran c.from_residual.ensures (unscoped c.in_err-c.ensures)

pub loop-p-init : goal.loop-p-init
unfolding modifiers modifiers_turn
loop-p-init c =
    record { under = λ m. inv_start }

pub returns-in_err-modifier_pub-in-89 : goal.returns-in_err-modifier_pub-in-89
unfolding modifiers modifiers_turn
returns-in_err-modifier_pub-in-89 c =
    thrown_ran c.from_residual-in_err-modifier_pub-in-89.ensures (scoped c.in_ok-c.ensures (cut (inv_end (c.loop-p.invariant.under _) (last_cut (look c.peek.ensures (if_yes (eq-eqb _ _ c.in-89.is) (cut (c.in_err-modifier_pub-in-89.ensures.under _))))))))

pub loop-p-smaller-in-89 : goal.loop-p-smaller-in-89
loop-p-smaller-in-89 c =
    burns (c.in_ok-modifier_pub-in-89.ensures.under 0).kept (goes_some (c.in_ok-modifier_pub-in-89.ensures.under 0) c.peek.ensures (λ z. omega (arith, c.in-89.is)) modifier_pub_further)

pub loop-p-preserved-in-89 : goal.loop-p-preserved-in-89
unfolding modifiers modifiers_turn
loop-p-preserved-in-89 c =
    record { under = λ m. inv_again (c.loop-p.invariant.under m) (look c.peek.ensures (if_yes (eq-eqb _ _ c.in-89.is) (both (c.in_ok-modifier_pub-in-89.ensures.under _) nothing))) (goes_some (c.in_ok-modifier_pub-in-89.ensures.under 0) c.peek.ensures (λ z. omega (arith, c.in-89.is)) modifier_pub_further) }

pub returns-in_err-bump-in-74 : goal.returns-in_err-bump-in-74
unfolding modifiers modifiers_turn
returns-in_err-bump-in-74 c =
    thrown_ran c.from_residual-in_err-bump-in-74.ensures (scoped c.in_ok-c.ensures (cut (inv_end (c.loop-p.invariant.under _) (last_cut (look c.peek.ensures (if_no (not_key 89 c.in-74.is refl) (if_yes (eq-eqb _ _ c.in-74.is) (cut (c.in_err-bump-in-74.ensures.under _)))))))))

pub loop-p-smaller-in-74 : goal.loop-p-smaller-in-74
loop-p-smaller-in-74 c =
    burns (c.in_ok-bump-in-74.ensures.under 0).kept (goes_some (c.in_ok-bump-in-74.ensures.under 0) c.peek.ensures (λ z. omega (arith, c.in-74.is)) bump_further)

pub loop-p-preserved-in-74 : goal.loop-p-preserved-in-74
unfolding modifiers modifiers_turn
loop-p-preserved-in-74 c =
    record { under = λ m. inv_again (c.loop-p.invariant.under m) (look c.peek.ensures (if_no (not_key 89 c.in-74.is refl) (if_yes (eq-eqb _ _ c.in-74.is) (both (c.in_ok-bump-in-74.ensures.under _) nothing)))) (goes_some (c.in_ok-bump-in-74.ensures.under 0) c.peek.ensures (λ z. omega (arith, c.in-74.is)) bump_further) }

pub returns-in_err-bump-in-71 : goal.returns-in_err-bump-in-71
unfolding modifiers modifiers_turn
returns-in_err-bump-in-71 c =
    either c.in-71.is (λ e5. thrown_ran c.from_residual-in_err-bump-in-71.ensures (scoped c.in_ok-c.ensures (cut (inv_end (c.loop-p.invariant.under _) (last_cut (look c.peek.ensures (if_no (not_key 89 e5 refl) (if_no (not_key 74 e5 refl) (if_yes (eq-eqb _ _ e5) (cut (c.in_err-bump-in-71.ensures.under _))))))))))) (λ e5. thrown_ran c.from_residual-in_err-bump-in-71.ensures (scoped c.in_ok-c.ensures (cut (inv_end (c.loop-p.invariant.under _) (last_cut (look c.peek.ensures (if_no (not_key 89 e5 refl) (if_no (not_key 74 e5 refl) (if_no (not_key 71 e5 refl) (if_yes (eq-eqb _ _ e5) (cut (c.in_err-bump-in-71.ensures.under _))))))))))))

pub loop-p-smaller : goal.loop-p-smaller
loop-p-smaller c =
    either c.in-71.is (λ e5. burns (c.in_ok-bump-in-71.ensures.under 0).kept (goes_some (c.in_ok-bump-in-71.ensures.under 0) c.peek.ensures (λ z. omega (arith, e5)) bump_further)) (λ e5. burns (c.in_ok-bump-in-71.ensures.under 0).kept (goes_some (c.in_ok-bump-in-71.ensures.under 0) c.peek.ensures (λ z. omega (arith, e5)) bump_further))

pub loop-p-preserved : goal.loop-p-preserved
unfolding modifiers modifiers_turn
loop-p-preserved c =
    either c.in-71.is (λ e5. record { under = λ m. inv_again (c.loop-p.invariant.under m) (look c.peek.ensures (if_no (not_key 89 e5 refl) (if_no (not_key 74 e5 refl) (if_yes (eq-eqb _ _ e5) (both (c.in_ok-bump-in-71.ensures.under _) nothing))))) (goes_some (c.in_ok-bump-in-71.ensures.under 0) c.peek.ensures (λ z. omega (arith, e5)) bump_further) }) (λ e5. record { under = λ m. inv_again (c.loop-p.invariant.under m) (look c.peek.ensures (if_no (not_key 89 e5 refl) (if_no (not_key 74 e5 refl) (if_no (not_key 71 e5 refl) (if_yes (eq-eqb _ _ e5) (both (c.in_ok-bump-in-71.ensures.under _) nothing)))))) (goes_some (c.in_ok-bump-in-71.ensures.under 0) c.peek.ensures (λ z. omega (arith, e5)) bump_further) })

pub close_at-requires : goal.close_at-requires
close_at-requires c =
    (c.loop-p.invariant.under _).marked (marked_now c.in_ok-c.ensures)

pub returns-in_err-close_at : goal.returns-in_err-close_at
unfolding modifiers modifiers_turn
returns-in_err-close_at c =
    thrown_ran c.from_residual-in_err-close_at.ensures (scoped c.in_ok-c.ensures (both (inv_end (c.loop-p.invariant.under _) (last (look c.peek.ensures (if_no (ne_eqb _ _ (grind arith)) (if_no (ne_eqb _ _ (grind arith)) (if_no (ne_eqb _ _ (grind arith)) (if_no (ne_eqb _ _ (grind arith)) nothing))))))) (cut (if_yes c.if-has_mods.true c.in_err-close_at.ensures))))

pub returns-in_ok-close_at : goal.returns-in_ok-close_at
unfolding modifiers modifiers_turn
returns-in_ok-close_at c =
    scoped c.in_ok-c.ensures (both (inv_end (c.loop-p.invariant.under _) (last (look c.peek.ensures (if_no (ne_eqb _ _ (grind arith)) (if_no (ne_eqb _ _ (grind arith)) (if_no (ne_eqb _ _ (grind arith)) (if_no (ne_eqb _ _ (grind arith)) nothing))))))) (ends (if_yes c.if-has_mods.true c.in_ok-close_at.ensures)))

pub returns-else-has_mods : goal.returns-else-has_mods
unfolding modifiers modifiers_turn
returns-else-has_mods c =
    scoped c.in_ok-c.ensures (both (inv_end (c.loop-p.invariant.under _) (last (look c.peek.ensures (if_no (ne_eqb _ _ (grind arith)) (if_no (ne_eqb _ _ (grind arith)) (if_no (ne_eqb _ _ (grind arith)) (if_no (ne_eqb _ _ (grind arith)) nothing))))))) (ends (if_no c.if-has_mods.false nothing)))
