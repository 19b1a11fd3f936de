-- Written by tools/walk.py from the code and its program; docs/CONTRIBUTING.md says how.
-- Assumes nothing.
use Rattle.krosstavel.specs.Starting.{same_step}
use Rattle.std.proofs.Math.Path.{sym, ap}
use Rattle.std.proofs.Common.{◌∙◌}
use Rattle.definition.specs.Grammar.{bump_while, exprs, separated, while_turn}
use Rattle.laws.specs.Progress.{expr_further}
use Rattle.tape.specs.Steps.{burns, kept_on, both, cut, thrown, ends, if_yes, if_no, ask, nothing, inv_start, inv_again, inv_end, last, last_cut}
use Rattle.tape.specs.Counted.{goes_on, and_on}
use Rattle.krosstavel.proofs.rules.exprs_rule.Goals as goal

pub loop-p-init : goal.loop-p-init
unfolding exprs while_turn separated
loop-p-init c =
    record { under = λ m. inv_start }

pub returns-in_err-expr : goal.returns-in_err-expr
unfolding exprs while_turn separated
returns-in_err-expr c =
    thrown c.from_residual.ensures (cut (inv_end (c.loop-p.invariant.under _) (last_cut (ask c.peek.ensures (if_yes (sym c.is_some.ensures ∙ c.loop-p-test.true) (cut (cut (c.in_err-expr.ensures.under _))))))))

pub loop-p-smaller : goal.loop-p-smaller
loop-p-smaller c =
    burns (kept_on (c.in_ok-expr.ensures.under 0).kept (same_step (ap bump_while c.treated-k.ensures) (c.in_ok-bump_while.ensures.under 0)).kept) (and_on (goes_on (c.in_ok-expr.ensures.under 0) expr_further) (same_step (ap bump_while c.treated-k.ensures) (c.in_ok-bump_while.ensures.under 0)))

pub loop-p-preserved : goal.loop-p-preserved
unfolding exprs while_turn separated
loop-p-preserved c =
    record { under = λ m. inv_again (c.loop-p.invariant.under m) (ask c.peek.ensures (if_yes (sym c.is_some.ensures ∙ c.loop-p-test.true) (both (both (c.in_ok-expr.ensures.under _) (ends (same_step (ap bump_while c.treated-k.ensures) (c.in_ok-bump_while.ensures.under _)))) nothing))) (and_on (goes_on (c.in_ok-expr.ensures.under 0) expr_further) (same_step (ap bump_while c.treated-k.ensures) (c.in_ok-bump_while.ensures.under 0))) }

pub returns-in_err-bump_while : goal.returns-in_err-bump_while
unfolding exprs while_turn separated
returns-in_err-bump_while c =
    thrown c.from_residual-in_err-bump_while.ensures (cut (inv_end (c.loop-p.invariant.under _) (last_cut (ask c.peek.ensures (if_yes (sym c.is_some.ensures ∙ c.loop-p-test.true) (cut (both (c.in_ok-expr.ensures.under _) (cut (same_step (ap bump_while c.treated-k.ensures) (c.in_err-bump_while.ensures.under _))))))))))

pub close_root-requires : goal.close_root-requires
close_root-requires c =
    (c.loop-p.invariant.under _).marked c.requires.0

pub returns : goal.returns
unfolding exprs while_turn separated
returns c =
    both (inv_end (c.loop-p.invariant.under _) (last (ask c.peek.ensures (if_no (sym c.is_some.ensures ∙ c.loop-p-test.false) nothing)))) c.close_root.ensures
