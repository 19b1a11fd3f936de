-- Written by tools/walk.py from the code and its program; docs/CONTRIBUTING.md says how.
-- Assumes nothing.
use Rattle.std.proofs.Math.Path.{refl, sym, ap}
use Rattle.std.proofs.Common.{◌∙◌, arith}
use borrow.Author.Tests.{eq-eqb, ne_eqb}
use Rattle.definition.specs.Classes.{among, is_lit, is_pat_or_rest, is_path_component}
use Rattle.definition.specs.Grammar.{grammar, pat, pat_anonymous, pat_group, pat_item, pat_items, pat_kind, pat_object, pat_object_items, pat_object_key, pat_object_turn, pat_or_rest, pat_parens, pat_path, pat_text, pat_value, while_turn}
use Rattle.laws.specs.Progress.{bump_further, pat_item_further, pat_object_key_further, object_key_some}
use Rattle.tape.specs.Steps.{burns, marked_now, step_marked, not_key, both, cut, thrown, thrown_ran, ends, if_yes, if_no, look, touch, ask, ask_glued, scoped, unscoped, nothing, inv_start, inv_again, inv_end, last, last_cut}
use Rattle.tape.specs.Counted.{entered_as, barred, goes_some, goes_glued}
use Rattle.pieces.proofs.patterns.+patterns.Goals as goal

pub pat-returns-in_err-left : goal.pat-returns-in_err-left
unfolding pat grammar
pat-returns-in_err-left t c =
    record { under = λ m. thrown c.from_residual.ensures (cut (barred c.in_err-left.ensures)) }

pub pat-pat_text-done-requires : goal.pat-pat_text-done-requires
pat-pat_text-done-requires t c =
    (omega (arith, c.decreases, c.in_ok-left.ensures.some.1), tt)

pub pat-returns : goal.pat-returns
unfolding pat grammar
pat-returns t c =
    record { under = λ m. entered_as (λ a. 0) (λ n. tt) (λ a. refl) refl c.in_ok-left.ensures (c.pat_text-done.ensures.under _) c.leave.ensures }

pub pat_anonymous-returns-in_err-c : goal.pat_anonymous-returns-in_err-c
unfolding pat_anonymous
pat_anonymous-returns-in_err-c t c =
    thrown_ran c.from_residual.ensures (unscoped c.in_err-c.ensures)

pub pat_anonymous-returns-in_err-bump : goal.pat_anonymous-returns-in_err-bump
unfolding pat_anonymous
pat_anonymous-returns-in_err-bump t c =
    thrown_ran c.from_residual-in_err-bump.ensures (scoped c.in_ok-c.ensures (cut (c.in_err-bump.ensures.under _)))

pub pat_anonymous-close_at-requires : goal.pat_anonymous-close_at-requires
pat_anonymous-close_at-requires t c =
    step_marked (c.in_ok-bump.ensures.under _) (marked_now c.in_ok-c.ensures)

pub pat_anonymous-returns-in_err-close_at : goal.pat_anonymous-returns-in_err-close_at
unfolding pat_anonymous
pat_anonymous-returns-in_err-close_at t c =
    thrown_ran c.from_residual-in_err-close_at.ensures (scoped c.in_ok-c.ensures (both (c.in_ok-bump.ensures.under _) (cut c.in_err-close_at.ensures)))

pub pat_anonymous-pat_object-requires : goal.pat_anonymous-pat_object-requires
pat_anonymous-pat_object-requires t c =
    (omega (arith, c.decreases, (c.in_ok-c.ensures.ran.under 0).kept.left, (c.in_ok-bump.ensures.under 0).kept.left, c.in_ok-close_at.ensures.kept.left), tt)

pub pat_anonymous-returns-in_err-pat_object : goal.pat_anonymous-returns-in_err-pat_object
unfolding pat_anonymous
pat_anonymous-returns-in_err-pat_object t c =
    thrown_ran c.from_residual-in_err-pat_object.ensures (scoped c.in_ok-c.ensures (both (c.in_ok-bump.ensures.under _) (both c.in_ok-close_at.ensures (cut (c.in_err-pat_object.ensures.under _)))))

pub pat_anonymous-close_at-requires-2 : goal.pat_anonymous-close_at-requires-2
pat_anonymous-close_at-requires-2 t c =
    step_marked (c.in_ok-pat_object.ensures.under _) (step_marked c.in_ok-close_at.ensures (step_marked (c.in_ok-bump.ensures.under _) (marked_now c.in_ok-c.ensures)))

pub pat_anonymous-returns : goal.pat_anonymous-returns
unfolding pat_anonymous
pat_anonymous-returns t c =
    scoped c.in_ok-c.ensures (both (c.in_ok-bump.ensures.under _) (both c.in_ok-close_at.ensures (both (c.in_ok-pat_object.ensures.under _) c.close_at-2.ensures)))

pub pat_group-returns-in_err-c : goal.pat_group-returns-in_err-c
unfolding pat_group
pat_group-returns-in_err-c t c =
    thrown_ran c.from_residual.ensures (unscoped c.in_err-c.ensures)

pub pat_group-pat_parens-requires : goal.pat_group-pat_parens-requires
pat_group-pat_parens-requires t c =
    (omega (arith, c.decreases, (c.in_ok-c.ensures.ran.under 0).kept.left), tt)

pub pat_group-returns-in_err-pat_parens : goal.pat_group-returns-in_err-pat_parens
unfolding pat_group
pat_group-returns-in_err-pat_parens t c =
    thrown_ran c.from_residual-in_err-pat_parens.ensures (scoped c.in_ok-c.ensures (cut (c.in_err-pat_parens.ensures.under _)))

pub pat_group-close_at-requires : goal.pat_group-close_at-requires
pat_group-close_at-requires t c =
    step_marked (c.in_ok-pat_parens.ensures.under _) (marked_now c.in_ok-c.ensures)

pub pat_group-returns : goal.pat_group-returns
unfolding pat_group
pat_group-returns t c =
    scoped c.in_ok-c.ensures (both (c.in_ok-pat_parens.ensures.under _) c.close_at.ensures)

pub pat_item-pat_or_rest-requires : goal.pat_item-pat_or_rest-requires
pat_item-pat_or_rest-requires t c =
    (omega (arith, c.decreases), tt)

pub pat_item-returns-in_err-pat_or_rest : goal.pat_item-returns-in_err-pat_or_rest
unfolding pat_item
pat_item-returns-in_err-pat_or_rest t c =
    record { under = λ m. thrown c.from_residual.ensures (cut (c.in_err-pat_or_rest.ensures.under _)) }

pub pat_item-returns-in_err-bump_while : goal.pat_item-returns-in_err-bump_while
unfolding pat_item
pat_item-returns-in_err-bump_while t c =
    record { under = λ m. thrown c.from_residual-in_err-bump_while.ensures (both (c.in_ok-pat_or_rest.ensures.under _) (cut (c.in_err-bump_while.ensures.under _))) }

pub pat_item-returns : goal.pat_item-returns
unfolding pat_item
pat_item-returns t c =
    record { under = λ m. both (c.in_ok-pat_or_rest.ensures.under _) (ends (c.in_ok-bump_while.ensures.under _)) }

pub pat_items-loop-p-init : goal.pat_items-loop-p-init
unfolding pat_items while_turn
pat_items-loop-p-init t c =
    record { under = λ m. inv_start }

pub pat_items-pat_item-requires : goal.pat_items-pat_item-requires
pat_items-pat_item-requires t c =
    (omega (arith, c.decreases, (c.loop-p.invariant.under 0).kept.left), tt)

pub pat_items-loop-p-smaller : goal.pat_items-loop-p-smaller
pat_items-loop-p-smaller t c =
    burns (c.in_ok-pat_item.ensures.under 0).kept (goes_glued (c.in_ok-pat_item.ensures.under 0) c.peek.ensures c.glued.ensures is_pat_or_rest (sym c.is_pat_or_rest.ensures ∙ c.loop-p-test.true) pat_item_further)

pub pat_items-loop-p-preserved : goal.pat_items-loop-p-preserved
unfolding pat_items while_turn
pat_items-loop-p-preserved t c =
    record { under = λ m. inv_again (c.loop-p.invariant.under m) (ask_glued c.peek.ensures c.glued.ensures (if_yes (sym c.is_pat_or_rest.ensures ∙ c.loop-p-test.true) (both (c.in_ok-pat_item.ensures.under _) nothing))) (goes_glued (c.in_ok-pat_item.ensures.under 0) c.peek.ensures c.glued.ensures is_pat_or_rest (sym c.is_pat_or_rest.ensures ∙ c.loop-p-test.true) pat_item_further) }

pub pat_items-returns-in_err-pat_item : goal.pat_items-returns-in_err-pat_item
unfolding pat_items while_turn
pat_items-returns-in_err-pat_item t c =
    record { under = λ m. thrown c.from_residual.ensures (inv_end (c.loop-p.invariant.under _) (last_cut (ask_glued c.peek.ensures c.glued.ensures (if_yes (sym c.is_pat_or_rest.ensures ∙ c.loop-p-test.true) (cut (c.in_err-pat_item.ensures.under _)))))) }

pub pat_items-returns : goal.pat_items-returns
unfolding pat_items while_turn
pat_items-returns t c =
    record { under = λ m. inv_end (c.loop-p.invariant.under _) (last (ask_glued c.peek.ensures c.glued.ensures (if_no (sym c.is_pat_or_rest.ensures ∙ c.loop-p-test.false) nothing))) }

pub pat_kind-pat_group-requires : goal.pat_kind-pat_group-requires
pat_kind-pat_group-requires t c =
    (omega (arith, c.decreases), tt)

pub pat_kind-pat_group-requires-in-18 : goal.pat_kind-pat_group-requires-in-18
pat_kind-pat_group-requires-in-18 t c =
    (omega (arith, c.decreases), tt)

pub pat_kind-pat_path-requires : goal.pat_kind-pat_path-requires
pat_kind-pat_path-requires t c =
    (omega (arith, c.decreases), tt)

pub pat_kind-pat_anonymous-requires : goal.pat_kind-pat_anonymous-requires
pat_kind-pat_anonymous-requires t c =
    (omega (arith, c.decreases), tt)

pub pat_kind-returns-in-30 : goal.pat_kind-returns-in-30
unfolding pat_kind among is_lit
pat_kind-returns-in-30 t c =
    record { under = λ m. if_no (ap is_lit c.in-30.is) (if_yes (eq-eqb _ _ c.in-30.is) (c.pat_negative.ensures.under _)) }

pub pat_kind-returns-in-67 : goal.pat_kind-returns-in-67
unfolding pat_kind among is_lit
pat_kind-returns-in-67 t c =
    record { under = λ m. if_no (ap is_lit c.in-67.is) (if_no (not_key 30 c.in-67.is refl) (if_yes (eq-eqb _ _ c.in-67.is) (c.push.ensures.under _))) }

pub pat_kind-returns-in-20 : goal.pat_kind-returns-in-20
unfolding pat_kind among is_lit is_path_component
pat_kind-returns-in-20 t c =
    record { under = λ m. if_no (ap is_lit c.in-20.is) (if_no (not_key 30 c.in-20.is refl) (if_no (not_key 67 c.in-20.is refl) (if_no (ap is_path_component c.in-20.is) (if_yes (eq-eqb _ _ c.in-20.is) (c.pat_group.ensures.under _))))) }

pub pat_kind-returns-in-18 : goal.pat_kind-returns-in-18
unfolding pat_kind among is_lit is_path_component
pat_kind-returns-in-18 t c =
    record { under = λ m. if_no (ap is_lit c.in-18.is) (if_no (not_key 30 c.in-18.is refl) (if_no (not_key 67 c.in-18.is refl) (if_no (ap is_path_component c.in-18.is) (if_no (not_key 20 c.in-18.is refl) (if_yes (eq-eqb _ _ c.in-18.is) (c.pat_group-in-18.ensures.under _)))))) }

pub pat_kind-returns-in_default : goal.pat_kind-returns-in_default
unfolding pat_kind
pat_kind-returns-in_default t c =
    record { under = λ m. if_yes (sym c.is_lit.ensures ∙ c.if-is_lit.true) (c.push-in_default.ensures.under _) }

pub pat_kind-returns-in_default-2 : goal.pat_kind-returns-in_default-2
unfolding pat_kind
pat_kind-returns-in_default-2 t c =
    record { under = λ m. if_no (sym c.is_lit.ensures ∙ c.if-is_lit.false) (if_no (ne_eqb _ _ (omega arith)) (if_no (ne_eqb _ _ (omega arith)) (if_yes (sym c.is_path_component.ensures ∙ c.if-is_path_component.true) (c.pat_path.ensures.under _)))) }

pub pat_kind-returns-in_default-3 : goal.pat_kind-returns-in_default-3
unfolding pat_kind
pat_kind-returns-in_default-3 t c =
    record { under = λ m. if_no (sym c.is_lit.ensures ∙ c.if-is_lit.false) (if_no (ne_eqb _ _ (omega arith)) (if_no (ne_eqb _ _ (omega arith)) (if_no (sym c.is_path_component.ensures ∙ c.if-is_path_component.false) (if_no (ne_eqb _ _ (omega arith)) (if_no (ne_eqb _ _ (omega arith)) (if_yes (sym c.glues.ensures ∙ c.if-glues.true) (c.pat_anonymous.ensures.under _))))))) }

pub pat_kind-returns-in_default-4 : goal.pat_kind-returns-in_default-4
unfolding pat_kind
pat_kind-returns-in_default-4 t c =
    record { under = λ m. if_no (sym c.is_lit.ensures ∙ c.if-is_lit.false) (if_no (ne_eqb _ _ (omega arith)) (if_no (ne_eqb _ _ (omega arith)) (if_no (sym c.is_path_component.ensures ∙ c.if-is_path_component.false) (if_no (ne_eqb _ _ (omega arith)) (if_no (ne_eqb _ _ (omega arith)) (if_no (sym c.glues.ensures ∙ c.if-glues.false) (c.empty.ensures.under _))))))) }

pub pat_object-returns-in_err-bump : goal.pat_object-returns-in_err-bump
unfolding pat_object
pat_object-returns-in_err-bump t c =
    record { under = λ m. thrown c.from_residual.ensures (cut (c.in_err-bump.ensures.under _)) }

pub pat_object-pat_object_items-requires : goal.pat_object-pat_object_items-requires
pat_object-pat_object_items-requires t c =
    (omega (arith, c.decreases, (c.in_ok-bump.ensures.under 0).kept.left), tt)

pub pat_object-returns-in_err-pat_object_items : goal.pat_object-returns-in_err-pat_object_items
unfolding pat_object
pat_object-returns-in_err-pat_object_items t c =
    record { under = λ m. thrown c.from_residual-in_err-pat_object_items.ensures (both (c.in_ok-bump.ensures.under _) (cut (c.in_err-pat_object_items.ensures.under _))) }

pub pat_object-returns-in_err-bump_if : goal.pat_object-returns-in_err-bump_if
unfolding pat_object
pat_object-returns-in_err-bump_if t c =
    record { under = λ m. thrown c.from_residual-in_err-bump_if.ensures (both (c.in_ok-bump.ensures.under _) (both (c.in_ok-pat_object_items.ensures.under _) (cut (c.in_err-bump_if.ensures.under _)))) }

pub pat_object-returns : goal.pat_object-returns
unfolding pat_object
pat_object-returns t c =
    record { under = λ m. both (c.in_ok-bump.ensures.under _) (both (c.in_ok-pat_object_items.ensures.under _) (ends (c.in_ok-bump_if.ensures.under _))) }

pub pat_object_items-loop-p-init : goal.pat_object_items-loop-p-init
unfolding pat_object_items pat_object_turn
pat_object_items-loop-p-init t c =
    record { under = λ m. inv_start }

pub pat_object_items-loop-p-smaller-in-Continue-1 : goal.pat_object_items-loop-p-smaller-in-Continue-1
pat_object_items-loop-p-smaller-in-Continue-1 t c =
    burns (c.in_ok-bump-in-64.ensures.under 0).kept (goes_some (c.in_ok-bump-in-64.ensures.under 0) c.peek.ensures (λ z. omega (arith, c.in-64.is)) bump_further)

pub pat_object_items-loop-p-preserved-in-Continue-1 : goal.pat_object_items-loop-p-preserved-in-Continue-1
unfolding pat_object_items pat_object_turn
pat_object_items-loop-p-preserved-in-Continue-1 t c =
    record { under = λ m. inv_again (c.loop-p.invariant.under m) (look c.peek.ensures (if_yes (eq-eqb _ _ c.in-64.is) (both (c.in_ok-bump-in-64.ensures.under _) nothing))) (goes_some (c.in_ok-bump-in-64.ensures.under 0) c.peek.ensures (λ z. omega (arith, c.in-64.is)) bump_further) }

pub pat_object_items-returns-in_err-bump-in-64 : goal.pat_object_items-returns-in_err-bump-in-64
unfolding pat_object_items pat_object_turn
pat_object_items-returns-in_err-bump-in-64 t c =
    record { under = λ m. thrown c.from_residual.ensures (inv_end (c.loop-p.invariant.under _) (last_cut (look c.peek.ensures (if_yes (eq-eqb _ _ c.in-64.is) (cut (c.in_err-bump-in-64.ensures.under _)))))) }

pub pat_object_items-pat_object_key-requires : goal.pat_object_items-pat_object_key-requires
pat_object_items-pat_object_key-requires t c =
    (omega (arith, c.decreases, (c.loop-p.invariant.under 0).kept.left), tt)

pub pat_object_items-returns-in_err-pat_object_key-in_default : goal.pat_object_items-returns-in_err-pat_object_key-in_default
unfolding pat_object_items pat_object_turn
pat_object_items-returns-in_err-pat_object_key-in_default t c =
    record { under = λ m. thrown c.from_residual-in_err-pat_object_key-in_default.ensures (inv_end (c.loop-p.invariant.under _) (last_cut (look c.peek.ensures (if_no (ne_eqb _ _ (omega arith)) (if_yes (sym c.is_object_key.ensures ∙ c.if-is_object_key.true) (cut (c.in_err-pat_object_key-in_default.ensures.under _))))))) }

pub pat_object_items-loop-p-smaller : goal.pat_object_items-loop-p-smaller
pat_object_items-loop-p-smaller t c =
    burns (c.in_ok-pat_object_key-in_default.ensures.under 0).kept (goes_some (c.in_ok-pat_object_key-in_default.ensures.under 0) c.peek.ensures (object_key_some _ (sym c.is_object_key.ensures ∙ c.if-is_object_key.true)) pat_object_key_further)

pub pat_object_items-loop-p-preserved : goal.pat_object_items-loop-p-preserved
unfolding pat_object_items pat_object_turn
pat_object_items-loop-p-preserved t c =
    record { under = λ m. inv_again (c.loop-p.invariant.under m) (look c.peek.ensures (if_no (ne_eqb _ _ (omega arith)) (if_yes (sym c.is_object_key.ensures ∙ c.if-is_object_key.true) (both (c.in_ok-pat_object_key-in_default.ensures.under _) nothing)))) (goes_some (c.in_ok-pat_object_key-in_default.ensures.under 0) c.peek.ensures (object_key_some _ (sym c.is_object_key.ensures ∙ c.if-is_object_key.true)) pat_object_key_further) }

pub pat_object_items-returns-in_default-2 : goal.pat_object_items-returns-in_default-2
unfolding pat_object_items pat_object_turn
pat_object_items-returns-in_default-2 t c =
    record { under = λ m. inv_end (c.loop-p.invariant.under _) (last (look c.peek.ensures (if_no (ne_eqb _ _ (omega arith)) (if_no (sym c.is_object_key.ensures ∙ c.if-is_object_key.false) nothing)))) }

pub pat_object_key-returns-in_err-bump : goal.pat_object_key-returns-in_err-bump
unfolding pat_object_key
pat_object_key-returns-in_err-bump t c =
    record { under = λ m. thrown c.from_residual.ensures (cut (c.in_err-bump.ensures.under _)) }

pub pat_object_key-pat_value-requires : goal.pat_object_key-pat_value-requires
pat_object_key-pat_value-requires t c =
    (omega (arith, c.decreases, (c.in_ok-bump.ensures.under 0).kept.left), tt)

pub pat_object_key-returns-in_err-pat_value : goal.pat_object_key-returns-in_err-pat_value
unfolding pat_object_key
pat_object_key-returns-in_err-pat_value t c =
    record { under = λ m. thrown c.from_residual-in_err-pat_value.ensures (both (c.in_ok-bump.ensures.under _) (cut (c.in_err-pat_value.ensures.under _))) }

pub pat_object_key-returns-in_err-bump_while : goal.pat_object_key-returns-in_err-bump_while
unfolding pat_object_key
pat_object_key-returns-in_err-bump_while t c =
    record { under = λ m. thrown c.from_residual-in_err-bump_while.ensures (both (c.in_ok-bump.ensures.under _) (both (c.in_ok-pat_value.ensures.under _) (cut (c.in_err-bump_while.ensures.under _)))) }

pub pat_object_key-returns : goal.pat_object_key-returns
unfolding pat_object_key
pat_object_key-returns t c =
    record { under = λ m. both (c.in_ok-bump.ensures.under _) (both (c.in_ok-pat_value.ensures.under _) (ends (c.in_ok-bump_while.ensures.under _))) }

pub pat_or_rest-returns-then-peek-eq-DOT_DOT : goal.pat_or_rest-returns-then-peek-eq-DOT_DOT
unfolding pat_or_rest
pat_or_rest-returns-then-peek-eq-DOT_DOT t c =
    record { under = λ m. ask c.peek.ensures (if_yes (eq-eqb _ _ c.if-peek-eq-DOT_DOT.true) (c.bump.ensures.under _)) }

pub pat_or_rest-pat-requires : goal.pat_or_rest-pat-requires
pat_or_rest-pat-requires t c =
    (omega (arith, c.decreases), tt)

pub pat_or_rest-returns : goal.pat_or_rest-returns
unfolding pat_or_rest
pat_or_rest-returns t c =
    record { under = λ m. ask c.peek.ensures (if_no (ne_eqb _ _ c.if-peek-eq-DOT_DOT.false) (c.pat.ensures.under _)) }

pub pat_parens-returns-in_err-bump : goal.pat_parens-returns-in_err-bump
unfolding pat_parens
pat_parens-returns-in_err-bump t c =
    record { under = λ m. thrown c.from_residual.ensures (cut (c.in_err-bump.ensures.under _)) }

pub pat_parens-pat_items-requires : goal.pat_parens-pat_items-requires
pat_parens-pat_items-requires t c =
    (omega (arith, c.decreases, (c.in_ok-bump.ensures.under 0).kept.left), tt)

pub pat_parens-returns-in_err-pat_items : goal.pat_parens-returns-in_err-pat_items
unfolding pat_parens
pat_parens-returns-in_err-pat_items t c =
    record { under = λ m. thrown c.from_residual-in_err-pat_items.ensures (both (c.in_ok-bump.ensures.under _) (cut (c.in_err-pat_items.ensures.under _))) }

pub pat_parens-returns-in_err-bump_if : goal.pat_parens-returns-in_err-bump_if
unfolding pat_parens
pat_parens-returns-in_err-bump_if t c =
    record { under = λ m. thrown c.from_residual-in_err-bump_if.ensures (both (c.in_ok-bump.ensures.under _) (both (c.in_ok-pat_items.ensures.under _) (cut (c.in_err-bump_if.ensures.under _)))) }

pub pat_parens-returns : goal.pat_parens-returns
unfolding pat_parens
pat_parens-returns t c =
    record { under = λ m. both (c.in_ok-bump.ensures.under _) (both (c.in_ok-pat_items.ensures.under _) (ends (c.in_ok-bump_if.ensures.under _))) }

pub pat_path-returns-in_err-c : goal.pat_path-returns-in_err-c
unfolding pat_path
pat_path-returns-in_err-c t c =
    thrown_ran c.from_residual.ensures (unscoped c.in_err-c.ensures)

pub pat_path-returns-in_err-path : goal.pat_path-returns-in_err-path
unfolding pat_path
pat_path-returns-in_err-path t c =
    thrown_ran c.from_residual-in_err-path.ensures (scoped c.in_ok-c.ensures (cut (c.in_err-path.ensures.under _)))

pub pat_path-pat_object-requires : goal.pat_path-pat_object-requires
pat_path-pat_object-requires t c =
    (omega (arith, c.decreases, (c.in_ok-c.ensures.ran.under 0).kept.left, (c.in_ok-path.ensures.under 0).kept.left), tt)

pub pat_path-returns-in_err-pat_object-in-22 : goal.pat_path-returns-in_err-pat_object-in-22
unfolding pat_path
pat_path-returns-in_err-pat_object-in-22 t c =
    thrown_ran c.from_residual-in_err-pat_object-in-22.ensures (scoped c.in_ok-c.ensures (both (c.in_ok-path.ensures.under _) (look c.peek.ensures (if_yes (eq-eqb _ _ c.in-22.is) (cut (c.in_err-pat_object-in-22.ensures.under _))))))

pub pat_path-close_at-requires : goal.pat_path-close_at-requires
pat_path-close_at-requires t c =
    step_marked (c.in_ok-pat_object-in-22.ensures.under _) (step_marked (c.in_ok-path.ensures.under _) (marked_now c.in_ok-c.ensures))

pub pat_path-pat_parens-requires : goal.pat_path-pat_parens-requires
pat_path-pat_parens-requires t c =
    (omega (arith, c.decreases, (c.in_ok-c.ensures.ran.under 0).kept.left, (c.in_ok-path.ensures.under 0).kept.left), tt)

pub pat_path-returns-in_err-pat_parens-in-18 : goal.pat_path-returns-in_err-pat_parens-in-18
unfolding pat_path
pat_path-returns-in_err-pat_parens-in-18 t c =
    thrown_ran c.from_residual-in_err-pat_parens-in-18.ensures (scoped c.in_ok-c.ensures (both (c.in_ok-path.ensures.under _) (look c.peek.ensures (if_no (not_key 22 c.in-18.is refl) (if_yes (eq-eqb _ _ c.in-18.is) (cut (c.in_err-pat_parens-in-18.ensures.under _)))))))

pub pat_path-close_at-requires-in-18 : goal.pat_path-close_at-requires-in-18
pat_path-close_at-requires-in-18 t c =
    step_marked (c.in_ok-pat_parens-in-18.ensures.under _) (step_marked (c.in_ok-path.ensures.under _) (marked_now c.in_ok-c.ensures))

pub pat_path-returns-in_ok-pat_object-in-22 : goal.pat_path-returns-in_ok-pat_object-in-22
unfolding pat_path
pat_path-returns-in_ok-pat_object-in-22 t c =
    scoped c.in_ok-c.ensures (both (c.in_ok-path.ensures.under _) (look c.peek.ensures (if_yes (eq-eqb _ _ c.in-22.is) (both (c.in_ok-pat_object-in-22.ensures.under _) c.close_at.ensures))))

pub pat_path-returns-in_ok-pat_parens-in-18 : goal.pat_path-returns-in_ok-pat_parens-in-18
unfolding pat_path
pat_path-returns-in_ok-pat_parens-in-18 t c =
    scoped c.in_ok-c.ensures (both (c.in_ok-path.ensures.under _) (look c.peek.ensures (if_no (not_key 22 c.in-18.is refl) (if_yes (eq-eqb _ _ c.in-18.is) (both (c.in_ok-pat_parens-in-18.ensures.under _) c.close_at-in-18.ensures)))))

pub pat_path-returns-in_default : goal.pat_path-returns-in_default
unfolding pat_path
pat_path-returns-in_default t c =
    scoped c.in_ok-c.ensures (both (c.in_ok-path.ensures.under _) (look c.peek.ensures (if_no (ne_eqb _ _ (omega arith)) (if_no (ne_eqb _ _ (omega arith)) nothing))))

pub pat_text-returns-in_err-c : goal.pat_text-returns-in_err-c
unfolding pat_text
pat_text-returns-in_err-c t c =
    thrown_ran c.from_residual.ensures (unscoped c.in_err-c.ensures)

pub pat_text-returns-in_err-attributes : goal.pat_text-returns-in_err-attributes
unfolding pat_text
pat_text-returns-in_err-attributes t c =
    thrown_ran c.from_residual-in_err-attributes.ensures (scoped c.in_ok-c.ensures (cut (c.in_err-attributes.ensures.under _)))

pub pat_text-pat_kind-requires : goal.pat_text-pat_kind-requires
pat_text-pat_kind-requires t c =
    (omega (arith, c.decreases, (c.in_ok-c.ensures.ran.under 0).kept.left, (c.in_ok-attributes.ensures.under 0).kept.left), tt)

pub pat_text-returns-in_err-pat_kind : goal.pat_text-returns-in_err-pat_kind
unfolding pat_text
pat_text-returns-in_err-pat_kind t c =
    thrown_ran c.from_residual-in_err-pat_kind.ensures (scoped c.in_ok-c.ensures (both (c.in_ok-attributes.ensures.under _) (look c.peek-k.ensures (touch c.glued-g.ensures (cut (c.in_err-pat_kind.ensures.under _))))))

pub pat_text-close_at-requires : goal.pat_text-close_at-requires
pat_text-close_at-requires t c =
    step_marked (c.in_ok-pat_kind.ensures.under _) (step_marked (c.in_ok-attributes.ensures.under _) (marked_now c.in_ok-c.ensures))

pub pat_text-returns : goal.pat_text-returns
unfolding pat_text
pat_text-returns t c =
    scoped c.in_ok-c.ensures (both (c.in_ok-attributes.ensures.under _) (look c.peek-k.ensures (touch c.glued-g.ensures (both (c.in_ok-pat_kind.ensures.under _) c.close_at.ensures))))

pub pat_value-returns-in_err-bump_if : goal.pat_value-returns-in_err-bump_if
unfolding pat_value
pat_value-returns-in_err-bump_if t c =
    record { under = λ m. thrown c.from_residual.ensures (cut (c.in_err-bump_if.ensures.under _)) }

pub pat_value-pat-requires : goal.pat_value-pat-requires
pat_value-pat-requires t c =
    (omega (arith, c.decreases, (c.in_ok-bump_if.ensures.under 0).kept.left), tt)

pub pat_value-returns-in_err-pat : goal.pat_value-returns-in_err-pat
unfolding pat_value
pat_value-returns-in_err-pat t c =
    record { under = λ m. thrown c.from_residual-in_err-pat.ensures (both (c.in_ok-bump_if.ensures.under _) (if_yes c.if-branch.true (c.in_err-pat.ensures.under _))) }

pub pat_value-returns-in_ok-pat : goal.pat_value-returns-in_ok-pat
unfolding pat_value
pat_value-returns-in_ok-pat t c =
    record { under = λ m. both (c.in_ok-bump_if.ensures.under _) (if_yes c.if-branch.true (c.in_ok-pat.ensures.under _)) }

pub pat_value-returns-else-branch : goal.pat_value-returns-else-branch
unfolding pat_value
pat_value-returns-else-branch t c =
    record { under = λ m. both (c.in_ok-bump_if.ensures.under _) (if_no c.if-branch.false nothing) }
