-- Written by tools/walk.py from the code and its program; docs/CONTRIBUTING.md says how.
-- Assumes nothing.
use Rattle.std.proofs.Math.Path.{refl, sym}
use Rattle.std.proofs.Common.{◌∙◌, arith}
use borrow.Author.Tests.{eq-eqb, ne_eqb}
use Rattle.definition.specs.Classes.{is_use_part}
use Rattle.definition.specs.Modes.{Brace, Range}
use Rattle.definition.specs.Grammar.{grammar, item_use, item_use_text, item_use_turn, use_group, use_item, use_parts, use_path, use_paths, while_turn}
use Rattle.laws.specs.Progress.{bump_further, use_group_further, use_path_further, use_path_some}
use Rattle.kinds.specs.Laws.{not_eof as none_eof, at_eof}
use Rattle.tape.specs.Steps.{burns, kept_on, marked_now, step_marked, not_key, both, cut, thrown, thrown_ran, ends, if_yes, if_no, look, ask, scoped, unscoped, nothing, inv_start, inv_again, inv_end, last, last_cut}
use Rattle.tape.specs.Counted.{entered_as, barred, goes_some, and_on}
use Rattle.pieces.proofs.items.+uses.Goals as goal

pub item_use-returns-in_err-left : goal.item_use-returns-in_err-left
unfolding item_use grammar
item_use-returns-in_err-left t c =
    record { under = λ m. thrown c.from_residual.ensures (cut (barred c.in_err-left.ensures)) }

pub item_use-item_use_text-done-requires : goal.item_use-item_use_text-done-requires
item_use-item_use_text-done-requires t c =
    (omega (arith, c.decreases, c.in_ok-left.ensures.some.1), tt)

pub item_use-returns : goal.item_use-returns
unfolding item_use grammar
item_use-returns t c =
    record { under = λ m. entered_as (λ a. 0) (λ n. tt) (λ a. refl) refl c.in_ok-left.ensures (c.item_use_text-done.ensures.under _) c.leave.ensures }

pub item_use_text-returns-in_err-bump : goal.item_use_text-returns-in_err-bump
unfolding item_use_text
item_use_text-returns-in_err-bump t c =
    record { under = λ m. thrown c.from_residual.ensures (cut (c.in_err-bump.ensures.under _)) }

pub item_use_text-use_parts-requires : goal.item_use_text-use_parts-requires
item_use_text-use_parts-requires t c =
    (omega (arith, c.decreases, (c.in_ok-bump.ensures.under 0).kept.left), tt)

pub item_use_text-returns : goal.item_use_text-returns
unfolding item_use_text
item_use_text-returns t c =
    record { under = λ m. both (c.in_ok-bump.ensures.under _) (c.use_parts.ensures.under _) }

pub use_group-returns-in_err-c : goal.use_group-returns-in_err-c
unfolding use_group
use_group-returns-in_err-c t c =
    thrown_ran c.from_residual.ensures (unscoped c.in_err-c.ensures)

pub use_group-returns-in_err-bump : goal.use_group-returns-in_err-bump
unfolding use_group
use_group-returns-in_err-bump t c =
    thrown_ran c.from_residual-in_err-bump.ensures (scoped c.in_ok-c.ensures (cut (c.in_err-bump.ensures.under _)))

pub use_group-use_paths-requires : goal.use_group-use_paths-requires
use_group-use_paths-requires t c =
    (omega (arith, c.decreases, (c.in_ok-c.ensures.ran.under 0).kept.left, (c.in_ok-bump.ensures.under 0).kept.left), tt)

pub use_group-returns-in_err-use_paths : goal.use_group-returns-in_err-use_paths
unfolding use_group
use_group-returns-in_err-use_paths t c =
    thrown_ran c.from_residual-in_err-use_paths.ensures (scoped c.in_ok-c.ensures (both (c.in_ok-bump.ensures.under _) (cut (c.in_err-use_paths.ensures.under _))))

pub use_group-returns-in_err-bump_if : goal.use_group-returns-in_err-bump_if
unfolding use_group
use_group-returns-in_err-bump_if t c =
    thrown_ran c.from_residual-in_err-bump_if.ensures (scoped c.in_ok-c.ensures (both (c.in_ok-bump.ensures.under _) (both (c.in_ok-use_paths.ensures.under _) (cut (cut (c.in_err-bump_if.ensures.under _))))))

pub use_group-close_at-requires : goal.use_group-close_at-requires
use_group-close_at-requires t c =
    step_marked (c.in_ok-bump_if.ensures.under _) (step_marked (c.in_ok-use_paths.ensures.under _) (step_marked (c.in_ok-bump.ensures.under _) (marked_now c.in_ok-c.ensures)))

pub use_group-returns : goal.use_group-returns
unfolding use_group
use_group-returns t c =
    scoped c.in_ok-c.ensures (both (c.in_ok-bump.ensures.under _) (both (c.in_ok-use_paths.ensures.under _) (both (ends (c.in_ok-bump_if.ensures.under _)) c.close_at.ensures)))

pub use_item-returns-in_err-c : goal.use_item-returns-in_err-c
unfolding use_item
use_item-returns-in_err-c t c =
    thrown_ran c.from_residual.ensures (unscoped c.in_err-c.ensures)

pub use_item-item_use-requires : goal.use_item-item_use-requires
use_item-item_use-requires t c =
    (omega (arith, c.decreases, (c.in_ok-c.ensures.ran.under 0).kept.left), tt)

pub use_item-returns-in_err-item_use : goal.use_item-returns-in_err-item_use
unfolding use_item
use_item-returns-in_err-item_use t c =
    thrown_ran c.from_residual-in_err-item_use.ensures (scoped c.in_ok-c.ensures (cut (c.in_err-item_use.ensures.under _)))

pub use_item-close_at-requires : goal.use_item-close_at-requires
use_item-close_at-requires t c =
    step_marked (c.in_ok-item_use.ensures.under _) (marked_now c.in_ok-c.ensures)

pub use_item-returns : goal.use_item-returns
unfolding use_item
use_item-returns t c =
    scoped c.in_ok-c.ensures (both (c.in_ok-item_use.ensures.under _) c.close_at.ensures)

pub use_parts-loop-p-init : goal.use_parts-loop-p-init
unfolding use_parts item_use_turn
use_parts-loop-p-init t c =
    record { under = λ m. inv_start }

pub use_parts-returns-in_err-bump-in_default : goal.use_parts-returns-in_err-bump-in_default
unfolding use_parts item_use_turn
use_parts-returns-in_err-bump-in_default t c =
    record { under = λ m. thrown c.from_residual.ensures (inv_end (c.loop-p.invariant.under _) (last_cut (look c.peek-k.ensures (if_yes (sym c.is_use_part.ensures ∙ c.if-is_use_part.true) (cut (c.in_err-bump-in_default.ensures.under _)))))) }

pub use_parts-loop-p-smaller-then-is_use_part : goal.use_parts-loop-p-smaller-then-is_use_part
use_parts-loop-p-smaller-then-is_use_part t c =
    burns (c.in_ok-bump-in_default.ensures.under 0).kept (goes_some (c.in_ok-bump-in_default.ensures.under 0) c.peek-k.ensures (none_eof is_use_part (at_eof Brace.Yes Range.Yes 0).use_part (sym c.is_use_part.ensures ∙ c.if-is_use_part.true)) bump_further)

pub use_parts-loop-p-preserved-then-is_use_part : goal.use_parts-loop-p-preserved-then-is_use_part
unfolding use_parts item_use_turn
use_parts-loop-p-preserved-then-is_use_part t c =
    record { under = λ m. inv_again (c.loop-p.invariant.under m) (look c.peek-k.ensures (if_yes (sym c.is_use_part.ensures ∙ c.if-is_use_part.true) (both (c.in_ok-bump-in_default.ensures.under _) nothing))) (goes_some (c.in_ok-bump-in_default.ensures.under 0) c.peek-k.ensures (none_eof is_use_part (at_eof Brace.Yes Range.Yes 0).use_part (sym c.is_use_part.ensures ∙ c.if-is_use_part.true)) bump_further) }

pub use_parts-use_group-requires : goal.use_parts-use_group-requires
use_parts-use_group-requires t c =
    (omega (arith, c.decreases, (c.loop-p.invariant.under 0).kept.left), tt)

pub use_parts-loop-p-smaller-in-Continue-branch-2 : goal.use_parts-loop-p-smaller-in-Continue-branch-2
use_parts-loop-p-smaller-in-Continue-branch-2 t c =
    burns (c.in_ok-use_group-in-22.ensures.under 0).kept (goes_some (c.in_ok-use_group-in-22.ensures.under 0) c.peek-k.ensures (λ z. omega (arith, c.in-22.is)) use_group_further)

pub use_parts-loop-p-preserved-in-Continue-branch-2 : goal.use_parts-loop-p-preserved-in-Continue-branch-2
unfolding use_parts item_use_turn
use_parts-loop-p-preserved-in-Continue-branch-2 t c =
    record { under = λ m. inv_again (c.loop-p.invariant.under m) (look c.peek-k.ensures (if_no (sym c.is_use_part.ensures ∙ c.if-is_use_part.false) (if_yes (eq-eqb _ _ c.in-22.is) (both (c.in_ok-use_group-in-22.ensures.under _) nothing)))) (goes_some (c.in_ok-use_group-in-22.ensures.under 0) c.peek-k.ensures (λ z. omega (arith, c.in-22.is)) use_group_further) }

pub use_parts-returns-in_err-use_group-in-22 : goal.use_parts-returns-in_err-use_group-in-22
unfolding use_parts item_use_turn
use_parts-returns-in_err-use_group-in-22 t c =
    record { under = λ m. thrown c.from_residual-in_err-use_group-in-22.ensures (inv_end (c.loop-p.invariant.under _) (last_cut (look c.peek-k.ensures (if_no (sym c.is_use_part.ensures ∙ c.if-is_use_part.false) (if_yes (eq-eqb _ _ c.in-22.is) (cut (c.in_err-use_group-in-22.ensures.under _))))))) }

pub use_parts-returns-in_err-bump-in-51 : goal.use_parts-returns-in_err-bump-in-51
unfolding use_parts item_use_turn
use_parts-returns-in_err-bump-in-51 t c =
    record { under = λ m. thrown c.from_residual-in_err-bump-in-51.ensures (inv_end (c.loop-p.invariant.under _) (last_cut (look c.peek-k.ensures (if_no (sym c.is_use_part.ensures ∙ c.if-is_use_part.false) (if_no (not_key 22 c.in-51.is refl) (if_yes (eq-eqb _ _ c.in-51.is) (cut (c.in_err-bump-in-51.ensures.under _)))))))) }

pub use_parts-loop-p-smaller : goal.use_parts-loop-p-smaller
use_parts-loop-p-smaller t c =
    burns (kept_on (c.in_ok-bump-in-51.ensures.under 0).kept (c.in_ok-bump_if-in-51.ensures.under 0).kept) (and_on (goes_some (c.in_ok-bump-in-51.ensures.under 0) c.peek-k.ensures (λ z. omega (arith, c.in-51.is)) bump_further) (c.in_ok-bump_if-in-51.ensures.under 0))

pub use_parts-loop-p-preserved : goal.use_parts-loop-p-preserved
unfolding use_parts item_use_turn
use_parts-loop-p-preserved t c =
    record { under = λ m. inv_again (c.loop-p.invariant.under m) (look c.peek-k.ensures (if_no (sym c.is_use_part.ensures ∙ c.if-is_use_part.false) (if_no (not_key 22 c.in-51.is refl) (if_yes (eq-eqb _ _ c.in-51.is) (both (c.in_ok-bump-in-51.ensures.under _) (both (ends (c.in_ok-bump_if-in-51.ensures.under _)) nothing)))))) (and_on (goes_some (c.in_ok-bump-in-51.ensures.under 0) c.peek-k.ensures (λ z. omega (arith, c.in-51.is)) bump_further) (c.in_ok-bump_if-in-51.ensures.under 0)) }

pub use_parts-returns-in_err-bump_if-in-51 : goal.use_parts-returns-in_err-bump_if-in-51
unfolding use_parts item_use_turn
use_parts-returns-in_err-bump_if-in-51 t c =
    record { under = λ m. thrown c.from_residual-in_err-bump_if-in-51.ensures (inv_end (c.loop-p.invariant.under _) (last_cut (look c.peek-k.ensures (if_no (sym c.is_use_part.ensures ∙ c.if-is_use_part.false) (if_no (not_key 22 c.in-51.is refl) (if_yes (eq-eqb _ _ c.in-51.is) (both (c.in_ok-bump-in-51.ensures.under _) (cut (cut (c.in_err-bump_if-in-51.ensures.under _)))))))))) }

pub use_parts-returns-in_default-2 : goal.use_parts-returns-in_default-2
unfolding use_parts item_use_turn
use_parts-returns-in_default-2 t c =
    record { under = λ m. inv_end (c.loop-p.invariant.under _) (last (look c.peek-k.ensures (if_no (sym c.is_use_part.ensures ∙ c.if-is_use_part.false) (if_no (ne_eqb _ _ (omega arith)) (if_no (ne_eqb _ _ (omega arith)) nothing))))) }

pub use_path-use_item-requires : goal.use_path-use_item-requires
use_path-use_item-requires t c =
    (omega (arith, c.decreases), tt)

pub use_path-returns-in_err-use_item : goal.use_path-returns-in_err-use_item
unfolding use_path
use_path-returns-in_err-use_item t c =
    record { under = λ m. thrown c.from_residual.ensures (cut (c.in_err-use_item.ensures.under _)) }

pub use_path-returns-in_err-bump_while : goal.use_path-returns-in_err-bump_while
unfolding use_path
use_path-returns-in_err-bump_while t c =
    record { under = λ m. thrown c.from_residual-in_err-bump_while.ensures (both (c.in_ok-use_item.ensures.under _) (cut (c.in_err-bump_while.ensures.under _))) }

pub use_path-returns : goal.use_path-returns
unfolding use_path
use_path-returns t c =
    record { under = λ m. both (c.in_ok-use_item.ensures.under _) (ends (c.in_ok-bump_while.ensures.under _)) }

pub use_paths-loop-p-init : goal.use_paths-loop-p-init
unfolding use_paths while_turn
use_paths-loop-p-init t c =
    record { under = λ m. inv_start }

pub use_paths-use_path-requires : goal.use_paths-use_path-requires
use_paths-use_path-requires t c =
    (omega (arith, c.decreases, (c.loop-p.invariant.under 0).kept.left), tt)

pub use_paths-loop-p-smaller : goal.use_paths-loop-p-smaller
use_paths-loop-p-smaller t c =
    burns (c.in_ok-use_path.ensures.under 0).kept (goes_some (c.in_ok-use_path.ensures.under 0) c.peek.ensures (use_path_some _ (sym c.is_use_path.ensures ∙ c.loop-p-test.true)) use_path_further)

pub use_paths-loop-p-preserved : goal.use_paths-loop-p-preserved
unfolding use_paths while_turn
use_paths-loop-p-preserved t c =
    record { under = λ m. inv_again (c.loop-p.invariant.under m) (ask c.peek.ensures (if_yes (sym c.is_use_path.ensures ∙ c.loop-p-test.true) (both (c.in_ok-use_path.ensures.under _) nothing))) (goes_some (c.in_ok-use_path.ensures.under 0) c.peek.ensures (use_path_some _ (sym c.is_use_path.ensures ∙ c.loop-p-test.true)) use_path_further) }

pub use_paths-returns-in_err-use_path : goal.use_paths-returns-in_err-use_path
unfolding use_paths while_turn
use_paths-returns-in_err-use_path t c =
    record { under = λ m. thrown c.from_residual.ensures (inv_end (c.loop-p.invariant.under _) (last_cut (ask c.peek.ensures (if_yes (sym c.is_use_path.ensures ∙ c.loop-p-test.true) (cut (c.in_err-use_path.ensures.under _)))))) }

pub use_paths-returns : goal.use_paths-returns
unfolding use_paths while_turn
use_paths-returns t c =
    record { under = λ m. inv_end (c.loop-p.invariant.under _) (last (ask c.peek.ensures (if_no (sym c.is_use_path.ensures ∙ c.loop-p-test.false) nothing))) }
