-- Written by tools/walk.py from the code and its program; docs/CONTRIBUTING.md says how.
-- Assumes nothing.
use Rattle.std.proofs.Math.Path.{refl, sym}
use Rattle.std.proofs.Common.{◌∙◌, arith}
use borrow.Author.Tests.{eq-eqb, ne_eqb}
use Rattle.definition.specs.Classes.{is_path_component}
use Rattle.definition.specs.Grammar.{generic_path, generic_paths, generics, generics_all, grammar, path, path_segment, path_segments, path_text, while_turn}
use Rattle.laws.specs.Progress.{generic_path_further, generics_further, path_segment_further, path_component_some}
use Rattle.tape.specs.Steps.{burns, marked_now, step_marked, both, cut, thrown, thrown_ran, ends, if_yes, if_no, ask, scoped, unscoped, nothing, inv_start, inv_again, inv_end, last, last_cut}
use Rattle.tape.specs.Counted.{entered_as, barred, goes_some, goes_saw}
use Rattle.pieces.proofs.paths.+paths.Goals as goal

pub generic_path-path-requires : goal.generic_path-path-requires
generic_path-path-requires t c =
    (omega (arith, c.decreases), tt)

pub generic_path-returns-in_err-path : goal.generic_path-returns-in_err-path
unfolding generic_path
generic_path-returns-in_err-path t c =
    record { under = λ m. thrown c.from_residual.ensures (cut (c.in_err-path.ensures.under _)) }

pub generic_path-returns-in_err-bump_while : goal.generic_path-returns-in_err-bump_while
unfolding generic_path
generic_path-returns-in_err-bump_while t c =
    record { under = λ m. thrown c.from_residual-in_err-bump_while.ensures (both (c.in_ok-path.ensures.under _) (cut (c.in_err-bump_while.ensures.under _))) }

pub generic_path-returns : goal.generic_path-returns
unfolding generic_path
generic_path-returns t c =
    record { under = λ m. both (c.in_ok-path.ensures.under _) (ends (c.in_ok-bump_while.ensures.under _)) }

pub generic_paths-loop-p-init : goal.generic_paths-loop-p-init
unfolding generic_paths while_turn
generic_paths-loop-p-init t c =
    record { under = λ m. inv_start }

pub generic_paths-generic_path-requires : goal.generic_paths-generic_path-requires
generic_paths-generic_path-requires t c =
    (omega (arith, c.decreases, (c.loop-p.invariant.under 0).kept.left), tt)

pub generic_paths-loop-p-smaller : goal.generic_paths-loop-p-smaller
generic_paths-loop-p-smaller t c =
    burns (c.in_ok-generic_path.ensures.under 0).kept (goes_saw (c.in_ok-generic_path.ensures.under 0) c.peek.ensures is_path_component (sym c.is_path_component.ensures ∙ c.loop-p-test.true) generic_path_further)

pub generic_paths-loop-p-preserved : goal.generic_paths-loop-p-preserved
unfolding generic_paths while_turn
generic_paths-loop-p-preserved t c =
    record { under = λ m. inv_again (c.loop-p.invariant.under m) (ask c.peek.ensures (if_yes (sym c.is_path_component.ensures ∙ c.loop-p-test.true) (both (c.in_ok-generic_path.ensures.under _) nothing))) (goes_saw (c.in_ok-generic_path.ensures.under 0) c.peek.ensures is_path_component (sym c.is_path_component.ensures ∙ c.loop-p-test.true) generic_path_further) }

pub generic_paths-returns-in_err-generic_path : goal.generic_paths-returns-in_err-generic_path
unfolding generic_paths while_turn
generic_paths-returns-in_err-generic_path t c =
    record { under = λ m. thrown c.from_residual.ensures (inv_end (c.loop-p.invariant.under _) (last_cut (ask c.peek.ensures (if_yes (sym c.is_path_component.ensures ∙ c.loop-p-test.true) (cut (c.in_err-generic_path.ensures.under _)))))) }

pub generic_paths-returns : goal.generic_paths-returns
unfolding generic_paths while_turn
generic_paths-returns t c =
    record { under = λ m. inv_end (c.loop-p.invariant.under _) (last (ask c.peek.ensures (if_no (sym c.is_path_component.ensures ∙ c.loop-p-test.false) nothing))) }

pub generics-returns-in_err-c : goal.generics-returns-in_err-c
unfolding generics
generics-returns-in_err-c t c =
    thrown_ran c.from_residual.ensures (unscoped c.in_err-c.ensures)

pub generics-returns-in_err-bump : goal.generics-returns-in_err-bump
unfolding generics
generics-returns-in_err-bump t c =
    thrown_ran c.from_residual-in_err-bump.ensures (scoped c.in_ok-c.ensures (cut (c.in_err-bump.ensures.under _)))

pub generics-generic_paths-requires : goal.generics-generic_paths-requires
generics-generic_paths-requires t c =
    (omega (arith, c.decreases, (c.in_ok-c.ensures.ran.under 0).kept.left, (c.in_ok-bump.ensures.under 0).kept.left), tt)

pub generics-returns-in_err-generic_paths : goal.generics-returns-in_err-generic_paths
unfolding generics
generics-returns-in_err-generic_paths t c =
    thrown_ran c.from_residual-in_err-generic_paths.ensures (scoped c.in_ok-c.ensures (both (c.in_ok-bump.ensures.under _) (cut (c.in_err-generic_paths.ensures.under _))))

pub generics-returns-in_err-bump_if : goal.generics-returns-in_err-bump_if
unfolding generics
generics-returns-in_err-bump_if t c =
    thrown_ran c.from_residual-in_err-bump_if.ensures (scoped c.in_ok-c.ensures (both (c.in_ok-bump.ensures.under _) (both (c.in_ok-generic_paths.ensures.under _) (cut (cut (c.in_err-bump_if.ensures.under _))))))

pub generics-close_at-requires : goal.generics-close_at-requires
generics-close_at-requires t c =
    step_marked (c.in_ok-bump_if.ensures.under _) (step_marked (c.in_ok-generic_paths.ensures.under _) (step_marked (c.in_ok-bump.ensures.under _) (marked_now c.in_ok-c.ensures)))

pub generics-returns : goal.generics-returns
unfolding generics
generics-returns t c =
    scoped c.in_ok-c.ensures (both (c.in_ok-bump.ensures.under _) (both (c.in_ok-generic_paths.ensures.under _) (both (ends (c.in_ok-bump_if.ensures.under _)) c.close_at.ensures)))

pub generics_all-loop-p-init : goal.generics_all-loop-p-init
unfolding generics_all while_turn
generics_all-loop-p-init t c =
    record { under = λ m. inv_start }

pub generics_all-generics-requires : goal.generics_all-generics-requires
generics_all-generics-requires t c =
    (omega (arith, c.decreases, (c.loop-p.invariant.under 0).kept.left), tt)

pub generics_all-loop-p-smaller : goal.generics_all-loop-p-smaller
generics_all-loop-p-smaller t c =
    burns (c.in_ok-generics.ensures.under 0).kept (goes_some (c.in_ok-generics.ensures.under 0) c.peek.ensures (λ z. omega (arith, c.loop-p-test.true)) generics_further)

pub generics_all-loop-p-preserved : goal.generics_all-loop-p-preserved
unfolding generics_all while_turn
generics_all-loop-p-preserved t c =
    record { under = λ m. inv_again (c.loop-p.invariant.under m) (ask c.peek.ensures (if_yes (eq-eqb _ _ c.loop-p-test.true) (both (c.in_ok-generics.ensures.under _) nothing))) (goes_some (c.in_ok-generics.ensures.under 0) c.peek.ensures (λ z. omega (arith, c.loop-p-test.true)) generics_further) }

pub generics_all-returns-in_err-generics : goal.generics_all-returns-in_err-generics
unfolding generics_all while_turn
generics_all-returns-in_err-generics t c =
    record { under = λ m. thrown c.from_residual.ensures (inv_end (c.loop-p.invariant.under _) (last_cut (ask c.peek.ensures (if_yes (eq-eqb _ _ c.loop-p-test.true) (cut (c.in_err-generics.ensures.under _)))))) }

pub generics_all-returns : goal.generics_all-returns
unfolding generics_all while_turn
generics_all-returns t c =
    record { under = λ m. inv_end (c.loop-p.invariant.under _) (last (ask c.peek.ensures (if_no (ne_eqb _ _ c.loop-p-test.false) nothing))) }

pub path-returns-in_err-left : goal.path-returns-in_err-left
unfolding path grammar
path-returns-in_err-left t c =
    record { under = λ m. thrown c.from_residual.ensures (cut (barred c.in_err-left.ensures)) }

pub path-path_text-done-requires : goal.path-path_text-done-requires
path-path_text-done-requires t c =
    (omega (arith, c.decreases, c.in_ok-left.ensures.some.1), tt)

pub path-returns : goal.path-returns
unfolding path grammar
path-returns t c =
    record { under = λ m. entered_as (λ a. 0) (λ n. tt) (λ a. refl) refl c.in_ok-left.ensures (c.path_text-done.ensures.under _) c.leave.ensures }

pub path_segment-returns-in_err-bump : goal.path_segment-returns-in_err-bump
unfolding path_segment
path_segment-returns-in_err-bump t c =
    record { under = λ m. thrown c.from_residual.ensures (ask c.peek-k.ensures (cut (c.in_err-bump.ensures.under _))) }

pub path_segment-generics_all-requires : goal.path_segment-generics_all-requires
path_segment-generics_all-requires t c =
    (omega (arith, c.decreases, (c.in_ok-bump.ensures.under 0).kept.left), tt)

pub path_segment-returns-in_err-generics_all : goal.path_segment-returns-in_err-generics_all
unfolding path_segment
path_segment-returns-in_err-generics_all t c =
    record { under = λ m. thrown c.from_residual-in_err-generics_all.ensures (ask c.peek-k.ensures (both (c.in_ok-bump.ensures.under _) (if_yes (eq-eqb _ _ c.if-k-eq-COLON_COLON.true) (c.in_err-generics_all.ensures.under _)))) }

pub path_segment-returns-in_ok-generics_all : goal.path_segment-returns-in_ok-generics_all
unfolding path_segment
path_segment-returns-in_ok-generics_all t c =
    record { under = λ m. ask c.peek-k.ensures (both (c.in_ok-bump.ensures.under _) (if_yes (eq-eqb _ _ c.if-k-eq-COLON_COLON.true) (c.in_ok-generics_all.ensures.under _))) }

pub path_segment-returns-else-k-eq-COLON_COLON : goal.path_segment-returns-else-k-eq-COLON_COLON
unfolding path_segment
path_segment-returns-else-k-eq-COLON_COLON t c =
    record { under = λ m. ask c.peek-k.ensures (both (c.in_ok-bump.ensures.under _) (if_no (ne_eqb _ _ c.if-k-eq-COLON_COLON.false) nothing)) }

pub path_segments-loop-p-init : goal.path_segments-loop-p-init
unfolding path_segments while_turn
path_segments-loop-p-init t c =
    record { under = λ m. inv_start }

pub path_segments-path_segment-requires : goal.path_segments-path_segment-requires
path_segments-path_segment-requires t c =
    (omega (arith, c.decreases, (c.loop-p.invariant.under 0).kept.left), tt)

pub path_segments-loop-p-smaller : goal.path_segments-loop-p-smaller
path_segments-loop-p-smaller t c =
    burns (c.in_ok-path_segment.ensures.under 0).kept (goes_some (c.in_ok-path_segment.ensures.under 0) c.peek.ensures (path_component_some _ (sym c.is_path_component.ensures ∙ c.loop-p-test.true)) path_segment_further)

pub path_segments-loop-p-preserved : goal.path_segments-loop-p-preserved
unfolding path_segments while_turn
path_segments-loop-p-preserved t c =
    record { under = λ m. inv_again (c.loop-p.invariant.under m) (ask c.peek.ensures (if_yes (sym c.is_path_component.ensures ∙ c.loop-p-test.true) (both (c.in_ok-path_segment.ensures.under _) nothing))) (goes_some (c.in_ok-path_segment.ensures.under 0) c.peek.ensures (path_component_some _ (sym c.is_path_component.ensures ∙ c.loop-p-test.true)) path_segment_further) }

pub path_segments-returns-in_err-path_segment : goal.path_segments-returns-in_err-path_segment
unfolding path_segments while_turn
path_segments-returns-in_err-path_segment t c =
    record { under = λ m. thrown c.from_residual.ensures (inv_end (c.loop-p.invariant.under _) (last_cut (ask c.peek.ensures (if_yes (sym c.is_path_component.ensures ∙ c.loop-p-test.true) (cut (c.in_err-path_segment.ensures.under _)))))) }

pub path_segments-returns : goal.path_segments-returns
unfolding path_segments while_turn
path_segments-returns t c =
    record { under = λ m. inv_end (c.loop-p.invariant.under _) (last (ask c.peek.ensures (if_no (sym c.is_path_component.ensures ∙ c.loop-p-test.false) nothing))) }

pub path_text-returns-in_err-c : goal.path_text-returns-in_err-c
unfolding path_text
path_text-returns-in_err-c t c =
    thrown_ran c.from_residual.ensures (unscoped c.in_err-c.ensures)

pub path_text-path_segments-requires : goal.path_text-path_segments-requires
path_text-path_segments-requires t c =
    (omega (arith, c.decreases, (c.in_ok-c.ensures.ran.under 0).kept.left), tt)

pub path_text-returns-in_err-path_segments : goal.path_text-returns-in_err-path_segments
unfolding path_text
path_text-returns-in_err-path_segments t c =
    thrown_ran c.from_residual-in_err-path_segments.ensures (scoped c.in_ok-c.ensures (cut (c.in_err-path_segments.ensures.under _)))

pub path_text-close_at-requires : goal.path_text-close_at-requires
path_text-close_at-requires t c =
    step_marked (c.in_ok-path_segments.ensures.under _) (marked_now c.in_ok-c.ensures)

pub path_text-returns : goal.path_text-returns
unfolding path_text
path_text-returns t c =
    scoped c.in_ok-c.ensures (both (c.in_ok-path_segments.ensures.under _) c.close_at.ensures)
