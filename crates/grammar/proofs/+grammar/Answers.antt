-- Written by tools/walk.py from the code and its program; docs/CONTRIBUTING.md says how.
-- Assumes nothing.
use Rattle.grammar.specs.Looked.{ask_ahead, next_in, thrown_as, link_is, no_link, op_is, no_op, link_of, ahead}
use Rattle.grammar.specs.Loops.{operator_goes, nest_goes, chain_goes}
use Rattle.kinds.specs.Modes.{range_of}
use Rattle.grammar.specs.Idle.{looked_for, idle_op}
use Rattle.std.specs.Prelude.{cond, eqb}
use Rattle.std.proofs.Math.Path.{refl, sym, ap}
use Rattle.std.proofs.Common.{◌∙◌, arith}
use borrow.Author.Tests.{eq-eqb, ne_eqb}
use Rattle.definition.specs.Classes.{is_select_arm, kind_is_pat}
use Rattle.definition.specs.Modes.{is_ranged, are_exprs}
use Rattle.kinds.specs.Modes.{listed_of}
use Rattle.definition.specs.Grammar.{binary_turn, block, block_body, block_open, block_stmts, block_with, chain_link, chain_step, chain_turn, closure_arguments, condition, condition_init, condition_let, else_branch, else_branches, else_if, empty_group, expr_after, expr_binary, expr_binary_text, expr_chain, expr_for, expr_if, expr_if_any, expr_list, expr_loop, expr_match, expr_object, expr_primary, expr_range, expr_select, expr_tuple_or_group, expr_while, expr_with, fn_body, for_in, grammar, item_const, item_fn, item_impl, item_mod, items, local, match_arm, match_arms, match_case, match_list, nest, object_field, object_fields, operand, outer_binary, outer_expr_with, outer_expr_with_text, parenthesized, primary_path, range_rest, range_to, select_arm, select_arms, select_case, select_list, select_pat, stmt, stmt_expr, stmt_mod, stmt_once, stmt_text, tighter_turn, tuple_items, tuple_turn, while_turn}
use Rattle.laws.specs.Progress.{bump_further, else_branch_further, expr_further, match_case_further, select_case_further, stmt_further, object_key_some}
use Rattle.tape.specs.Numbers.{number_of}
use Rattle.tape.specs.Steps.{burns, kept_on, marked_now, step_marked, not_key, both, cut, thrown, thrown_ran, ends, if_yes, if_no, look, touch, spot, ask, ask_glued, scoped, unscoped, nothing, halt, inv_start, inv_again, inv_end, last, last_cut}
use Rattle.tape.specs.Counted.{entered, entered_as, barred, yes_no, goes_on, goes_some, goes_glued, and_on}
use Rattle.grammar.specs.Cuts.{outer_assign, outer_chain, outer_op, outer_rest, primary_last, primary_sign, primary_word, stmt_inner, stmt_kind, stmt_outer}
use Rattle.grammar.proofs.+grammar.Goals as goal

pub blocks::block-returns-in_err-c : goal.blocks::block-returns-in_err-c
unfolding block
blocks::block-returns-in_err-c t c =
    thrown_ran c.from_residual.ensures (unscoped c.in_err-c.ensures)

pub blocks::block-block_with-requires : goal.blocks::block-block_with-requires
blocks::block-block_with-requires t c =
    (omega (arith, c.decreases, (c.in_ok-c.ensures.ran.under 0).kept.left), tt)

pub blocks::block-returns-in_err-block_with : goal.blocks::block-returns-in_err-block_with
unfolding block
blocks::block-returns-in_err-block_with t c =
    thrown_ran c.from_residual-in_err-block_with.ensures (scoped c.in_ok-c.ensures (cut (c.in_err-block_with.ensures.under _)))

pub blocks::block-close_at-requires : goal.blocks::block-close_at-requires
blocks::block-close_at-requires t c =
    step_marked (c.in_ok-block_with.ensures.under _) (marked_now c.in_ok-c.ensures)

pub blocks::block-returns : goal.blocks::block-returns
unfolding block
blocks::block-returns t c =
    scoped c.in_ok-c.ensures (both (c.in_ok-block_with.ensures.under _) c.close_at.ensures)

pub blocks::block_body-returns-in_err-c : goal.blocks::block_body-returns-in_err-c
unfolding block_body
blocks::block_body-returns-in_err-c t c =
    thrown_ran c.from_residual.ensures (unscoped c.in_err-c.ensures)

pub blocks::block_body-block_stmts-requires : goal.blocks::block_body-block_stmts-requires
blocks::block_body-block_stmts-requires t c =
    (omega (arith, c.decreases, (c.in_ok-c.ensures.ran.under 0).kept.left), tt)

pub blocks::block_body-returns-in_err-block_stmts : goal.blocks::block_body-returns-in_err-block_stmts
unfolding block_body
blocks::block_body-returns-in_err-block_stmts t c =
    thrown_ran c.from_residual-in_err-block_stmts.ensures (scoped c.in_ok-c.ensures (cut (c.in_err-block_stmts.ensures.under _)))

pub blocks::block_body-close_at-requires : goal.blocks::block_body-close_at-requires
blocks::block_body-close_at-requires t c =
    step_marked (c.in_ok-block_stmts.ensures.under _) (marked_now c.in_ok-c.ensures)

pub blocks::block_body-returns : goal.blocks::block_body-returns
unfolding block_body
blocks::block_body-returns t c =
    scoped c.in_ok-c.ensures (both (c.in_ok-block_stmts.ensures.under _) c.close_at.ensures)

pub blocks::block_open-returns-in_err-bump_if : goal.blocks::block_open-returns-in_err-bump_if
unfolding block_open
blocks::block_open-returns-in_err-bump_if t c =
    record { under = λ m. thrown c.from_residual.ensures (cut (c.in_err-bump_if.ensures.under _)) }

pub blocks::block_open-block_body-requires : goal.blocks::block_open-block_body-requires
blocks::block_open-block_body-requires t c =
    (omega (arith, c.decreases, (c.in_ok-bump_if.ensures.under 0).kept.left), tt)

pub blocks::block_open-returns-in_err-block_body : goal.blocks::block_open-returns-in_err-block_body
unfolding block_open
blocks::block_open-returns-in_err-block_body t c =
    record { under = λ m. thrown c.from_residual-in_err-block_body.ensures (both (c.in_ok-bump_if.ensures.under _) (if_yes c.if-branch.true (c.in_err-block_body.ensures.under _))) }

pub blocks::block_open-returns-in_ok-block_body : goal.blocks::block_open-returns-in_ok-block_body
unfolding block_open
blocks::block_open-returns-in_ok-block_body t c =
    record { under = λ m. both (c.in_ok-bump_if.ensures.under _) (if_yes c.if-branch.true (c.in_ok-block_body.ensures.under _)) }

pub blocks::block_open-returns-else-branch : goal.blocks::block_open-returns-else-branch
unfolding block_open
blocks::block_open-returns-else-branch t c =
    record { under = λ m. both (c.in_ok-bump_if.ensures.under _) (if_no c.if-branch.false nothing) }

pub blocks::block_stmts-loop-p-init : goal.blocks::block_stmts-loop-p-init
unfolding block_stmts while_turn
blocks::block_stmts-loop-p-init t c =
    record { under = λ m. inv_start }

pub blocks::block_stmts-stmt-requires : goal.blocks::block_stmts-stmt-requires
blocks::block_stmts-stmt-requires t c =
    (omega (arith, c.decreases, (c.loop-p.invariant.under 0).kept.left), tt)

pub blocks::block_stmts-loop-p-smaller : goal.blocks::block_stmts-loop-p-smaller
blocks::block_stmts-loop-p-smaller t c =
    burns (c.in_ok-stmt.ensures.under 0).kept (goes_on (c.in_ok-stmt.ensures.under 0) stmt_further)

pub blocks::block_stmts-loop-p-preserved : goal.blocks::block_stmts-loop-p-preserved
unfolding block_stmts while_turn
blocks::block_stmts-loop-p-preserved t c =
    record { under = λ m. inv_again (c.loop-p.invariant.under m) (ask c.peek.ensures (if_yes (sym c.in_block.ensures ∙ c.loop-p-test.true) (both (c.in_ok-stmt.ensures.under _) nothing))) (goes_on (c.in_ok-stmt.ensures.under 0) stmt_further) }

pub blocks::block_stmts-returns-in_err-stmt : goal.blocks::block_stmts-returns-in_err-stmt
unfolding block_stmts while_turn
blocks::block_stmts-returns-in_err-stmt t c =
    record { under = λ m. thrown c.from_residual.ensures (inv_end (c.loop-p.invariant.under _) (last_cut (ask c.peek.ensures (if_yes (sym c.in_block.ensures ∙ c.loop-p-test.true) (cut (c.in_err-stmt.ensures.under _)))))) }

pub blocks::block_stmts-returns : goal.blocks::block_stmts-returns
unfolding block_stmts while_turn
blocks::block_stmts-returns t c =
    record { under = λ m. inv_end (c.loop-p.invariant.under _) (last (ask c.peek.ensures (if_no (sym c.in_block.ensures ∙ c.loop-p-test.false) nothing))) }

pub blocks::block_with-block_open-requires : goal.blocks::block_with-block_open-requires
blocks::block_with-block_open-requires t c =
    (omega (arith, c.decreases), tt)

pub blocks::block_with-returns-in_err-block_open : goal.blocks::block_with-returns-in_err-block_open
unfolding block_with
blocks::block_with-returns-in_err-block_open t c =
    record { under = λ m. thrown c.from_residual.ensures (cut (c.in_err-block_open.ensures.under _)) }

pub blocks::block_with-returns-in_err-bump_if : goal.blocks::block_with-returns-in_err-bump_if
unfolding block_with
blocks::block_with-returns-in_err-bump_if t c =
    record { under = λ m. thrown c.from_residual-in_err-bump_if.ensures (both (c.in_ok-block_open.ensures.under _) (cut (c.in_err-bump_if.ensures.under _))) }

pub blocks::block_with-returns : goal.blocks::block_with-returns
unfolding block_with
blocks::block_with-returns t c =
    record { under = λ m. both (c.in_ok-block_open.ensures.under _) (ends (c.in_ok-bump_if.ensures.under _)) }

pub chains::chain_link-returns-in_err-bump-in_default-clause-ran : goal.chains::chain_link-returns-in_err-bump-in_default-clause-ran
unfolding chain_link
chains::chain_link-returns-in_err-bump-in_default-clause-ran t c =
    record { under = λ m. thrown_as link_of c.from_residual.ensures (if_yes (sym c.linked.ensures ∙ c.if-linked.true) (cut (c.in_err-bump-in_default.ensures.under _))) }

pub chains::chain_link-expr-requires : goal.chains::chain_link-expr-requires
chains::chain_link-expr-requires t c =
    (omega (arith, c.decreases, (c.in_ok-bump-in_default.ensures.under 0).kept.left), tt)

pub chains::chain_link-returns-in_err-expr-in_default-clause-ran : goal.chains::chain_link-returns-in_err-expr-in_default-clause-ran
unfolding chain_link
chains::chain_link-returns-in_err-expr-in_default-clause-ran t c =
    record { under = λ m. thrown_as link_of c.from_residual-in_err-expr-in_default.ensures (if_yes (sym c.linked.ensures ∙ c.if-linked.true) (both (c.in_ok-bump-in_default.ensures.under _) (cut (c.in_err-expr-in_default.ensures.under _)))) }

pub chains::chain_link-returns-in_err-bump_if-in_default-clause-ran : goal.chains::chain_link-returns-in_err-bump_if-in_default-clause-ran
unfolding chain_link
chains::chain_link-returns-in_err-bump_if-in_default-clause-ran t c =
    record { under = λ m. thrown_as link_of c.from_residual-in_err-bump_if-in_default.ensures (if_yes (sym c.linked.ensures ∙ c.if-linked.true) (both (c.in_ok-bump-in_default.ensures.under _) (both (c.in_ok-expr-in_default.ensures.under _) (cut (cut (c.in_err-bump_if-in_default.ensures.under _)))))) }

pub chains::chain_link-parenthesized-requires : goal.chains::chain_link-parenthesized-requires
chains::chain_link-parenthesized-requires t c =
    (omega (arith, c.decreases), tt)

pub chains::chain_link-returns-in_err-parenthesized-in_default-2-clause-ran : goal.chains::chain_link-returns-in_err-parenthesized-in_default-2-clause-ran
unfolding chain_link
chains::chain_link-returns-in_err-parenthesized-in_default-2-clause-ran t c =
    record { under = λ m. thrown_as link_of c.from_residual-in_err-parenthesized-in_default-2.ensures (if_no (sym c.linked.ensures ∙ c.if-linked.false) (if_yes (sym c.linked-2.ensures ∙ c.if-linked-2.true) (cut (c.in_err-parenthesized-in_default-2.ensures.under _)))) }

pub chains::chain_link-returns-in_err-bump-in-33-clause-ran : goal.chains::chain_link-returns-in_err-bump-in-33-clause-ran
unfolding chain_link
chains::chain_link-returns-in_err-bump-in-33-clause-ran t c =
    record { under = λ m. thrown_as link_of c.from_residual-in_err-bump-in-33.ensures (if_no (sym c.linked.ensures ∙ c.if-linked.false) (if_no (sym c.linked-2.ensures ∙ c.if-linked-2.false) (if_yes (eq-eqb _ _ c.in-33.is) (cut (c.in_err-bump-in-33.ensures.under _))))) }

pub chains::chain_link-returns-in_err-link-in-25-clause-ran : goal.chains::chain_link-returns-in_err-link-in-25-clause-ran
unfolding chain_link
chains::chain_link-returns-in_err-link-in-25-clause-ran t c =
    record { under = λ m. thrown_as link_of c.from_residual-in_err-link-in-25.ensures (if_no (sym c.linked.ensures ∙ c.if-linked.false) (if_no (sym c.linked-2.ensures ∙ c.if-linked-2.false) (if_no (not_key 33 c.in-25.is refl) (if_yes (eq-eqb _ _ c.in-25.is) (c.in_err-link-in-25.ensures.ran.under _))))) }

pub chains::chain_link-returns-in_ok-bump_if-in_default-clause-ran : goal.chains::chain_link-returns-in_ok-bump_if-in_default-clause-ran
unfolding chain_link
chains::chain_link-returns-in_ok-bump_if-in_default-clause-ran t c =
    record { under = λ m. if_yes (sym c.linked.ensures ∙ c.if-linked.true) (both (c.in_ok-bump-in_default.ensures.under _) (both (c.in_ok-expr-in_default.ensures.under _) (ends (ends (c.in_ok-bump_if-in_default.ensures.under _))))) }

pub chains::chain_link-returns-in_ok-parenthesized-in_default-2-clause-ran : goal.chains::chain_link-returns-in_ok-parenthesized-in_default-2-clause-ran
unfolding chain_link
chains::chain_link-returns-in_ok-parenthesized-in_default-2-clause-ran t c =
    record { under = λ m. if_no (sym c.linked.ensures ∙ c.if-linked.false) (if_yes (sym c.linked-2.ensures ∙ c.if-linked-2.true) (ends (c.in_ok-parenthesized-in_default-2.ensures.under _))) }

pub chains::chain_link-returns-in_ok-bump-in-33-clause-ran : goal.chains::chain_link-returns-in_ok-bump-in-33-clause-ran
unfolding chain_link
chains::chain_link-returns-in_ok-bump-in-33-clause-ran t c =
    record { under = λ m. if_no (sym c.linked.ensures ∙ c.if-linked.false) (if_no (sym c.linked-2.ensures ∙ c.if-linked-2.false) (if_yes (eq-eqb _ _ c.in-33.is) (ends (c.in_ok-bump-in-33.ensures.under _)))) }

pub chains::chain_link-returns-in_ok-link-in-25-clause-ran : goal.chains::chain_link-returns-in_ok-link-in-25-clause-ran
unfolding chain_link
chains::chain_link-returns-in_ok-link-in-25-clause-ran t c =
    record { under = λ m. if_no (sym c.linked.ensures ∙ c.if-linked.false) (if_no (sym c.linked-2.ensures ∙ c.if-linked-2.false) (if_no (not_key 33 c.in-25.is refl) (if_yes (eq-eqb _ _ c.in-25.is) (c.in_ok-link-in-25.ensures.ran.under _)))) }

pub chains::chain_link-returns-in_default-3-clause-ran : goal.chains::chain_link-returns-in_default-3-clause-ran
unfolding chain_link
chains::chain_link-returns-in_default-3-clause-ran t c =
    record { under = λ m. if_no (sym c.linked.ensures ∙ c.if-linked.false) (if_no (sym c.linked-2.ensures ∙ c.if-linked-2.false) (if_no (ne_eqb _ _ (omega arith)) (if_no (ne_eqb _ _ (omega arith)) nothing))) }

pub chains::chain_step-returns-in_err-c-clause-ran : goal.chains::chain_step-returns-in_err-c-clause-ran
unfolding chain_step
chains::chain_step-returns-in_err-c-clause-ran t c =
    record { under = λ m. thrown_as link_of c.from_residual.ensures ((unscoped c.in_err-c.ensures).under m) }

pub chains::chain_step-chain_link-requires : goal.chains::chain_step-chain_link-requires
chains::chain_step-chain_link-requires t c =
    (omega (arith, c.decreases, (c.in_ok-c.ensures.ran.under 0).kept.left), tt)

pub chains::chain_step-returns-in_err-link-clause-ran : goal.chains::chain_step-returns-in_err-link-clause-ran
unfolding chain_step
chains::chain_step-returns-in_err-link-clause-ran t c =
    record { under = λ m. thrown_as link_of c.from_residual-in_err-link.ensures ((scoped c.in_ok-c.ensures (look c.peek-k.ensures (cut (c.in_err-link.ensures.ran.under _)))).under m) }

pub chains::chain_step-returns-in_default-clause-ran : goal.chains::chain_step-returns-in_default-clause-ran
unfolding chain_step
chains::chain_step-returns-in_default-clause-ran t c =
    scoped c.in_ok-c.ensures (look c.peek-k.ensures (both (c.in_ok-link.ensures.ran.under _) (if_yes (no_link c.in_default.is) nothing)))

pub chains::chain_step-close_at-requires : goal.chains::chain_step-close_at-requires
chains::chain_step-close_at-requires t c =
    step_marked (c.in_ok-link.ensures.ran.under _) (marked_now c.in_ok-c.ensures)

pub chains::chain_step-returns-in_err-close_at-clause-ran : goal.chains::chain_step-returns-in_err-close_at-clause-ran
unfolding chain_step
chains::chain_step-returns-in_err-close_at-clause-ran t c =
    record { under = λ m. thrown_as link_of c.from_residual-in_err-close_at.ensures ((scoped c.in_ok-c.ensures (look c.peek-k.ensures (both (c.in_ok-link.ensures.ran.under _) (if_no (link_is c.in-Some.is c.in_ok-link.ensures.some) (rw c.in-Some.is (cut c.in_err-close_at.ensures)))))).under m) }

pub chains::chain_step-returns-clause-ran : goal.chains::chain_step-returns-clause-ran
unfolding chain_step
chains::chain_step-returns-clause-ran t c =
    scoped c.in_ok-c.ensures (look c.peek-k.ensures (both (c.in_ok-link.ensures.ran.under _) (if_no (link_is c.in-Some.is c.in_ok-link.ensures.some) (rw c.in-Some.is (ends c.in_ok-close_at.ensures)))))

pub primary::closure_arguments-returns-in_err-c : goal.primary::closure_arguments-returns-in_err-c
unfolding closure_arguments
primary::closure_arguments-returns-in_err-c t c =
    thrown_ran c.from_residual.ensures (unscoped c.in_err-c.ensures)

pub primary::closure_arguments-parenthesized-requires : goal.primary::closure_arguments-parenthesized-requires
primary::closure_arguments-parenthesized-requires t c =
    (omega (arith, c.decreases, (c.in_ok-c.ensures.ran.under 0).kept.left), tt)

pub primary::closure_arguments-returns-in_err-parenthesized : goal.primary::closure_arguments-returns-in_err-parenthesized
unfolding closure_arguments
primary::closure_arguments-returns-in_err-parenthesized t c =
    thrown_ran c.from_residual-in_err-parenthesized.ensures (scoped c.in_ok-c.ensures (cut (c.in_err-parenthesized.ensures.under _)))

pub primary::closure_arguments-close_at-requires : goal.primary::closure_arguments-close_at-requires
primary::closure_arguments-close_at-requires t c =
    step_marked (c.in_ok-parenthesized.ensures.under _) (marked_now c.in_ok-c.ensures)

pub primary::closure_arguments-returns : goal.primary::closure_arguments-returns
unfolding closure_arguments
primary::closure_arguments-returns t c =
    scoped c.in_ok-c.ensures (both (c.in_ok-parenthesized.ensures.under _) c.close_at.ensures)

pub control::condition-condition_let-requires : goal.control::condition-condition_let-requires
control::condition-condition_let-requires t c =
    (omega (arith, c.decreases), tt)

pub control::condition-returns-then-peek-eq-LET : goal.control::condition-returns-then-peek-eq-LET
unfolding condition
control::condition-returns-then-peek-eq-LET t c =
    record { under = λ m. ask c.peek.ensures (if_yes (eq-eqb _ _ c.if-peek-eq-LET.true) (c.condition_let.ensures.under _)) }

pub control::condition-expr_with-requires : goal.control::condition-expr_with-requires
control::condition-expr_with-requires t c =
    (omega (arith, c.decreases), tt)

pub control::condition-returns : goal.control::condition-returns
unfolding condition
control::condition-returns t c =
    record { under = λ m. ask c.peek.ensures (if_no (ne_eqb _ _ c.if-peek-eq-LET.false) (c.expr_with.ensures.under _)) }

pub control::condition_init-returns-in_err-bump_if : goal.control::condition_init-returns-in_err-bump_if
unfolding condition_init
control::condition_init-returns-in_err-bump_if t c =
    record { under = λ m. thrown c.from_residual.ensures (cut (c.in_err-bump_if.ensures.under _)) }

pub control::condition_init-expr_with-requires : goal.control::condition_init-expr_with-requires
control::condition_init-expr_with-requires t c =
    (omega (arith, c.decreases, (c.in_ok-bump_if.ensures.under 0).kept.left), tt)

pub control::condition_init-returns-in_err-expr_with : goal.control::condition_init-returns-in_err-expr_with
unfolding condition_init
control::condition_init-returns-in_err-expr_with t c =
    record { under = λ m. thrown c.from_residual-in_err-expr_with.ensures (both (c.in_ok-bump_if.ensures.under _) (if_yes c.if-branch.true (c.in_err-expr_with.ensures.under _))) }

pub control::condition_init-returns-in_ok-expr_with : goal.control::condition_init-returns-in_ok-expr_with
unfolding condition_init
control::condition_init-returns-in_ok-expr_with t c =
    record { under = λ m. both (c.in_ok-bump_if.ensures.under _) (if_yes c.if-branch.true (c.in_ok-expr_with.ensures.under _)) }

pub control::condition_init-returns-else-branch : goal.control::condition_init-returns-else-branch
unfolding condition_init
control::condition_init-returns-else-branch t c =
    record { under = λ m. both (c.in_ok-bump_if.ensures.under _) (if_no c.if-branch.false nothing) }

pub control::condition_let-returns-in_err-c : goal.control::condition_let-returns-in_err-c
unfolding condition_let
control::condition_let-returns-in_err-c t c =
    thrown_ran c.from_residual.ensures (unscoped c.in_err-c.ensures)

pub control::condition_let-returns-in_err-bump : goal.control::condition_let-returns-in_err-bump
unfolding condition_let
control::condition_let-returns-in_err-bump t c =
    thrown_ran c.from_residual-in_err-bump.ensures (scoped c.in_ok-c.ensures (cut (c.in_err-bump.ensures.under _)))

pub control::condition_let-returns-in_err-pat : goal.control::condition_let-returns-in_err-pat
unfolding condition_let
control::condition_let-returns-in_err-pat t c =
    thrown_ran c.from_residual-in_err-pat.ensures (scoped c.in_ok-c.ensures (both (c.in_ok-bump.ensures.under _) (cut (c.in_err-pat.ensures.under _))))

pub control::condition_let-condition_init-requires : goal.control::condition_let-condition_init-requires
control::condition_let-condition_init-requires t c =
    (omega (arith, c.decreases, (c.in_ok-c.ensures.ran.under 0).kept.left, (c.in_ok-bump.ensures.under 0).kept.left, (c.in_ok-pat.ensures.under 0).kept.left), tt)

pub control::condition_let-returns-in_err-condition_init : goal.control::condition_let-returns-in_err-condition_init
unfolding condition_let
control::condition_let-returns-in_err-condition_init t c =
    thrown_ran c.from_residual-in_err-condition_init.ensures (scoped c.in_ok-c.ensures (both (c.in_ok-bump.ensures.under _) (both (c.in_ok-pat.ensures.under _) (cut (c.in_err-condition_init.ensures.under _)))))

pub control::condition_let-close_at-requires : goal.control::condition_let-close_at-requires
control::condition_let-close_at-requires t c =
    step_marked (c.in_ok-condition_init.ensures.under _) (step_marked (c.in_ok-pat.ensures.under _) (step_marked (c.in_ok-bump.ensures.under _) (marked_now c.in_ok-c.ensures)))

pub control::condition_let-returns : goal.control::condition_let-returns
unfolding condition_let
control::condition_let-returns t c =
    scoped c.in_ok-c.ensures (both (c.in_ok-bump.ensures.under _) (both (c.in_ok-pat.ensures.under _) (both (c.in_ok-condition_init.ensures.under _) c.close_at.ensures)))

pub control::else_branch-returns-in_err-c : goal.control::else_branch-returns-in_err-c
unfolding else_branch
control::else_branch-returns-in_err-c t c =
    thrown_ran c.from_residual.ensures (unscoped c.in_err-c.ensures)

pub control::else_branch-returns-in_err-bump : goal.control::else_branch-returns-in_err-bump
unfolding else_branch
control::else_branch-returns-in_err-bump t c =
    thrown_ran c.from_residual-in_err-bump.ensures (scoped c.in_ok-c.ensures (cut (c.in_err-bump.ensures.under _)))

pub control::else_branch-else_if-requires : goal.control::else_branch-else_if-requires
control::else_branch-else_if-requires t c =
    (omega (arith, c.decreases, (c.in_ok-c.ensures.ran.under 0).kept.left, (c.in_ok-bump.ensures.under 0).kept.left), tt)

pub control::else_branch-returns-in_err-is_else_if : goal.control::else_branch-returns-in_err-is_else_if
unfolding else_branch
control::else_branch-returns-in_err-is_else_if t c =
    thrown_ran c.from_residual-in_err-is_else_if.ensures (scoped c.in_ok-c.ensures (both (c.in_ok-bump.ensures.under _) (cut (c.in_err-is_else_if.ensures.under _))))

pub control::else_branch-block-requires : goal.control::else_branch-block-requires
control::else_branch-block-requires t c =
    (omega (arith, c.decreases, (c.in_ok-c.ensures.ran.under 0).kept.left, (c.in_ok-bump.ensures.under 0).kept.left, (c.in_ok-is_else_if.ensures.under 0).kept.left), tt)

pub control::else_branch-returns-in_err-block : goal.control::else_branch-returns-in_err-block
unfolding else_branch
control::else_branch-returns-in_err-block t c =
    thrown_ran c.from_residual-in_err-block.ensures (scoped c.in_ok-c.ensures (both (c.in_ok-bump.ensures.under _) (both (c.in_ok-is_else_if.ensures.under _) (cut (c.in_err-block.ensures.under _)))))

pub control::else_branch-close_at-requires : goal.control::else_branch-close_at-requires
control::else_branch-close_at-requires t c =
    step_marked (c.in_ok-block.ensures.under _) (step_marked (c.in_ok-is_else_if.ensures.under _) (step_marked (c.in_ok-bump.ensures.under _) (marked_now c.in_ok-c.ensures)))

pub control::else_branch-returns-then-is_else_if : goal.control::else_branch-returns-then-is_else_if
unfolding else_branch
control::else_branch-returns-then-is_else_if t c =
    scoped c.in_ok-c.ensures (both (c.in_ok-bump.ensures.under _) (both (c.in_ok-is_else_if.ensures.under _) (both (c.in_ok-block.ensures.under _) (if_yes c.if-is_else_if.true c.close_at.ensures))))

pub control::else_branch-close_at-requires-2 : goal.control::else_branch-close_at-requires-2
control::else_branch-close_at-requires-2 t c =
    step_marked (c.in_ok-block.ensures.under _) (step_marked (c.in_ok-is_else_if.ensures.under _) (step_marked (c.in_ok-bump.ensures.under _) (marked_now c.in_ok-c.ensures)))

pub control::else_branch-returns : goal.control::else_branch-returns
unfolding else_branch
control::else_branch-returns t c =
    scoped c.in_ok-c.ensures (both (c.in_ok-bump.ensures.under _) (both (c.in_ok-is_else_if.ensures.under _) (both (c.in_ok-block.ensures.under _) (if_no c.if-is_else_if.false c.close_at-2.ensures))))

pub control::else_branches-loop-p-init : goal.control::else_branches-loop-p-init
unfolding else_branches while_turn
control::else_branches-loop-p-init t c =
    record { under = λ m. inv_start }

pub control::else_branches-else_branch-requires : goal.control::else_branches-else_branch-requires
control::else_branches-else_branch-requires t c =
    (omega (arith, c.decreases, (c.loop-p.invariant.under 0).kept.left), tt)

pub control::else_branches-loop-p-smaller : goal.control::else_branches-loop-p-smaller
control::else_branches-loop-p-smaller t c =
    burns (c.in_ok-else_branch.ensures.under 0).kept (goes_some (c.in_ok-else_branch.ensures.under 0) c.peek.ensures (λ z. omega (arith, c.loop-p-test.true)) else_branch_further)

pub control::else_branches-loop-p-preserved : goal.control::else_branches-loop-p-preserved
unfolding else_branches while_turn
control::else_branches-loop-p-preserved t c =
    record { under = λ m. inv_again (c.loop-p.invariant.under m) (ask c.peek.ensures (if_yes (eq-eqb _ _ c.loop-p-test.true) (both (c.in_ok-else_branch.ensures.under _) nothing))) (goes_some (c.in_ok-else_branch.ensures.under 0) c.peek.ensures (λ z. omega (arith, c.loop-p-test.true)) else_branch_further) }

pub control::else_branches-returns-in_err-else_branch : goal.control::else_branches-returns-in_err-else_branch
unfolding else_branches while_turn
control::else_branches-returns-in_err-else_branch t c =
    record { under = λ m. thrown c.from_residual.ensures (inv_end (c.loop-p.invariant.under _) (last_cut (ask c.peek.ensures (if_yes (eq-eqb _ _ c.loop-p-test.true) (cut (c.in_err-else_branch.ensures.under _)))))) }

pub control::else_branches-returns : goal.control::else_branches-returns
unfolding else_branches while_turn
control::else_branches-returns t c =
    record { under = λ m. inv_end (c.loop-p.invariant.under _) (last (ask c.peek.ensures (if_no (ne_eqb _ _ c.loop-p-test.false) nothing))) }

pub control::else_if-returns-in_err-bump_if : goal.control::else_if-returns-in_err-bump_if
unfolding else_if
control::else_if-returns-in_err-bump_if t c =
    record { under = λ m. thrown c.from_residual.ensures (cut (c.in_err-bump_if.ensures.under _)) }

pub control::else_if-condition-requires : goal.control::else_if-condition-requires
control::else_if-condition-requires t c =
    (omega (arith, c.decreases, (c.in_ok-bump_if.ensures.under 0).kept.left), tt)

pub control::else_if-returns-in_err-condition : goal.control::else_if-returns-in_err-condition
unfolding else_if
control::else_if-returns-in_err-condition t c =
    record { under = λ m. thrown c.from_residual-in_err-condition.ensures (both (c.in_ok-bump_if.ensures.under _) (if_yes c.if-branch.true (cut (c.in_err-condition.ensures.under _)))) }

pub control::else_if-returns-then-branch : goal.control::else_if-returns-then-branch
unfolding else_if
control::else_if-returns-then-branch t c =
    record { under = λ m. both (c.in_ok-bump_if.ensures.under _) (if_yes c.if-branch.true (ends (c.in_ok-condition.ensures.under _))) }

pub control::else_if-returns : goal.control::else_if-returns
unfolding else_if
control::else_if-returns t c =
    record { under = λ m. both (c.in_ok-bump_if.ensures.under _) (if_no c.if-branch.false nothing) }

pub groups::empty_group-returns-in_err-bump : goal.groups::empty_group-returns-in_err-bump
unfolding empty_group
groups::empty_group-returns-in_err-bump t c =
    record { under = λ m. thrown c.from_residual.ensures (cut (c.in_err-bump.ensures.under _)) }

pub groups::empty_group-expr-requires : goal.groups::empty_group-expr-requires
groups::empty_group-expr-requires t c =
    (omega (arith, c.decreases, (c.in_ok-bump.ensures.under 0).kept.left), tt)

pub groups::empty_group-returns-in_err-expr : goal.groups::empty_group-returns-in_err-expr
unfolding empty_group
groups::empty_group-returns-in_err-expr t c =
    record { under = λ m. thrown c.from_residual-in_err-expr.ensures (both (c.in_ok-bump.ensures.under _) (cut (c.in_err-expr.ensures.under _))) }

pub groups::empty_group-returns-in_err-bump_if : goal.groups::empty_group-returns-in_err-bump_if
unfolding empty_group
groups::empty_group-returns-in_err-bump_if t c =
    record { under = λ m. thrown c.from_residual-in_err-bump_if.ensures (both (c.in_ok-bump.ensures.under _) (both (c.in_ok-expr.ensures.under _) (cut (cut (c.in_err-bump_if.ensures.under _))))) }

pub groups::empty_group-returns : goal.groups::empty_group-returns
unfolding empty_group
groups::empty_group-returns t c =
    record { under = λ m. both (c.in_ok-bump.ensures.under _) (both (c.in_ok-expr.ensures.under _) (ends (ends (c.in_ok-bump_if.ensures.under _)))) }

pub expressions::expr-expr_with-requires : goal.expressions::expr-expr_with-requires
expressions::expr-expr_with-requires t c =
    (omega (arith, c.decreases), tt)

pub expressions::expr-returns : goal.expressions::expr-returns
expressions::expr-returns t c =
    record { under = λ m. c.expr_with.ensures.under _ }

pub expressions::expr_after-returns-in_err-bump_if : goal.expressions::expr_after-returns-in_err-bump_if
unfolding expr_after
expressions::expr_after-returns-in_err-bump_if t c =
    record { under = λ m. thrown c.from_residual.ensures (cut (c.in_err-bump_if.ensures.under _)) }

pub expressions::expr_after-expr-requires : goal.expressions::expr_after-expr-requires
expressions::expr_after-expr-requires t c =
    (omega (arith, c.decreases, (c.in_ok-bump_if.ensures.under 0).kept.left), tt)

pub expressions::expr_after-returns-in_err-expr : goal.expressions::expr_after-returns-in_err-expr
unfolding expr_after
expressions::expr_after-returns-in_err-expr t c =
    record { under = λ m. thrown c.from_residual-in_err-expr.ensures (both (c.in_ok-bump_if.ensures.under _) (if_yes c.if-branch.true (c.in_err-expr.ensures.under _))) }

pub expressions::expr_after-returns-in_ok-expr : goal.expressions::expr_after-returns-in_ok-expr
unfolding expr_after
expressions::expr_after-returns-in_ok-expr t c =
    record { under = λ m. both (c.in_ok-bump_if.ensures.under _) (if_yes c.if-branch.true (c.in_ok-expr.ensures.under _)) }

pub expressions::expr_after-returns-else-branch : goal.expressions::expr_after-returns-else-branch
unfolding expr_after
expressions::expr_after-returns-else-branch t c =
    record { under = λ m. both (c.in_ok-bump_if.ensures.under _) (if_no c.if-branch.false nothing) }

pub operators::expr_binary-returns-in_err-left : goal.operators::expr_binary-returns-in_err-left
unfolding expr_binary grammar
operators::expr_binary-returns-in_err-left t c =
    record { under = λ m. thrown c.from_residual.ensures (cut (barred c.in_err-left.ensures)) }

pub operators::expr_binary-expr_binary_text-done-requires : goal.operators::expr_binary-expr_binary_text-done-requires
operators::expr_binary-expr_binary_text-done-requires t c =
    (omega (arith, c.decreases, c.in_ok-left.ensures.some.1), next_in c.in_ok-left.ensures c.requires)

pub operators::expr_binary-returns : goal.operators::expr_binary-returns
unfolding expr_binary grammar
operators::expr_binary-returns t c =
    record { under = λ m. entered_as (λ b. cond b 1 0) (λ n. eqb n 1) yes_no refl c.in_ok-left.ensures (c.expr_binary_text-done.ensures.under _) c.leave.ensures }

pub operators::expr_binary_text-loop-ahead-init : goal.operators::expr_binary_text-loop-ahead-init
unfolding expr_binary_text binary_turn
operators::expr_binary_text-loop-ahead-init t c =
    record { loop = record { under = λ m. inv_start }; next = c.requires }

pub operators::expr_binary_text-returns-then-is_below : goal.operators::expr_binary_text-returns-then-is_below
unfolding expr_binary_text binary_turn
operators::expr_binary_text-returns-then-is_below t c =
    record { under = λ m. inv_end (c.loop-ahead.invariant.loop.under _) (last (if_no (op_is c.in-Some.is) (rw c.in-Some.is (if_yes (sym c.is_below.ensures ∙ c.if-is_below.true) nothing)))) }

pub operators::expr_binary_text-returns-in_err-operator : goal.operators::expr_binary_text-returns-in_err-operator
unfolding expr_binary_text binary_turn
operators::expr_binary_text-returns-in_err-operator t c =
    record { under = λ m. thrown c.from_residual.ensures (inv_end (c.loop-ahead.invariant.loop.under _) (last_cut (if_no (op_is c.in-Some.is) (rw c.in-Some.is (if_no (sym c.is_below.ensures ∙ c.if-is_below.false) (cut (c.in_err-operator.ensures.under _))))))) }

pub operators::expr_binary_text-operand-requires : goal.operators::expr_binary_text-operand-requires
operators::expr_binary_text-operand-requires t c =
    (omega (arith, c.decreases, (c.in_ok-operator.ensures.under 0).kept.left, (c.loop-ahead.invariant.loop.under 0).kept.left), tt)

pub operators::expr_binary_text-returns-in_err-ahead : goal.operators::expr_binary_text-returns-in_err-ahead
unfolding expr_binary_text binary_turn
operators::expr_binary_text-returns-in_err-ahead t c =
    record { under = λ m. thrown c.from_residual-in_err-ahead.ensures (inv_end (c.loop-ahead.invariant.loop.under _) (last_cut (if_no (op_is c.in-Some.is) (rw c.in-Some.is (if_no (sym c.is_below.ensures ∙ c.if-is_below.false) (both (c.in_ok-operator.ensures.under _) (cut (c.in_err-ahead.ensures.ran.under _)))))))) }

pub operators::expr_binary_text-loop-ahead-smaller : goal.operators::expr_binary_text-loop-ahead-smaller
operators::expr_binary_text-loop-ahead-smaller t c =
    burns (kept_on (c.in_ok-operator.ensures.under 0).kept (c.in_ok-ahead.ensures.ran.under 0).kept) (and_on (operator_goes c.in-Some.is (c.in_ok-operator.ensures.under 0) c.loop-ahead.invariant.next) (c.in_ok-ahead.ensures.ran.under 0))

pub operators::expr_binary_text-loop-ahead-preserved : goal.operators::expr_binary_text-loop-ahead-preserved
unfolding expr_binary_text binary_turn
operators::expr_binary_text-loop-ahead-preserved t c =
    record { loop = record { under = λ m. inv_again (c.loop-ahead.invariant.loop.under m) (if_no (op_is c.in-Some.is) (rw c.in-Some.is (if_no (sym c.is_below.ensures ∙ c.if-is_below.false) (both (c.in_ok-operator.ensures.under _) (both (c.in_ok-ahead.ensures.ran.under _) nothing))))) (and_on (operator_goes c.in-Some.is (c.in_ok-operator.ensures.under 0) c.loop-ahead.invariant.next) (c.in_ok-ahead.ensures.ran.under 0)) }; next = c.in_ok-ahead.ensures.next.is }

pub operators::expr_binary_text-returns : goal.operators::expr_binary_text-returns
unfolding expr_binary_text binary_turn
operators::expr_binary_text-returns t c =
    record { under = λ m. inv_end (c.loop-ahead.invariant.loop.under _) (last (if_yes (no_op c.in_default.is) nothing)) }

pub chains::expr_chain-loop-link-init : goal.chains::expr_chain-loop-link-init
unfolding expr_chain chain_turn
chains::expr_chain-loop-link-init t c =
    record { under = λ m. inv_start }

pub chains::expr_chain-chain_step-requires : goal.chains::expr_chain-chain_step-requires
chains::expr_chain-chain_step-requires t c =
    (omega (arith, c.decreases, (c.loop-link.invariant.under 0).kept.left), tt)

pub chains::expr_chain-returns-in_err-link : goal.chains::expr_chain-returns-in_err-link
unfolding expr_chain chain_turn
chains::expr_chain-returns-in_err-link t c =
    thrown c.from_residual.ensures (cut (inv_end (c.loop-link.invariant.under _) (last_cut (cut (c.in_err-link.ensures.ran.under _)))))

pub chains::expr_chain-loop-link-smaller : goal.chains::expr_chain-loop-link-smaller
chains::expr_chain-loop-link-smaller t c =
    burns (c.in_ok-link.ensures.ran.under 0).kept (chain_goes _ (c.in_ok-link.ensures.ran.under 0) (link_is c.in-Some.is c.in_ok-link.ensures.some))

pub chains::expr_chain-loop-link-preserved : goal.chains::expr_chain-loop-link-preserved
unfolding expr_chain chain_turn
chains::expr_chain-loop-link-preserved t c =
    record { under = λ m. inv_again (c.loop-link.invariant.under m) (both (c.in_ok-link.ensures.ran.under _) (if_no (link_is c.in-Some.is c.in_ok-link.ensures.some) (rw c.in-Some.is nothing))) (chain_goes _ (c.in_ok-link.ensures.ran.under 0) (link_is c.in-Some.is c.in_ok-link.ensures.some)) }

pub chains::expr_chain-close_at-requires : goal.chains::expr_chain-close_at-requires
chains::expr_chain-close_at-requires t c =
    step_marked (c.in_ok-link.ensures.ran.under _) ((c.loop-link.invariant.under _).marked c.requires)

pub chains::expr_chain-returns-in_err-close_at : goal.chains::expr_chain-returns-in_err-close_at
unfolding expr_chain chain_turn
chains::expr_chain-returns-in_err-close_at t c =
    thrown c.from_residual-in_err-close_at.ensures (both (inv_end (c.loop-link.invariant.under _) (last (both (c.in_ok-link.ensures.ran.under _) (if_yes (no_link c.in_default.is) nothing)))) (cut (if_yes c.if-any.true c.in_err-close_at.ensures)))

pub chains::expr_chain-returns-in_ok-close_at : goal.chains::expr_chain-returns-in_ok-close_at
unfolding expr_chain chain_turn
chains::expr_chain-returns-in_ok-close_at t c =
    both (inv_end (c.loop-link.invariant.under _) (last (both (c.in_ok-link.ensures.ran.under _) (if_yes (no_link c.in_default.is) nothing)))) (ends (if_yes c.if-any.true c.in_ok-close_at.ensures))

pub chains::expr_chain-returns-else-any : goal.chains::expr_chain-returns-else-any
unfolding expr_chain chain_turn
chains::expr_chain-returns-else-any t c =
    both (inv_end (c.loop-link.invariant.under _) (last (both (c.in_ok-link.ensures.ran.under _) (if_yes (no_link c.in_default.is) nothing)))) (ends (if_no c.if-any.false nothing))

pub control::expr_for-returns-in_err-bump : goal.control::expr_for-returns-in_err-bump
unfolding expr_for
control::expr_for-returns-in_err-bump t c =
    record { under = λ m. thrown c.from_residual.ensures (cut (c.in_err-bump.ensures.under _)) }

pub control::expr_for-returns-in_err-pat : goal.control::expr_for-returns-in_err-pat
unfolding expr_for
control::expr_for-returns-in_err-pat t c =
    record { under = λ m. thrown c.from_residual-in_err-pat.ensures (both (c.in_ok-bump.ensures.under _) (cut (c.in_err-pat.ensures.under _))) }

pub control::expr_for-for_in-requires : goal.control::expr_for-for_in-requires
control::expr_for-for_in-requires t c =
    (omega (arith, c.decreases, (c.in_ok-bump.ensures.under 0).kept.left, (c.in_ok-pat.ensures.under 0).kept.left), tt)

pub control::expr_for-returns-in_err-for_in : goal.control::expr_for-returns-in_err-for_in
unfolding expr_for
control::expr_for-returns-in_err-for_in t c =
    record { under = λ m. thrown c.from_residual-in_err-for_in.ensures (both (c.in_ok-bump.ensures.under _) (both (c.in_ok-pat.ensures.under _) (cut (c.in_err-for_in.ensures.under _)))) }

pub control::expr_for-block-requires : goal.control::expr_for-block-requires
control::expr_for-block-requires t c =
    (omega (arith, c.decreases, (c.in_ok-bump.ensures.under 0).kept.left, (c.in_ok-pat.ensures.under 0).kept.left, (c.in_ok-for_in.ensures.under 0).kept.left), tt)

pub control::expr_for-returns : goal.control::expr_for-returns
unfolding expr_for
control::expr_for-returns t c =
    record { under = λ m. both (c.in_ok-bump.ensures.under _) (both (c.in_ok-pat.ensures.under _) (both (c.in_ok-for_in.ensures.under _) (c.block.ensures.under _))) }

pub control::expr_if-returns-in_err-bump : goal.control::expr_if-returns-in_err-bump
unfolding expr_if
control::expr_if-returns-in_err-bump t c =
    record { under = λ m. thrown c.from_residual.ensures (cut (c.in_err-bump.ensures.under _)) }

pub control::expr_if-condition-requires : goal.control::expr_if-condition-requires
control::expr_if-condition-requires t c =
    (omega (arith, c.decreases, (c.in_ok-bump.ensures.under 0).kept.left), tt)

pub control::expr_if-returns-in_err-condition : goal.control::expr_if-returns-in_err-condition
unfolding expr_if
control::expr_if-returns-in_err-condition t c =
    record { under = λ m. thrown c.from_residual-in_err-condition.ensures (both (c.in_ok-bump.ensures.under _) (cut (c.in_err-condition.ensures.under _))) }

pub control::expr_if-block-requires : goal.control::expr_if-block-requires
control::expr_if-block-requires t c =
    (omega (arith, c.decreases, (c.in_ok-bump.ensures.under 0).kept.left, (c.in_ok-condition.ensures.under 0).kept.left), tt)

pub control::expr_if-returns-in_err-block : goal.control::expr_if-returns-in_err-block
unfolding expr_if
control::expr_if-returns-in_err-block t c =
    record { under = λ m. thrown c.from_residual-in_err-block.ensures (both (c.in_ok-bump.ensures.under _) (both (c.in_ok-condition.ensures.under _) (cut (c.in_err-block.ensures.under _)))) }

pub control::expr_if-else_branches-requires : goal.control::expr_if-else_branches-requires
control::expr_if-else_branches-requires t c =
    (omega (arith, c.decreases, (c.in_ok-bump.ensures.under 0).kept.left, (c.in_ok-condition.ensures.under 0).kept.left, (c.in_ok-block.ensures.under 0).kept.left), tt)

pub control::expr_if-returns : goal.control::expr_if-returns
unfolding expr_if
control::expr_if-returns t c =
    record { under = λ m. both (c.in_ok-bump.ensures.under _) (both (c.in_ok-condition.ensures.under _) (both (c.in_ok-block.ensures.under _) (c.else_branches.ensures.under _))) }

pub expressions::expr_if_any-expr_with-requires : goal.expressions::expr_if_any-expr_with-requires
expressions::expr_if_any-expr_with-requires t c =
    (omega (arith, c.decreases), tt)

pub expressions::expr_if_any-returns-in_err-expr_with : goal.expressions::expr_if_any-returns-in_err-expr_with
unfolding expr_if_any
expressions::expr_if_any-returns-in_err-expr_with t c =
    record { under = λ m. thrown c.from_residual.ensures (ask_glued c.peek.ensures c.glued.ensures (if_yes (sym c.is_expr_with.ensures ∙ c.if-is_expr_with.true) (c.in_err-expr_with.ensures.under _))) }

pub expressions::expr_if_any-returns-in_ok-expr_with : goal.expressions::expr_if_any-returns-in_ok-expr_with
unfolding expr_if_any
expressions::expr_if_any-returns-in_ok-expr_with t c =
    record { under = λ m. ask_glued c.peek.ensures c.glued.ensures (if_yes (sym c.is_expr_with.ensures ∙ c.if-is_expr_with.true) (c.in_ok-expr_with.ensures.under _)) }

pub expressions::expr_if_any-returns-else-is_expr_with : goal.expressions::expr_if_any-returns-else-is_expr_with
unfolding expr_if_any
expressions::expr_if_any-returns-else-is_expr_with t c =
    record { under = λ m. ask_glued c.peek.ensures c.glued.ensures (if_no (sym c.is_expr_with.ensures ∙ c.if-is_expr_with.false) nothing) }

pub blocks::expr_list-loop-p-init : goal.blocks::expr_list-loop-p-init
unfolding expr_list while_turn
blocks::expr_list-loop-p-init t c =
    record { under = λ m. inv_start }

pub blocks::expr_list-expr-requires : goal.blocks::expr_list-expr-requires
blocks::expr_list-expr-requires t c =
    (omega (arith, c.decreases, (c.loop-p.invariant.under 0).kept.left), tt)

pub blocks::expr_list-returns-in_err-expr : goal.blocks::expr_list-returns-in_err-expr
unfolding expr_list while_turn
blocks::expr_list-returns-in_err-expr t c =
    record { under = λ m. thrown c.from_residual.ensures (inv_end (c.loop-p.invariant.under _) (last_cut (ask_glued c.peek.ensures c.glued.ensures (if_yes (sym c.is_expr_with.ensures ∙ c.loop-p-test.true) (cut (cut (c.in_err-expr.ensures.under _))))))) }

pub blocks::expr_list-loop-p-smaller : goal.blocks::expr_list-loop-p-smaller
blocks::expr_list-loop-p-smaller t c =
    burns (kept_on (c.in_ok-expr.ensures.under 0).kept (c.in_ok-bump_while.ensures.under 0).kept) (and_on (goes_on (c.in_ok-expr.ensures.under 0) expr_further) (c.in_ok-bump_while.ensures.under 0))

pub blocks::expr_list-loop-p-preserved : goal.blocks::expr_list-loop-p-preserved
unfolding expr_list while_turn
blocks::expr_list-loop-p-preserved t c =
    record { under = λ m. inv_again (c.loop-p.invariant.under m) (ask_glued c.peek.ensures c.glued.ensures (if_yes (sym c.is_expr_with.ensures ∙ c.loop-p-test.true) (both (both (c.in_ok-expr.ensures.under _) (ends (c.in_ok-bump_while.ensures.under _))) nothing))) (and_on (goes_on (c.in_ok-expr.ensures.under 0) expr_further) (c.in_ok-bump_while.ensures.under 0)) }

pub blocks::expr_list-returns-in_err-bump_while : goal.blocks::expr_list-returns-in_err-bump_while
unfolding expr_list while_turn
blocks::expr_list-returns-in_err-bump_while t c =
    record { under = λ m. thrown c.from_residual-in_err-bump_while.ensures (inv_end (c.loop-p.invariant.under _) (last_cut (ask_glued c.peek.ensures c.glued.ensures (if_yes (sym c.is_expr_with.ensures ∙ c.loop-p-test.true) (cut (both (c.in_ok-expr.ensures.under _) (cut (c.in_err-bump_while.ensures.under _)))))))) }

pub blocks::expr_list-returns : goal.blocks::expr_list-returns
unfolding expr_list while_turn
blocks::expr_list-returns t c =
    record { under = λ m. inv_end (c.loop-p.invariant.under _) (last (ask_glued c.peek.ensures c.glued.ensures (if_no (sym c.is_expr_with.ensures ∙ c.loop-p-test.false) nothing))) }

pub control::expr_loop-returns-in_err-bump : goal.control::expr_loop-returns-in_err-bump
unfolding expr_loop
control::expr_loop-returns-in_err-bump t c =
    record { under = λ m. thrown c.from_residual.ensures (cut (c.in_err-bump.ensures.under _)) }

pub control::expr_loop-block-requires : goal.control::expr_loop-block-requires
control::expr_loop-block-requires t c =
    (omega (arith, c.decreases, (c.in_ok-bump.ensures.under 0).kept.left), tt)

pub control::expr_loop-returns : goal.control::expr_loop-returns
unfolding expr_loop
control::expr_loop-returns t c =
    record { under = λ m. both (c.in_ok-bump.ensures.under _) (c.block.ensures.under _) }

pub control::expr_match-returns-in_err-bump : goal.control::expr_match-returns-in_err-bump
unfolding expr_match match_arms
control::expr_match-returns-in_err-bump t c =
    record { under = λ m. thrown c.from_residual.ensures (cut (c.in_err-bump.ensures.under _)) }

pub control::expr_match-expr_with-requires : goal.control::expr_match-expr_with-requires
control::expr_match-expr_with-requires t c =
    (omega (arith, c.decreases, (c.in_ok-bump.ensures.under 0).kept.left), tt)

pub control::expr_match-returns-in_err-expr_with : goal.control::expr_match-returns-in_err-expr_with
unfolding expr_match match_arms
control::expr_match-returns-in_err-expr_with t c =
    record { under = λ m. thrown c.from_residual-in_err-expr_with.ensures (both (c.in_ok-bump.ensures.under _) (cut (c.in_err-expr_with.ensures.under _))) }

pub control::expr_match-returns-in_err-bump-2 : goal.control::expr_match-returns-in_err-bump-2
unfolding expr_match match_arms
control::expr_match-returns-in_err-bump-2 t c =
    record { under = λ m. thrown c.from_residual-in_err-bump-2.ensures (both (c.in_ok-bump.ensures.under _) (both (c.in_ok-expr_with.ensures.under _) (ask c.peek.ensures (if_yes (eq-eqb _ _ c.if-peek-eq-BRACE.true) (cut (c.in_err-bump-2.ensures.under _)))))) }

pub control::expr_match-match_list-requires : goal.control::expr_match-match_list-requires
control::expr_match-match_list-requires t c =
    (omega (arith, c.decreases, (c.in_ok-bump.ensures.under 0).kept.left, (c.in_ok-expr_with.ensures.under 0).kept.left, (c.in_ok-bump-2.ensures.under 0).kept.left), tt)

pub control::expr_match-returns-in_err-match_list : goal.control::expr_match-returns-in_err-match_list
unfolding expr_match match_arms
control::expr_match-returns-in_err-match_list t c =
    record { under = λ m. thrown c.from_residual-in_err-match_list.ensures (both (c.in_ok-bump.ensures.under _) (both (c.in_ok-expr_with.ensures.under _) (ask c.peek.ensures (if_yes (eq-eqb _ _ c.if-peek-eq-BRACE.true) (both (c.in_ok-bump-2.ensures.under _) (cut (c.in_err-match_list.ensures.under _))))))) }

pub control::expr_match-returns-in_err-bump_if : goal.control::expr_match-returns-in_err-bump_if
unfolding expr_match match_arms
control::expr_match-returns-in_err-bump_if t c =
    record { under = λ m. thrown c.from_residual-in_err-bump_if.ensures (both (c.in_ok-bump.ensures.under _) (both (c.in_ok-expr_with.ensures.under _) (ask c.peek.ensures (if_yes (eq-eqb _ _ c.if-peek-eq-BRACE.true) (both (c.in_ok-bump-2.ensures.under _) (both (c.in_ok-match_list.ensures.under _) (cut (c.in_err-bump_if.ensures.under _)))))))) }

pub control::expr_match-returns-in_ok-bump_if : goal.control::expr_match-returns-in_ok-bump_if
unfolding expr_match match_arms
control::expr_match-returns-in_ok-bump_if t c =
    record { under = λ m. both (c.in_ok-bump.ensures.under _) (both (c.in_ok-expr_with.ensures.under _) (ask c.peek.ensures (if_yes (eq-eqb _ _ c.if-peek-eq-BRACE.true) (both (c.in_ok-bump-2.ensures.under _) (both (c.in_ok-match_list.ensures.under _) (ends (c.in_ok-bump_if.ensures.under _))))))) }

pub control::expr_match-returns-else-peek-eq-BRACE : goal.control::expr_match-returns-else-peek-eq-BRACE
unfolding expr_match match_arms
control::expr_match-returns-else-peek-eq-BRACE t c =
    record { under = λ m. both (c.in_ok-bump.ensures.under _) (both (c.in_ok-expr_with.ensures.under _) (ask c.peek.ensures (if_no (ne_eqb _ _ c.if-peek-eq-BRACE.false) nothing))) }

pub groups::expr_object-returns-in_err-bump : goal.groups::expr_object-returns-in_err-bump
unfolding expr_object
groups::expr_object-returns-in_err-bump t c =
    record { under = λ m. thrown c.from_residual.ensures (cut (c.in_err-bump.ensures.under _)) }

pub groups::expr_object-object_fields-requires : goal.groups::expr_object-object_fields-requires
groups::expr_object-object_fields-requires t c =
    (omega (arith, c.decreases, (c.in_ok-bump.ensures.under 0).kept.left), tt)

pub groups::expr_object-returns-in_err-object_fields : goal.groups::expr_object-returns-in_err-object_fields
unfolding expr_object
groups::expr_object-returns-in_err-object_fields t c =
    record { under = λ m. thrown c.from_residual-in_err-object_fields.ensures (both (c.in_ok-bump.ensures.under _) (cut (c.in_err-object_fields.ensures.under _))) }

pub groups::expr_object-returns-in_err-bump_if : goal.groups::expr_object-returns-in_err-bump_if
unfolding expr_object
groups::expr_object-returns-in_err-bump_if t c =
    record { under = λ m. thrown c.from_residual-in_err-bump_if.ensures (both (c.in_ok-bump.ensures.under _) (both (c.in_ok-object_fields.ensures.under _) (cut (c.in_err-bump_if.ensures.under _)))) }

pub groups::expr_object-returns : goal.groups::expr_object-returns
unfolding expr_object
groups::expr_object-returns t c =
    record { under = λ m. both (c.in_ok-bump.ensures.under _) (both (c.in_ok-object_fields.ensures.under _) (ends (c.in_ok-bump_if.ensures.under _))) }

pub primary::expr_primary-returns-in_err-c : goal.primary::expr_primary-returns-in_err-c
unfolding expr_primary primary_sign primary_word primary_last
primary::expr_primary-returns-in_err-c t c =
    thrown_ran c.from_residual.ensures (unscoped c.in_err-c.ensures)

pub primary::expr_primary-returns-in_err-bump-in_default : goal.primary::expr_primary-returns-in_err-bump-in_default
unfolding expr_primary primary_sign primary_word primary_last
primary::expr_primary-returns-in_err-bump-in_default t c =
    thrown_ran c.from_residual-in_err-bump-in_default.ensures (scoped c.in_ok-c.ensures (look c.peek-k.ensures (touch c.glued-g.ensures (if_yes (sym c.is_lit.ensures ∙ c.if-is_lit.true) (cut (c.in_err-bump-in_default.ensures.under _))))))

pub primary::expr_primary-finish-requires : goal.primary::expr_primary-finish-requires
primary::expr_primary-finish-requires t c =
    step_marked (c.in_ok-bump-in_default.ensures.under _) (marked_now c.in_ok-c.ensures)

pub primary::expr_primary-primary_path-requires : goal.primary::expr_primary-primary_path-requires
primary::expr_primary-primary_path-requires t c =
    (omega (arith, c.decreases, (c.in_ok-c.ensures.ran.under 0).kept.left), marked_now c.in_ok-c.ensures)

pub primary::expr_primary-empty_group-requires : goal.primary::expr_primary-empty_group-requires
primary::expr_primary-empty_group-requires t c =
    (omega (arith, c.decreases, (c.in_ok-c.ensures.ran.under 0).kept.left), tt)

pub primary::expr_primary-returns-in_err-kind-in-68 : goal.primary::expr_primary-returns-in_err-kind-in-68
unfolding expr_primary primary_sign primary_word primary_last
primary::expr_primary-returns-in_err-kind-in-68 t c =
    thrown_ran c.from_residual-in_err-kind-in-68.ensures (scoped c.in_ok-c.ensures (look c.peek-k.ensures (touch c.glued-g.ensures (if_no (sym c.is_lit.ensures ∙ c.if-is_lit.false) (if_no (sym c.is_path_component.ensures ∙ c.if-is_path_component.false) (if_yes (eq-eqb _ _ c.in-68.is) (cut (c.in_err-kind-in-68.ensures.under _))))))))

pub primary::expr_primary-finish-requires-in-68 : goal.primary::expr_primary-finish-requires-in-68
primary::expr_primary-finish-requires-in-68 t c =
    step_marked (c.in_ok-kind-in-68.ensures.under _) (marked_now c.in_ok-c.ensures)

pub primary::expr_primary-expr_tuple_or_group-requires : goal.primary::expr_primary-expr_tuple_or_group-requires
primary::expr_primary-expr_tuple_or_group-requires t c =
    (omega (arith, c.decreases, (c.in_ok-c.ensures.ran.under 0).kept.left), tt)

pub primary::expr_primary-returns-in_err-kind-in-18 : goal.primary::expr_primary-returns-in_err-kind-in-18
unfolding expr_primary primary_sign primary_word primary_last
primary::expr_primary-returns-in_err-kind-in-18 t c =
    thrown_ran c.from_residual-in_err-kind-in-18.ensures (scoped c.in_ok-c.ensures (look c.peek-k.ensures (touch c.glued-g.ensures (if_no (sym c.is_lit.ensures ∙ c.if-is_lit.false) (if_no (sym c.is_path_component.ensures ∙ c.if-is_path_component.false) (if_no (not_key 68 c.in-18.is refl) (if_yes (eq-eqb _ _ c.in-18.is) (cut (c.in_err-kind-in-18.ensures.under _)))))))))

pub primary::expr_primary-finish-requires-in-18 : goal.primary::expr_primary-finish-requires-in-18
primary::expr_primary-finish-requires-in-18 t c =
    step_marked (c.in_ok-kind-in-18.ensures.under _) (marked_now c.in_ok-c.ensures)

pub primary::expr_primary-parenthesized-requires : goal.primary::expr_primary-parenthesized-requires
primary::expr_primary-parenthesized-requires t c =
    (omega (arith, c.decreases, (c.in_ok-c.ensures.ran.under 0).kept.left), tt)

pub primary::expr_primary-returns-in_err-parenthesized-in-20 : goal.primary::expr_primary-returns-in_err-parenthesized-in-20
unfolding expr_primary primary_sign primary_word primary_last
primary::expr_primary-returns-in_err-parenthesized-in-20 t c =
    thrown_ran c.from_residual-in_err-parenthesized-in-20.ensures (scoped c.in_ok-c.ensures (look c.peek-k.ensures (touch c.glued-g.ensures (if_no (sym c.is_lit.ensures ∙ c.if-is_lit.false) (if_no (sym c.is_path_component.ensures ∙ c.if-is_path_component.false) (if_no (not_key 68 c.in-20.is refl) (if_no (not_key 18 c.in-20.is refl) (if_yes (eq-eqb _ _ c.in-20.is) (cut (c.in_err-parenthesized-in-20.ensures.under _))))))))))

pub primary::expr_primary-finish-requires-in-20 : goal.primary::expr_primary-finish-requires-in-20
primary::expr_primary-finish-requires-in-20 t c =
    step_marked (c.in_ok-parenthesized-in-20.ensures.under _) (marked_now c.in_ok-c.ensures)

pub primary::expr_primary-block_with-requires : goal.primary::expr_primary-block_with-requires
primary::expr_primary-block_with-requires t c =
    (omega (arith, c.decreases, (c.in_ok-c.ensures.ran.under 0).kept.left), tt)

pub primary::expr_primary-returns-in_err-block_with-in-22 : goal.primary::expr_primary-returns-in_err-block_with-in-22
unfolding expr_primary primary_sign primary_word primary_last
primary::expr_primary-returns-in_err-block_with-in-22 t c =
    thrown_ran c.from_residual-in_err-block_with-in-22.ensures (scoped c.in_ok-c.ensures (look c.peek-k.ensures (touch c.glued-g.ensures (if_no (sym c.is_lit.ensures ∙ c.if-is_lit.false) (if_no (sym c.is_path_component.ensures ∙ c.if-is_path_component.false) (if_no (not_key 68 c.in-22.is refl) (if_no (not_key 18 c.in-22.is refl) (if_no (not_key 20 c.in-22.is refl) (if_yes (eq-eqb _ _ c.in-22.is) (cut (c.in_err-block_with-in-22.ensures.under _)))))))))))

pub primary::expr_primary-finish-requires-in-22 : goal.primary::expr_primary-finish-requires-in-22
primary::expr_primary-finish-requires-in-22 t c =
    step_marked (c.in_ok-block_with-in-22.ensures.under _) (marked_now c.in_ok-c.ensures)

pub primary::expr_primary-returns-in_err-bump-in-70 : goal.primary::expr_primary-returns-in_err-bump-in-70
unfolding expr_primary primary_sign primary_word primary_last
primary::expr_primary-returns-in_err-bump-in-70 t c =
    thrown_ran c.from_residual-in_err-bump-in-70.ensures (scoped c.in_ok-c.ensures (look c.peek-k.ensures (touch c.glued-g.ensures (if_no (sym c.is_lit.ensures ∙ c.if-is_lit.false) (if_no (sym c.is_path_component.ensures ∙ c.if-is_path_component.false) (if_no (not_key 68 c.in-70.is refl) (if_no (not_key 18 c.in-70.is refl) (if_no (not_key 20 c.in-70.is refl) (if_no (not_key 22 c.in-70.is refl) (if_yes (eq-eqb _ _ c.in-70.is) (cut (c.in_err-bump-in-70.ensures.under _))))))))))))

pub primary::expr_primary-finish-requires-in-70 : goal.primary::expr_primary-finish-requires-in-70
primary::expr_primary-finish-requires-in-70 t c =
    step_marked (c.in_ok-bump-in-70.ensures.under _) (marked_now c.in_ok-c.ensures)

pub primary::expr_primary-primary_sign-requires : goal.primary::expr_primary-primary_sign-requires
primary::expr_primary-primary_sign-requires t c =
    (omega (arith, c.decreases, (c.in_ok-c.ensures.ran.under 0).kept.left), marked_now c.in_ok-c.ensures)

pub primary::expr_primary-returns-in_ok-bump-in_default : goal.primary::expr_primary-returns-in_ok-bump-in_default
unfolding expr_primary primary_sign primary_word primary_last
primary::expr_primary-returns-in_ok-bump-in_default t c =
    scoped c.in_ok-c.ensures (look c.peek-k.ensures (touch c.glued-g.ensures (if_yes (sym c.is_lit.ensures ∙ c.if-is_lit.true) (both (c.in_ok-bump-in_default.ensures.under _) c.finish.ensures))))

pub primary::expr_primary-returns-then-is_path_component : goal.primary::expr_primary-returns-then-is_path_component
unfolding expr_primary primary_sign primary_word primary_last
primary::expr_primary-returns-then-is_path_component t c =
    scoped c.in_ok-c.ensures (look c.peek-k.ensures (touch c.glued-g.ensures (if_no (sym c.is_lit.ensures ∙ c.if-is_lit.false) (if_yes (sym c.is_path_component.ensures ∙ c.if-is_path_component.true) c.primary_path.ensures))))

pub primary::expr_primary-returns-in_ok-kind-in-68 : goal.primary::expr_primary-returns-in_ok-kind-in-68
unfolding expr_primary primary_sign primary_word primary_last
primary::expr_primary-returns-in_ok-kind-in-68 t c =
    scoped c.in_ok-c.ensures (look c.peek-k.ensures (touch c.glued-g.ensures (if_no (sym c.is_lit.ensures ∙ c.if-is_lit.false) (if_no (sym c.is_path_component.ensures ∙ c.if-is_path_component.false) (if_yes (eq-eqb _ _ c.in-68.is) (both (c.in_ok-kind-in-68.ensures.under _) c.finish-in-68.ensures))))))

pub primary::expr_primary-returns-in_ok-kind-in-18 : goal.primary::expr_primary-returns-in_ok-kind-in-18
unfolding expr_primary primary_sign primary_word primary_last
primary::expr_primary-returns-in_ok-kind-in-18 t c =
    scoped c.in_ok-c.ensures (look c.peek-k.ensures (touch c.glued-g.ensures (if_no (sym c.is_lit.ensures ∙ c.if-is_lit.false) (if_no (sym c.is_path_component.ensures ∙ c.if-is_path_component.false) (if_no (not_key 68 c.in-18.is refl) (if_yes (eq-eqb _ _ c.in-18.is) (both (c.in_ok-kind-in-18.ensures.under _) c.finish-in-18.ensures)))))))

pub primary::expr_primary-returns-in_ok-parenthesized-in-20 : goal.primary::expr_primary-returns-in_ok-parenthesized-in-20
unfolding expr_primary primary_sign primary_word primary_last
primary::expr_primary-returns-in_ok-parenthesized-in-20 t c =
    scoped c.in_ok-c.ensures (look c.peek-k.ensures (touch c.glued-g.ensures (if_no (sym c.is_lit.ensures ∙ c.if-is_lit.false) (if_no (sym c.is_path_component.ensures ∙ c.if-is_path_component.false) (if_no (not_key 68 c.in-20.is refl) (if_no (not_key 18 c.in-20.is refl) (if_yes (eq-eqb _ _ c.in-20.is) (both (c.in_ok-parenthesized-in-20.ensures.under _) c.finish-in-20.ensures))))))))

pub primary::expr_primary-returns-in_ok-block_with-in-22 : goal.primary::expr_primary-returns-in_ok-block_with-in-22
unfolding expr_primary primary_sign primary_word primary_last
primary::expr_primary-returns-in_ok-block_with-in-22 t c =
    scoped c.in_ok-c.ensures (look c.peek-k.ensures (touch c.glued-g.ensures (if_no (sym c.is_lit.ensures ∙ c.if-is_lit.false) (if_no (sym c.is_path_component.ensures ∙ c.if-is_path_component.false) (if_no (not_key 68 c.in-22.is refl) (if_no (not_key 18 c.in-22.is refl) (if_no (not_key 20 c.in-22.is refl) (if_yes (eq-eqb _ _ c.in-22.is) (both (c.in_ok-block_with-in-22.ensures.under _) c.finish-in-22.ensures)))))))))

pub primary::expr_primary-returns-in_ok-bump-in-70 : goal.primary::expr_primary-returns-in_ok-bump-in-70
unfolding expr_primary primary_sign primary_word primary_last
primary::expr_primary-returns-in_ok-bump-in-70 t c =
    scoped c.in_ok-c.ensures (look c.peek-k.ensures (touch c.glued-g.ensures (if_no (sym c.is_lit.ensures ∙ c.if-is_lit.false) (if_no (sym c.is_path_component.ensures ∙ c.if-is_path_component.false) (if_no (not_key 68 c.in-70.is refl) (if_no (not_key 18 c.in-70.is refl) (if_no (not_key 20 c.in-70.is refl) (if_no (not_key 22 c.in-70.is refl) (if_yes (eq-eqb _ _ c.in-70.is) (both (c.in_ok-bump-in-70.ensures.under _) c.finish-in-70.ensures))))))))))

pub primary::expr_primary-returns-in_default-3 : goal.primary::expr_primary-returns-in_default-3
unfolding expr_primary primary_sign primary_word primary_last
primary::expr_primary-returns-in_default-3 t c =
    scoped c.in_ok-c.ensures (look c.peek-k.ensures (touch c.glued-g.ensures (if_no (sym c.is_lit.ensures ∙ c.if-is_lit.false) (if_no (sym c.is_path_component.ensures ∙ c.if-is_path_component.false) (if_no (ne_eqb _ _ (omega arith)) (if_no (ne_eqb _ _ (omega arith)) (if_no (ne_eqb _ _ (omega arith)) (if_no (ne_eqb _ _ (omega arith)) (if_no (ne_eqb _ _ (omega arith)) c.primary_sign.ensures)))))))))

pub operators::expr_range-range_rest-requires : goal.operators::expr_range-range_rest-requires
operators::expr_range-range_rest-requires t c =
    (omega (arith, c.decreases), c.requires)

pub operators::expr_range-range_rest-requires-in-65 : goal.operators::expr_range-range_rest-requires-in-65
operators::expr_range-range_rest-requires-in-65 t c =
    (omega (arith, c.decreases), c.requires)

pub operators::expr_range-returns-in-64 : goal.operators::expr_range-returns-in-64
unfolding expr_range
operators::expr_range-returns-in-64 t c =
    look c.peek.ensures (if_yes (eq-eqb _ _ c.in-64.is) c.range_rest.ensures)

pub operators::expr_range-returns-in-65 : goal.operators::expr_range-returns-in-65
unfolding expr_range
operators::expr_range-returns-in-65 t c =
    look c.peek.ensures (if_no (not_key 64 c.in-65.is refl) (if_yes (eq-eqb _ _ c.in-65.is) c.range_rest-in-65.ensures))

pub operators::expr_range-returns-in_default : goal.operators::expr_range-returns-in_default
unfolding expr_range
operators::expr_range-returns-in_default t c =
    look c.peek.ensures (if_no (ne_eqb _ _ (omega arith)) (if_no (ne_eqb _ _ (omega arith)) nothing))

pub control::expr_select-returns-in_err-bump : goal.control::expr_select-returns-in_err-bump
unfolding expr_select select_arms
control::expr_select-returns-in_err-bump t c =
    record { under = λ m. thrown c.from_residual.ensures (cut (c.in_err-bump.ensures.under _)) }

pub control::expr_select-returns-in_err-bump-2 : goal.control::expr_select-returns-in_err-bump-2
unfolding expr_select select_arms
control::expr_select-returns-in_err-bump-2 t c =
    record { under = λ m. thrown c.from_residual-in_err-bump-2.ensures (both (c.in_ok-bump.ensures.under _) (ask c.peek.ensures (if_yes (eq-eqb _ _ c.if-peek-eq-BRACE.true) (cut (c.in_err-bump-2.ensures.under _))))) }

pub control::expr_select-select_list-requires : goal.control::expr_select-select_list-requires
control::expr_select-select_list-requires t c =
    (omega (arith, c.decreases, (c.in_ok-bump.ensures.under 0).kept.left, (c.in_ok-bump-2.ensures.under 0).kept.left), tt)

pub control::expr_select-returns-in_err-select_list : goal.control::expr_select-returns-in_err-select_list
unfolding expr_select select_arms
control::expr_select-returns-in_err-select_list t c =
    record { under = λ m. thrown c.from_residual-in_err-select_list.ensures (both (c.in_ok-bump.ensures.under _) (ask c.peek.ensures (if_yes (eq-eqb _ _ c.if-peek-eq-BRACE.true) (both (c.in_ok-bump-2.ensures.under _) (cut (c.in_err-select_list.ensures.under _)))))) }

pub control::expr_select-returns-in_err-bump_if : goal.control::expr_select-returns-in_err-bump_if
unfolding expr_select select_arms
control::expr_select-returns-in_err-bump_if t c =
    record { under = λ m. thrown c.from_residual-in_err-bump_if.ensures (both (c.in_ok-bump.ensures.under _) (ask c.peek.ensures (if_yes (eq-eqb _ _ c.if-peek-eq-BRACE.true) (both (c.in_ok-bump-2.ensures.under _) (both (c.in_ok-select_list.ensures.under _) (cut (c.in_err-bump_if.ensures.under _))))))) }

pub control::expr_select-returns-in_ok-bump_if : goal.control::expr_select-returns-in_ok-bump_if
unfolding expr_select select_arms
control::expr_select-returns-in_ok-bump_if t c =
    record { under = λ m. both (c.in_ok-bump.ensures.under _) (ask c.peek.ensures (if_yes (eq-eqb _ _ c.if-peek-eq-BRACE.true) (both (c.in_ok-bump-2.ensures.under _) (both (c.in_ok-select_list.ensures.under _) (ends (c.in_ok-bump_if.ensures.under _)))))) }

pub control::expr_select-returns-else-peek-eq-BRACE : goal.control::expr_select-returns-else-peek-eq-BRACE
unfolding expr_select select_arms
control::expr_select-returns-else-peek-eq-BRACE t c =
    record { under = λ m. both (c.in_ok-bump.ensures.under _) (ask c.peek.ensures (if_no (ne_eqb _ _ c.if-peek-eq-BRACE.false) nothing)) }

pub groups::expr_tuple_or_group-returns-in_err-bump : goal.groups::expr_tuple_or_group-returns-in_err-bump
unfolding expr_tuple_or_group
groups::expr_tuple_or_group-returns-in_err-bump t c =
    record { under = λ m. thrown c.from_residual.ensures (cut (c.in_err-bump.ensures.under _)) }

pub groups::expr_tuple_or_group-tuple_items-requires : goal.groups::expr_tuple_or_group-tuple_items-requires
groups::expr_tuple_or_group-tuple_items-requires t c =
    (omega (arith, c.decreases, (c.in_ok-bump.ensures.under 0).kept.left), tt)

pub groups::expr_tuple_or_group-returns-in_err-is_tuple : goal.groups::expr_tuple_or_group-returns-in_err-is_tuple
unfolding expr_tuple_or_group
groups::expr_tuple_or_group-returns-in_err-is_tuple t c =
    record { under = λ m. thrown c.from_residual-in_err-is_tuple.ensures (both (c.in_ok-bump.ensures.under _) (cut (c.in_err-is_tuple.ensures.under _))) }

pub groups::expr_tuple_or_group-returns-in_err-bump_if : goal.groups::expr_tuple_or_group-returns-in_err-bump_if
unfolding expr_tuple_or_group
groups::expr_tuple_or_group-returns-in_err-bump_if t c =
    record { under = λ m. thrown c.from_residual-in_err-bump_if.ensures (both (c.in_ok-bump.ensures.under _) (both (c.in_ok-is_tuple.ensures.under _) (cut (cut (c.in_err-bump_if.ensures.under _))))) }

pub groups::expr_tuple_or_group-returns-then-is_tuple : goal.groups::expr_tuple_or_group-returns-then-is_tuple
unfolding expr_tuple_or_group
groups::expr_tuple_or_group-returns-then-is_tuple t c =
    record { under = λ m. both (c.in_ok-bump.ensures.under _) (both (c.in_ok-is_tuple.ensures.under _) (both (ends (c.in_ok-bump_if.ensures.under _)) (if_yes c.if-is_tuple.true nothing))) }

pub groups::expr_tuple_or_group-returns : goal.groups::expr_tuple_or_group-returns
unfolding expr_tuple_or_group
groups::expr_tuple_or_group-returns t c =
    record { under = λ m. both (c.in_ok-bump.ensures.under _) (both (c.in_ok-is_tuple.ensures.under _) (both (ends (c.in_ok-bump_if.ensures.under _)) (if_no c.if-is_tuple.false nothing))) }

pub control::expr_while-returns-in_err-bump : goal.control::expr_while-returns-in_err-bump
unfolding expr_while
control::expr_while-returns-in_err-bump t c =
    record { under = λ m. thrown c.from_residual.ensures (cut (c.in_err-bump.ensures.under _)) }

pub control::expr_while-condition-requires : goal.control::expr_while-condition-requires
control::expr_while-condition-requires t c =
    (omega (arith, c.decreases, (c.in_ok-bump.ensures.under 0).kept.left), tt)

pub control::expr_while-returns-in_err-condition : goal.control::expr_while-returns-in_err-condition
unfolding expr_while
control::expr_while-returns-in_err-condition t c =
    record { under = λ m. thrown c.from_residual-in_err-condition.ensures (both (c.in_ok-bump.ensures.under _) (cut (c.in_err-condition.ensures.under _))) }

pub control::expr_while-block-requires : goal.control::expr_while-block-requires
control::expr_while-block-requires t c =
    (omega (arith, c.decreases, (c.in_ok-bump.ensures.under 0).kept.left, (c.in_ok-condition.ensures.under 0).kept.left), tt)

pub control::expr_while-returns : goal.control::expr_while-returns
unfolding expr_while
control::expr_while-returns t c =
    record { under = λ m. both (c.in_ok-bump.ensures.under _) (both (c.in_ok-condition.ensures.under _) (c.block.ensures.under _)) }

pub expressions::expr_with-returns-in_err-c : goal.expressions::expr_with-returns-in_err-c
unfolding expr_with
expressions::expr_with-returns-in_err-c t c =
    thrown_ran c.from_residual.ensures (unscoped c.in_err-c.ensures)

pub expressions::expr_with-returns-in_err-attributes : goal.expressions::expr_with-returns-in_err-attributes
unfolding expr_with
expressions::expr_with-returns-in_err-attributes t c =
    thrown_ran c.from_residual-in_err-attributes.ensures (scoped c.in_ok-c.ensures (cut (c.in_err-attributes.ensures.under _)))

pub expressions::expr_with-returns-in_err-modifiers : goal.expressions::expr_with-returns-in_err-modifiers
unfolding expr_with
expressions::expr_with-returns-in_err-modifiers t c =
    thrown_ran c.from_residual-in_err-modifiers.ensures (scoped c.in_ok-c.ensures (both (c.in_ok-attributes.ensures.under _) (cut (c.in_err-modifiers.ensures.under _))))

pub expressions::expr_with-returns-in_err-labels : goal.expressions::expr_with-returns-in_err-labels
unfolding expr_with
expressions::expr_with-returns-in_err-labels t c =
    thrown_ran c.from_residual-in_err-labels.ensures (scoped c.in_ok-c.ensures (both (c.in_ok-attributes.ensures.under _) (both (c.in_ok-modifiers.ensures.under _) (cut (c.in_err-labels.ensures.under _)))))

pub expressions::expr_with-outer_expr_with-requires : goal.expressions::expr_with-outer_expr_with-requires
expressions::expr_with-outer_expr_with-requires t c =
    (omega (arith, c.decreases, (c.in_ok-c.ensures.ran.under 0).kept.left, (c.in_ok-attributes.ensures.under 0).kept.left, (c.in_ok-modifiers.ensures.under 0).kept.left, (c.in_ok-labels.ensures.under 0).kept.left), tt)

pub expressions::expr_with-returns-in_err-outer_expr_with : goal.expressions::expr_with-returns-in_err-outer_expr_with
unfolding expr_with
expressions::expr_with-returns-in_err-outer_expr_with t c =
    thrown_ran c.from_residual-in_err-outer_expr_with.ensures (scoped c.in_ok-c.ensures (both (c.in_ok-attributes.ensures.under _) (both (c.in_ok-modifiers.ensures.under _) (both (c.in_ok-labels.ensures.under _) (cut (c.in_err-outer_expr_with.ensures.under _))))))

pub expressions::expr_with-close_at-requires : goal.expressions::expr_with-close_at-requires
expressions::expr_with-close_at-requires t c =
    step_marked (c.in_ok-outer_expr_with.ensures.under _) (step_marked (c.in_ok-labels.ensures.under _) (step_marked (c.in_ok-modifiers.ensures.under _) (step_marked (c.in_ok-attributes.ensures.under _) (marked_now c.in_ok-c.ensures))))

pub expressions::expr_with-returns : goal.expressions::expr_with-returns
unfolding expr_with
expressions::expr_with-returns t c =
    scoped c.in_ok-c.ensures (both (c.in_ok-attributes.ensures.under _) (both (c.in_ok-modifiers.ensures.under _) (both (c.in_ok-labels.ensures.under _) (both (c.in_ok-outer_expr_with.ensures.under _) c.close_at.ensures))))

pub control::for_in-returns-in_err-bump_if : goal.control::for_in-returns-in_err-bump_if
unfolding for_in
control::for_in-returns-in_err-bump_if t c =
    record { under = λ m. thrown c.from_residual.ensures (cut (c.in_err-bump_if.ensures.under _)) }

pub control::for_in-expr_with-requires : goal.control::for_in-expr_with-requires
control::for_in-expr_with-requires t c =
    (omega (arith, c.decreases, (c.in_ok-bump_if.ensures.under 0).kept.left), tt)

pub control::for_in-returns-in_err-expr_with : goal.control::for_in-returns-in_err-expr_with
unfolding for_in
control::for_in-returns-in_err-expr_with t c =
    record { under = λ m. thrown c.from_residual-in_err-expr_with.ensures (both (c.in_ok-bump_if.ensures.under _) (if_yes c.if-branch.true (c.in_err-expr_with.ensures.under _))) }

pub control::for_in-returns-in_ok-expr_with : goal.control::for_in-returns-in_ok-expr_with
unfolding for_in
control::for_in-returns-in_ok-expr_with t c =
    record { under = λ m. both (c.in_ok-bump_if.ensures.under _) (if_yes c.if-branch.true (c.in_ok-expr_with.ensures.under _)) }

pub control::for_in-returns-else-branch : goal.control::for_in-returns-else-branch
unfolding for_in
control::for_in-returns-else-branch t c =
    record { under = λ m. both (c.in_ok-bump_if.ensures.under _) (if_no c.if-branch.false nothing) }

pub items::item_const-returns-in_err-bump : goal.items::item_const-returns-in_err-bump
unfolding item_const
items::item_const-returns-in_err-bump t c =
    record { under = λ m. thrown c.from_residual.ensures (cut (c.in_err-bump.ensures.under _)) }

pub items::item_const-returns-in_err-bump_if : goal.items::item_const-returns-in_err-bump_if
unfolding item_const
items::item_const-returns-in_err-bump_if t c =
    record { under = λ m. thrown c.from_residual-in_err-bump_if.ensures (both (c.in_ok-bump.ensures.under _) (cut (cut (c.in_err-bump_if.ensures.under _)))) }

pub items::item_const-expr-requires : goal.items::item_const-expr-requires
items::item_const-expr-requires t c =
    (omega (arith, c.decreases, (c.in_ok-bump.ensures.under 0).kept.left, (c.in_ok-bump_if.ensures.under 0).kept.left), tt)

pub items::item_const-returns : goal.items::item_const-returns
unfolding item_const
items::item_const-returns t c =
    record { under = λ m. both (c.in_ok-bump.ensures.under _) (both (ends (c.in_ok-bump_if.ensures.under _)) (c.expr.ensures.under _)) }

pub items::item_fn-returns-in_err-bump : goal.items::item_fn-returns-in_err-bump
unfolding item_fn fn_body
items::item_fn-returns-in_err-bump t c =
    record { under = λ m. thrown c.from_residual.ensures (cut (c.in_err-bump.ensures.under _)) }

pub items::item_fn-returns-in_err-bump_if : goal.items::item_fn-returns-in_err-bump_if
unfolding item_fn fn_body
items::item_fn-returns-in_err-bump_if t c =
    record { under = λ m. thrown c.from_residual-in_err-bump_if.ensures (both (c.in_ok-bump.ensures.under _) (cut (cut (c.in_err-bump_if.ensures.under _)))) }

pub items::item_fn-returns-in_err-fn_args : goal.items::item_fn-returns-in_err-fn_args
unfolding item_fn fn_body
items::item_fn-returns-in_err-fn_args t c =
    record { under = λ m. thrown c.from_residual-in_err-fn_args.ensures (both (c.in_ok-bump.ensures.under _) (both (ends (c.in_ok-bump_if.ensures.under _)) (cut (c.in_err-fn_args.ensures.under _)))) }

pub items::item_fn-block-requires : goal.items::item_fn-block-requires
items::item_fn-block-requires t c =
    (omega (arith, c.decreases, (c.in_ok-bump.ensures.under 0).kept.left, (c.in_ok-bump_if.ensures.under 0).kept.left, (c.in_ok-fn_args.ensures.under 0).kept.left), tt)

pub items::item_fn-returns-in_err-block : goal.items::item_fn-returns-in_err-block
unfolding item_fn fn_body
items::item_fn-returns-in_err-block t c =
    record { under = λ m. thrown c.from_residual-in_err-block.ensures (both (c.in_ok-bump.ensures.under _) (both (ends (c.in_ok-bump_if.ensures.under _)) (both (c.in_ok-fn_args.ensures.under _) (ask c.peek.ensures (if_yes (eq-eqb _ _ c.if-peek-eq-BRACE.true) (c.in_err-block.ensures.under _)))))) }

pub items::item_fn-returns-in_ok-block : goal.items::item_fn-returns-in_ok-block
unfolding item_fn fn_body
items::item_fn-returns-in_ok-block t c =
    record { under = λ m. both (c.in_ok-bump.ensures.under _) (both (ends (c.in_ok-bump_if.ensures.under _)) (both (c.in_ok-fn_args.ensures.under _) (ask c.peek.ensures (if_yes (eq-eqb _ _ c.if-peek-eq-BRACE.true) (c.in_ok-block.ensures.under _))))) }

pub items::item_fn-returns-else-peek-eq-BRACE : goal.items::item_fn-returns-else-peek-eq-BRACE
unfolding item_fn fn_body
items::item_fn-returns-else-peek-eq-BRACE t c =
    record { under = λ m. both (c.in_ok-bump.ensures.under _) (both (ends (c.in_ok-bump_if.ensures.under _)) (both (c.in_ok-fn_args.ensures.under _) (ask c.peek.ensures (if_no (ne_eqb _ _ c.if-peek-eq-BRACE.false) nothing)))) }

pub items::item_impl-returns-in_err-bump : goal.items::item_impl-returns-in_err-bump
unfolding item_impl
items::item_impl-returns-in_err-bump t c =
    record { under = λ m. thrown c.from_residual.ensures (cut (c.in_err-bump.ensures.under _)) }

pub items::item_impl-returns-in_err-impl_path : goal.items::item_impl-returns-in_err-impl_path
unfolding item_impl
items::item_impl-returns-in_err-impl_path t c =
    record { under = λ m. thrown c.from_residual-in_err-impl_path.ensures (both (c.in_ok-bump.ensures.under _) (cut (c.in_err-impl_path.ensures.under _))) }

pub items::item_impl-block-requires : goal.items::item_impl-block-requires
items::item_impl-block-requires t c =
    (omega (arith, c.decreases, (c.in_ok-bump.ensures.under 0).kept.left, (c.in_ok-impl_path.ensures.under 0).kept.left), tt)

pub items::item_impl-returns : goal.items::item_impl-returns
unfolding item_impl
items::item_impl-returns t c =
    record { under = λ m. both (c.in_ok-bump.ensures.under _) (both (c.in_ok-impl_path.ensures.under _) (c.block.ensures.under _)) }

pub items::item_mod-returns-in_err-bump : goal.items::item_mod-returns-in_err-bump
unfolding item_mod
items::item_mod-returns-in_err-bump t c =
    record { under = λ m. thrown c.from_residual.ensures (cut (c.in_err-bump.ensures.under _)) }

pub items::item_mod-returns-in_err-bump_if : goal.items::item_mod-returns-in_err-bump_if
unfolding item_mod
items::item_mod-returns-in_err-bump_if t c =
    record { under = λ m. thrown c.from_residual-in_err-bump_if.ensures (both (c.in_ok-bump.ensures.under _) (cut (cut (c.in_err-bump_if.ensures.under _)))) }

pub items::item_mod-block-requires : goal.items::item_mod-block-requires
items::item_mod-block-requires t c =
    (omega (arith, c.decreases, (c.in_ok-bump.ensures.under 0).kept.left, (c.in_ok-bump_if.ensures.under 0).kept.left), tt)

pub items::item_mod-returns-in_err-block : goal.items::item_mod-returns-in_err-block
unfolding item_mod
items::item_mod-returns-in_err-block t c =
    record { under = λ m. thrown c.from_residual-in_err-block.ensures (both (c.in_ok-bump.ensures.under _) (both (ends (c.in_ok-bump_if.ensures.under _)) (ask c.peek.ensures (if_yes (eq-eqb _ _ c.if-peek-eq-BRACE.true) (cut (c.in_err-block.ensures.under _)))))) }

pub items::item_mod-returns-then-peek-eq-BRACE : goal.items::item_mod-returns-then-peek-eq-BRACE
unfolding item_mod
items::item_mod-returns-then-peek-eq-BRACE t c =
    record { under = λ m. both (c.in_ok-bump.ensures.under _) (both (ends (c.in_ok-bump_if.ensures.under _)) (ask c.peek.ensures (if_yes (eq-eqb _ _ c.if-peek-eq-BRACE.true) (ends (c.in_ok-block.ensures.under _))))) }

pub items::item_mod-returns : goal.items::item_mod-returns
unfolding item_mod
items::item_mod-returns t c =
    record { under = λ m. both (c.in_ok-bump.ensures.under _) (both (ends (c.in_ok-bump_if.ensures.under _)) (ask c.peek.ensures (if_no (ne_eqb _ _ c.if-peek-eq-BRACE.false) nothing))) }

pub blocks::items-expr_list-requires : goal.blocks::items-expr_list-requires
blocks::items-expr_list-requires t c =
    (omega (arith, c.decreases), tt)

pub blocks::items-returns-in-Exprs : goal.blocks::items-returns-in-Exprs
unfolding items are_exprs
blocks::items-returns-in-Exprs t c =
    record { under = λ m. if_yes (ap are_exprs (ap listed_of c.in-Exprs.is)) (c.expr_list.ensures.under _) }

pub blocks::items-returns-in-Pats : goal.blocks::items-returns-in-Pats
unfolding items are_exprs
blocks::items-returns-in-Pats t c =
    record { under = λ m. if_no (ap are_exprs (ap listed_of c.in-Pats.is)) (c.pat_list.ensures.under _) }

pub items::local-returns-in_err-bump : goal.items::local-returns-in_err-bump
unfolding local
items::local-returns-in_err-bump t c =
    record { under = λ m. thrown c.from_residual.ensures (cut (c.in_err-bump.ensures.under _)) }

pub items::local-returns-in_err-pat : goal.items::local-returns-in_err-pat
unfolding local
items::local-returns-in_err-pat t c =
    record { under = λ m. thrown c.from_residual-in_err-pat.ensures (both (c.in_ok-bump.ensures.under _) (cut (c.in_err-pat.ensures.under _))) }

pub items::local-returns-in_err-bump_if : goal.items::local-returns-in_err-bump_if
unfolding local
items::local-returns-in_err-bump_if t c =
    record { under = λ m. thrown c.from_residual-in_err-bump_if.ensures (both (c.in_ok-bump.ensures.under _) (both (c.in_ok-pat.ensures.under _) (cut (cut (c.in_err-bump_if.ensures.under _))))) }

pub items::local-expr_with-requires : goal.items::local-expr_with-requires
items::local-expr_with-requires t c =
    (omega (arith, c.decreases, (c.in_ok-bump.ensures.under 0).kept.left, (c.in_ok-pat.ensures.under 0).kept.left, (c.in_ok-bump_if.ensures.under 0).kept.left), tt)

pub items::local-returns : goal.items::local-returns
unfolding local
items::local-returns t c =
    record { under = λ m. both (c.in_ok-bump.ensures.under _) (both (c.in_ok-pat.ensures.under _) (both (ends (c.in_ok-bump_if.ensures.under _)) (c.expr_with.ensures.under _))) }

pub control::match_case-returns-in_err-c : goal.control::match_case-returns-in_err-c
unfolding match_case
control::match_case-returns-in_err-c t c =
    thrown_ran c.from_residual.ensures (unscoped c.in_err-c.ensures)

pub control::match_case-returns-in_err-pat : goal.control::match_case-returns-in_err-pat
unfolding match_case
control::match_case-returns-in_err-pat t c =
    thrown_ran c.from_residual-in_err-pat.ensures (scoped c.in_ok-c.ensures (cut (c.in_err-pat.ensures.under _)))

pub control::match_case-expr_after-requires : goal.control::match_case-expr_after-requires
control::match_case-expr_after-requires t c =
    (omega (arith, c.decreases, (c.in_ok-c.ensures.ran.under 0).kept.left, (c.in_ok-pat.ensures.under 0).kept.left), tt)

pub control::match_case-returns-in_err-expr_after : goal.control::match_case-returns-in_err-expr_after
unfolding match_case
control::match_case-returns-in_err-expr_after t c =
    thrown_ran c.from_residual-in_err-expr_after.ensures (scoped c.in_ok-c.ensures (both (c.in_ok-pat.ensures.under _) (cut (c.in_err-expr_after.ensures.under _))))

pub control::match_case-expr_after-requires-2 : goal.control::match_case-expr_after-requires-2
control::match_case-expr_after-requires-2 t c =
    (omega (arith, c.decreases, (c.in_ok-c.ensures.ran.under 0).kept.left, (c.in_ok-pat.ensures.under 0).kept.left, (c.in_ok-expr_after.ensures.under 0).kept.left), tt)

pub control::match_case-returns-in_err-expr_after-2 : goal.control::match_case-returns-in_err-expr_after-2
unfolding match_case
control::match_case-returns-in_err-expr_after-2 t c =
    thrown_ran c.from_residual-in_err-expr_after-2.ensures (scoped c.in_ok-c.ensures (both (c.in_ok-pat.ensures.under _) (both (c.in_ok-expr_after.ensures.under _) (cut (c.in_err-expr_after-2.ensures.under _)))))

pub control::match_case-close_at-requires : goal.control::match_case-close_at-requires
control::match_case-close_at-requires t c =
    step_marked (c.in_ok-expr_after-2.ensures.under _) (step_marked (c.in_ok-expr_after.ensures.under _) (step_marked (c.in_ok-pat.ensures.under _) (marked_now c.in_ok-c.ensures)))

pub control::match_case-returns : goal.control::match_case-returns
unfolding match_case
control::match_case-returns t c =
    scoped c.in_ok-c.ensures (both (c.in_ok-pat.ensures.under _) (both (c.in_ok-expr_after.ensures.under _) (both (c.in_ok-expr_after-2.ensures.under _) c.close_at.ensures)))

pub control::match_list-loop-p-init : goal.control::match_list-loop-p-init
unfolding match_list while_turn match_arm
control::match_list-loop-p-init t c =
    record { under = λ m. inv_start }

pub control::match_list-match_case-requires : goal.control::match_list-match_case-requires
control::match_list-match_case-requires t c =
    (omega (arith, c.decreases, (c.loop-p.invariant.under 0).kept.left), tt)

pub control::match_list-returns-in_err-match_case : goal.control::match_list-returns-in_err-match_case
unfolding match_list while_turn match_arm
control::match_list-returns-in_err-match_case t c =
    record { under = λ m. thrown c.from_residual.ensures (inv_end (c.loop-p.invariant.under _) (last_cut (ask_glued c.peek.ensures c.glued.ensures (if_yes (sym c.is_pat.ensures ∙ c.loop-p-test.true) (cut (cut (c.in_err-match_case.ensures.under _))))))) }

pub control::match_list-loop-p-smaller : goal.control::match_list-loop-p-smaller
control::match_list-loop-p-smaller t c =
    burns (kept_on (c.in_ok-match_case.ensures.under 0).kept (c.in_ok-bump_while.ensures.under 0).kept) (and_on (goes_glued (c.in_ok-match_case.ensures.under 0) c.peek.ensures c.glued.ensures kind_is_pat (sym c.is_pat.ensures ∙ c.loop-p-test.true) match_case_further) (c.in_ok-bump_while.ensures.under 0))

pub control::match_list-loop-p-preserved : goal.control::match_list-loop-p-preserved
unfolding match_list while_turn match_arm
control::match_list-loop-p-preserved t c =
    record { under = λ m. inv_again (c.loop-p.invariant.under m) (ask_glued c.peek.ensures c.glued.ensures (if_yes (sym c.is_pat.ensures ∙ c.loop-p-test.true) (both (both (c.in_ok-match_case.ensures.under _) (ends (c.in_ok-bump_while.ensures.under _))) nothing))) (and_on (goes_glued (c.in_ok-match_case.ensures.under 0) c.peek.ensures c.glued.ensures kind_is_pat (sym c.is_pat.ensures ∙ c.loop-p-test.true) match_case_further) (c.in_ok-bump_while.ensures.under 0)) }

pub control::match_list-returns-in_err-bump_while : goal.control::match_list-returns-in_err-bump_while
unfolding match_list while_turn match_arm
control::match_list-returns-in_err-bump_while t c =
    record { under = λ m. thrown c.from_residual-in_err-bump_while.ensures (inv_end (c.loop-p.invariant.under _) (last_cut (ask_glued c.peek.ensures c.glued.ensures (if_yes (sym c.is_pat.ensures ∙ c.loop-p-test.true) (cut (both (c.in_ok-match_case.ensures.under _) (cut (c.in_err-bump_while.ensures.under _)))))))) }

pub control::match_list-returns : goal.control::match_list-returns
unfolding match_list while_turn match_arm
control::match_list-returns t c =
    record { under = λ m. inv_end (c.loop-p.invariant.under _) (last (ask_glued c.peek.ensures c.glued.ensures (if_no (sym c.is_pat.ensures ∙ c.loop-p-test.false) nothing))) }

pub operators::nest-expr_binary-requires : goal.operators::nest-expr_binary-requires
operators::nest-expr_binary-requires t c =
    (omega (arith, c.decreases), c.requires.1)

pub operators::nest-returns-in_err-expr_binary : goal.operators::nest-returns-in_err-expr_binary
unfolding nest
operators::nest-returns-in_err-expr_binary t c =
    thrown c.from_residual.ensures (cut (c.in_err-expr_binary.ensures.under _))

pub operators::nest-close_at-requires : goal.operators::nest-close_at-requires
operators::nest-close_at-requires t c =
    step_marked (c.in_ok-expr_binary.ensures.under _) c.requires.0

pub operators::nest-returns-in_err-close_at : goal.operators::nest-returns-in_err-close_at
unfolding nest
operators::nest-returns-in_err-close_at t c =
    thrown c.from_residual-in_err-close_at.ensures (both (c.in_ok-expr_binary.ensures.under _) (if_yes c.if-branch.true c.in_err-close_at.ensures))

pub operators::nest-returns-in_ok-close_at : goal.operators::nest-returns-in_ok-close_at
unfolding nest
operators::nest-returns-in_ok-close_at t c =
    both (c.in_ok-expr_binary.ensures.under _) (if_yes c.if-branch.true c.in_ok-close_at.ensures)

pub operators::nest-returns-else-branch : goal.operators::nest-returns-else-branch
unfolding nest
operators::nest-returns-else-branch t c =
    both (c.in_ok-expr_binary.ensures.under _) (if_no c.if-branch.false nothing)

pub groups::object_fields-loop-p-init : goal.groups::object_fields-loop-p-init
unfolding object_fields while_turn object_field
groups::object_fields-loop-p-init t c =
    record { under = λ m. inv_start }

pub groups::object_fields-returns-in_err-bump : goal.groups::object_fields-returns-in_err-bump
unfolding object_fields while_turn object_field
groups::object_fields-returns-in_err-bump t c =
    record { under = λ m. thrown c.from_residual.ensures (inv_end (c.loop-p.invariant.under _) (last_cut (ask c.peek.ensures (if_yes (sym c.is_object_key.ensures ∙ c.loop-p-test.true) (cut (cut (c.in_err-bump.ensures.under _))))))) }

pub groups::object_fields-expr_after-requires : goal.groups::object_fields-expr_after-requires
groups::object_fields-expr_after-requires t c =
    (omega (arith, c.decreases, (c.in_ok-bump.ensures.under 0).kept.left, (c.loop-p.invariant.under 0).kept.left), tt)

pub groups::object_fields-returns-in_err-expr_after : goal.groups::object_fields-returns-in_err-expr_after
unfolding object_fields while_turn object_field
groups::object_fields-returns-in_err-expr_after t c =
    record { under = λ m. thrown c.from_residual-in_err-expr_after.ensures (inv_end (c.loop-p.invariant.under _) (last_cut (ask c.peek.ensures (if_yes (sym c.is_object_key.ensures ∙ c.loop-p-test.true) (cut (both (c.in_ok-bump.ensures.under _) (cut (c.in_err-expr_after.ensures.under _)))))))) }

pub groups::object_fields-loop-p-smaller : goal.groups::object_fields-loop-p-smaller
groups::object_fields-loop-p-smaller t c =
    burns (kept_on (c.in_ok-bump.ensures.under 0).kept (kept_on (c.in_ok-expr_after.ensures.under 0).kept (c.in_ok-bump_while.ensures.under 0).kept)) (and_on (and_on (goes_some (c.in_ok-bump.ensures.under 0) c.peek.ensures (object_key_some _ (sym c.is_object_key.ensures ∙ c.loop-p-test.true)) bump_further) (c.in_ok-expr_after.ensures.under 0)) (c.in_ok-bump_while.ensures.under 0))

pub groups::object_fields-loop-p-preserved : goal.groups::object_fields-loop-p-preserved
unfolding object_fields while_turn object_field
groups::object_fields-loop-p-preserved t c =
    record { under = λ m. inv_again (c.loop-p.invariant.under m) (ask c.peek.ensures (if_yes (sym c.is_object_key.ensures ∙ c.loop-p-test.true) (both (both (c.in_ok-bump.ensures.under _) (both (c.in_ok-expr_after.ensures.under _) (ends (c.in_ok-bump_while.ensures.under _)))) nothing))) (and_on (and_on (goes_some (c.in_ok-bump.ensures.under 0) c.peek.ensures (object_key_some _ (sym c.is_object_key.ensures ∙ c.loop-p-test.true)) bump_further) (c.in_ok-expr_after.ensures.under 0)) (c.in_ok-bump_while.ensures.under 0)) }

pub groups::object_fields-returns-in_err-bump_while : goal.groups::object_fields-returns-in_err-bump_while
unfolding object_fields while_turn object_field
groups::object_fields-returns-in_err-bump_while t c =
    record { under = λ m. thrown c.from_residual-in_err-bump_while.ensures (inv_end (c.loop-p.invariant.under _) (last_cut (ask c.peek.ensures (if_yes (sym c.is_object_key.ensures ∙ c.loop-p-test.true) (cut (both (c.in_ok-bump.ensures.under _) (both (c.in_ok-expr_after.ensures.under _) (cut (c.in_err-bump_while.ensures.under _))))))))) }

pub groups::object_fields-returns : goal.groups::object_fields-returns
unfolding object_fields while_turn object_field
groups::object_fields-returns t c =
    record { under = λ m. inv_end (c.loop-p.invariant.under _) (last (ask c.peek.ensures (if_no (sym c.is_object_key.ensures ∙ c.loop-p-test.false) nothing))) }

pub operators::operand-returns-in_err-c-clause-ran : goal.operators::operand-returns-in_err-c-clause-ran
unfolding operand tighter_turn
operators::operand-returns-in_err-c-clause-ran t c =
    record { under = λ m. thrown_as ahead c.from_residual.ensures ((unscoped c.in_err-c.ensures).under m) }

pub operators::operand-outer_expr_with-requires : goal.operators::operand-outer_expr_with-requires
operators::operand-outer_expr_with-requires t c =
    (omega (arith, c.decreases, (c.in_ok-c.ensures.ran.under 0).kept.left), tt)

pub operators::operand-returns-in_err-outer_expr_with-clause-ran : goal.operators::operand-returns-in_err-outer_expr_with-clause-ran
unfolding operand tighter_turn
operators::operand-returns-in_err-outer_expr_with-clause-ran t c =
    record { under = λ m. thrown_as ahead c.from_residual-in_err-outer_expr_with.ensures ((scoped c.in_ok-c.ensures (spot c.here-place.ensures (cut (c.in_err-outer_expr_with.ensures.under _)))).under m) }

pub operators::operand-loop-ahead-init : goal.operators::operand-loop-ahead-init
unfolding operand tighter_turn
operators::operand-loop-ahead-init t c =
    record { loop = record { at = inv_start }; next = c.lookahead-ahead.ensures }

pub operators::operand-nest-requires : goal.operators::operand-nest-requires
operators::operand-nest-requires t c =
    (omega (arith, c.decreases, (c.in_ok-c.ensures.ran.under 0).kept.left, (c.in_ok-outer_expr_with.ensures.under 0).kept.left, c.loop-ahead.invariant.loop.at.kept.left), (c.loop-ahead.invariant.loop.at.marked (step_marked (c.in_ok-outer_expr_with.ensures.under _) (marked_now c.in_ok-c.ensures)), rw (← c.in-Some.is) c.loop-ahead.invariant.next))

pub operators::operand-returns-in_err-nest-clause-ran : goal.operators::operand-returns-in_err-nest-clause-ran
unfolding operand tighter_turn
operators::operand-returns-in_err-nest-clause-ran t c =
    record { under = λ m. thrown_as ahead c.from_residual-in_err-nest.ensures ((scoped c.in_ok-c.ensures (spot c.here-place.ensures (both (c.in_ok-outer_expr_with.ensures.under _) (ask_ahead c.lookahead-ahead.ensures (inv_end c.loop-ahead.invariant.loop.at (last_cut (if_no (op_is c.in-Some.is) (rw c.in-Some.is (if_yes (sym c.is_tighter.ensures ∙ c.if-is_tighter.true) (cut c.in_err-nest.ensures)))))))))).under m) }

pub operators::operand-loop-ahead-smaller : goal.operators::operand-loop-ahead-smaller
operators::operand-loop-ahead-smaller t c =
    burns c.in_ok-nest.ensures.kept (nest_goes _ c.args.op _ _ c.in-Some.is c.in_ok-nest.ensures c.loop-ahead.invariant.next (sym c.is_tighter.ensures ∙ c.if-is_tighter.true))

pub operators::operand-loop-ahead-preserved : goal.operators::operand-loop-ahead-preserved
unfolding operand tighter_turn
operators::operand-loop-ahead-preserved t c =
    record { loop = record { at = inv_again c.loop-ahead.invariant.loop.at (if_no (op_is c.in-Some.is) (rw c.in-Some.is (if_yes (sym c.is_tighter.ensures ∙ c.if-is_tighter.true) (both c.in_ok-nest.ensures (ask_ahead c.lookahead-ahead-then-is_tighter.ensures nothing))))) (nest_goes _ c.args.op _ _ c.in-Some.is c.in_ok-nest.ensures c.loop-ahead.invariant.next (sym c.is_tighter.ensures ∙ c.if-is_tighter.true)) }; next = c.lookahead-ahead-then-is_tighter.ensures }

pub operators::operand-returns-then-clashes-clause-ran : goal.operators::operand-returns-then-clashes-clause-ran
unfolding operand tighter_turn
operators::operand-returns-then-clashes-clause-ran t c =
    scoped c.in_ok-c.ensures (spot c.here-place.ensures (both (c.in_ok-outer_expr_with.ensures.under _) (ask_ahead c.lookahead-ahead.ensures (inv_end c.loop-ahead.invariant.loop.at (last_cut (if_no (op_is c.in-Some.is) (rw c.in-Some.is (if_no (sym c.is_tighter.ensures ∙ c.if-is_tighter.false) (if_yes (sym c.clashes.ensures ∙ c.if-clashes.true) (halt refl refl))))))))))

pub operators::operand-returns-else-clashes-clause-ran : goal.operators::operand-returns-else-clashes-clause-ran
unfolding operand tighter_turn
operators::operand-returns-else-clashes-clause-ran t c =
    scoped c.in_ok-c.ensures (spot c.here-place.ensures (both (c.in_ok-outer_expr_with.ensures.under _) (ask_ahead c.lookahead-ahead.ensures (inv_end c.loop-ahead.invariant.loop.at (last (if_no (op_is c.in-Some.is) (rw c.in-Some.is (if_no (sym c.is_tighter.ensures ∙ c.if-is_tighter.false) (if_no (sym c.clashes.ensures ∙ c.if-clashes.false) nothing)))))))))

pub operators::operand-returns-clause-ran : goal.operators::operand-returns-clause-ran
unfolding operand tighter_turn
operators::operand-returns-clause-ran t c =
    scoped c.in_ok-c.ensures (spot c.here-place.ensures (both (c.in_ok-outer_expr_with.ensures.under _) (ask_ahead c.lookahead-ahead.ensures (inv_end c.loop-ahead.invariant.loop.at (last (if_yes (no_op c.in_default.is) nothing))))))

pub expressions::outer_assign-close_at-requires : goal.expressions::outer_assign-close_at-requires
expressions::outer_assign-close_at-requires t c =
    c.requires

pub expressions::outer_assign-returns-in_err-close_at : goal.expressions::outer_assign-returns-in_err-close_at
unfolding outer_assign
expressions::outer_assign-returns-in_err-close_at t c =
    thrown c.from_residual.ensures (cut c.in_err-close_at.ensures)

pub expressions::outer_assign-returns-in_err-bump : goal.expressions::outer_assign-returns-in_err-bump
unfolding outer_assign
expressions::outer_assign-returns-in_err-bump t c =
    thrown c.from_residual-in_err-bump.ensures (both c.in_ok-close_at.ensures (cut (c.in_err-bump.ensures.under _)))

pub expressions::outer_assign-expr_with-requires : goal.expressions::outer_assign-expr_with-requires
expressions::outer_assign-expr_with-requires t c =
    (omega (arith, c.decreases, c.in_ok-close_at.ensures.kept.left, (c.in_ok-bump.ensures.under 0).kept.left), tt)

pub expressions::outer_assign-returns-in_err-expr_with : goal.expressions::outer_assign-returns-in_err-expr_with
unfolding outer_assign
expressions::outer_assign-returns-in_err-expr_with t c =
    thrown c.from_residual-in_err-expr_with.ensures (both c.in_ok-close_at.ensures (both (c.in_ok-bump.ensures.under _) (cut (c.in_err-expr_with.ensures.under _))))

pub expressions::outer_assign-finish-requires : goal.expressions::outer_assign-finish-requires
expressions::outer_assign-finish-requires t c =
    step_marked (c.in_ok-expr_with.ensures.under _) (step_marked (c.in_ok-bump.ensures.under _) (step_marked c.in_ok-close_at.ensures c.requires))

pub expressions::outer_assign-returns : goal.expressions::outer_assign-returns
unfolding outer_assign
expressions::outer_assign-returns t c =
    both c.in_ok-close_at.ensures (both (c.in_ok-bump.ensures.under _) (both (c.in_ok-expr_with.ensures.under _) c.finish.ensures))

pub expressions::outer_binary-expr_binary-requires : goal.expressions::outer_binary-expr_binary-requires
expressions::outer_binary-expr_binary-requires t c =
    (omega (arith, c.decreases), c.lookahead-op.ensures)

pub expressions::outer_binary-returns-in_err-expr_binary : goal.expressions::outer_binary-returns-in_err-expr_binary
unfolding outer_binary
expressions::outer_binary-returns-in_err-expr_binary t c =
    thrown c.from_residual.ensures (ask_ahead c.lookahead-op.ensures (cut (c.in_err-expr_binary.ensures.under _)))

pub expressions::outer_binary-finish-requires : goal.expressions::outer_binary-finish-requires
expressions::outer_binary-finish-requires t c =
    step_marked (c.in_ok-expr_binary.ensures.under _) c.requires

pub expressions::outer_binary-returns-then-branch : goal.expressions::outer_binary-returns-then-branch
unfolding outer_binary
expressions::outer_binary-returns-then-branch t c =
    ask_ahead c.lookahead-op.ensures (both (c.in_ok-expr_binary.ensures.under _) (if_yes c.if-branch.true c.finish.ensures))

pub expressions::outer_binary-returns : goal.expressions::outer_binary-returns
unfolding outer_binary
expressions::outer_binary-returns t c =
    ask_ahead c.lookahead-op.ensures (both (c.in_ok-expr_binary.ensures.under _) (if_no c.if-branch.false nothing))

pub expressions::outer_chain-expr_chain-requires : goal.expressions::outer_chain-expr_chain-requires
expressions::outer_chain-expr_chain-requires t c =
    (omega (arith, c.decreases), c.requires)

pub expressions::outer_chain-returns-in_err-last : goal.expressions::outer_chain-returns-in_err-last
unfolding outer_chain
expressions::outer_chain-returns-in_err-last t c =
    thrown c.from_residual.ensures (cut c.in_err-last.ensures)

pub expressions::outer_chain-outer_assign-requires : goal.expressions::outer_chain-outer_assign-requires
expressions::outer_chain-outer_assign-requires t c =
    (omega (arith, c.decreases, c.in_ok-last.ensures.kept.left), step_marked c.in_ok-last.ensures c.requires)

pub expressions::outer_chain-returns-then-peek-eq-EQ : goal.expressions::outer_chain-returns-then-peek-eq-EQ
unfolding outer_chain
expressions::outer_chain-returns-then-peek-eq-EQ t c =
    both c.in_ok-last.ensures (ask c.peek.ensures (if_yes (eq-eqb _ _ c.if-peek-eq-EQ.true) c.outer_assign.ensures))

pub expressions::outer_chain-outer_rest-requires : goal.expressions::outer_chain-outer_rest-requires
expressions::outer_chain-outer_rest-requires t c =
    (omega (arith, c.decreases, c.in_ok-last.ensures.kept.left), step_marked c.in_ok-last.ensures c.requires)

pub expressions::outer_chain-returns : goal.expressions::outer_chain-returns
unfolding outer_chain
expressions::outer_chain-returns t c =
    both c.in_ok-last.ensures (ask c.peek.ensures (if_no (ne_eqb _ _ c.if-peek-eq-EQ.false) c.outer_rest.ensures))

pub expressions::outer_expr_with-returns-in_err-left : goal.expressions::outer_expr_with-returns-in_err-left
unfolding outer_expr_with grammar
expressions::outer_expr_with-returns-in_err-left t c =
    record { under = λ m. thrown c.from_residual.ensures (barred c.in_err-left.ensures) }

pub expressions::outer_expr_with-outer_expr_with_text-done-requires : goal.expressions::outer_expr_with-outer_expr_with_text-done-requires
expressions::outer_expr_with-outer_expr_with_text-done-requires t c =
    (omega (arith, c.decreases, c.in_ok-left.ensures.some.1), tt)

pub expressions::outer_expr_with-returns : goal.expressions::outer_expr_with-returns
unfolding outer_expr_with grammar
expressions::outer_expr_with-returns t c =
    record { under = λ m. entered c.in_ok-left.ensures (c.outer_expr_with_text-done.ensures.under _) c.leave.ensures }

pub expressions::outer_expr_with_text-returns-in_err-c : goal.expressions::outer_expr_with_text-returns-in_err-c
unfolding outer_expr_with_text outer_chain outer_rest outer_op outer_assign
expressions::outer_expr_with_text-returns-in_err-c t c =
    thrown_ran c.from_residual.ensures (unscoped c.in_err-c.ensures)

pub expressions::outer_expr_with_text-expr_primary-requires : goal.expressions::outer_expr_with_text-expr_primary-requires
expressions::outer_expr_with_text-expr_primary-requires t c =
    (omega (arith, c.decreases, (c.in_ok-c.ensures.ran.under 0).kept.left), tt)

pub expressions::outer_expr_with_text-returns-in_err-kind : goal.expressions::outer_expr_with_text-returns-in_err-kind
unfolding outer_expr_with_text outer_chain outer_rest outer_op outer_assign
expressions::outer_expr_with_text-returns-in_err-kind t c =
    thrown_ran c.from_residual-in_err-kind.ensures (scoped c.in_ok-c.ensures (cut (c.in_err-kind.ensures.under _)))

pub expressions::outer_expr_with_text-returns-then-is_range : goal.expressions::outer_expr_with_text-returns-then-is_range
unfolding outer_expr_with_text outer_chain outer_rest outer_op outer_assign
expressions::outer_expr_with_text-returns-then-is_range t c =
    scoped c.in_ok-c.ensures (both (c.in_ok-kind.ensures.under _) (if_yes (sym c.is_range.ensures ∙ c.if-is_range.true) nothing))

pub expressions::outer_expr_with_text-outer_chain-requires : goal.expressions::outer_expr_with_text-outer_chain-requires
expressions::outer_expr_with_text-outer_chain-requires t c =
    (omega (arith, c.decreases, (c.in_ok-c.ensures.ran.under 0).kept.left, (c.in_ok-kind.ensures.under 0).kept.left), step_marked (c.in_ok-kind.ensures.under _) (marked_now c.in_ok-c.ensures))

pub expressions::outer_expr_with_text-returns : goal.expressions::outer_expr_with_text-returns
unfolding outer_expr_with_text outer_chain outer_rest outer_op outer_assign
expressions::outer_expr_with_text-returns t c =
    scoped c.in_ok-c.ensures (both (c.in_ok-kind.ensures.under _) (if_no (sym c.is_range.ensures ∙ c.if-is_range.false) c.outer_chain.ensures))

pub expressions::outer_op-outer_binary-requires : goal.expressions::outer_op-outer_binary-requires
expressions::outer_op-outer_binary-requires t c =
    (omega (arith, c.decreases), c.requires)

pub expressions::outer_op-returns-then-operators_next : goal.expressions::outer_op-returns-then-operators_next
unfolding outer_op
expressions::outer_op-returns-then-operators_next t c =
    if_yes (looked_for _ _ (sym c.operators_next.ensures ∙ c.if-operators_next.true)) c.outer_binary.ensures

pub expressions::outer_op-returns : goal.expressions::outer_op-returns
unfolding outer_op
expressions::outer_op-returns t c =
    idle_op _ _ _ _ (sym c.operators_next.ensures ∙ c.if-operators_next.false)

pub expressions::outer_rest-outer_op-requires : goal.expressions::outer_rest-outer_op-requires
expressions::outer_rest-outer_op-requires t c =
    (omega (arith, c.decreases), c.requires)

pub expressions::outer_rest-returns-in_err-last : goal.expressions::outer_rest-returns-in_err-last
unfolding outer_rest
expressions::outer_rest-returns-in_err-last t c =
    thrown c.from_residual.ensures (cut c.in_err-last.ensures)

pub expressions::outer_rest-expr_range-requires : goal.expressions::outer_rest-expr_range-requires
expressions::outer_rest-expr_range-requires t c =
    (omega (arith, c.decreases, c.in_ok-last.ensures.kept.left), step_marked c.in_ok-last.ensures c.requires)

pub expressions::outer_rest-returns-in-Yes : goal.expressions::outer_rest-returns-in-Yes
unfolding outer_rest is_ranged
expressions::outer_rest-returns-in-Yes t c =
    both c.in_ok-last.ensures (if_yes (ap is_ranged (ap range_of c.in-Yes.is)) c.expr_range.ensures)

pub expressions::outer_rest-returns-in-No : goal.expressions::outer_rest-returns-in-No
unfolding outer_rest is_ranged
expressions::outer_rest-returns-in-No t c =
    both c.in_ok-last.ensures (if_no (ap is_ranged (ap range_of c.in-No.is)) nothing)

pub blocks::parenthesized-returns-in_err-bump : goal.blocks::parenthesized-returns-in_err-bump
unfolding parenthesized
blocks::parenthesized-returns-in_err-bump t c =
    record { under = λ m. thrown c.from_residual.ensures (cut (c.in_err-bump.ensures.under _)) }

pub blocks::parenthesized-items-requires : goal.blocks::parenthesized-items-requires
blocks::parenthesized-items-requires t c =
    (omega (arith, c.decreases, (c.in_ok-bump.ensures.under 0).kept.left), tt)

pub blocks::parenthesized-returns-in_err-items : goal.blocks::parenthesized-returns-in_err-items
unfolding parenthesized
blocks::parenthesized-returns-in_err-items t c =
    record { under = λ m. thrown c.from_residual-in_err-items.ensures (both (c.in_ok-bump.ensures.under _) (cut (c.in_err-items.ensures.under _))) }

pub blocks::parenthesized-returns-in_err-bump_if : goal.blocks::parenthesized-returns-in_err-bump_if
unfolding parenthesized
blocks::parenthesized-returns-in_err-bump_if t c =
    record { under = λ m. thrown c.from_residual-in_err-bump_if.ensures (both (c.in_ok-bump.ensures.under _) (both (c.in_ok-items.ensures.under _) (cut (c.in_err-bump_if.ensures.under _)))) }

pub blocks::parenthesized-returns : goal.blocks::parenthesized-returns
unfolding parenthesized
blocks::parenthesized-returns t c =
    record { under = λ m. both (c.in_ok-bump.ensures.under _) (both (c.in_ok-items.ensures.under _) (ends (c.in_ok-bump_if.ensures.under _))) }

pub primary::primary_last-range_to-requires : goal.primary::primary_last-range_to-requires
primary::primary_last-range_to-requires t c =
    (omega (arith, c.decreases), c.requires)

pub primary::primary_last-returns-then-ranged_by : goal.primary::primary_last-returns-then-ranged_by
unfolding primary_last
primary::primary_last-returns-then-ranged_by t c =
    if_yes (sym c.ranged_by.ensures ∙ c.if-ranged_by.true) c.range_to.ensures

pub primary::primary_last-returns-in_err-bump : goal.primary::primary_last-returns-in_err-bump
unfolding primary_last
primary::primary_last-returns-in_err-bump t c =
    thrown c.from_residual.ensures (if_no (sym c.ranged_by.ensures ∙ c.if-ranged_by.false) (if_yes (sym c.ranged_by-2.ensures ∙ c.if-ranged_by-2.true) (cut (c.in_err-bump.ensures.under _))))

pub primary::primary_last-outer_expr_with-requires : goal.primary::primary_last-outer_expr_with-requires
primary::primary_last-outer_expr_with-requires t c =
    (omega (arith, c.decreases, (c.in_ok-bump.ensures.under 0).kept.left), tt)

pub primary::primary_last-returns-in_err-outer_expr_with : goal.primary::primary_last-returns-in_err-outer_expr_with
unfolding primary_last
primary::primary_last-returns-in_err-outer_expr_with t c =
    thrown c.from_residual-in_err-outer_expr_with.ensures (if_no (sym c.ranged_by.ensures ∙ c.if-ranged_by.false) (if_yes (sym c.ranged_by-2.ensures ∙ c.if-ranged_by-2.true) (both (c.in_ok-bump.ensures.under _) (cut (c.in_err-outer_expr_with.ensures.under _)))))

pub primary::primary_last-finish-requires : goal.primary::primary_last-finish-requires
primary::primary_last-finish-requires t c =
    step_marked (c.in_ok-outer_expr_with.ensures.under _) (step_marked (c.in_ok-bump.ensures.under _) c.requires)

pub primary::primary_last-returns-then-ranged_by-2 : goal.primary::primary_last-returns-then-ranged_by-2
unfolding primary_last
primary::primary_last-returns-then-ranged_by-2 t c =
    if_no (sym c.ranged_by.ensures ∙ c.if-ranged_by.false) (if_yes (sym c.ranged_by-2.ensures ∙ c.if-ranged_by-2.true) (both (c.in_ok-bump.ensures.under _) (both (c.in_ok-outer_expr_with.ensures.under _) c.finish.ensures)))

pub primary::primary_last-returns-in_err-push : goal.primary::primary_last-returns-in_err-push
unfolding primary_last
primary::primary_last-returns-in_err-push t c =
    thrown c.from_residual-in_err-push.ensures (if_no (sym c.ranged_by.ensures ∙ c.if-ranged_by.false) (if_no (sym c.ranged_by-2.ensures ∙ c.if-ranged_by-2.false) (if_yes (sym c.glues.ensures ∙ c.if-glues.true) (cut (c.in_err-push.ensures.under _)))))

pub primary::primary_last-expr_object-requires : goal.primary::primary_last-expr_object-requires
primary::primary_last-expr_object-requires t c =
    (omega (arith, c.decreases, (c.in_ok-push.ensures.under 0).kept.left), tt)

pub primary::primary_last-returns-in_err-expr_object : goal.primary::primary_last-returns-in_err-expr_object
unfolding primary_last
primary::primary_last-returns-in_err-expr_object t c =
    thrown c.from_residual-in_err-expr_object.ensures (if_no (sym c.ranged_by.ensures ∙ c.if-ranged_by.false) (if_no (sym c.ranged_by-2.ensures ∙ c.if-ranged_by-2.false) (if_yes (sym c.glues.ensures ∙ c.if-glues.true) (both (c.in_ok-push.ensures.under _) (cut (c.in_err-expr_object.ensures.under _))))))

pub primary::primary_last-finish-requires-then-glues : goal.primary::primary_last-finish-requires-then-glues
primary::primary_last-finish-requires-then-glues t c =
    step_marked (c.in_ok-expr_object.ensures.under _) (step_marked (c.in_ok-push.ensures.under _) c.requires)

pub primary::primary_last-returns-then-glues : goal.primary::primary_last-returns-then-glues
unfolding primary_last
primary::primary_last-returns-then-glues t c =
    if_no (sym c.ranged_by.ensures ∙ c.if-ranged_by.false) (if_no (sym c.ranged_by-2.ensures ∙ c.if-ranged_by-2.false) (if_yes (sym c.glues.ensures ∙ c.if-glues.true) (both (c.in_ok-push.ensures.under _) (both (c.in_ok-expr_object.ensures.under _) c.finish-then-glues.ensures))))

pub primary::primary_last-returns-in_err-recover : goal.primary::primary_last-returns-in_err-recover
unfolding primary_last
primary::primary_last-returns-in_err-recover t c =
    thrown c.from_residual-in_err-recover.ensures (if_no (sym c.ranged_by.ensures ∙ c.if-ranged_by.false) (if_no (sym c.ranged_by-2.ensures ∙ c.if-ranged_by-2.false) (if_no (sym c.glues.ensures ∙ c.if-glues.false) (cut (c.in_err-recover.ensures.under _)))))

pub primary::primary_last-finish-requires-2 : goal.primary::primary_last-finish-requires-2
primary::primary_last-finish-requires-2 t c =
    step_marked (c.in_ok-recover.ensures.under _) c.requires

pub primary::primary_last-returns : goal.primary::primary_last-returns
unfolding primary_last
primary::primary_last-returns t c =
    if_no (sym c.ranged_by.ensures ∙ c.if-ranged_by.false) (if_no (sym c.ranged_by-2.ensures ∙ c.if-ranged_by-2.false) (if_no (sym c.glues.ensures ∙ c.if-glues.false) (both (c.in_ok-recover.ensures.under _) c.finish-2.ensures)))

pub primary::primary_path-returns-in_err-path : goal.primary::primary_path-returns-in_err-path
unfolding primary_path
primary::primary_path-returns-in_err-path t c =
    thrown c.from_residual.ensures (cut (c.in_err-path.ensures.under _))

pub primary::primary_path-expr_object-requires : goal.primary::primary_path-expr_object-requires
primary::primary_path-expr_object-requires t c =
    (omega (arith, c.decreases, (c.in_ok-path.ensures.under 0).kept.left), tt)

pub primary::primary_path-returns-in_err-expr_object : goal.primary::primary_path-returns-in_err-expr_object
unfolding primary_path
primary::primary_path-returns-in_err-expr_object t c =
    thrown c.from_residual-in_err-expr_object.ensures (both (c.in_ok-path.ensures.under _) (look c.peek-k.ensures (touch c.glued-g.ensures (if_yes (sym c.braced_by.ensures ∙ c.if-braced_by.true) (cut (c.in_err-expr_object.ensures.under _))))))

pub primary::primary_path-finish-requires : goal.primary::primary_path-finish-requires
primary::primary_path-finish-requires t c =
    step_marked (c.in_ok-expr_object.ensures.under _) (step_marked (c.in_ok-path.ensures.under _) c.requires)

pub primary::primary_path-returns-then-braced_by : goal.primary::primary_path-returns-then-braced_by
unfolding primary_path
primary::primary_path-returns-then-braced_by t c =
    both (c.in_ok-path.ensures.under _) (look c.peek-k.ensures (touch c.glued-g.ensures (if_yes (sym c.braced_by.ensures ∙ c.if-braced_by.true) (both (c.in_ok-expr_object.ensures.under _) c.finish.ensures))))

pub primary::primary_path-macro_call-requires : goal.primary::primary_path-macro_call-requires
primary::primary_path-macro_call-requires t c =
    step_marked (c.in_ok-path.ensures.under _) c.requires

pub primary::primary_path-returns-then-glues : goal.primary::primary_path-returns-then-glues
unfolding primary_path
primary::primary_path-returns-then-glues t c =
    both (c.in_ok-path.ensures.under _) (look c.peek-k.ensures (touch c.glued-g.ensures (if_no (sym c.braced_by.ensures ∙ c.if-braced_by.false) (if_yes (sym c.glues.ensures ∙ c.if-glues.true) c.macro_call.ensures))))

pub primary::primary_path-macro_call-requires-then-glues-2 : goal.primary::primary_path-macro_call-requires-then-glues-2
primary::primary_path-macro_call-requires-then-glues-2 t c =
    step_marked (c.in_ok-path.ensures.under _) c.requires

pub primary::primary_path-returns-then-glues-2 : goal.primary::primary_path-returns-then-glues-2
unfolding primary_path
primary::primary_path-returns-then-glues-2 t c =
    both (c.in_ok-path.ensures.under _) (look c.peek-k.ensures (touch c.glued-g.ensures (if_no (sym c.braced_by.ensures ∙ c.if-braced_by.false) (if_no (sym c.glues.ensures ∙ c.if-glues.false) (if_yes (sym c.glues-2.ensures ∙ c.if-glues-2.true) c.macro_call-then-glues-2.ensures)))))

pub primary::primary_path-returns : goal.primary::primary_path-returns
unfolding primary_path
primary::primary_path-returns t c =
    both (c.in_ok-path.ensures.under _) (look c.peek-k.ensures (touch c.glued-g.ensures (if_no (sym c.braced_by.ensures ∙ c.if-braced_by.false) (if_no (sym c.glues.ensures ∙ c.if-glues.false) (if_no (sym c.glues-2.ensures ∙ c.if-glues-2.false) nothing)))))

pub primary::primary_sign-returns-in_err-push-in-46 : goal.primary::primary_sign-returns-in_err-push-in-46
unfolding primary_sign
primary::primary_sign-returns-in_err-push-in-46 t c =
    thrown c.from_residual.ensures (if_yes (eq-eqb _ _ c.in-46.is) (cut (c.in_err-push-in-46.ensures.under _)))

pub primary::primary_sign-expr_with-requires : goal.primary::primary_sign-expr_with-requires
primary::primary_sign-expr_with-requires t c =
    (omega (arith, c.decreases, (c.in_ok-push-in-46.ensures.under 0).kept.left), tt)

pub primary::primary_sign-returns-in_err-expr_with-in-46 : goal.primary::primary_sign-returns-in_err-expr_with-in-46
unfolding primary_sign
primary::primary_sign-returns-in_err-expr_with-in-46 t c =
    thrown c.from_residual-in_err-expr_with-in-46.ensures (if_yes (eq-eqb _ _ c.in-46.is) (both (c.in_ok-push-in-46.ensures.under _) (cut (c.in_err-expr_with-in-46.ensures.under _))))

pub primary::primary_sign-finish-requires : goal.primary::primary_sign-finish-requires
primary::primary_sign-finish-requires t c =
    step_marked (c.in_ok-expr_with-in-46.ensures.under _) (step_marked (c.in_ok-push-in-46.ensures.under _) c.requires)

pub primary::primary_sign-closure_arguments-requires : goal.primary::primary_sign-closure_arguments-requires
primary::primary_sign-closure_arguments-requires t c =
    (omega (arith, c.decreases), tt)

pub primary::primary_sign-returns-in_err-closure_arguments-in-50 : goal.primary::primary_sign-returns-in_err-closure_arguments-in-50
unfolding primary_sign
primary::primary_sign-returns-in_err-closure_arguments-in-50 t c =
    thrown c.from_residual-in_err-closure_arguments-in-50.ensures (if_no (not_key 46 c.in-50.is refl) (if_yes (eq-eqb _ _ c.in-50.is) (cut (c.in_err-closure_arguments-in-50.ensures.under _))))

pub primary::primary_sign-expr_with-requires-in-50 : goal.primary::primary_sign-expr_with-requires-in-50
primary::primary_sign-expr_with-requires-in-50 t c =
    (omega (arith, c.decreases, (c.in_ok-closure_arguments-in-50.ensures.under 0).kept.left), tt)

pub primary::primary_sign-returns-in_err-expr_with-in-50 : goal.primary::primary_sign-returns-in_err-expr_with-in-50
unfolding primary_sign
primary::primary_sign-returns-in_err-expr_with-in-50 t c =
    thrown c.from_residual-in_err-expr_with-in-50.ensures (if_no (not_key 46 c.in-50.is refl) (if_yes (eq-eqb _ _ c.in-50.is) (both (c.in_ok-closure_arguments-in-50.ensures.under _) (cut (c.in_err-expr_with-in-50.ensures.under _)))))

pub primary::primary_sign-finish-requires-in-50 : goal.primary::primary_sign-finish-requires-in-50
primary::primary_sign-finish-requires-in-50 t c =
    step_marked (c.in_ok-expr_with-in-50.ensures.under _) (step_marked (c.in_ok-closure_arguments-in-50.ensures.under _) c.requires)

pub primary::primary_sign-returns-in_err-bump-in_default : goal.primary::primary_sign-returns-in_err-bump-in_default
unfolding primary_sign
primary::primary_sign-returns-in_err-bump-in_default t c =
    thrown c.from_residual-in_err-bump-in_default.ensures (if_no (ne_eqb _ _ (omega arith)) (if_no (ne_eqb _ _ (omega arith)) (if_yes (sym c.glues.ensures ∙ c.if-glues.true) (cut (c.in_err-bump-in_default.ensures.under _)))))

pub primary::primary_sign-returns-in_err-bump-in_default-2 : goal.primary::primary_sign-returns-in_err-bump-in_default-2
unfolding primary_sign
primary::primary_sign-returns-in_err-bump-in_default-2 t c =
    thrown c.from_residual-in_err-bump-in_default-2.ensures (if_no (ne_eqb _ _ (omega arith)) (if_no (ne_eqb _ _ (omega arith)) (if_yes (sym c.glues.ensures ∙ c.if-glues.true) (both (c.in_ok-bump-in_default.ensures.under _) (cut (c.in_err-bump-in_default-2.ensures.under _))))))

pub primary::primary_sign-finish-requires-in_default : goal.primary::primary_sign-finish-requires-in_default
primary::primary_sign-finish-requires-in_default t c =
    step_marked (c.in_ok-bump-in_default-2.ensures.under _) (step_marked (c.in_ok-bump-in_default.ensures.under _) c.requires)

pub primary::primary_sign-returns-in_err-bump-in_default-2-2 : goal.primary::primary_sign-returns-in_err-bump-in_default-2-2
unfolding primary_sign
primary::primary_sign-returns-in_err-bump-in_default-2-2 t c =
    thrown c.from_residual-in_err-bump-in_default-2-2.ensures (if_no (ne_eqb _ _ (omega arith)) (if_no (ne_eqb _ _ (omega arith)) (if_no (sym c.glues.ensures ∙ c.if-glues.false) (if_yes (sym c.is_unary.ensures ∙ c.if-is_unary.true) (cut (c.in_err-bump-in_default-2-2.ensures.under _))))))

pub primary::primary_sign-outer_expr_with-requires : goal.primary::primary_sign-outer_expr_with-requires
primary::primary_sign-outer_expr_with-requires t c =
    (omega (arith, c.decreases, (c.in_ok-bump-in_default-2-2.ensures.under 0).kept.left), tt)

pub primary::primary_sign-returns-in_err-outer_expr_with-in_default-2 : goal.primary::primary_sign-returns-in_err-outer_expr_with-in_default-2
unfolding primary_sign
primary::primary_sign-returns-in_err-outer_expr_with-in_default-2 t c =
    thrown c.from_residual-in_err-outer_expr_with-in_default-2.ensures (if_no (ne_eqb _ _ (omega arith)) (if_no (ne_eqb _ _ (omega arith)) (if_no (sym c.glues.ensures ∙ c.if-glues.false) (if_yes (sym c.is_unary.ensures ∙ c.if-is_unary.true) (both (c.in_ok-bump-in_default-2-2.ensures.under _) (cut (c.in_err-outer_expr_with-in_default-2.ensures.under _)))))))

pub primary::primary_sign-finish-requires-in_default-2 : goal.primary::primary_sign-finish-requires-in_default-2
primary::primary_sign-finish-requires-in_default-2 t c =
    step_marked (c.in_ok-outer_expr_with-in_default-2.ensures.under _) (step_marked (c.in_ok-bump-in_default-2-2.ensures.under _) c.requires)

pub primary::primary_sign-primary_word-requires : goal.primary::primary_sign-primary_word-requires
primary::primary_sign-primary_word-requires t c =
    (omega (arith, c.decreases), c.requires)

pub primary::primary_sign-returns-in_ok-expr_with-in-46 : goal.primary::primary_sign-returns-in_ok-expr_with-in-46
unfolding primary_sign
primary::primary_sign-returns-in_ok-expr_with-in-46 t c =
    if_yes (eq-eqb _ _ c.in-46.is) (both (c.in_ok-push-in-46.ensures.under _) (both (c.in_ok-expr_with-in-46.ensures.under _) c.finish.ensures))

pub primary::primary_sign-returns-in_ok-expr_with-in-50 : goal.primary::primary_sign-returns-in_ok-expr_with-in-50
unfolding primary_sign
primary::primary_sign-returns-in_ok-expr_with-in-50 t c =
    if_no (not_key 46 c.in-50.is refl) (if_yes (eq-eqb _ _ c.in-50.is) (both (c.in_ok-closure_arguments-in-50.ensures.under _) (both (c.in_ok-expr_with-in-50.ensures.under _) c.finish-in-50.ensures)))

pub primary::primary_sign-returns-in_ok-bump-in_default-2 : goal.primary::primary_sign-returns-in_ok-bump-in_default-2
unfolding primary_sign
primary::primary_sign-returns-in_ok-bump-in_default-2 t c =
    if_no (ne_eqb _ _ (omega arith)) (if_no (ne_eqb _ _ (omega arith)) (if_yes (sym c.glues.ensures ∙ c.if-glues.true) (both (c.in_ok-bump-in_default.ensures.under _) (both (c.in_ok-bump-in_default-2.ensures.under _) c.finish-in_default.ensures))))

pub primary::primary_sign-returns-in_ok-outer_expr_with-in_default-2 : goal.primary::primary_sign-returns-in_ok-outer_expr_with-in_default-2
unfolding primary_sign
primary::primary_sign-returns-in_ok-outer_expr_with-in_default-2 t c =
    if_no (ne_eqb _ _ (omega arith)) (if_no (ne_eqb _ _ (omega arith)) (if_no (sym c.glues.ensures ∙ c.if-glues.false) (if_yes (sym c.is_unary.ensures ∙ c.if-is_unary.true) (both (c.in_ok-bump-in_default-2-2.ensures.under _) (both (c.in_ok-outer_expr_with-in_default-2.ensures.under _) c.finish-in_default-2.ensures)))))

pub primary::primary_sign-returns-in_default-3 : goal.primary::primary_sign-returns-in_default-3
unfolding primary_sign
primary::primary_sign-returns-in_default-3 t c =
    if_no (ne_eqb _ _ (omega arith)) (if_no (ne_eqb _ _ (omega arith)) (if_no (sym c.glues.ensures ∙ c.if-glues.false) (if_no (sym c.is_unary.ensures ∙ c.if-is_unary.false) c.primary_word.ensures)))

pub primary::primary_word-expr_if-requires : goal.primary::primary_word-expr_if-requires
primary::primary_word-expr_if-requires t c =
    (omega (arith, c.decreases), tt)

pub primary::primary_word-returns-in_err-expr_if-in-81 : goal.primary::primary_word-returns-in_err-expr_if-in-81
unfolding primary_word
primary::primary_word-returns-in_err-expr_if-in-81 t c =
    thrown c.from_residual.ensures (if_yes (eq-eqb _ _ c.in-81.is) (cut (c.in_err-expr_if-in-81.ensures.under _)))

pub primary::primary_word-finish-requires : goal.primary::primary_word-finish-requires
primary::primary_word-finish-requires t c =
    step_marked (c.in_ok-expr_if-in-81.ensures.under _) c.requires

pub primary::primary_word-expr_while-requires : goal.primary::primary_word-expr_while-requires
primary::primary_word-expr_while-requires t c =
    (omega (arith, c.decreases), tt)

pub primary::primary_word-returns-in_err-expr_while-in-94 : goal.primary::primary_word-returns-in_err-expr_while-in-94
unfolding primary_word
primary::primary_word-returns-in_err-expr_while-in-94 t c =
    thrown c.from_residual-in_err-expr_while-in-94.ensures (if_no (not_key 81 c.in-94.is refl) (if_yes (eq-eqb _ _ c.in-94.is) (cut (c.in_err-expr_while-in-94.ensures.under _))))

pub primary::primary_word-finish-requires-in-94 : goal.primary::primary_word-finish-requires-in-94
primary::primary_word-finish-requires-in-94 t c =
    step_marked (c.in_ok-expr_while-in-94.ensures.under _) c.requires

pub primary::primary_word-expr_loop-requires : goal.primary::primary_word-expr_loop-requires
primary::primary_word-expr_loop-requires t c =
    (omega (arith, c.decreases), tt)

pub primary::primary_word-returns-in_err-expr_loop-in-85 : goal.primary::primary_word-returns-in_err-expr_loop-in-85
unfolding primary_word
primary::primary_word-returns-in_err-expr_loop-in-85 t c =
    thrown c.from_residual-in_err-expr_loop-in-85.ensures (if_no (not_key 81 c.in-85.is refl) (if_no (not_key 94 c.in-85.is refl) (if_yes (eq-eqb _ _ c.in-85.is) (cut (c.in_err-expr_loop-in-85.ensures.under _)))))

pub primary::primary_word-finish-requires-in-85 : goal.primary::primary_word-finish-requires-in-85
primary::primary_word-finish-requires-in-85 t c =
    step_marked (c.in_ok-expr_loop-in-85.ensures.under _) c.requires

pub primary::primary_word-returns-in_err-bump-in-73 : goal.primary::primary_word-returns-in_err-bump-in-73
unfolding primary_word
primary::primary_word-returns-in_err-bump-in-73 t c =
    thrown c.from_residual-in_err-bump-in-73.ensures (if_no (not_key 81 c.in-73.is refl) (if_no (not_key 94 c.in-73.is refl) (if_no (not_key 85 c.in-73.is refl) (if_yes (eq-eqb _ _ c.in-73.is) (cut (c.in_err-bump-in-73.ensures.under _))))))

pub primary::primary_word-returns-in_err-labels-in-73 : goal.primary::primary_word-returns-in_err-labels-in-73
unfolding primary_word
primary::primary_word-returns-in_err-labels-in-73 t c =
    thrown c.from_residual-in_err-labels-in-73.ensures (if_no (not_key 81 c.in-73.is refl) (if_no (not_key 94 c.in-73.is refl) (if_no (not_key 85 c.in-73.is refl) (if_yes (eq-eqb _ _ c.in-73.is) (both (c.in_ok-bump-in-73.ensures.under _) (cut (c.in_err-labels-in-73.ensures.under _)))))))

pub primary::primary_word-expr_if_any-requires : goal.primary::primary_word-expr_if_any-requires
primary::primary_word-expr_if_any-requires t c =
    (omega (arith, c.decreases, (c.in_ok-bump-in-73.ensures.under 0).kept.left, (c.in_ok-labels-in-73.ensures.under 0).kept.left), tt)

pub primary::primary_word-returns-in_err-expr_if_any-in-73 : goal.primary::primary_word-returns-in_err-expr_if_any-in-73
unfolding primary_word
primary::primary_word-returns-in_err-expr_if_any-in-73 t c =
    thrown c.from_residual-in_err-expr_if_any-in-73.ensures (if_no (not_key 81 c.in-73.is refl) (if_no (not_key 94 c.in-73.is refl) (if_no (not_key 85 c.in-73.is refl) (if_yes (eq-eqb _ _ c.in-73.is) (both (c.in_ok-bump-in-73.ensures.under _) (both (c.in_ok-labels-in-73.ensures.under _) (cut (c.in_err-expr_if_any-in-73.ensures.under _))))))))

pub primary::primary_word-finish-requires-in-73 : goal.primary::primary_word-finish-requires-in-73
primary::primary_word-finish-requires-in-73 t c =
    step_marked (c.in_ok-expr_if_any-in-73.ensures.under _) (step_marked (c.in_ok-labels-in-73.ensures.under _) (step_marked (c.in_ok-bump-in-73.ensures.under _) c.requires))

pub primary::primary_word-returns-in_err-bump-in-75 : goal.primary::primary_word-returns-in_err-bump-in-75
unfolding primary_word
primary::primary_word-returns-in_err-bump-in-75 t c =
    thrown c.from_residual-in_err-bump-in-75.ensures (if_no (not_key 81 c.in-75.is refl) (if_no (not_key 94 c.in-75.is refl) (if_no (not_key 85 c.in-75.is refl) (if_no (not_key 73 c.in-75.is refl) (if_yes (eq-eqb _ _ c.in-75.is) (cut (c.in_err-bump-in-75.ensures.under _)))))))

pub primary::primary_word-returns-in_err-labels-in-75 : goal.primary::primary_word-returns-in_err-labels-in-75
unfolding primary_word
primary::primary_word-returns-in_err-labels-in-75 t c =
    thrown c.from_residual-in_err-labels-in-75.ensures (if_no (not_key 81 c.in-75.is refl) (if_no (not_key 94 c.in-75.is refl) (if_no (not_key 85 c.in-75.is refl) (if_no (not_key 73 c.in-75.is refl) (if_yes (eq-eqb _ _ c.in-75.is) (both (c.in_ok-bump-in-75.ensures.under _) (cut (c.in_err-labels-in-75.ensures.under _))))))))

pub primary::primary_word-finish-requires-in-75 : goal.primary::primary_word-finish-requires-in-75
primary::primary_word-finish-requires-in-75 t c =
    step_marked (c.in_ok-labels-in-75.ensures.under _) (step_marked (c.in_ok-bump-in-75.ensures.under _) c.requires)

pub primary::primary_word-returns-in_err-bump-in-90 : goal.primary::primary_word-returns-in_err-bump-in-90
unfolding primary_word
primary::primary_word-returns-in_err-bump-in-90 t c =
    thrown c.from_residual-in_err-bump-in-90.ensures (if_no (not_key 81 c.in-90.is refl) (if_no (not_key 94 c.in-90.is refl) (if_no (not_key 85 c.in-90.is refl) (if_no (not_key 73 c.in-90.is refl) (if_no (not_key 75 c.in-90.is refl) (if_yes (eq-eqb _ _ c.in-90.is) (cut (c.in_err-bump-in-90.ensures.under _))))))))

pub primary::primary_word-expr_if_any-requires-in-90 : goal.primary::primary_word-expr_if_any-requires-in-90
primary::primary_word-expr_if_any-requires-in-90 t c =
    (omega (arith, c.decreases, (c.in_ok-bump-in-90.ensures.under 0).kept.left), tt)

pub primary::primary_word-returns-in_err-expr_if_any-in-90 : goal.primary::primary_word-returns-in_err-expr_if_any-in-90
unfolding primary_word
primary::primary_word-returns-in_err-expr_if_any-in-90 t c =
    thrown c.from_residual-in_err-expr_if_any-in-90.ensures (if_no (not_key 81 c.in-90.is refl) (if_no (not_key 94 c.in-90.is refl) (if_no (not_key 85 c.in-90.is refl) (if_no (not_key 73 c.in-90.is refl) (if_no (not_key 75 c.in-90.is refl) (if_yes (eq-eqb _ _ c.in-90.is) (both (c.in_ok-bump-in-90.ensures.under _) (cut (c.in_err-expr_if_any-in-90.ensures.under _)))))))))

pub primary::primary_word-finish-requires-in-90 : goal.primary::primary_word-finish-requires-in-90
primary::primary_word-finish-requires-in-90 t c =
    step_marked (c.in_ok-expr_if_any-in-90.ensures.under _) (step_marked (c.in_ok-bump-in-90.ensures.under _) c.requires)

pub primary::primary_word-returns-in_err-bump-in-95 : goal.primary::primary_word-returns-in_err-bump-in-95
unfolding primary_word
primary::primary_word-returns-in_err-bump-in-95 t c =
    thrown c.from_residual-in_err-bump-in-95.ensures (if_no (not_key 81 c.in-95.is refl) (if_no (not_key 94 c.in-95.is refl) (if_no (not_key 85 c.in-95.is refl) (if_no (not_key 73 c.in-95.is refl) (if_no (not_key 75 c.in-95.is refl) (if_no (not_key 90 c.in-95.is refl) (if_yes (eq-eqb _ _ c.in-95.is) (cut (c.in_err-bump-in-95.ensures.under _)))))))))

pub primary::primary_word-expr_if_any-requires-in-95 : goal.primary::primary_word-expr_if_any-requires-in-95
primary::primary_word-expr_if_any-requires-in-95 t c =
    (omega (arith, c.decreases, (c.in_ok-bump-in-95.ensures.under 0).kept.left), tt)

pub primary::primary_word-returns-in_err-expr_if_any-in-95 : goal.primary::primary_word-returns-in_err-expr_if_any-in-95
unfolding primary_word
primary::primary_word-returns-in_err-expr_if_any-in-95 t c =
    thrown c.from_residual-in_err-expr_if_any-in-95.ensures (if_no (not_key 81 c.in-95.is refl) (if_no (not_key 94 c.in-95.is refl) (if_no (not_key 85 c.in-95.is refl) (if_no (not_key 73 c.in-95.is refl) (if_no (not_key 75 c.in-95.is refl) (if_no (not_key 90 c.in-95.is refl) (if_yes (eq-eqb _ _ c.in-95.is) (both (c.in_ok-bump-in-95.ensures.under _) (cut (c.in_err-expr_if_any-in-95.ensures.under _))))))))))

pub primary::primary_word-finish-requires-in-95 : goal.primary::primary_word-finish-requires-in-95
primary::primary_word-finish-requires-in-95 t c =
    step_marked (c.in_ok-expr_if_any-in-95.ensures.under _) (step_marked (c.in_ok-bump-in-95.ensures.under _) c.requires)

pub primary::primary_word-expr_for-requires : goal.primary::primary_word-expr_for-requires
primary::primary_word-expr_for-requires t c =
    (omega (arith, c.decreases), tt)

pub primary::primary_word-returns-in_err-expr_for-in-80 : goal.primary::primary_word-returns-in_err-expr_for-in-80
unfolding primary_word
primary::primary_word-returns-in_err-expr_for-in-80 t c =
    thrown c.from_residual-in_err-expr_for-in-80.ensures (if_no (not_key 81 c.in-80.is refl) (if_no (not_key 94 c.in-80.is refl) (if_no (not_key 85 c.in-80.is refl) (if_no (not_key 73 c.in-80.is refl) (if_no (not_key 75 c.in-80.is refl) (if_no (not_key 90 c.in-80.is refl) (if_no (not_key 95 c.in-80.is refl) (if_yes (eq-eqb _ _ c.in-80.is) (cut (c.in_err-expr_for-in-80.ensures.under _))))))))))

pub primary::primary_word-finish-requires-in-80 : goal.primary::primary_word-finish-requires-in-80
primary::primary_word-finish-requires-in-80 t c =
    step_marked (c.in_ok-expr_for-in-80.ensures.under _) c.requires

pub primary::primary_word-expr_select-requires : goal.primary::primary_word-expr_select-requires
primary::primary_word-expr_select-requires t c =
    (omega (arith, c.decreases), tt)

pub primary::primary_word-returns-in_err-expr_select-in-91 : goal.primary::primary_word-returns-in_err-expr_select-in-91
unfolding primary_word
primary::primary_word-returns-in_err-expr_select-in-91 t c =
    thrown c.from_residual-in_err-expr_select-in-91.ensures (if_no (not_key 81 c.in-91.is refl) (if_no (not_key 94 c.in-91.is refl) (if_no (not_key 85 c.in-91.is refl) (if_no (not_key 73 c.in-91.is refl) (if_no (not_key 75 c.in-91.is refl) (if_no (not_key 90 c.in-91.is refl) (if_no (not_key 95 c.in-91.is refl) (if_no (not_key 80 c.in-91.is refl) (if_yes (eq-eqb _ _ c.in-91.is) (cut (c.in_err-expr_select-in-91.ensures.under _)))))))))))

pub primary::primary_word-finish-requires-in-91 : goal.primary::primary_word-finish-requires-in-91
primary::primary_word-finish-requires-in-91 t c =
    step_marked (c.in_ok-expr_select-in-91.ensures.under _) c.requires

pub primary::primary_word-expr_match-requires : goal.primary::primary_word-expr_match-requires
primary::primary_word-expr_match-requires t c =
    (omega (arith, c.decreases), tt)

pub primary::primary_word-returns-in_err-expr_match-in-86 : goal.primary::primary_word-returns-in_err-expr_match-in-86
unfolding primary_word
primary::primary_word-returns-in_err-expr_match-in-86 t c =
    thrown c.from_residual-in_err-expr_match-in-86.ensures (if_no (not_key 81 c.in-86.is refl) (if_no (not_key 94 c.in-86.is refl) (if_no (not_key 85 c.in-86.is refl) (if_no (not_key 73 c.in-86.is refl) (if_no (not_key 75 c.in-86.is refl) (if_no (not_key 90 c.in-86.is refl) (if_no (not_key 95 c.in-86.is refl) (if_no (not_key 80 c.in-86.is refl) (if_no (not_key 91 c.in-86.is refl) (if_yes (eq-eqb _ _ c.in-86.is) (cut (c.in_err-expr_match-in-86.ensures.under _))))))))))))

pub primary::primary_word-finish-requires-in-86 : goal.primary::primary_word-finish-requires-in-86
primary::primary_word-finish-requires-in-86 t c =
    step_marked (c.in_ok-expr_match-in-86.ensures.under _) c.requires

pub primary::primary_word-primary_last-requires : goal.primary::primary_word-primary_last-requires
primary::primary_word-primary_last-requires t c =
    (omega (arith, c.decreases), c.requires)

pub primary::primary_word-returns-in_ok-expr_if-in-81 : goal.primary::primary_word-returns-in_ok-expr_if-in-81
unfolding primary_word
primary::primary_word-returns-in_ok-expr_if-in-81 t c =
    if_yes (eq-eqb _ _ c.in-81.is) (both (c.in_ok-expr_if-in-81.ensures.under _) c.finish.ensures)

pub primary::primary_word-returns-in_ok-expr_while-in-94 : goal.primary::primary_word-returns-in_ok-expr_while-in-94
unfolding primary_word
primary::primary_word-returns-in_ok-expr_while-in-94 t c =
    if_no (not_key 81 c.in-94.is refl) (if_yes (eq-eqb _ _ c.in-94.is) (both (c.in_ok-expr_while-in-94.ensures.under _) c.finish-in-94.ensures))

pub primary::primary_word-returns-in_ok-expr_loop-in-85 : goal.primary::primary_word-returns-in_ok-expr_loop-in-85
unfolding primary_word
primary::primary_word-returns-in_ok-expr_loop-in-85 t c =
    if_no (not_key 81 c.in-85.is refl) (if_no (not_key 94 c.in-85.is refl) (if_yes (eq-eqb _ _ c.in-85.is) (both (c.in_ok-expr_loop-in-85.ensures.under _) c.finish-in-85.ensures)))

pub primary::primary_word-returns-in_ok-expr_if_any-in-73 : goal.primary::primary_word-returns-in_ok-expr_if_any-in-73
unfolding primary_word
primary::primary_word-returns-in_ok-expr_if_any-in-73 t c =
    if_no (not_key 81 c.in-73.is refl) (if_no (not_key 94 c.in-73.is refl) (if_no (not_key 85 c.in-73.is refl) (if_yes (eq-eqb _ _ c.in-73.is) (both (c.in_ok-bump-in-73.ensures.under _) (both (c.in_ok-labels-in-73.ensures.under _) (both (c.in_ok-expr_if_any-in-73.ensures.under _) c.finish-in-73.ensures))))))

pub primary::primary_word-returns-in_ok-labels-in-75 : goal.primary::primary_word-returns-in_ok-labels-in-75
unfolding primary_word
primary::primary_word-returns-in_ok-labels-in-75 t c =
    if_no (not_key 81 c.in-75.is refl) (if_no (not_key 94 c.in-75.is refl) (if_no (not_key 85 c.in-75.is refl) (if_no (not_key 73 c.in-75.is refl) (if_yes (eq-eqb _ _ c.in-75.is) (both (c.in_ok-bump-in-75.ensures.under _) (both (c.in_ok-labels-in-75.ensures.under _) c.finish-in-75.ensures))))))

pub primary::primary_word-returns-in_ok-expr_if_any-in-90 : goal.primary::primary_word-returns-in_ok-expr_if_any-in-90
unfolding primary_word
primary::primary_word-returns-in_ok-expr_if_any-in-90 t c =
    if_no (not_key 81 c.in-90.is refl) (if_no (not_key 94 c.in-90.is refl) (if_no (not_key 85 c.in-90.is refl) (if_no (not_key 73 c.in-90.is refl) (if_no (not_key 75 c.in-90.is refl) (if_yes (eq-eqb _ _ c.in-90.is) (both (c.in_ok-bump-in-90.ensures.under _) (both (c.in_ok-expr_if_any-in-90.ensures.under _) c.finish-in-90.ensures)))))))

pub primary::primary_word-returns-in_ok-expr_if_any-in-95 : goal.primary::primary_word-returns-in_ok-expr_if_any-in-95
unfolding primary_word
primary::primary_word-returns-in_ok-expr_if_any-in-95 t c =
    if_no (not_key 81 c.in-95.is refl) (if_no (not_key 94 c.in-95.is refl) (if_no (not_key 85 c.in-95.is refl) (if_no (not_key 73 c.in-95.is refl) (if_no (not_key 75 c.in-95.is refl) (if_no (not_key 90 c.in-95.is refl) (if_yes (eq-eqb _ _ c.in-95.is) (both (c.in_ok-bump-in-95.ensures.under _) (both (c.in_ok-expr_if_any-in-95.ensures.under _) c.finish-in-95.ensures))))))))

pub primary::primary_word-returns-in_ok-expr_for-in-80 : goal.primary::primary_word-returns-in_ok-expr_for-in-80
unfolding primary_word
primary::primary_word-returns-in_ok-expr_for-in-80 t c =
    if_no (not_key 81 c.in-80.is refl) (if_no (not_key 94 c.in-80.is refl) (if_no (not_key 85 c.in-80.is refl) (if_no (not_key 73 c.in-80.is refl) (if_no (not_key 75 c.in-80.is refl) (if_no (not_key 90 c.in-80.is refl) (if_no (not_key 95 c.in-80.is refl) (if_yes (eq-eqb _ _ c.in-80.is) (both (c.in_ok-expr_for-in-80.ensures.under _) c.finish-in-80.ensures))))))))

pub primary::primary_word-returns-in_ok-expr_select-in-91 : goal.primary::primary_word-returns-in_ok-expr_select-in-91
unfolding primary_word
primary::primary_word-returns-in_ok-expr_select-in-91 t c =
    if_no (not_key 81 c.in-91.is refl) (if_no (not_key 94 c.in-91.is refl) (if_no (not_key 85 c.in-91.is refl) (if_no (not_key 73 c.in-91.is refl) (if_no (not_key 75 c.in-91.is refl) (if_no (not_key 90 c.in-91.is refl) (if_no (not_key 95 c.in-91.is refl) (if_no (not_key 80 c.in-91.is refl) (if_yes (eq-eqb _ _ c.in-91.is) (both (c.in_ok-expr_select-in-91.ensures.under _) c.finish-in-91.ensures)))))))))

pub primary::primary_word-returns-in_ok-expr_match-in-86 : goal.primary::primary_word-returns-in_ok-expr_match-in-86
unfolding primary_word
primary::primary_word-returns-in_ok-expr_match-in-86 t c =
    if_no (not_key 81 c.in-86.is refl) (if_no (not_key 94 c.in-86.is refl) (if_no (not_key 85 c.in-86.is refl) (if_no (not_key 73 c.in-86.is refl) (if_no (not_key 75 c.in-86.is refl) (if_no (not_key 90 c.in-86.is refl) (if_no (not_key 95 c.in-86.is refl) (if_no (not_key 80 c.in-86.is refl) (if_no (not_key 91 c.in-86.is refl) (if_yes (eq-eqb _ _ c.in-86.is) (both (c.in_ok-expr_match-in-86.ensures.under _) c.finish-in-86.ensures))))))))))

pub primary::primary_word-returns-in_default : goal.primary::primary_word-returns-in_default
unfolding primary_word
primary::primary_word-returns-in_default t c =
    if_no (ne_eqb _ _ (omega arith)) (if_no (ne_eqb _ _ (omega arith)) (if_no (ne_eqb _ _ (omega arith)) (if_no (ne_eqb _ _ (omega arith)) (if_no (ne_eqb _ _ (omega arith)) (if_no (ne_eqb _ _ (omega arith)) (if_no (ne_eqb _ _ (omega arith)) (if_no (ne_eqb _ _ (omega arith)) (if_no (ne_eqb _ _ (omega arith)) (if_no (ne_eqb _ _ (omega arith)) c.primary_last.ensures)))))))))

pub operators::range_rest-returns-in_err-bump : goal.operators::range_rest-returns-in_err-bump
unfolding range_rest
operators::range_rest-returns-in_err-bump t c =
    thrown c.from_residual.ensures (cut (c.in_err-bump.ensures.under _))

pub operators::range_rest-outer_expr_with-requires : goal.operators::range_rest-outer_expr_with-requires
operators::range_rest-outer_expr_with-requires t c =
    (omega (arith, c.decreases, (c.in_ok-bump.ensures.under 0).kept.left), tt)

pub operators::range_rest-returns-in_err-outer_expr_with : goal.operators::range_rest-returns-in_err-outer_expr_with
unfolding range_rest
operators::range_rest-returns-in_err-outer_expr_with t c =
    thrown c.from_residual-in_err-outer_expr_with.ensures (both (c.in_ok-bump.ensures.under _) (ask_glued c.peek.ensures c.glued.ensures (if_yes (sym c.is_expr_with.ensures ∙ c.if-is_expr_with.true) (cut (c.in_err-outer_expr_with.ensures.under _)))))

pub operators::range_rest-finish-requires : goal.operators::range_rest-finish-requires
operators::range_rest-finish-requires t c =
    step_marked (c.in_ok-outer_expr_with.ensures.under _) (step_marked (c.in_ok-bump.ensures.under _) c.requires)

pub operators::range_rest-returns-then-is_expr_with : goal.operators::range_rest-returns-then-is_expr_with
unfolding range_rest
operators::range_rest-returns-then-is_expr_with t c =
    both (c.in_ok-bump.ensures.under _) (ask_glued c.peek.ensures c.glued.ensures (if_yes (sym c.is_expr_with.ensures ∙ c.if-is_expr_with.true) (both (c.in_ok-outer_expr_with.ensures.under _) c.finish.ensures)))

pub operators::range_rest-finish-requires-2 : goal.operators::range_rest-finish-requires-2
operators::range_rest-finish-requires-2 t c =
    step_marked (c.in_ok-bump.ensures.under _) c.requires

pub operators::range_rest-returns : goal.operators::range_rest-returns
unfolding range_rest
operators::range_rest-returns t c =
    both (c.in_ok-bump.ensures.under _) (ask_glued c.peek.ensures c.glued.ensures (if_no (sym c.is_expr_with.ensures ∙ c.if-is_expr_with.false) c.finish-2.ensures))

pub primary::range_to-returns-in_err-bump : goal.primary::range_to-returns-in_err-bump
unfolding range_to
primary::range_to-returns-in_err-bump t c =
    thrown c.from_residual.ensures (cut (c.in_err-bump.ensures.under _))

pub primary::range_to-outer_expr_with-requires : goal.primary::range_to-outer_expr_with-requires
primary::range_to-outer_expr_with-requires t c =
    (omega (arith, c.decreases, (c.in_ok-bump.ensures.under 0).kept.left), tt)

pub primary::range_to-returns-in_err-outer_expr_with : goal.primary::range_to-returns-in_err-outer_expr_with
unfolding range_to
primary::range_to-returns-in_err-outer_expr_with t c =
    thrown c.from_residual-in_err-outer_expr_with.ensures (both (c.in_ok-bump.ensures.under _) (ask_glued c.peek.ensures c.glued.ensures (if_yes (sym c.is_expr_with.ensures ∙ c.if-is_expr_with.true) (cut (c.in_err-outer_expr_with.ensures.under _)))))

pub primary::range_to-finish-requires : goal.primary::range_to-finish-requires
primary::range_to-finish-requires t c =
    step_marked (c.in_ok-outer_expr_with.ensures.under _) (step_marked (c.in_ok-bump.ensures.under _) c.requires)

pub primary::range_to-returns-then-is_expr_with : goal.primary::range_to-returns-then-is_expr_with
unfolding range_to
primary::range_to-returns-then-is_expr_with t c =
    both (c.in_ok-bump.ensures.under _) (ask_glued c.peek.ensures c.glued.ensures (if_yes (sym c.is_expr_with.ensures ∙ c.if-is_expr_with.true) (both (c.in_ok-outer_expr_with.ensures.under _) c.finish.ensures)))

pub primary::range_to-finish-requires-2 : goal.primary::range_to-finish-requires-2
primary::range_to-finish-requires-2 t c =
    step_marked (c.in_ok-bump.ensures.under _) c.requires

pub primary::range_to-returns : goal.primary::range_to-returns
unfolding range_to
primary::range_to-returns t c =
    both (c.in_ok-bump.ensures.under _) (ask_glued c.peek.ensures c.glued.ensures (if_no (sym c.is_expr_with.ensures ∙ c.if-is_expr_with.false) c.finish-2.ensures))

pub control::select_case-returns-in_err-c : goal.control::select_case-returns-in_err-c
unfolding select_case
control::select_case-returns-in_err-c t c =
    thrown_ran c.from_residual.ensures (unscoped c.in_err-c.ensures)

pub control::select_case-select_pat-requires : goal.control::select_case-select_pat-requires
control::select_case-select_pat-requires t c =
    (omega (arith, c.decreases, (c.in_ok-c.ensures.ran.under 0).kept.left), tt)

pub control::select_case-returns-in_err-select_pat : goal.control::select_case-returns-in_err-select_pat
unfolding select_case
control::select_case-returns-in_err-select_pat t c =
    thrown_ran c.from_residual-in_err-select_pat.ensures (scoped c.in_ok-c.ensures (cut (c.in_err-select_pat.ensures.under _)))

pub control::select_case-expr_after-requires : goal.control::select_case-expr_after-requires
control::select_case-expr_after-requires t c =
    (omega (arith, c.decreases, (c.in_ok-c.ensures.ran.under 0).kept.left, (c.in_ok-select_pat.ensures.under 0).kept.left), tt)

pub control::select_case-returns-in_err-expr_after : goal.control::select_case-returns-in_err-expr_after
unfolding select_case
control::select_case-returns-in_err-expr_after t c =
    thrown_ran c.from_residual-in_err-expr_after.ensures (scoped c.in_ok-c.ensures (both (c.in_ok-select_pat.ensures.under _) (cut (c.in_err-expr_after.ensures.under _))))

pub control::select_case-close_at-requires : goal.control::select_case-close_at-requires
control::select_case-close_at-requires t c =
    step_marked (c.in_ok-expr_after.ensures.under _) (step_marked (c.in_ok-select_pat.ensures.under _) (marked_now c.in_ok-c.ensures))

pub control::select_case-returns : goal.control::select_case-returns
unfolding select_case
control::select_case-returns t c =
    scoped c.in_ok-c.ensures (both (c.in_ok-select_pat.ensures.under _) (both (c.in_ok-expr_after.ensures.under _) c.close_at.ensures))

pub control::select_list-loop-p-init : goal.control::select_list-loop-p-init
unfolding select_list while_turn select_arm
control::select_list-loop-p-init t c =
    record { under = λ m. inv_start }

pub control::select_list-select_case-requires : goal.control::select_list-select_case-requires
control::select_list-select_case-requires t c =
    (omega (arith, c.decreases, (c.loop-p.invariant.under 0).kept.left), tt)

pub control::select_list-returns-in_err-select_case : goal.control::select_list-returns-in_err-select_case
unfolding select_list while_turn select_arm
control::select_list-returns-in_err-select_case t c =
    record { under = λ m. thrown c.from_residual.ensures (inv_end (c.loop-p.invariant.under _) (last_cut (ask_glued c.peek.ensures c.glued.ensures (if_yes (sym c.is_select_arm.ensures ∙ c.loop-p-test.true) (cut (cut (c.in_err-select_case.ensures.under _))))))) }

pub control::select_list-loop-p-smaller : goal.control::select_list-loop-p-smaller
control::select_list-loop-p-smaller t c =
    burns (kept_on (c.in_ok-select_case.ensures.under 0).kept (c.in_ok-bump_while.ensures.under 0).kept) (and_on (goes_glued (c.in_ok-select_case.ensures.under 0) c.peek.ensures c.glued.ensures is_select_arm (sym c.is_select_arm.ensures ∙ c.loop-p-test.true) select_case_further) (c.in_ok-bump_while.ensures.under 0))

pub control::select_list-loop-p-preserved : goal.control::select_list-loop-p-preserved
unfolding select_list while_turn select_arm
control::select_list-loop-p-preserved t c =
    record { under = λ m. inv_again (c.loop-p.invariant.under m) (ask_glued c.peek.ensures c.glued.ensures (if_yes (sym c.is_select_arm.ensures ∙ c.loop-p-test.true) (both (both (c.in_ok-select_case.ensures.under _) (ends (c.in_ok-bump_while.ensures.under _))) nothing))) (and_on (goes_glued (c.in_ok-select_case.ensures.under 0) c.peek.ensures c.glued.ensures is_select_arm (sym c.is_select_arm.ensures ∙ c.loop-p-test.true) select_case_further) (c.in_ok-bump_while.ensures.under 0)) }

pub control::select_list-returns-in_err-bump_while : goal.control::select_list-returns-in_err-bump_while
unfolding select_list while_turn select_arm
control::select_list-returns-in_err-bump_while t c =
    record { under = λ m. thrown c.from_residual-in_err-bump_while.ensures (inv_end (c.loop-p.invariant.under _) (last_cut (ask_glued c.peek.ensures c.glued.ensures (if_yes (sym c.is_select_arm.ensures ∙ c.loop-p-test.true) (cut (both (c.in_ok-select_case.ensures.under _) (cut (c.in_err-bump_while.ensures.under _)))))))) }

pub control::select_list-returns : goal.control::select_list-returns
unfolding select_list while_turn select_arm
control::select_list-returns t c =
    record { under = λ m. inv_end (c.loop-p.invariant.under _) (last (ask_glued c.peek.ensures c.glued.ensures (if_no (sym c.is_select_arm.ensures ∙ c.loop-p-test.false) nothing))) }

pub control::select_pat-returns-then-peek-eq-DEFAULT : goal.control::select_pat-returns-then-peek-eq-DEFAULT
unfolding select_pat
control::select_pat-returns-then-peek-eq-DEFAULT t c =
    record { under = λ m. ask c.peek.ensures (if_yes (eq-eqb _ _ c.if-peek-eq-DEFAULT.true) (c.bump.ensures.under _)) }

pub control::select_pat-returns-in_err-pat : goal.control::select_pat-returns-in_err-pat
unfolding select_pat
control::select_pat-returns-in_err-pat t c =
    record { under = λ m. thrown c.from_residual.ensures (ask c.peek.ensures (if_no (ne_eqb _ _ c.if-peek-eq-DEFAULT.false) (cut (c.in_err-pat.ensures.under _)))) }

pub control::select_pat-expr_after-requires : goal.control::select_pat-expr_after-requires
control::select_pat-expr_after-requires t c =
    (omega (arith, c.decreases, (c.in_ok-pat.ensures.under 0).kept.left), tt)

pub control::select_pat-returns : goal.control::select_pat-returns
unfolding select_pat
control::select_pat-returns t c =
    record { under = λ m. ask c.peek.ensures (if_no (ne_eqb _ _ c.if-peek-eq-DEFAULT.false) (both (c.in_ok-pat.ensures.under _) (c.expr_after.ensures.under _))) }

pub statements::stmt-returns-in_err-left : goal.statements::stmt-returns-in_err-left
unfolding stmt grammar
statements::stmt-returns-in_err-left t c =
    record { under = λ m. thrown c.from_residual.ensures (cut (barred c.in_err-left.ensures)) }

pub statements::stmt-stmt_once-done-requires : goal.statements::stmt-stmt_once-done-requires
statements::stmt-stmt_once-done-requires t c =
    (omega (arith, c.decreases, c.in_ok-left.ensures.some.1), tt)

pub statements::stmt-returns : goal.statements::stmt-returns
unfolding stmt grammar
statements::stmt-returns t c =
    record { under = λ m. entered_as (λ a. 0) (λ n. tt) (λ a. refl) refl c.in_ok-left.ensures (c.stmt_once-done.ensures.under _) c.leave.ensures }

pub statements::stmt_expr-returns-in_err-labels : goal.statements::stmt_expr-returns-in_err-labels
unfolding stmt_expr
statements::stmt_expr-returns-in_err-labels t c =
    record { under = λ m. thrown c.from_residual.ensures (cut (c.in_err-labels.ensures.under _)) }

pub statements::stmt_expr-outer_expr_with-requires : goal.statements::stmt_expr-outer_expr_with-requires
statements::stmt_expr-outer_expr_with-requires t c =
    (omega (arith, c.decreases, (c.in_ok-labels.ensures.under 0).kept.left), tt)

pub statements::stmt_expr-returns-in_err-kind : goal.statements::stmt_expr-returns-in_err-kind
unfolding stmt_expr
statements::stmt_expr-returns-in_err-kind t c =
    record { under = λ m. thrown c.from_residual-in_err-kind.ensures (both (c.in_ok-labels.ensures.under _) (cut (c.in_err-kind.ensures.under _))) }

pub statements::stmt_expr-returns-then-kind : goal.statements::stmt_expr-returns-then-kind
unfolding stmt_expr
statements::stmt_expr-returns-then-kind t c =
    record { under = λ m. both (c.in_ok-labels.ensures.under _) (both (c.in_ok-kind.ensures.under _) (if_yes (eq-eqb _ _ c.if-kind.true) nothing)) }

pub statements::stmt_expr-returns : goal.statements::stmt_expr-returns
unfolding stmt_expr
statements::stmt_expr-returns t c =
    record { under = λ m. both (c.in_ok-labels.ensures.under _) (both (c.in_ok-kind.ensures.under _) (if_no (ne_eqb _ _ c.if-kind.false) nothing)) }

pub statements::stmt_inner-returns-in_err-c : goal.statements::stmt_inner-returns-in_err-c
unfolding stmt_inner
statements::stmt_inner-returns-in_err-c t c =
    thrown_ran c.from_residual.ensures (unscoped c.in_err-c.ensures)

pub statements::stmt_inner-returns-in_err-constant : goal.statements::stmt_inner-returns-in_err-constant
unfolding stmt_inner
statements::stmt_inner-returns-in_err-constant t c =
    thrown_ran c.from_residual-in_err-constant.ensures (scoped c.in_ok-c.ensures (cut (c.in_err-constant.ensures.under _)))

pub statements::stmt_inner-stmt_kind-requires : goal.statements::stmt_inner-stmt_kind-requires
statements::stmt_inner-stmt_kind-requires t c =
    (omega (arith, c.decreases, (c.in_ok-c.ensures.ran.under 0).kept.left, (c.in_ok-constant.ensures.under 0).kept.left), step_marked (c.in_ok-constant.ensures.under _) (marked_now c.in_ok-c.ensures))

pub statements::stmt_inner-returns : goal.statements::stmt_inner-returns
unfolding stmt_inner
statements::stmt_inner-returns t c =
    scoped c.in_ok-c.ensures (both (c.in_ok-constant.ensures.under _) (look c.peek-k.ensures c.stmt_kind.ensures))

pub statements::stmt_kind-local-requires : goal.statements::stmt_kind-local-requires
statements::stmt_kind-local-requires t c =
    (omega (arith, c.decreases), tt)

pub statements::stmt_kind-returns-in_err-local-in-84 : goal.statements::stmt_kind-returns-in_err-local-in-84
unfolding stmt_kind
statements::stmt_kind-returns-in_err-local-in-84 t c =
    thrown c.from_residual.ensures (if_yes (eq-eqb _ _ c.in-84.is) (cut (c.in_err-local-in-84.ensures.under _)))

pub statements::stmt_kind-returns-in_err-item_use-in-93 : goal.statements::stmt_kind-returns-in_err-item_use-in-93
unfolding stmt_kind
statements::stmt_kind-returns-in_err-item_use-in-93 t c =
    thrown c.from_residual-in_err-item_use-in-93.ensures (if_no (not_key 84 c.in-93.is refl) (if_yes (eq-eqb _ _ c.in-93.is) (cut (c.in_err-item_use-in-93.ensures.under _))))

pub statements::stmt_kind-stmt_item-requires : goal.statements::stmt_kind-stmt_item-requires
statements::stmt_kind-stmt_item-requires t c =
    step_marked (c.in_ok-item_use-in-93.ensures.under _) c.requires

pub statements::stmt_kind-returns-in_err-item_struct-in-92 : goal.statements::stmt_kind-returns-in_err-item_struct-in-92
unfolding stmt_kind
statements::stmt_kind-returns-in_err-item_struct-in-92 t c =
    thrown c.from_residual-in_err-item_struct-in-92.ensures (if_no (not_key 84 c.in-92.is refl) (if_no (not_key 93 c.in-92.is refl) (if_yes (eq-eqb _ _ c.in-92.is) (cut (c.in_err-item_struct-in-92.ensures.under _)))))

pub statements::stmt_kind-stmt_item-requires-in-92 : goal.statements::stmt_kind-stmt_item-requires-in-92
statements::stmt_kind-stmt_item-requires-in-92 t c =
    step_marked (c.in_ok-item_struct-in-92.ensures.under _) c.requires

pub statements::stmt_kind-returns-in_err-item_enum-in-78 : goal.statements::stmt_kind-returns-in_err-item_enum-in-78
unfolding stmt_kind
statements::stmt_kind-returns-in_err-item_enum-in-78 t c =
    thrown c.from_residual-in_err-item_enum-in-78.ensures (if_no (not_key 84 c.in-78.is refl) (if_no (not_key 93 c.in-78.is refl) (if_no (not_key 92 c.in-78.is refl) (if_yes (eq-eqb _ _ c.in-78.is) (cut (c.in_err-item_enum-in-78.ensures.under _))))))

pub statements::stmt_kind-stmt_item-requires-in-78 : goal.statements::stmt_kind-stmt_item-requires-in-78
statements::stmt_kind-stmt_item-requires-in-78 t c =
    step_marked (c.in_ok-item_enum-in-78.ensures.under _) c.requires

pub statements::stmt_kind-item_fn-requires : goal.statements::stmt_kind-item_fn-requires
statements::stmt_kind-item_fn-requires t c =
    (omega (arith, c.decreases), tt)

pub statements::stmt_kind-returns-in_err-item_fn-in-79 : goal.statements::stmt_kind-returns-in_err-item_fn-in-79
unfolding stmt_kind
statements::stmt_kind-returns-in_err-item_fn-in-79 t c =
    thrown c.from_residual-in_err-item_fn-in-79.ensures (if_no (not_key 84 c.in-79.is refl) (if_no (not_key 93 c.in-79.is refl) (if_no (not_key 92 c.in-79.is refl) (if_no (not_key 78 c.in-79.is refl) (if_yes (eq-eqb _ _ c.in-79.is) (cut (c.in_err-item_fn-in-79.ensures.under _)))))))

pub statements::stmt_kind-stmt_item-requires-in-79 : goal.statements::stmt_kind-stmt_item-requires-in-79
statements::stmt_kind-stmt_item-requires-in-79 t c =
    step_marked (c.in_ok-item_fn-in-79.ensures.under _) c.requires

pub statements::stmt_kind-item_impl-requires : goal.statements::stmt_kind-item_impl-requires
statements::stmt_kind-item_impl-requires t c =
    (omega (arith, c.decreases), tt)

pub statements::stmt_kind-returns-in_err-item_impl-in-82 : goal.statements::stmt_kind-returns-in_err-item_impl-in-82
unfolding stmt_kind
statements::stmt_kind-returns-in_err-item_impl-in-82 t c =
    thrown c.from_residual-in_err-item_impl-in-82.ensures (if_no (not_key 84 c.in-82.is refl) (if_no (not_key 93 c.in-82.is refl) (if_no (not_key 92 c.in-82.is refl) (if_no (not_key 78 c.in-82.is refl) (if_no (not_key 79 c.in-82.is refl) (if_yes (eq-eqb _ _ c.in-82.is) (cut (c.in_err-item_impl-in-82.ensures.under _))))))))

pub statements::stmt_kind-stmt_item-requires-in-82 : goal.statements::stmt_kind-stmt_item-requires-in-82
statements::stmt_kind-stmt_item-requires-in-82 t c =
    step_marked (c.in_ok-item_impl-in-82.ensures.under _) c.requires

pub statements::stmt_kind-stmt_mod-requires : goal.statements::stmt_kind-stmt_mod-requires
statements::stmt_kind-stmt_mod-requires t c =
    (omega (arith, c.decreases), c.requires)

pub statements::stmt_kind-item_const-requires : goal.statements::stmt_kind-item_const-requires
statements::stmt_kind-item_const-requires t c =
    (omega (arith, c.decreases), tt)

pub statements::stmt_kind-returns-in_err-item_const-in_default : goal.statements::stmt_kind-returns-in_err-item_const-in_default
unfolding stmt_kind
statements::stmt_kind-returns-in_err-item_const-in_default t c =
    thrown c.from_residual-in_err-item_const-in_default.ensures (if_no (ne_eqb _ _ (omega arith)) (if_no (ne_eqb _ _ (omega arith)) (if_no (ne_eqb _ _ (omega arith)) (if_no (ne_eqb _ _ (omega arith)) (if_no (ne_eqb _ _ (omega arith)) (if_no (ne_eqb _ _ (omega arith)) (if_no (ne_eqb _ _ (omega arith)) (if_yes (sym c.named_const.ensures ∙ c.if-named_const.true) (cut (c.in_err-item_const-in_default.ensures.under _))))))))))

pub statements::stmt_kind-stmt_item-requires-in_default : goal.statements::stmt_kind-stmt_item-requires-in_default
statements::stmt_kind-stmt_item-requires-in_default t c =
    step_marked (c.in_ok-item_const-in_default.ensures.under _) c.requires

pub statements::stmt_kind-stmt_expr-requires : goal.statements::stmt_kind-stmt_expr-requires
statements::stmt_kind-stmt_expr-requires t c =
    (omega (arith, c.decreases), tt)

pub statements::stmt_kind-returns-in_ok-local-in-84 : goal.statements::stmt_kind-returns-in_ok-local-in-84
unfolding stmt_kind
statements::stmt_kind-returns-in_ok-local-in-84 t c =
    if_yes (eq-eqb _ _ c.in-84.is) (ends (c.in_ok-local-in-84.ensures.under _))

pub statements::stmt_kind-returns-in_ok-item_use-in-93 : goal.statements::stmt_kind-returns-in_ok-item_use-in-93
unfolding stmt_kind
statements::stmt_kind-returns-in_ok-item_use-in-93 t c =
    if_no (not_key 84 c.in-93.is refl) (if_yes (eq-eqb _ _ c.in-93.is) (both (c.in_ok-item_use-in-93.ensures.under _) c.stmt_item.ensures))

pub statements::stmt_kind-returns-in_ok-item_struct-in-92 : goal.statements::stmt_kind-returns-in_ok-item_struct-in-92
unfolding stmt_kind
statements::stmt_kind-returns-in_ok-item_struct-in-92 t c =
    if_no (not_key 84 c.in-92.is refl) (if_no (not_key 93 c.in-92.is refl) (if_yes (eq-eqb _ _ c.in-92.is) (both (c.in_ok-item_struct-in-92.ensures.under _) c.stmt_item-in-92.ensures)))

pub statements::stmt_kind-returns-in_ok-item_enum-in-78 : goal.statements::stmt_kind-returns-in_ok-item_enum-in-78
unfolding stmt_kind
statements::stmt_kind-returns-in_ok-item_enum-in-78 t c =
    if_no (not_key 84 c.in-78.is refl) (if_no (not_key 93 c.in-78.is refl) (if_no (not_key 92 c.in-78.is refl) (if_yes (eq-eqb _ _ c.in-78.is) (both (c.in_ok-item_enum-in-78.ensures.under _) c.stmt_item-in-78.ensures))))

pub statements::stmt_kind-returns-in_ok-item_fn-in-79 : goal.statements::stmt_kind-returns-in_ok-item_fn-in-79
unfolding stmt_kind
statements::stmt_kind-returns-in_ok-item_fn-in-79 t c =
    if_no (not_key 84 c.in-79.is refl) (if_no (not_key 93 c.in-79.is refl) (if_no (not_key 92 c.in-79.is refl) (if_no (not_key 78 c.in-79.is refl) (if_yes (eq-eqb _ _ c.in-79.is) (both (c.in_ok-item_fn-in-79.ensures.under _) c.stmt_item-in-79.ensures)))))

pub statements::stmt_kind-returns-in_ok-item_impl-in-82 : goal.statements::stmt_kind-returns-in_ok-item_impl-in-82
unfolding stmt_kind
statements::stmt_kind-returns-in_ok-item_impl-in-82 t c =
    if_no (not_key 84 c.in-82.is refl) (if_no (not_key 93 c.in-82.is refl) (if_no (not_key 92 c.in-82.is refl) (if_no (not_key 78 c.in-82.is refl) (if_no (not_key 79 c.in-82.is refl) (if_yes (eq-eqb _ _ c.in-82.is) (both (c.in_ok-item_impl-in-82.ensures.under _) c.stmt_item-in-82.ensures))))))

pub statements::stmt_kind-returns-in-87 : goal.statements::stmt_kind-returns-in-87
unfolding stmt_kind
statements::stmt_kind-returns-in-87 t c =
    if_no (not_key 84 c.in-87.is refl) (if_no (not_key 93 c.in-87.is refl) (if_no (not_key 92 c.in-87.is refl) (if_no (not_key 78 c.in-87.is refl) (if_no (not_key 79 c.in-87.is refl) (if_no (not_key 82 c.in-87.is refl) (if_yes (eq-eqb _ _ c.in-87.is) c.stmt_mod.ensures))))))

pub statements::stmt_kind-returns-in_ok-item_const-in_default : goal.statements::stmt_kind-returns-in_ok-item_const-in_default
unfolding stmt_kind
statements::stmt_kind-returns-in_ok-item_const-in_default t c =
    if_no (ne_eqb _ _ (omega arith)) (if_no (ne_eqb _ _ (omega arith)) (if_no (ne_eqb _ _ (omega arith)) (if_no (ne_eqb _ _ (omega arith)) (if_no (ne_eqb _ _ (omega arith)) (if_no (ne_eqb _ _ (omega arith)) (if_no (ne_eqb _ _ (omega arith)) (if_yes (sym c.named_const.ensures ∙ c.if-named_const.true) (both (c.in_ok-item_const-in_default.ensures.under _) c.stmt_item-in_default.ensures))))))))

pub statements::stmt_kind-returns-in_default-2 : goal.statements::stmt_kind-returns-in_default-2
unfolding stmt_kind
statements::stmt_kind-returns-in_default-2 t c =
    if_no (ne_eqb _ _ (omega arith)) (if_no (ne_eqb _ _ (omega arith)) (if_no (ne_eqb _ _ (omega arith)) (if_no (ne_eqb _ _ (omega arith)) (if_no (ne_eqb _ _ (omega arith)) (if_no (ne_eqb _ _ (omega arith)) (if_no (ne_eqb _ _ (omega arith)) (if_no (sym c.named_const.ensures ∙ c.if-named_const.false) (c.stmt_expr.ensures.under _))))))))

pub statements::stmt_mod-item_mod-requires : goal.statements::stmt_mod-item_mod-requires
statements::stmt_mod-item_mod-requires t c =
    (omega (arith, c.decreases), tt)

pub statements::stmt_mod-returns-in_err-item_mod : goal.statements::stmt_mod-returns-in_err-item_mod
unfolding stmt_mod
statements::stmt_mod-returns-in_err-item_mod t c =
    thrown c.from_residual.ensures (cut (c.in_err-item_mod.ensures.under _))

pub statements::stmt_mod-stmt_item-requires : goal.statements::stmt_mod-stmt_item-requires
statements::stmt_mod-stmt_item-requires t c =
    step_marked (c.in_ok-item_mod.ensures.under _) c.requires

pub statements::stmt_mod-returns-then-branch : goal.statements::stmt_mod-returns-then-branch
unfolding stmt_mod
statements::stmt_mod-returns-then-branch t c =
    both (c.in_ok-item_mod.ensures.under _) (if_yes c.if-branch.true c.stmt_item.ensures)

pub statements::stmt_mod-stmt_item-requires-2 : goal.statements::stmt_mod-stmt_item-requires-2
statements::stmt_mod-stmt_item-requires-2 t c =
    step_marked (c.in_ok-item_mod.ensures.under _) c.requires

pub statements::stmt_mod-returns : goal.statements::stmt_mod-returns
unfolding stmt_mod
statements::stmt_mod-returns t c =
    both (c.in_ok-item_mod.ensures.under _) (if_no c.if-branch.false c.stmt_item-2.ensures)

pub statements::stmt_once-stmt_text-requires : goal.statements::stmt_once-stmt_text-requires
statements::stmt_once-stmt_text-requires t c =
    (omega (arith, c.decreases), tt)

pub statements::stmt_once-returns-in_err-stmt_text : goal.statements::stmt_once-returns-in_err-stmt_text
unfolding stmt_once
statements::stmt_once-returns-in_err-stmt_text t c =
    record { under = λ m. thrown c.from_residual.ensures (spot c.here-before.ensures (cut (c.in_err-stmt_text.ensures.under _))) }

pub statements::stmt_once-returns-then-here-before : goal.statements::stmt_once-returns-then-here-before
unfolding stmt_once
statements::stmt_once-returns-then-here-before t c =
    record { under = λ m. spot c.here-before.ensures (both (c.in_ok-stmt_text.ensures.under _) (spot c.here.ensures (if_yes (eq-eqb _ _ c.if-here-before.true) (halt (ap number_of c.refusal.ensures.reason) (c.refusal.ensures.place ∙ sym c.here.ensures))))) }

pub statements::stmt_once-returns : goal.statements::stmt_once-returns
unfolding stmt_once
statements::stmt_once-returns t c =
    record { under = λ m. spot c.here-before.ensures (both (c.in_ok-stmt_text.ensures.under _) (spot c.here.ensures (if_no (ne_eqb _ _ c.if-here-before.false) nothing))) }

pub statements::stmt_outer-returns-in_err-c : goal.statements::stmt_outer-returns-in_err-c
unfolding stmt_outer
statements::stmt_outer-returns-in_err-c t c =
    thrown_ran c.from_residual.ensures (unscoped c.in_err-c.ensures)

pub statements::stmt_outer-returns-in_err-attributes : goal.statements::stmt_outer-returns-in_err-attributes
unfolding stmt_outer
statements::stmt_outer-returns-in_err-attributes t c =
    thrown_ran c.from_residual-in_err-attributes.ensures (scoped c.in_ok-c.ensures (cut (c.in_err-attributes.ensures.under _)))

pub statements::stmt_outer-stmt_inner-requires : goal.statements::stmt_outer-stmt_inner-requires
statements::stmt_outer-stmt_inner-requires t c =
    (omega (arith, c.decreases, (c.in_ok-c.ensures.ran.under 0).kept.left, (c.in_ok-attributes.ensures.under 0).kept.left), tt)

pub statements::stmt_outer-returns-in_err-kind : goal.statements::stmt_outer-returns-in_err-kind
unfolding stmt_outer
statements::stmt_outer-returns-in_err-kind t c =
    thrown_ran c.from_residual-in_err-kind.ensures (scoped c.in_ok-c.ensures (both (c.in_ok-attributes.ensures.under _) (cut (c.in_err-kind.ensures.under _))))

pub statements::stmt_outer-close_at-requires : goal.statements::stmt_outer-close_at-requires
statements::stmt_outer-close_at-requires t c =
    step_marked (c.in_ok-kind.ensures.under _) (step_marked (c.in_ok-attributes.ensures.under _) (marked_now c.in_ok-c.ensures))

pub statements::stmt_outer-returns : goal.statements::stmt_outer-returns
unfolding stmt_outer
statements::stmt_outer-returns t c =
    scoped c.in_ok-c.ensures (both (c.in_ok-attributes.ensures.under _) (both (c.in_ok-kind.ensures.under _) c.close_at.ensures))

pub statements::stmt_text-returns-in_err-inner_attributes : goal.statements::stmt_text-returns-in_err-inner_attributes
unfolding stmt_text stmt_outer stmt_inner stmt_kind
statements::stmt_text-returns-in_err-inner_attributes t c =
    record { under = λ m. thrown c.from_residual.ensures (cut (c.in_err-inner_attributes.ensures.under _)) }

pub statements::stmt_text-stmt_outer-requires : goal.statements::stmt_text-stmt_outer-requires
statements::stmt_text-stmt_outer-requires t c =
    (omega (arith, c.decreases, (c.in_ok-inner_attributes.ensures.under 0).kept.left), tt)

pub statements::stmt_text-returns-in_err-stmt_outer : goal.statements::stmt_text-returns-in_err-stmt_outer
unfolding stmt_text stmt_outer stmt_inner stmt_kind
statements::stmt_text-returns-in_err-stmt_outer t c =
    record { under = λ m. thrown c.from_residual-in_err-stmt_outer.ensures (both (c.in_ok-inner_attributes.ensures.under _) (cut (c.in_err-stmt_outer.ensures.under _))) }

pub statements::stmt_text-returns-in_err-bump_while : goal.statements::stmt_text-returns-in_err-bump_while
unfolding stmt_text stmt_outer stmt_inner stmt_kind
statements::stmt_text-returns-in_err-bump_while t c =
    record { under = λ m. thrown c.from_residual-in_err-bump_while.ensures (both (c.in_ok-inner_attributes.ensures.under _) (both (c.in_ok-stmt_outer.ensures.under _) (cut (c.in_err-bump_while.ensures.under _)))) }

pub statements::stmt_text-returns : goal.statements::stmt_text-returns
unfolding stmt_text stmt_outer stmt_inner stmt_kind
statements::stmt_text-returns t c =
    record { under = λ m. both (c.in_ok-inner_attributes.ensures.under _) (both (c.in_ok-stmt_outer.ensures.under _) (ends (c.in_ok-bump_while.ensures.under _))) }

pub groups::tuple_items-loop-p-init : goal.groups::tuple_items-loop-p-init
unfolding tuple_items tuple_turn
groups::tuple_items-loop-p-init t c =
    record { under = λ m. inv_start }

pub groups::tuple_items-expr-requires : goal.groups::tuple_items-expr-requires
groups::tuple_items-expr-requires t c =
    (omega (arith, c.decreases, (c.loop-p.invariant.under 0).kept.left), tt)

pub groups::tuple_items-returns-in_err-expr : goal.groups::tuple_items-returns-in_err-expr
unfolding tuple_items tuple_turn
groups::tuple_items-returns-in_err-expr t c =
    record { under = λ m. thrown c.from_residual.ensures (inv_end (c.loop-p.invariant.under _) (last_cut (ask_glued c.peek.ensures c.glued.ensures (if_yes (sym c.is_expr_with.ensures ∙ c.loop-p-test.true) (cut (c.in_err-expr.ensures.under _)))))) }

pub groups::tuple_items-returns-in_err-comma : goal.groups::tuple_items-returns-in_err-comma
unfolding tuple_items tuple_turn
groups::tuple_items-returns-in_err-comma t c =
    record { under = λ m. thrown c.from_residual-in_err-comma.ensures (inv_end (c.loop-p.invariant.under _) (last_cut (ask_glued c.peek.ensures c.glued.ensures (if_yes (sym c.is_expr_with.ensures ∙ c.loop-p-test.true) (both (c.in_ok-expr.ensures.under _) (cut (c.in_err-comma.ensures.under _))))))) }

pub groups::tuple_items-loop-p-smaller : goal.groups::tuple_items-loop-p-smaller
groups::tuple_items-loop-p-smaller t c =
    burns (kept_on (c.in_ok-expr.ensures.under 0).kept (c.in_ok-comma.ensures.under 0).kept) (and_on (goes_on (c.in_ok-expr.ensures.under 0) expr_further) (c.in_ok-comma.ensures.under 0))

pub groups::tuple_items-loop-p-preserved : goal.groups::tuple_items-loop-p-preserved
unfolding tuple_items tuple_turn
groups::tuple_items-loop-p-preserved t c =
    record { under = λ m. inv_again (c.loop-p.invariant.under m) (ask_glued c.peek.ensures c.glued.ensures (if_yes (sym c.is_expr_with.ensures ∙ c.loop-p-test.true) (both (c.in_ok-expr.ensures.under _) (both (c.in_ok-comma.ensures.under _) nothing)))) (and_on (goes_on (c.in_ok-expr.ensures.under 0) expr_further) (c.in_ok-comma.ensures.under 0)) }

pub groups::tuple_items-returns : goal.groups::tuple_items-returns
unfolding tuple_items tuple_turn
groups::tuple_items-returns t c =
    record { under = λ m. inv_end (c.loop-p.invariant.under _) (last (ask_glued c.peek.ensures c.glued.ensures (if_no (sym c.is_expr_with.ensures ∙ c.loop-p-test.false) nothing))) }
