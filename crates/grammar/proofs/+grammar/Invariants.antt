-- Written by tools/walk.py from the code and its program; docs/CONTRIBUTING.md says how.
-- Assumes nothing.
use Rattle.grammar.specs.Loops.{Binding, Tightening}
use Rattle.kinds.specs.Modes.{brace_of, cx_of}
use Rattle.std.specs.Prelude.{◌+◌, ◌*◌, false}
use Rattle.definition.specs.Prog.{repeat}
use Rattle.definition.specs.Grammar.{block_stmts, chain_turn, else_branches, expr_list, match_list, object_fields, select_list, tuple_turn}
use Rattle.tape.specs.Steps.{Loop, fuel}
use Rattle.grammar.proofs.+grammar.Given as goal

abbrev pub decreases-blocks::block : goal.decreases-blocks::block
decreases-blocks::block l = 13 * l.p.now.left + 5

abbrev pub decreases-blocks::block_body : goal.decreases-blocks::block_body
decreases-blocks::block_body l = 13 * l.p.now.left + 2

abbrev pub decreases-blocks::block_open : goal.decreases-blocks::block_open
decreases-blocks::block_open l = 13 * l.p.now.left + 3

abbrev pub decreases-blocks::block_stmts : goal.decreases-blocks::block_stmts
decreases-blocks::block_stmts l = 13 * l.p.now.left + 1

abbrev pub decreases-blocks::block_with : goal.decreases-blocks::block_with
decreases-blocks::block_with l = 13 * l.p.now.left + 4

abbrev pub decreases-chains::chain_link : goal.decreases-chains::chain_link
decreases-chains::chain_link l = 13 * l.p.now.left + 6

abbrev pub decreases-chains::chain_step : goal.decreases-chains::chain_step
decreases-chains::chain_step l = 13 * l.p.now.left + 7

abbrev pub decreases-primary::closure_arguments : goal.decreases-primary::closure_arguments
decreases-primary::closure_arguments l = 13 * l.p.now.left + 6

abbrev pub decreases-control::condition : goal.decreases-control::condition
decreases-control::condition l = 13 * l.p.now.left + 4

abbrev pub decreases-control::condition_init : goal.decreases-control::condition_init
decreases-control::condition_init l = 13 * l.p.now.left + 2

abbrev pub decreases-control::condition_let : goal.decreases-control::condition_let
decreases-control::condition_let l = 13 * l.p.now.left + 3

abbrev pub decreases-control::else_branch : goal.decreases-control::else_branch
decreases-control::else_branch l = 13 * l.p.now.left + 6

abbrev pub decreases-control::else_branches : goal.decreases-control::else_branches
decreases-control::else_branches l = 13 * l.p.now.left + 7

abbrev pub decreases-control::else_if : goal.decreases-control::else_if
decreases-control::else_if l = 13 * l.p.now.left + 5

abbrev pub decreases-groups::empty_group : goal.decreases-groups::empty_group
decreases-groups::empty_group l = 13 * l.p.now.left + 3

abbrev pub decreases-expressions::expr : goal.decreases-expressions::expr
decreases-expressions::expr l = 13 * l.p.now.left + 2

abbrev pub decreases-expressions::expr_after : goal.decreases-expressions::expr_after
decreases-expressions::expr_after l = 13 * l.p.now.left + 3

abbrev pub decreases-operators::expr_binary : goal.decreases-operators::expr_binary
decreases-operators::expr_binary l = 13 * l.p.now.left + 0

abbrev pub decreases-operators::expr_binary_text : goal.decreases-operators::expr_binary_text
decreases-operators::expr_binary_text l = 13 * l.p.now.left + 3

abbrev pub decreases-chains::expr_chain : goal.decreases-chains::expr_chain
decreases-chains::expr_chain l = 13 * l.p.now.left + 8

abbrev pub decreases-control::expr_for : goal.decreases-control::expr_for
decreases-control::expr_for l = 13 * l.p.now.left + 6

abbrev pub decreases-control::expr_if : goal.decreases-control::expr_if
decreases-control::expr_if l = 13 * l.p.now.left + 8

abbrev pub decreases-expressions::expr_if_any : goal.decreases-expressions::expr_if_any
decreases-expressions::expr_if_any l = 13 * l.p.now.left + 2

abbrev pub decreases-blocks::expr_list : goal.decreases-blocks::expr_list
decreases-blocks::expr_list l = 13 * l.p.now.left + 3

abbrev pub decreases-control::expr_loop : goal.decreases-control::expr_loop
decreases-control::expr_loop l = 13 * l.p.now.left + 6

abbrev pub decreases-control::expr_match : goal.decreases-control::expr_match
decreases-control::expr_match l = 13 * l.p.now.left + 6

abbrev pub decreases-groups::expr_object : goal.decreases-groups::expr_object
decreases-groups::expr_object l = 13 * l.p.now.left + 5

abbrev pub decreases-primary::expr_primary : goal.decreases-primary::expr_primary
decreases-primary::expr_primary l = 13 * l.p.now.left + 11

abbrev pub decreases-operators::expr_range : goal.decreases-operators::expr_range
decreases-operators::expr_range l = 13 * l.p.now.left + 2

abbrev pub decreases-control::expr_select : goal.decreases-control::expr_select
decreases-control::expr_select l = 13 * l.p.now.left + 7

abbrev pub decreases-groups::expr_tuple_or_group : goal.decreases-groups::expr_tuple_or_group
decreases-groups::expr_tuple_or_group l = 13 * l.p.now.left + 4

abbrev pub decreases-control::expr_while : goal.decreases-control::expr_while
decreases-control::expr_while l = 13 * l.p.now.left + 6

abbrev pub decreases-expressions::expr_with : goal.decreases-expressions::expr_with
decreases-expressions::expr_with l = 13 * l.p.now.left + 1

abbrev pub decreases-control::for_in : goal.decreases-control::for_in
decreases-control::for_in l = 13 * l.p.now.left + 2

abbrev pub decreases-items::item_const : goal.decreases-items::item_const
decreases-items::item_const l = 13 * l.p.now.left + 3

abbrev pub decreases-items::item_fn : goal.decreases-items::item_fn
decreases-items::item_fn l = 13 * l.p.now.left + 6

abbrev pub decreases-items::item_impl : goal.decreases-items::item_impl
decreases-items::item_impl l = 13 * l.p.now.left + 6

abbrev pub decreases-items::item_mod : goal.decreases-items::item_mod
decreases-items::item_mod l = 13 * l.p.now.left + 6

abbrev pub decreases-blocks::items : goal.decreases-blocks::items
decreases-blocks::items l = 13 * l.p.now.left + 4

abbrev pub decreases-items::local : goal.decreases-items::local
decreases-items::local l = 13 * l.p.now.left + 2

abbrev pub decreases-control::match_case : goal.decreases-control::match_case
decreases-control::match_case l = 13 * l.p.now.left + 4

abbrev pub decreases-control::match_list : goal.decreases-control::match_list
decreases-control::match_list l = 13 * l.p.now.left + 5

abbrev pub decreases-operators::nest : goal.decreases-operators::nest
decreases-operators::nest l = 13 * l.p.now.left + 1

abbrev pub decreases-groups::object_fields : goal.decreases-groups::object_fields
decreases-groups::object_fields l = 13 * l.p.now.left + 4

abbrev pub decreases-operators::operand : goal.decreases-operators::operand
decreases-operators::operand l = 13 * l.p.now.left + 2

abbrev pub decreases-expressions::outer_assign : goal.decreases-expressions::outer_assign
decreases-expressions::outer_assign l = 13 * l.p.now.left + 2

abbrev pub decreases-expressions::outer_binary : goal.decreases-expressions::outer_binary
decreases-expressions::outer_binary l = 13 * l.p.now.left + 1

abbrev pub decreases-expressions::outer_chain : goal.decreases-expressions::outer_chain
decreases-expressions::outer_chain l = 13 * l.p.now.left + 9

abbrev pub decreases-expressions::outer_expr_with : goal.decreases-expressions::outer_expr_with
decreases-expressions::outer_expr_with l = 13 * l.p.now.left + 0

abbrev pub decreases-expressions::outer_expr_with_text : goal.decreases-expressions::outer_expr_with_text
decreases-expressions::outer_expr_with_text l = 13 * l.p.now.left + 12

abbrev pub decreases-expressions::outer_op : goal.decreases-expressions::outer_op
decreases-expressions::outer_op l = 13 * l.p.now.left + 2

abbrev pub decreases-expressions::outer_rest : goal.decreases-expressions::outer_rest
decreases-expressions::outer_rest l = 13 * l.p.now.left + 3

abbrev pub decreases-blocks::parenthesized : goal.decreases-blocks::parenthesized
decreases-blocks::parenthesized l = 13 * l.p.now.left + 5

abbrev pub decreases-primary::primary_last : goal.decreases-primary::primary_last
decreases-primary::primary_last l = 13 * l.p.now.left + 6

abbrev pub decreases-primary::primary_path : goal.decreases-primary::primary_path
decreases-primary::primary_path l = 13 * l.p.now.left + 6

abbrev pub decreases-primary::primary_sign : goal.decreases-primary::primary_sign
decreases-primary::primary_sign l = 13 * l.p.now.left + 10

abbrev pub decreases-primary::primary_word : goal.decreases-primary::primary_word
decreases-primary::primary_word l = 13 * l.p.now.left + 9

abbrev pub decreases-operators::range_rest : goal.decreases-operators::range_rest
decreases-operators::range_rest l = 13 * l.p.now.left + 1

abbrev pub decreases-primary::range_to : goal.decreases-primary::range_to
decreases-primary::range_to l = 13 * l.p.now.left + 1

abbrev pub decreases-control::select_case : goal.decreases-control::select_case
decreases-control::select_case l = 13 * l.p.now.left + 5

abbrev pub decreases-control::select_list : goal.decreases-control::select_list
decreases-control::select_list l = 13 * l.p.now.left + 6

abbrev pub decreases-control::select_pat : goal.decreases-control::select_pat
decreases-control::select_pat l = 13 * l.p.now.left + 4

abbrev pub decreases-statements::stmt : goal.decreases-statements::stmt
decreases-statements::stmt l = 13 * l.p.now.left + 0

abbrev pub decreases-statements::stmt_expr : goal.decreases-statements::stmt_expr
decreases-statements::stmt_expr l = 13 * l.p.now.left + 1

abbrev pub decreases-statements::stmt_inner : goal.decreases-statements::stmt_inner
decreases-statements::stmt_inner l = 13 * l.p.now.left + 9

abbrev pub decreases-statements::stmt_kind : goal.decreases-statements::stmt_kind
decreases-statements::stmt_kind l = 13 * l.p.now.left + 8

abbrev pub decreases-statements::stmt_mod : goal.decreases-statements::stmt_mod
decreases-statements::stmt_mod l = 13 * l.p.now.left + 7

abbrev pub decreases-statements::stmt_once : goal.decreases-statements::stmt_once
decreases-statements::stmt_once l = 13 * l.p.now.left + 12

abbrev pub decreases-statements::stmt_outer : goal.decreases-statements::stmt_outer
decreases-statements::stmt_outer l = 13 * l.p.now.left + 10

abbrev pub decreases-statements::stmt_text : goal.decreases-statements::stmt_text
decreases-statements::stmt_text l = 13 * l.p.now.left + 11

abbrev pub decreases-groups::tuple_items : goal.decreases-groups::tuple_items
decreases-groups::tuple_items l = 13 * l.p.now.left + 3

abbrev pub invariant-blocks::block_stmts-loop-p : goal.invariant-blocks::block_stmts-loop-p
invariant-blocks::block_stmts-loop-p l =
    Loop block_stmts block_stmts l.initial.p l.p

abbrev pub decreases-blocks::block_stmts-loop-p : goal.decreases-blocks::block_stmts-loop-p
decreases-blocks::block_stmts-loop-p l =
    fuel l.p

abbrev pub invariant-control::else_branches-loop-p : goal.invariant-control::else_branches-loop-p
invariant-control::else_branches-loop-p l =
    Loop else_branches else_branches l.initial.p l.p

abbrev pub decreases-control::else_branches-loop-p : goal.decreases-control::else_branches-loop-p
decreases-control::else_branches-loop-p l =
    fuel l.p

abbrev pub invariant-operators::expr_binary_text-loop-ahead : goal.invariant-operators::expr_binary_text-loop-ahead
invariant-operators::expr_binary_text-loop-ahead l =
    Binding l.least (brace_of l.brace) (cx_of l.cx) l.initial.ahead l.ahead l.any l.initial.p l.p

abbrev pub decreases-operators::expr_binary_text-loop-ahead : goal.decreases-operators::expr_binary_text-loop-ahead
decreases-operators::expr_binary_text-loop-ahead l =
    fuel l.p

abbrev pub invariant-chains::expr_chain-loop-link : goal.invariant-chains::expr_chain-loop-link
invariant-chains::expr_chain-loop-link l =
    Loop (repeat chain_turn (l.last, l.any)) (repeat chain_turn (l.kind, false)) l.initial.p l.p

abbrev pub decreases-chains::expr_chain-loop-link : goal.decreases-chains::expr_chain-loop-link
decreases-chains::expr_chain-loop-link l =
    fuel l.p

abbrev pub invariant-blocks::expr_list-loop-p : goal.invariant-blocks::expr_list-loop-p
invariant-blocks::expr_list-loop-p l =
    Loop expr_list expr_list l.initial.p l.p

abbrev pub decreases-blocks::expr_list-loop-p : goal.decreases-blocks::expr_list-loop-p
decreases-blocks::expr_list-loop-p l =
    fuel l.p

abbrev pub invariant-control::match_list-loop-p : goal.invariant-control::match_list-loop-p
invariant-control::match_list-loop-p l =
    Loop match_list match_list l.initial.p l.p

abbrev pub decreases-control::match_list-loop-p : goal.decreases-control::match_list-loop-p
decreases-control::match_list-loop-p l =
    fuel l.p

abbrev pub invariant-groups::object_fields-loop-p : goal.invariant-groups::object_fields-loop-p
invariant-groups::object_fields-loop-p l =
    Loop object_fields object_fields l.initial.p l.p

abbrev pub decreases-groups::object_fields-loop-p : goal.decreases-groups::object_fields-loop-p
decreases-groups::object_fields-loop-p l =
    fuel l.p

abbrev pub invariant-operators::operand-loop-ahead : goal.invariant-operators::operand-loop-ahead
invariant-operators::operand-loop-ahead l =
    Tightening l.c l.op (brace_of l.brace) (cx_of l.cx) l.place l.initial.ahead l.ahead l.initial.p l.p

abbrev pub decreases-operators::operand-loop-ahead : goal.decreases-operators::operand-loop-ahead
decreases-operators::operand-loop-ahead l =
    fuel l.p

abbrev pub invariant-control::select_list-loop-p : goal.invariant-control::select_list-loop-p
invariant-control::select_list-loop-p l =
    Loop select_list select_list l.initial.p l.p

abbrev pub decreases-control::select_list-loop-p : goal.decreases-control::select_list-loop-p
decreases-control::select_list-loop-p l =
    fuel l.p

abbrev pub invariant-groups::tuple_items-loop-p : goal.invariant-groups::tuple_items-loop-p
invariant-groups::tuple_items-loop-p l =
    Loop (repeat tuple_turn l.is_tuple) (repeat tuple_turn false) l.initial.p l.p

abbrev pub decreases-groups::tuple_items-loop-p : goal.decreases-groups::tuple_items-loop-p
decreases-groups::tuple_items-loop-p l =
    fuel l.p
