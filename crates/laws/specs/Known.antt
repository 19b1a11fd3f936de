-- The starred lines of document 01's "Token lists with known results", as rows of one list under one statement about the definition.
-- Their trees are the oracle's, which runs the Rust: nothing here was copied from what the definition computes.
-- Assumes nothing.
use Rattle.std.specs.Prelude.{ℕ, ◌-◌, ◌/◌, ◌≡◌, refl, List, [], ◌∷◌, ◌++◌, map, length, replicate}
use Rattle.definition.specs.Kinds.{K-comma, K-ident, K-Whitespace, K-+, Path, ExprOperator, ExprBinary, Expr, Root, K-number, Lit, K-==, K-*, K-&&, K-paren, K-paren-end, ExprGroup, ExprTuple, K-dotdot, ExprRangeFrom, K-dotdot=, Error, K-=, K-semi, ExprAssign, K-#, K-bracket}
use Rattle.definition.specs.Kinds as Kinds
use Rattle.definition.specs.Modes as Modes
use Rattle.definition.specs.Classes as Classes
use Rattle.definition.specs.Operators as Operators
use Rattle.definition.specs.Tape as Tape
use Rattle.definition.specs.Prog as Prog
use Rattle.definition.specs.Grammar as Grammar
use Rattle.definition.specs.Parse as Parse
use Rattle.definition.specs.Parse.{Entry, root, exprs, format}

-- a call, with the table's element count and the depth limit, and what is promised of it; `rows` are the elements that the rows fill
pub record Case : Type 0 where
  pub entry : Entry
  pub kinds : List ℕ
  pub lens : List ℕ
  pub size : ℕ
  pub limit : ℕ
  pub number : ℕ
  pub place : ℕ
  pub rows : List ℕ

abbrev accepted : Entry → List ℕ → List ℕ → ℕ → ℕ → List ℕ → Case
accepted e ks ls n d rows = record { entry = e; kinds = ks; lens = ls; size = n; limit = d; number = 0; place = 0; rows = rows }

abbrev refused_at : Entry → List ℕ → List ℕ → ℕ → ℕ → ℕ → ℕ → Case
refused_at e ks ls n d number place = record { entry = e; kinds = ks; lens = ls; size = n; limit = d; number = number; place = place; rows = [] }

-- kind, back, start byte, byte length
abbrev pub row : ℕ → ℕ → ℕ → ℕ → List ℕ
row kind back start len = kind ∷ back ∷ start ∷ len ∷ []

-- room enough
abbrev roomy : ℕ
roomy = 100

-- What the caller gets: number, place, row count, and every element of the table. First as the case promises it, then as the definition has it.
-- (The one place that opens the whole definition: `unfolding answered` opens what its line names, every `unfoldable pub` of the definition.)
abbrev pub promised : Case → List ℕ
promised c = c.number ∷ c.place ∷ (length c.rows / 4) ∷ (c.rows ++ replicate (c.size - length c.rows) 0)

unfoldable pub answered : Case → List ℕ
unfolding Kinds.tokens Modes.is_brace Modes.is_ranged Modes.is_binary Modes.recovers Modes.are_exprs Classes.among Classes.glues Classes.braced_by Classes.ranged_by Classes.named_const Classes.is_token Classes.is_assigned Classes.treated Classes.is_trivia Classes.is_object_key Classes.is_lit Classes.is_path_component Classes.kind_is_stmt_recovering Classes.kind_is_pat Classes.kind_is_expr_with Classes.is_range Classes.kind_is_callable Classes.linked Classes.is_unary Classes.is_use_part Classes.is_use_path Classes.is_pat_or_rest Classes.is_select_arm Classes.in_block Classes.is_some Operators.bindings Operators.associative Operators.binding_in Operators.from_slice Operators.is_none Operators.is_below Operators.is_tighter Operators.clashes Tape.elements Tape.capacity Tape.and_then Tape.choose Tape.guard Tape.triv Tape.nth_kind Tape.here_at Tape.nth_at Tape.glued_kind Tape.glued_at Tape.room Tape.wrote_leaf Tape.leaf_at Tape.leaves_at Tape.flush_at Tape.bump_at Tape.leaves_len Tape.start_of Tape.node_over Tape.wrote_node Tape.close_at Prog.left Prog.turn Prog.turns Prog.eval Prog.call Grammar.bump_if Grammar.bump_while_turn Grammar.bump_while Grammar.push Grammar.empty Grammar.while_turn Grammar.stmt Grammar.item_use Grammar.pat Grammar.path Grammar.outer_expr_with Grammar.expr_binary Grammar.opens Grammar.shuts Grammar.level_after Grammar.stream_step Grammar.stream_turn Grammar.stream Grammar.token_stream Grammar.attribute_stream Grammar.inner_attribute Grammar.inner_attributes Grammar.attribute Grammar.attributes Grammar.label Grammar.labels Grammar.generic_path Grammar.generic_paths Grammar.generics Grammar.generics_all Grammar.path_segment Grammar.path_segments Grammar.path_text Grammar.modifier_kind Grammar.modifier_paren Grammar.modifier_pub Grammar.modifiers_turn Grammar.modifiers Grammar.pat_or_rest Grammar.pat_item Grammar.pat_items Grammar.pat_parens Grammar.pat_value Grammar.pat_object_key Grammar.pat_object_turn Grammar.pat_object_items Grammar.pat_object Grammar.pat_negative Grammar.pat_path Grammar.pat_group Grammar.pat_anonymous Grammar.pat_kind Grammar.pat_text Grammar.pat_list Grammar.field Grammar.fields Grammar.field_body Grammar.any_body Grammar.item_struct Grammar.use_item Grammar.use_path Grammar.use_paths Grammar.use_group Grammar.item_use_turn Grammar.use_parts Grammar.item_use_text Grammar.variant_item Grammar.variant Grammar.variants Grammar.enum_body Grammar.item_enum Grammar.expr_with Grammar.expr_if_any Grammar.expr_list Grammar.items Grammar.parenthesized Grammar.block_stmts Grammar.block_body Grammar.block_open Grammar.block_with Grammar.block Grammar.condition_init Grammar.condition_let Grammar.condition Grammar.else_if Grammar.else_branch Grammar.else_branches Grammar.expr_if Grammar.expr_while Grammar.expr_loop Grammar.for_in Grammar.expr_for Grammar.expr_after Grammar.match_case Grammar.match_arm Grammar.match_list Grammar.match_arms Grammar.expr_match Grammar.select_pat Grammar.select_case Grammar.select_arm Grammar.select_list Grammar.select_arms Grammar.expr_select Grammar.empty_group Grammar.tuple_turn Grammar.tuple_items Grammar.expr_tuple_or_group Grammar.object_field Grammar.object_fields Grammar.expr_object Grammar.recovery Grammar.recover Grammar.macro_call Grammar.primary_path Grammar.closure_arguments Grammar.range_to Grammar.expr_primary Grammar.field_link Grammar.chain_link Grammar.chain_step Grammar.chain_turn Grammar.expr_chain Grammar.range_rest Grammar.expr_range Grammar.advance Grammar.operator Grammar.nest Grammar.tighter_turn Grammar.operand Grammar.binary_turn Grammar.expr_binary_text Grammar.outer_binary Grammar.outer_expr_with_text Grammar.item_const Grammar.local Grammar.fn_arg_list Grammar.fn_args Grammar.fn_body Grammar.item_fn Grammar.impl_path Grammar.item_impl Grammar.item_mod Grammar.stmt_expr Grammar.stmt_item Grammar.stmt_mod Grammar.stmt_text Grammar.stmt_once Grammar.grammar Grammar.root Grammar.separated Grammar.exprs Grammar.format Parse.program Parse.first_not Parse.first_over Parse.is_limit Parse.is_entry Parse.admitted Parse.run Parse.start Parse.parse Parse.flat Parse.number_of Parse.place_of Parse.rows_of Parse.table_of
answered c =
    let o = Parse.parse c.entry c.kinds c.lens c.size c.limit in
    Parse.number_of o ∷ Parse.place_of o ∷ length (Parse.rows_of o) ∷ Parse.table_of c.size o

unfoldable pub known : List Case
known =
    -- `a + b` in exprs: all 11 rows
    accepted (exprs K-comma) (K-ident ∷ K-Whitespace ∷ K-+ ∷ K-Whitespace ∷ K-ident ∷ []) (1 ∷ 1 ∷ 1 ∷ 1 ∷ 1 ∷ []) roomy 256
    (row K-ident 0 0 1 ++ row Path 1 0 1 ++ row K-Whitespace 0 1 1 ++ row K-+ 0 2 1 ++ row ExprOperator 1 2 1 ++ row K-Whitespace 0 3 1 ++ row K-ident 0 4 1 ++ row Path 1 4 1 ++ row ExprBinary 8 0 5 ++ row Expr 9 0 5 ++ row Root 10 0 5) ∷
    -- empty lists in root: one Root row
    accepted root [] [] roomy 256
    (row Root 0 0 0) ∷
    -- empty lists in exprs: one Root row
    accepted (exprs K-comma) [] [] roomy 256
    (row Root 0 0 0) ∷
    -- with no row in the table, in root: 11 at 0
    refused_at root [] [] 0 256 11 0 ∷
    -- with no row in the table, in exprs: 11 at 0
    refused_at (exprs K-comma) [] [] 0 256 11 0 ∷
    -- empty lists in format: 6 at 0
    refused_at format [] [] roomy 256 6 0 ∷
    -- `1` in exprs: 4 rows
    accepted (exprs K-comma) (K-number ∷ []) (1 ∷ []) roomy 256
    (row K-number 0 0 1 ++ row Lit 1 0 1 ++ row Expr 2 0 1 ++ row Root 3 0 1) ∷
    -- `1` with a table of 15 elements: 11 at 1
    refused_at (exprs K-comma) (K-number ∷ []) (1 ∷ []) 15 256 11 1 ∷
    -- `a` in exprs: depth limit 2 accepts
    accepted (exprs K-comma) (K-ident ∷ []) (1 ∷ []) roomy 2
    (row K-ident 0 0 1 ++ row Path 1 0 1 ++ row Expr 2 0 1 ++ row Root 3 0 1) ∷
    -- `a` with depth limit 1: 10 at 0
    refused_at (exprs K-comma) (K-ident ∷ []) (1 ∷ []) roomy 1 10 0 ∷
    -- `a==b==c` without trivia: 7 at 2
    refused_at (exprs K-comma) (K-ident ∷ K-== ∷ K-ident ∷ K-== ∷ K-ident ∷ []) (1 ∷ 2 ∷ 1 ∷ 2 ∷ 1 ∷ []) roomy 256 7 2 ∷
    -- `a*b+c`: one group
    accepted (exprs K-comma) (K-ident ∷ K-* ∷ K-ident ∷ K-+ ∷ K-ident ∷ []) (1 ∷ 1 ∷ 1 ∷ 1 ∷ 1 ∷ []) roomy 256
    (row K-ident 0 0 1 ++ row Path 1 0 1 ++ row K-* 0 1 1 ++ row ExprOperator 1 1 1 ++ row K-ident 0 2 1 ++ row Path 1 2 1 ++ row K-+ 0 3 1 ++ row ExprOperator 1 3 1 ++ row K-ident 0 4 1 ++ row Path 1 4 1 ++ row ExprBinary 10 0 5 ++ row Expr 11 0 5 ++ row Root 12 0 5) ∷
    -- `a+b*c`: a group nested after `+`
    accepted (exprs K-comma) (K-ident ∷ K-+ ∷ K-ident ∷ K-* ∷ K-ident ∷ []) (1 ∷ 1 ∷ 1 ∷ 1 ∷ 1 ∷ []) roomy 256
    (row K-ident 0 0 1 ++ row Path 1 0 1 ++ row K-+ 0 1 1 ++ row ExprOperator 1 1 1 ++ row K-ident 0 2 1 ++ row Path 1 2 1 ++ row K-* 0 3 1 ++ row ExprOperator 1 3 1 ++ row K-ident 0 4 1 ++ row Path 1 4 1 ++ row ExprBinary 6 2 3 ++ row ExprBinary 11 0 5 ++ row Expr 12 0 5 ++ row Root 13 0 5) ∷
    -- `a==b&&c==d`: the second `==` is nested, the first isn't
    accepted (exprs K-comma) (K-ident ∷ K-== ∷ K-ident ∷ K-&& ∷ K-ident ∷ K-== ∷ K-ident ∷ []) (1 ∷ 2 ∷ 1 ∷ 2 ∷ 1 ∷ 2 ∷ 1 ∷ []) roomy 256
    (row K-ident 0 0 1 ++ row Path 1 0 1 ++ row K-== 0 1 2 ++ row ExprOperator 1 1 2 ++ row K-ident 0 3 1 ++ row Path 1 3 1 ++ row K-&& 0 4 2 ++ row ExprOperator 1 4 2 ++ row K-ident 0 6 1 ++ row Path 1 6 1 ++ row K-== 0 7 2 ++ row ExprOperator 1 7 2 ++ row K-ident 0 9 1 ++ row Path 1 9 1 ++ row ExprBinary 6 6 4 ++ row ExprBinary 15 0 10 ++ row Expr 16 0 10 ++ row Root 17 0 10) ∷
    -- `(a)`: ExprGroup
    accepted (exprs K-comma) (K-paren ∷ K-ident ∷ K-paren-end ∷ []) (1 ∷ 1 ∷ 1 ∷ []) roomy 256
    (row K-paren 0 0 1 ++ row K-ident 0 1 1 ++ row Path 1 1 1 ++ row Expr 2 1 1 ++ row K-paren-end 0 2 1 ++ row ExprGroup 5 0 3 ++ row Expr 6 0 3 ++ row Root 7 0 3) ∷
    -- `(a,)`: ExprTuple
    accepted (exprs K-comma) (K-paren ∷ K-ident ∷ K-comma ∷ K-paren-end ∷ []) (1 ∷ 1 ∷ 1 ∷ 1 ∷ []) roomy 256
    (row K-paren 0 0 1 ++ row K-ident 0 1 1 ++ row Path 1 1 1 ++ row Expr 2 1 1 ++ row K-comma 0 2 1 ++ row K-paren-end 0 3 1 ++ row ExprTuple 6 0 4 ++ row Expr 7 0 4 ++ row Root 8 0 4) ∷
    -- `()`: ExprGroup
    accepted (exprs K-comma) (K-paren ∷ K-paren-end ∷ []) (1 ∷ 1 ∷ []) roomy 256
    (row K-paren 0 0 1 ++ row K-paren-end 0 1 1 ++ row ExprGroup 2 0 2 ++ row Expr 3 0 2 ++ row Root 4 0 2) ∷
    -- `a..`: ExprRangeFrom
    accepted (exprs K-comma) (K-ident ∷ K-dotdot ∷ []) (1 ∷ 2 ∷ []) roomy 256
    (row K-ident 0 0 1 ++ row Path 1 0 1 ++ row K-dotdot 0 1 2 ++ row ExprRangeFrom 3 0 3 ++ row Expr 4 0 3 ++ row Root 5 0 3) ∷
    -- `a..=`: Error
    accepted (exprs K-comma) (K-ident ∷ K-dotdot= ∷ []) (1 ∷ 3 ∷ []) roomy 256
    (row K-ident 0 0 1 ++ row Path 1 0 1 ++ row K-dotdot= 0 1 3 ++ row Error 3 0 4 ++ row Expr 4 0 4 ++ row Root 5 0 4) ∷
    -- `a=;` in root: accepted with an empty Error
    accepted root (K-ident ∷ K-= ∷ K-semi ∷ []) (1 ∷ 1 ∷ 1 ∷ []) roomy 256
    (row K-ident 0 0 1 ++ row Path 1 0 1 ++ row Expr 2 0 1 ++ row K-= 0 1 1 ++ row Error 0 2 0 ++ row Expr 1 2 0 ++ row ExprAssign 6 0 2 ++ row Expr 7 0 2 ++ row K-semi 0 2 1 ++ row Root 9 0 3) ∷
    -- `a=` in exprs: 6 at 2
    refused_at (exprs K-comma) (K-ident ∷ K-= ∷ []) (1 ∷ 1 ∷ []) roomy 256 6 2 ∷
    -- `# [` in root: 9 at 0
    refused_at root (K-# ∷ K-Whitespace ∷ K-bracket ∷ []) (1 ∷ 1 ∷ 1 ∷ []) roomy 256 9 0 ∷ []

pub known_results : map answered known ≡ map promised known
unfolding answered known
known_results = refl

-- Refusal 3, which no short list meets: one token more than 65,535.
abbrev pub too_many : Case
too_many = refused_at root (replicate 65536 K-Whitespace) (replicate 65536 1) 4 256 3 0

pub too_many_result : answered too_many ≡ promised too_many
unfolding answered
too_many_result = refl
