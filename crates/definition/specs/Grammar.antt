-- The rules of rune 0.14.2's grammar.rs as tape programs, each named after its Rust function, with the Rust's line.
-- A rule stands above those that use it, since antt has no forward references. The six counted rules are entered by name; the program of each is its `.._text`, as
-- `grammar` at the end lists (of stmt with refusal 9 round it, `stmt_once`). Rust order: recover root exprs format stmt is_stmt_recovering item_const inner_attributes attributes modifiers local item_struct item_use
-- item_enum empty_body struct_body tuple_body item_fn item_impl item_mod is_pat pat is_expr is_expr_with expr expr_with is_range outer_expr_with labels expr_primary
-- kind_is_callable expr_chain empty_group expr_tuple_or_group expr_object pat_object expr_if expr_while expr_loop expr_for expr_match expr_select condition path
-- expr_binary expr_range block block_with pat_parens parenthesized brackets parens braces token_stream.
-- A Rust `let c = p.checkpoint()?; .. p.close_at(&c, K)?` is `checkpoint λ c. .. close c K`; a rule that closes over its caller's mark takes it, as the Rust's takes `&c`.
-- A loop's turn, and what the Rust writes out between the braces of an `if` or a loop, has a name here, so that code and proofs can cite it.
-- `push k` stands where the Rust writes a checkpoint, a bump and a close out, and `take_if`, `take_while` where it drops the answer of `bump_if`, `bump_while`.
-- What a rule looks at (`glued`) is looked at before the ladder of its cases, where the Rust looks in a guard: looking moves nothing.
-- Assumes nothing.
use Rattle.std.specs.Prelude.{ℕ, suc, ◌+◌, ◌-◌, Bool, true, false, cond, ◌||◌, ◌⊎◌, eqb}
use Rattle.std.proofs.Common.{inl, inr}
use Rattle.definition.specs.Kinds.{Eof, K-ident, K-::, K-super, K-crate, K-self, K-number, K-paren, K-paren-end, K-bracket, K-bracket-end, K-brace, K-brace-end, K-comma, K-dot, K-semi, K-:, K-=, K-!, K-dash, K-?, K-label, K-#, K-<, K->, K-||, K-|, K-as, K-dotdot, K-dotdot=, K-=>, K-underscore, K-OpenEmpty, K-CloseEmpty, K-TemplateString, K-async, K-await, K-break, K-const, K-continue, K-default, K-else, K-enum, K-fn, K-for, K-if, K-impl, K-in, K-let, K-loop, K-match, K-mod, K-move, K-pub, K-return, K-select, K-struct, K-use, K-while, K-yield}
use Rattle.definition.specs.Kinds.{Root, Expr, Error, Local, Item, ItemConst, ItemEnum, ItemFileMod, ItemFn, ItemImpl, ItemMod, ItemStruct, ItemUse, ItemUseGroup, ItemUsePath, InnerAttribute, Attribute, TokenStream, Modifiers, ModifierSuper, ModifierSelf, ModifierCrate, ModifierIn, EmptyBody, StructBody, TupleBody, Field, Variant, FnArgs, Pat, PatArray, PatIgnore, PatObject, PatTuple, AnonymousObjectKey, Path, PathGenerics, Lit, TemplateString, Block, BlockBody, Condition, ClosureArguments, ExprArray, ExprAssign, ExprAwait, ExprBinary, ExprBreak, ExprCall, ExprChain, ExprClosure, ExprContinue, ExprElse, ExprElseIf, ExprEmptyGroup, ExprField, ExprFor, ExprGroup, ExprIf, ExprIndex, ExprLoop, ExprMacroCall, ExprMatch, ExprMatchArm, ExprObject, ExprOperator, ExprRange, ExprRangeFrom, ExprRangeFull, ExprRangeInclusive, ExprRangeTo, ExprRangeToInclusive, ExprReturn, ExprSelect, ExprSelectArm, ExprTry, ExprTuple, ExprUnary, ExprWhile, ExprYield}
use Rattle.definition.specs.Classes.{glues, braced_by, ranged_by, named_const, is_object_key, is_lit, is_path_component, kind_is_stmt_recovering, kind_is_pat, kind_is_expr_with, is_range, linked, is_unary, is_use_part, is_use_path, is_pat_or_rest, is_select_arm, in_block, is_some, treated}
use Rattle.definition.specs.Modes.{Brace, Range, Binary, ExprCx, ErrorCx, StmtCx, Listed, Exprs, Pats, is_ranged, is_binary, recovers, are_exprs}
use Rattle.definition.specs.Operators.{Op, from_slice, is_none, is_below, is_tighter, clashes}
use Rattle.definition.specs.Prog.{Prog, Mark, mark, nth, glued, here, flush, bump, close, stop, enter, ret, ◌>>=◌, ◌>>◌, if◌then◌otherwise◌, checkpoint, loop, skip, refuse, Rule, stmt_rule, item_use_rule, pat_rule, path_rule, outer_rule, binary_rule}

-- ## Steps of the tape

abbrev pub peek : Prog ℕ
peek = nth 0

abbrev pub when : Bool → Prog (Unit {0}) → Prog (Unit {0})
when b p = if b then p otherwise skip

-- tests of the next kind, and of it with the one glued to it
abbrev pub next : (ℕ → Bool) → Prog Bool
next c = peek >>= λ k. ret (c k)

abbrev pub next_glued : (ℕ → ℕ → Bool) → Prog Bool
next_glued c = peek >>= λ k. glued >>= λ g. ret (c k g)

abbrev pub next_is : ℕ → Prog Bool
next_is k = peek >>= λ j. ret (eqb j k)

unfoldable pub bump_if : ℕ → Prog Bool
bump_if k = do
  b ← next_is k
  if b then (bump >> ret true) otherwise ret false

unfoldable pub bump_while_turn : ℕ → Bool → Prog (Bool ⊎ Bool)
bump_while_turn k any = do
  b ← next_is k
  if b then (bump >> ret (inl true)) otherwise ret (inr any)

unfoldable pub bump_while : ℕ → Prog Bool
bump_while k = loop (bump_while_turn k) false

-- the same where the Rust drops the answer
abbrev pub take_if : ℕ → Prog (Unit {0})
take_if k = bump_if k >> skip

abbrev pub take_while : ℕ → Prog (Unit {0})
take_while k = bump_while k >> skip

unfoldable pub push : ℕ → Prog (Unit {0})
push k = checkpoint λ c. bump >> close c k

unfoldable pub empty : ℕ → Prog (Unit {0})
empty k = checkpoint λ c. close c k

-- `while` of the Rust
unfoldable pub while_turn : Prog Bool → Prog (Unit {0}) → Unit {0} → Prog (Unit {0} ⊎ Unit {0})
while_turn c p u = do
  b ← c
  if b then (p >> ret (inl tt)) otherwise ret (inr tt)

abbrev pub while : Prog Bool → Prog (Unit {0}) → Prog (Unit {0})
while c p = loop (while_turn c p) tt

-- ## The six counted rules, entered

unfoldable pub stmt : Prog (Unit {0})
stmt = enter stmt_rule >> skip

unfoldable pub item_use : Prog (Unit {0})
item_use = enter item_use_rule >> skip

unfoldable pub pat : Prog (Unit {0})
pat = enter pat_rule >> skip

unfoldable pub path : Prog (Unit {0})
path = enter path_rule >> skip

unfoldable pub outer_expr_with : Brace → Range → Binary → ExprCx → Prog ℕ
outer_expr_with brace range binary cx = enter (outer_rule brace range binary cx)

unfoldable pub expr_binary : Op → ℕ → Brace → ExprCx → Prog Bool
expr_binary op least brace cx = enter (binary_rule op least brace cx) >>= λ n. ret (eqb n 1)

-- ## Token streams, attributes, labels, paths, modifiers

-- brackets (1401), parens (1409), braces (1417): what a stream counts up and down
pub data Matcher : Type 0 where
  brackets : Matcher
  parens : Matcher
  braces : Matcher

unfoldable pub opens : Matcher → ℕ
opens brackets = K-bracket
opens parens = K-paren
opens braces = K-brace

unfoldable pub shuts : Matcher → ℕ
shuts brackets = K-bracket-end
shuts parens = K-paren-end
shuts braces = K-brace-end

unfoldable pub level_after : Matcher → ℕ → ℕ → ℕ
level_after m k level = cond (eqb k (opens m)) (suc level) (cond (eqb k (shuts m)) (level - 1) level)

-- token_stream (1427). The Rust repeats for ever at the end; here it is refusal 8.
unfoldable pub stream_step : ℕ → Prog (ℕ ⊎ Unit {0})
stream_step level = if eqb level 0 then ret (inr tt) otherwise (bump >> ret (inl level))

unfoldable pub stream_turn : Matcher → ℕ → Prog (ℕ ⊎ Unit {0})
stream_turn m level = do
  k ← peek
  if eqb k Eof then refuse 8 otherwise stream_step (level_after m k level)

unfoldable pub stream : Matcher → Prog (Unit {0})
stream m = loop (stream_turn m) 1

unfoldable pub token_stream : Matcher → Prog (Unit {0})
token_stream m = checkpoint λ c. stream m >> close c TokenStream

-- the tokens of an attribute, if its `[` is there
unfoldable pub attribute_stream : Prog (Unit {0})
attribute_stream = do
  b ← bump_if K-bracket
  when b (token_stream brackets >> bump)

-- inner_attributes (234)
unfoldable pub inner_attribute : Prog (Unit {0})
inner_attribute = checkpoint λ c. bump >> take_if K-! >> attribute_stream >> close c InnerAttribute

unfoldable pub inner_attributes : Prog (Unit {0})
inner_attributes = while (next_glued (glues K-# K-!)) inner_attribute

-- attributes (253)
unfoldable pub attribute : Prog (Unit {0})
attribute = checkpoint λ c. bump >> attribute_stream >> close c Attribute

unfoldable pub attributes : Prog (Unit {0})
attributes = while (next_glued (glues K-# K-bracket)) attribute

-- labels (746)
unfoldable pub label : Prog (Unit {0})
label = bump >> take_while K-:

unfoldable pub labels : Prog (Unit {0})
labels = while (next_is K-label) label

-- path (1220)
unfoldable pub generic_path : Prog (Unit {0})
generic_path = path >> take_while K-comma

unfoldable pub generic_paths : Prog (Unit {0})
generic_paths = while (next is_path_component) generic_path

unfoldable pub generics : Prog (Unit {0})
generics = checkpoint λ c. bump >> generic_paths >> take_if K-> >> close c PathGenerics

unfoldable pub generics_all : Prog (Unit {0})
generics_all = while (next_is K-<) generics

unfoldable pub path_segment : Prog (Unit {0})
path_segment = do
  has-generics ← next_is K-::
  bump
  when has-generics generics_all

unfoldable pub path_segments : Prog (Unit {0})
path_segments = while (next is_path_component) path_segment

unfoldable pub path_text : Prog (Unit {0})
path_text = checkpoint λ c. path_segments >> close c Path

-- modifiers (271): whether `const` is among them. (The Rust keeps `is_pub` and `is_async` besides, which nothing reads.)
unfoldable pub modifier_kind : Prog ℕ
modifier_kind = do
  k ← peek
  if eqb k K-super then (bump >> ret ModifierSuper)
      otherwise if eqb k K-self then (bump >> ret ModifierSelf)
      otherwise if eqb k K-crate then (bump >> ret ModifierCrate)
      otherwise if eqb k K-in then (bump >> path >> ret ModifierIn)
      otherwise ret Error

unfoldable pub modifier_paren : Prog (Unit {0})
modifier_paren = checkpoint λ c. do
  bump
  kind ← modifier_kind
  take_if K-paren-end
  close c kind

unfoldable pub modifier_pub : Prog (Unit {0})
modifier_pub = do
  bump
  b ← next_is K-paren
  when b modifier_paren

-- m, is_const and has_mods, goes round
unfoldable pub modifiers_turn : Bool × Bool → Prog ((Bool × Bool) ⊎ (Bool × Bool))
modifiers_turn m = do
  k ← peek
  if eqb k K-pub then (modifier_pub >> ret (inl (m.0, true)))
      otherwise if eqb k K-const then (bump >> ret (inl (true, true)))
      otherwise if eqb k K-async then (bump >> ret (inl (m.0, true)))
      otherwise if eqb k K-move then (bump >> ret (inl (m.0, true)))
      otherwise ret (inr m)

unfoldable pub modifiers : Prog Bool
modifiers = checkpoint λ c. do
  m ← loop modifiers_turn (false, false)
  when m.1 (close c Modifiers)
  ret m.0

-- ## Patterns

-- is_pat (542)
abbrev pub is_pat : Prog Bool
is_pat = next_glued kind_is_pat

-- pat_parens (1363)
unfoldable pub pat_or_rest : Prog (Unit {0})
pat_or_rest = do
  b ← next_is K-dotdot
  if b then bump otherwise pat

unfoldable pub pat_item : Prog (Unit {0})
pat_item = pat_or_rest >> take_while K-comma

unfoldable pub pat_items : Prog (Unit {0})
pat_items = while (next_glued is_pat_or_rest) pat_item

unfoldable pub pat_parens : ℕ → Prog (Unit {0})
pat_parens end = bump >> pat_items >> take_if end

-- pat_object (1043)
unfoldable pub pat_value : Prog (Unit {0})
pat_value = do
  b ← bump_if K-:
  when b pat

unfoldable pub pat_object_key : Prog (Unit {0})
pat_object_key = bump >> pat_value >> take_while K-comma

unfoldable pub pat_object_turn : Unit {0} → Prog (Unit {0} ⊎ Unit {0})
pat_object_turn u = do
  k ← peek
  if eqb k K-dotdot then (bump >> ret (inl tt))
      otherwise if is_object_key k then (pat_object_key >> ret (inl tt))
      otherwise ret (inr tt)

unfoldable pub pat_object_items : Prog (Unit {0})
pat_object_items = loop pat_object_turn tt

unfoldable pub pat_object : Prog (Unit {0})
pat_object = bump >> pat_object_items >> take_if K-brace-end

-- pat (556)
unfoldable pub pat_negative : Prog (Unit {0})
pat_negative = checkpoint λ c. bump >> take_if K-number >> close c Lit

unfoldable pub pat_path : Prog (Unit {0})
pat_path = checkpoint λ c. do
  path
  k ← peek
  if eqb k K-brace then (pat_object >> close c PatObject)
      otherwise if eqb k K-paren then (pat_parens K-paren-end >> close c PatTuple)
      otherwise skip

-- (the cases of `[` and `(`, which differ in these two)
unfoldable pub pat_group : ℕ → ℕ → Prog (Unit {0})
pat_group end kind = checkpoint λ c. pat_parens end >> close c kind

unfoldable pub pat_anonymous : Prog (Unit {0})
pat_anonymous = checkpoint λ c. bump >> close c AnonymousObjectKey >> pat_object >> close c PatObject

unfoldable pub pat_kind : ℕ → ℕ → Prog (Unit {0})
pat_kind k g =
    if is_lit k then push Lit
    otherwise if eqb k K-dash then pat_negative
    otherwise if eqb k K-underscore then push PatIgnore
    otherwise if is_path_component k then pat_path
    otherwise if eqb k K-bracket then pat_group K-bracket-end PatArray
    otherwise if eqb k K-paren then pat_group K-paren-end PatTuple
    otherwise if glues K-# K-brace k g then pat_anonymous
    otherwise empty Error

unfoldable pub pat_text : Prog (Unit {0})
pat_text = checkpoint λ c. do
  attributes
  k ← peek
  g ← glued
  pat_kind k g
  close c Pat

-- the patterns of a closure (`parenthesized`'s loop) or of a function (item_fn's), which are the same
unfoldable pub pat_list : Prog (Unit {0})
pat_list = while is_pat (pat >> take_while K-comma)

-- ## Items that hold no expression

-- empty_body (441), struct_body (448), tuple_body (466): the last two differ in a bracket and a kind
abbrev pub empty_body : Prog (Unit {0})
empty_body = empty EmptyBody

unfoldable pub field : Prog (Unit {0})
field = push Field >> take_while K-comma

unfoldable pub fields : Prog (Unit {0})
fields = while (next_is K-ident) field

unfoldable pub field_body : ℕ → ℕ → Prog (Unit {0})
field_body end kind = checkpoint λ c. bump >> fields >> take_if end >> close c kind

abbrev pub struct_body : Prog (Unit {0})
struct_body = field_body K-brace-end StructBody

abbrev pub tuple_body : Prog (Unit {0})
tuple_body = field_body K-paren-end TupleBody

-- the body of a struct (item_struct) or of a variant (item_enum), which the Rust writes out in each
unfoldable pub any_body : Prog (Unit {0})
any_body = do
  k ← peek
  if eqb k K-brace then struct_body
      otherwise if eqb k K-paren then tuple_body
      otherwise empty_body

-- item_struct (348)
unfoldable pub item_struct : Prog (Unit {0})
item_struct = bump >> take_if K-ident >> any_body

-- item_use (371)
unfoldable pub use_item : Prog (Unit {0})
use_item = checkpoint λ c. item_use >> close c ItemUsePath

unfoldable pub use_path : Prog (Unit {0})
use_path = use_item >> take_while K-comma

unfoldable pub use_paths : Prog (Unit {0})
use_paths = while (next is_use_path) use_path

unfoldable pub use_group : Prog (Unit {0})
use_group = checkpoint λ c. bump >> use_paths >> take_if K-brace-end >> close c ItemUseGroup

unfoldable pub item_use_turn : Unit {0} → Prog (Unit {0} ⊎ Unit {0})
item_use_turn u = do
  k ← peek
  if is_use_part k then (bump >> ret (inl tt))
      otherwise if eqb k K-brace then (use_group >> ret (inl tt))
      otherwise if eqb k K-as then (bump >> take_if K-ident >> ret (inl tt))
      otherwise ret (inr tt)

unfoldable pub use_parts : Prog (Unit {0})
use_parts = loop item_use_turn tt

unfoldable pub item_use_text : Prog (Unit {0})
item_use_text = bump >> use_parts

-- item_enum (405)
unfoldable pub variant_item : Prog (Unit {0})
variant_item = checkpoint λ c. bump >> any_body >> close c Variant

unfoldable pub variant : Prog (Unit {0})
variant = variant_item >> take_while K-comma

unfoldable pub variants : Prog (Unit {0})
variants = while (next_is K-ident) variant

unfoldable pub enum_body : Prog (Unit {0})
enum_body = do
  b ← bump_if K-brace
  when b (variants >> take_if K-brace-end)

unfoldable pub item_enum : Prog (Unit {0})
item_enum = bump >> take_if K-ident >> enum_body

-- ## Expressions

-- expr_with (675), and expr (663), which the Rust writes out
unfoldable pub expr_with : Brace → Range → Binary → ExprCx → Prog (Unit {0})
expr_with brace range binary cx = checkpoint λ c. attributes >> modifiers >> labels >> outer_expr_with brace range binary cx >> close c Expr

abbrev pub expr : Prog (Unit {0})
expr = expr_with Brace.Yes Range.Yes Binary.Yes ErrorCx

-- is_expr_with (629), is_expr (624)
abbrev pub is_expr_with : Brace → Range → Prog Bool
is_expr_with brace range = next_glued (kind_is_expr_with brace range)

abbrev pub is_expr : Prog Bool
is_expr = is_expr_with Brace.Yes Range.Yes

-- the optional expression of `break`, `return` and `yield`, which the Rust writes out in each
unfoldable pub expr_if_any : Brace → Range → Prog (Unit {0})
expr_if_any brace range = do
  b ← is_expr_with brace range
  when b (expr_with brace range Binary.Yes ErrorCx)

-- parenthesized (1384): its function pointers are a mode, expressions or patterns
unfoldable pub expr_list : Prog (Unit {0})
expr_list = while is_expr (expr >> take_while K-comma)

unfoldable pub items : Listed → Prog (Unit {0})
items of = if are_exprs of then expr_list otherwise pat_list

unfoldable pub parenthesized : Listed → ℕ → Prog (Unit {0})
parenthesized of end = bump >> items of >> take_if end

-- block_with (1347), block (1339)
unfoldable pub block_stmts : Prog (Unit {0})
block_stmts = while (next in_block) stmt

unfoldable pub block_body : Prog (Unit {0})
block_body = checkpoint λ c. block_stmts >> close c BlockBody

unfoldable pub block_open : Prog (Unit {0})
block_open = do
  b ← bump_if K-brace
  when b block_body

unfoldable pub block_with : Prog (Unit {0})
block_with = block_open >> take_if K-brace-end

unfoldable pub block : Prog (Unit {0})
block = checkpoint λ c. block_with >> close c Block

-- condition (1198)
abbrev pub condition_value : Prog (Unit {0})
condition_value = expr_with Brace.No Range.Yes Binary.Yes ErrorCx

-- (the Rust's `if p.peek()? == K![=] { p.bump()?; .. }` is `bump_if`)
unfoldable pub condition_init : Prog (Unit {0})
condition_init = do
  b ← bump_if K-=
  when b condition_value

unfoldable pub condition_let : Prog (Unit {0})
condition_let = checkpoint λ c. bump >> pat >> condition_init >> close c Condition

unfoldable pub condition : Prog (Unit {0})
condition = do
  b ← next_is K-let
  if b then condition_let otherwise condition_value

-- expr_if (1071)
unfoldable pub else_if : Prog Bool
else_if = do
  b ← bump_if K-if
  if b then (condition >> ret true) otherwise ret false

unfoldable pub else_branch : Prog (Unit {0})
else_branch = checkpoint λ c. do
  bump
  b ← else_if
  block
  if b then close c ExprElseIf otherwise close c ExprElse

unfoldable pub else_branches : Prog (Unit {0})
else_branches = while (next_is K-else) else_branch

unfoldable pub expr_if : Prog (Unit {0})
expr_if = bump >> condition >> block >> else_branches

-- expr_while (1100), expr_loop (1108), expr_for (1115)
unfoldable pub expr_while : Prog (Unit {0})
expr_while = bump >> condition >> block

unfoldable pub expr_loop : Prog (Unit {0})
expr_loop = bump >> block

unfoldable pub for_in : Prog (Unit {0})
for_in = do
  b ← bump_if K-in
  when b (expr_with Brace.No Range.Yes Binary.Yes ErrorCx)

unfoldable pub expr_for : Prog (Unit {0})
expr_for = bump >> pat >> for_in >> block

-- an expression behind a token that may be there, as `match` arms, `select` arms and object fields have it
unfoldable pub expr_after : ℕ → Prog (Unit {0})
expr_after k = do
  b ← bump_if k
  when b expr

-- expr_match (1129)
unfoldable pub match_case : Prog (Unit {0})
match_case = checkpoint λ c. pat >> expr_after K-if >> expr_after K-=> >> close c ExprMatchArm

unfoldable pub match_arm : Prog (Unit {0})
match_arm = match_case >> take_while K-comma

unfoldable pub match_list : Prog (Unit {0})
match_list = while is_pat match_arm

unfoldable pub match_arms : Prog (Unit {0})
match_arms = bump >> match_list >> take_if K-brace-end

unfoldable pub expr_match : Prog (Unit {0})
expr_match = do
  bump
  expr_with Brace.No Range.Yes Binary.Yes ErrorCx
  b ← next_is K-brace
  when b match_arms

-- expr_select (1161)
unfoldable pub select_pat : Prog (Unit {0})
select_pat = do
  b ← next_is K-default
  if b then bump otherwise (pat >> expr_after K-=)

unfoldable pub select_case : Prog (Unit {0})
select_case = checkpoint λ c. select_pat >> expr_after K-=> >> close c ExprSelectArm

unfoldable pub select_arm : Prog (Unit {0})
select_arm = select_case >> take_while K-comma

unfoldable pub select_list : Prog (Unit {0})
select_list = while (next_glued is_select_arm) select_arm

unfoldable pub select_arms : Prog (Unit {0})
select_arms = bump >> select_list >> take_if K-brace-end

unfoldable pub expr_select : Prog (Unit {0})
expr_select = do
  bump
  b ← next_is K-brace
  when b select_arms

-- empty_group (998), expr_tuple_or_group (1006), expr_object (1025)
unfoldable pub empty_group : Prog ℕ
empty_group = bump >> expr >> take_if K-CloseEmpty >> ret ExprEmptyGroup

unfoldable pub tuple_turn : Bool → Prog (Bool ⊎ Bool)
tuple_turn is-tuple = do
  b ← is_expr
  if b then (expr >> bump_while K-comma >>= λ c. ret (inl (is-tuple || c))) otherwise ret (inr is-tuple)

unfoldable pub tuple_items : Prog Bool
tuple_items = loop tuple_turn false

unfoldable pub expr_tuple_or_group : Prog ℕ
expr_tuple_or_group = do
  bump
  is-tuple ← tuple_items
  take_if K-paren-end
  if is-tuple then ret ExprTuple otherwise ret ExprGroup

unfoldable pub object_field : Prog (Unit {0})
object_field = bump >> expr_after K-: >> take_while K-comma

unfoldable pub object_fields : Prog (Unit {0})
object_fields = while (next is_object_key) object_field

unfoldable pub expr_object : Prog (Unit {0})
expr_object = bump >> object_fields >> take_if K-brace-end

-- recover (16, 143): the end of the statement is looked for, or refusal 6
abbrev pub is_stmt_recovering : Prog Bool
is_stmt_recovering = nth 0 >>= λ k. nth 1 >>= λ j. ret (kind_is_stmt_recovering k j)

unfoldable pub recovery : Prog (Unit {0})
recovery = while is_stmt_recovering bump

unfoldable pub recover : ExprCx → Prog (Unit {0})
recover cx = if recovers cx then recovery otherwise refuse 6

-- expr_primary (756): a case ends with its kind closed over the rows since the rule's mark c, but for a plain path
abbrev pub finish : Mark → ℕ → Prog ℕ
finish c kind = close c kind >> ret kind

-- (the tokens of a macro call, which the Rust writes out for `(` and for `{`)
unfoldable pub macro_call : Mark → Matcher → Prog ℕ
macro_call c m = bump >> bump >> token_stream m >> bump >> finish c ExprMacroCall

unfoldable pub primary_path : Mark → Brace → Prog ℕ
primary_path c brace = do
  path
  k ← peek
  g ← glued
  if braced_by brace k then (expr_object >> finish c ExprObject)
      otherwise if glues K-! K-paren k g then macro_call c parens
      otherwise if glues K-! K-brace k g then macro_call c braces
      otherwise ret Path

unfoldable pub closure_arguments : Prog (Unit {0})
closure_arguments = checkpoint λ args. parenthesized Pats K-| >> close args ClosureArguments

unfoldable pub range_to : Mark → Brace → Prog ℕ
range_to c brace = do
  bump
  b ← is_expr_with brace Range.No
  if b then (outer_expr_with brace Range.No Binary.Yes ErrorCx >> finish c ExprRangeTo) otherwise finish c ExprRangeFull

unfoldable pub expr_primary : Brace → Range → ExprCx → Prog ℕ
expr_primary brace range cx = checkpoint λ c. do
  k ← peek
  g ← glued
  if is_lit k then (bump >> finish c Lit)
      otherwise if is_path_component k then primary_path c brace
      otherwise if eqb k K-OpenEmpty then (empty_group >>= λ kind. finish c kind)
      otherwise if eqb k K-paren then (expr_tuple_or_group >>= λ kind. finish c kind)
      otherwise if eqb k K-bracket then (parenthesized Exprs K-bracket-end >> finish c ExprArray)
      otherwise if eqb k K-brace then (block_with >> finish c Block)
      otherwise if eqb k K-TemplateString then (bump >> finish c TemplateString)
      otherwise if eqb k K-|| then (push ClosureArguments >> expr_with brace range Binary.Yes cx >> finish c ExprClosure)
      otherwise if eqb k K-| then (closure_arguments >> expr_with brace range Binary.Yes cx >> finish c ExprClosure)
      otherwise if glues K-dash K-number k g then (bump >> bump >> finish c Lit)
      otherwise if is_unary k then (bump >> outer_expr_with brace range Binary.No cx >> finish c ExprUnary)
      otherwise if eqb k K-if then (expr_if >> finish c ExprIf)
      otherwise if eqb k K-while then (expr_while >> finish c ExprWhile)
      otherwise if eqb k K-loop then (expr_loop >> finish c ExprLoop)
      otherwise if eqb k K-break then (bump >> labels >> expr_if_any brace range >> finish c ExprBreak)
      otherwise if eqb k K-continue then (bump >> labels >> finish c ExprContinue)
      otherwise if eqb k K-return then (bump >> expr_if_any brace range >> finish c ExprReturn)
      otherwise if eqb k K-yield then (bump >> expr_if_any brace range >> finish c ExprYield)
      otherwise if eqb k K-for then (expr_for >> finish c ExprFor)
      otherwise if eqb k K-select then (expr_select >> finish c ExprSelect)
      otherwise if eqb k K-match then (expr_match >> finish c ExprMatch)
      otherwise if ranged_by range K-dotdot k then range_to c brace
      otherwise if ranged_by range K-dotdot= k then (bump >> outer_expr_with brace Range.No Binary.Yes ErrorCx >> finish c ExprRangeToInclusive)
      otherwise if glues K-# K-brace k g then (push AnonymousObjectKey >> expr_object >> finish c ExprObject)
      otherwise (recover cx >> finish c Error)

-- expr_chain (934). A link's kind, or 0 where none follows. (The Rust's loop ends at Eof besides: no case takes it.)
unfoldable pub field_link : Prog ℕ
field_link = do
  bump
  k ← peek
  if eqb k K-await then (bump >> ret ExprAwait)
      otherwise if is_path_component k then (path >> ret ExprField)
      otherwise if eqb k K-number then (bump >> ret ExprField)
      otherwise ret Error

unfoldable pub chain_link : ℕ → ℕ → Prog ℕ
chain_link kind k =
    if linked kind K-bracket k then (bump >> expr >> take_if K-bracket-end >> ret ExprIndex)
    otherwise if linked kind K-paren k then (parenthesized Exprs K-paren-end >> ret ExprCall)
    otherwise if eqb k K-? then (bump >> ret ExprTry)
    otherwise if eqb k K-dot then field_link
    otherwise ret 0

-- A link, over the rows since the mark `before`: its kind, or 0. (The Rust takes the mark before the first link and after each.)
unfoldable pub chain_step : ℕ → Prog ℕ
chain_step kind = checkpoint λ before. do
  k ← peek
  j ← chain_link kind k
  if eqb j 0 then ret 0 otherwise finish before j

-- l, the kind and has_chain, goes round
unfoldable pub chain_turn : ℕ × Bool → Prog ((ℕ × Bool) ⊎ (ℕ × Bool))
chain_turn l = do
  kind ← chain_step l.0
  if eqb kind 0 then ret (inr l) otherwise ret (inl (kind, true))

-- it closes over the rows since outer_expr_with's mark c
unfoldable pub expr_chain : Mark → ℕ → Prog ℕ
expr_chain c kind = do
  l ← loop chain_turn (kind, false)
  when l.1 (close c ExprChain)
  ret l.0

-- expr_range (1306), over the rows since outer_expr_with's mark c too: what follows `..` and `..=`, which differ in the two kinds
unfoldable pub range_rest : Mark → Brace → ℕ → ℕ → Prog ℕ
range_rest c brace kind alone = do
  bump
  b ← is_expr_with brace Range.No
  if b then (outer_expr_with brace Range.No Binary.Yes ErrorCx >> finish c kind) otherwise finish c alone

unfoldable pub expr_range : Mark → ℕ → Brace → Prog ℕ
expr_range c kind brace = do
  k ← peek
  if eqb k K-dotdot then range_rest c brace ExprRange ExprRangeFrom
      otherwise if eqb k K-dotdot= then range_rest c brace ExprRangeInclusive Error
      otherwise ret kind

-- expr_binary (1252)
abbrev pub lookahead : Prog Op
lookahead = nth 0 >>= λ k. nth 1 >>= λ j. ret (from_slice k j)

unfoldable pub advance : Op → Prog (Unit {0})
advance op = if eqb op.tokens 2 then (bump >> bump) otherwise bump

unfoldable pub operator : Op → Prog (Unit {0})
operator op = checkpoint λ op-c. advance op >> close op-c ExprOperator

-- The inner loop, whose mark c is before the operand. Tighter operators make a group from the operand on; an equal one that is not associative is refused at the operand.
unfoldable pub nest : Mark → Op → Op → Brace → ExprCx → Prog (Unit {0})
nest c op ahead brace cx = do
  any ← expr_binary ahead (op.binding + 1) brace cx
  when any (close c ExprBinary)

unfoldable pub tighter_turn : Mark → Op → Brace → ExprCx → ℕ → Op → Prog (Op ⊎ Op)
tighter_turn c op brace cx place ahead =
    if is_none ahead then ret (inr ahead)
    otherwise if is_tighter op ahead then (nest c op ahead brace cx >> lookahead >>= λ o. ret (inl o))
    otherwise if clashes op ahead then stop 7 place
    otherwise ret (inr ahead)

-- an operand, and the operator that is left over behind it
unfoldable pub operand : Op → Brace → ExprCx → Prog Op
operand op brace cx = checkpoint λ c. do
  place ← here
  outer_expr_with brace Range.No Binary.No cx
  ahead ← lookahead
  loop (tighter_turn c op brace cx place) ahead

-- the outer loop: b, the operator and has_any, goes round
unfoldable pub binary_turn : ℕ → Brace → ExprCx → Op × Bool → Prog ((Op × Bool) ⊎ Bool)
binary_turn least brace cx b =
    if is_none b.0 then ret (inr b.1)
    otherwise if is_below least b.0 then ret (inr b.1)
    otherwise (do
      operator b.0
      ahead ← operand b.0 brace cx
      ret (inl (ahead, true)))

unfoldable pub expr_binary_text : Op → ℕ → Brace → ExprCx → Prog Bool
expr_binary_text op least brace cx = loop (binary_turn least brace cx) (op, false)

-- outer_expr_with (703): its mark c is handed to expr_chain and expr_range
unfoldable pub outer_binary : Mark → ℕ → Brace → ExprCx → Prog ℕ
outer_binary c kind brace cx = do
  op ← lookahead
  any ← expr_binary op 0 brace cx
  if any then finish c ExprBinary otherwise ret kind

unfoldable pub outer_expr_with_text : Brace → Range → Binary → ExprCx → Prog ℕ
outer_expr_with_text brace range binary cx = checkpoint λ c. do
  kind ← expr_primary brace range cx
  if is_range kind then ret kind otherwise (do
    kind' ← expr_chain c kind
    b ← next_is K-=
    if b then (close c Expr >> bump >> expr_with brace Range.Yes Binary.Yes cx >> finish c ExprAssign) otherwise (do
      kind'' ← if is_binary binary then outer_binary c kind' brace cx otherwise ret kind'
      if is_ranged range then expr_range c kind'' brace otherwise ret kind''))

-- ## Statements, and items that hold them

-- item_const (226), local (339)
unfoldable pub item_const : Prog (Unit {0})
item_const = bump >> take_if K-= >> expr

unfoldable pub local : ExprCx → Prog (Unit {0})
local cx = bump >> pat >> take_if K-= >> expr_with Brace.Yes Range.Yes Binary.Yes cx

-- item_fn (484)
unfoldable pub fn_arg_list : Prog (Unit {0})
fn_arg_list = checkpoint λ c. bump >> take_while K-comma >> pat_list >> take_if K-paren-end >> close c FnArgs

unfoldable pub fn_args : Prog (Unit {0})
fn_args = do
  b ← next_is K-paren
  when b fn_arg_list

unfoldable pub fn_body : Prog (Unit {0})
fn_body = do
  b ← next_is K-brace
  when b block

unfoldable pub item_fn : Prog (Unit {0})
item_fn = bump >> take_if K-ident >> fn_args >> fn_body

-- item_impl (514)
unfoldable pub impl_path : Prog (Unit {0})
impl_path = do
  b ← next is_path_component
  when b path

unfoldable pub item_impl : Prog (Unit {0})
item_impl = bump >> impl_path >> block

-- item_mod (526): whether it has a block
unfoldable pub item_mod : Prog Bool
item_mod = do
  bump
  take_if K-ident
  b ← next_is K-brace
  if b then (block >> ret true) otherwise ret false

-- stmt (116)
unfoldable pub stmt_expr : Prog ℕ
stmt_expr = do
  labels
  kind ← outer_expr_with Brace.Yes Range.Yes Binary.Yes StmtCx
  if eqb kind Error then ret Error otherwise ret Expr

-- an item is closed over the rows since stmt's inner mark, and then as an Item
unfoldable pub stmt_item : Mark → ℕ → Prog ℕ
stmt_item inner-c kind = close inner-c kind >> ret Item

unfoldable pub stmt_mod : Mark → Prog ℕ
stmt_mod inner-c = do
  b ← item_mod
  if b then stmt_item inner-c ItemMod otherwise stmt_item inner-c ItemFileMod

unfoldable pub stmt_text : Prog (Unit {0})
stmt_text = do
  inner_attributes
  checkpoint λ c. do
    attributes
    kind ← checkpoint λ inner-c. do
      is-const ← modifiers
      k ← peek
      if eqb k K-let then (local StmtCx >> ret Local)
          otherwise if eqb k K-use then (item_use >> stmt_item inner-c ItemUse)
          otherwise if eqb k K-struct then (item_struct >> stmt_item inner-c ItemStruct)
          otherwise if eqb k K-enum then (item_enum >> stmt_item inner-c ItemEnum)
          otherwise if eqb k K-fn then (item_fn >> stmt_item inner-c ItemFn)
          otherwise if eqb k K-impl then (item_impl >> stmt_item inner-c ItemImpl)
          otherwise if eqb k K-mod then stmt_mod inner-c
          otherwise if named_const is-const k then (item_const >> stmt_item inner-c ItemConst)
          otherwise stmt_expr
    close c kind
  take_while K-semi

-- The Rust repeats for ever where a statement takes no token; here a statement that ends where it began is refused with 9.
unfoldable pub stmt_once : Prog (Unit {0})
stmt_once = do
  before ← here
  stmt_text
  after ← here
  if eqb after before then stop 9 after otherwise skip

-- ## The grammar, and the entries

unfoldable pub grammar : Rule → Prog ℕ
grammar stmt_rule = stmt_once >> ret 0
grammar item_use_rule = item_use_text >> ret 0
grammar pat_rule = pat_text >> ret 0
grammar path_rule = path_text >> ret 0
grammar (outer_rule brace range binary cx) = outer_expr_with_text brace range binary cx
grammar (binary_rule op least brace cx) = expr_binary_text op least brace cx >>= λ any. ret (cond any 1 0)

-- An entry's `open(Root)` marks row 0, and its `close` closes over all rows.
abbrev pub not_eof : Prog Bool
not_eof = next is_some

abbrev pub close_root : Prog (Unit {0})
close_root = flush >> close (mark 0) Root

-- root (75)
unfoldable pub root : Prog (Unit {0})
root = while not_eof stmt >> close_root

-- exprs (88)
unfoldable pub separated : ℕ → Prog (Unit {0})
separated separator = expr >> take_while (treated separator)

unfoldable pub exprs : ℕ → Prog (Unit {0})
exprs separator = while not_eof (separated separator) >> close_root

-- format (102)
unfoldable pub format : Prog (Unit {0})
format = expr >> while not_eof bump >> close_root
