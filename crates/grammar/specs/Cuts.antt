-- Three long rules of the definition as the code's functions cut them, and that the pieces are the rules, by computation: a reader of the definition needs none of this.
-- Assumes nothing.
use Rattle.std.specs.Prelude.{ℕ, ◌≡◌, refl, Bool, eqb}
use Rattle.definition.specs.Kinds.{K-number, K-paren, K-bracket, K-bracket-end, K-brace, K-semi, K-=, K-dash, K-#, K-||, K-|, K-dotdot, K-dotdot=, K-OpenEmpty, K-TemplateString, K-break, K-continue, K-enum, K-fn, K-for, K-if, K-impl, K-let, K-loop, K-match, K-mod, K-return, K-select, K-struct, K-use, K-while, K-yield, Expr, Error, Local, ItemConst, ItemEnum, ItemFn, ItemImpl, ItemStruct, ItemUse, AnonymousObjectKey, Lit, TemplateString, Block, ClosureArguments, ExprArray, ExprAssign, ExprBreak, ExprClosure, ExprContinue, ExprFor, ExprIf, ExprLoop, ExprMatch, ExprObject, ExprRangeToInclusive, ExprReturn, ExprSelect, ExprUnary, ExprWhile, ExprYield}
use Rattle.definition.specs.Modes.{Brace, Range, Binary, ExprCx, ErrorCx, StmtCx, Exprs, is_ranged, is_binary}
use Rattle.definition.specs.Classes.{glues, ranged_by, named_const, is_lit, is_path_component, is_range, is_unary}
use Rattle.definition.specs.Prog.{Prog, Mark, glued, bump, close, ret, ◌>>=◌, ◌>>◌, if◌then◌otherwise◌, checkpoint}
use Rattle.definition.specs.Grammar.{peek, next_is, take_while, push, attributes, inner_attributes, labels, modifiers, item_use, item_struct, item_enum, outer_expr_with, expr_with, expr_if_any, parenthesized, block_with, expr_if, expr_while, expr_loop, expr_for, expr_match, expr_select, empty_group, expr_tuple_or_group, expr_object, recover, finish, primary_path, closure_arguments, range_to, expr_primary, expr_chain, expr_range, outer_binary, outer_expr_with_text, item_const, local, item_fn, item_impl, stmt_expr, stmt_item, stmt_mod, stmt_text}

-- ## expr_primary: from `..` on, from `if` on, from `||` on, and the whole

unfoldable pub primary_last : Mark → Brace → Range → ExprCx → ℕ → ℕ → Prog ℕ
primary_last c brace range cx k g =
    if ranged_by range K-dotdot k then range_to c brace
    otherwise if ranged_by range K-dotdot= k then (bump >> outer_expr_with brace Range.No Binary.Yes ErrorCx >> finish c ExprRangeToInclusive)
    otherwise if glues K-# K-brace k g then (push AnonymousObjectKey >> expr_object >> finish c ExprObject)
    otherwise (recover cx >> finish c Error)

unfoldable pub primary_word : Mark → Brace → Range → ExprCx → ℕ → ℕ → Prog ℕ
primary_word c brace range cx k g =
    if eqb k K-if then (expr_if >> finish c ExprIf)
    otherwise if eqb k K-while then (expr_while >> finish c ExprWhile)
    otherwise if eqb k K-loop then (expr_loop >> finish c ExprLoop)
    otherwise if eqb k K-break then (bump >> labels >> expr_if_any brace range >> finish c ExprBreak)
    otherwise if eqb k K-continue then (bump >> labels >> finish c ExprContinue)
    otherwise if eqb k K-return then (bump >> expr_if_any brace range >> finish c ExprReturn)
    otherwise if eqb k K-yield then (bump >> expr_if_any brace range >> finish c ExprYield)
    otherwise if eqb k K-for then (expr_for >> finish c ExprFor)
    otherwise if eqb k K-select then (expr_select >> finish c ExprSelect)
    otherwise if eqb k K-match then (expr_match >> finish c ExprMatch)
    otherwise primary_last c brace range cx k g

unfoldable pub primary_sign : Mark → Brace → Range → ExprCx → ℕ → ℕ → Prog ℕ
primary_sign c brace range cx k g =
    if eqb k K-|| then (push ClosureArguments >> expr_with brace range Binary.Yes cx >> finish c ExprClosure)
    otherwise if eqb k K-| then (closure_arguments >> expr_with brace range Binary.Yes cx >> finish c ExprClosure)
    otherwise if glues K-dash K-number k g then (bump >> bump >> finish c Lit)
    otherwise if is_unary k then (bump >> outer_expr_with brace range Binary.No cx >> finish c ExprUnary)
    otherwise primary_word c brace range cx k g

unfoldable pub primary_whole : Brace → Range → ExprCx → Prog ℕ
primary_whole brace range cx = checkpoint λ c. do
  k ← peek
  g ← glued
  if is_lit k then (bump >> finish c Lit)
      otherwise if is_path_component k then primary_path c brace
      otherwise if eqb k K-OpenEmpty then (empty_group >>= λ kind. finish c kind)
      otherwise if eqb k K-paren then (expr_tuple_or_group >>= λ kind. finish c kind)
      otherwise if eqb k K-bracket then (parenthesized Exprs K-bracket-end >> finish c ExprArray)
      otherwise if eqb k K-brace then (block_with >> finish c Block)
      otherwise if eqb k K-TemplateString then (bump >> finish c TemplateString)
      otherwise primary_sign c brace range cx k g

pub primary_is : (brace : Brace) (range : Range) (cx : ExprCx) → primary_whole brace range cx ≡ expr_primary brace range cx
unfolding primary_whole primary_sign primary_word primary_last expr_primary
primary_is brace range cx = refl

-- ## outer_expr_with: behind `=`, operators, a range, behind the first operand, and the whole

unfoldable pub outer_assign : Mark → Brace → ExprCx → Prog ℕ
outer_assign c brace cx = close c Expr >> bump >> expr_with brace Range.Yes Binary.Yes cx >> finish c ExprAssign

unfoldable pub outer_op : Mark → ℕ → Brace → Binary → ExprCx → Prog ℕ
outer_op c kind brace binary cx = if is_binary binary then outer_binary c kind brace cx otherwise ret kind

unfoldable pub outer_rest : Mark → ℕ → Brace → Range → Binary → ExprCx → Prog ℕ
outer_rest c kind brace range binary cx = do
  kind' ← outer_op c kind brace binary cx
  if is_ranged range then expr_range c kind' brace otherwise ret kind'

unfoldable pub outer_chain : Mark → ℕ → Brace → Range → Binary → ExprCx → Prog ℕ
outer_chain c kind brace range binary cx = do
  kind' ← expr_chain c kind
  b ← next_is K-=
  if b then outer_assign c brace cx otherwise outer_rest c kind' brace range binary cx

unfoldable pub outer_whole : Brace → Range → Binary → ExprCx → Prog ℕ
outer_whole brace range binary cx = checkpoint λ c. do
  kind ← expr_primary brace range cx
  if is_range kind then ret kind otherwise outer_chain c kind brace range binary cx

pub outer_is : (brace : Brace) (range : Range) (binary : Binary) (cx : ExprCx) → outer_whole brace range binary cx ≡ outer_expr_with_text brace range binary cx
unfolding outer_whole outer_chain outer_rest outer_op outer_assign outer_expr_with_text
outer_is brace range binary cx = refl

-- ## stmt: its `match`, from its inner mark on, from its mark on, and the whole

unfoldable pub stmt_kind : Mark → Bool → ℕ → Prog ℕ
stmt_kind inner-c is-const k =
    if eqb k K-let then (local StmtCx >> ret Local)
    otherwise if eqb k K-use then (item_use >> stmt_item inner-c ItemUse)
    otherwise if eqb k K-struct then (item_struct >> stmt_item inner-c ItemStruct)
    otherwise if eqb k K-enum then (item_enum >> stmt_item inner-c ItemEnum)
    otherwise if eqb k K-fn then (item_fn >> stmt_item inner-c ItemFn)
    otherwise if eqb k K-impl then (item_impl >> stmt_item inner-c ItemImpl)
    otherwise if eqb k K-mod then stmt_mod inner-c
    otherwise if named_const is-const k then (item_const >> stmt_item inner-c ItemConst)
    otherwise stmt_expr

unfoldable pub stmt_inner : Prog ℕ
stmt_inner = checkpoint λ inner-c. do
  is-const ← modifiers
  k ← peek
  stmt_kind inner-c is-const k

unfoldable pub stmt_outer : Prog (Unit {0})
stmt_outer = checkpoint λ c. do
  attributes
  kind ← stmt_inner
  close c kind

unfoldable pub stmt_whole : Prog (Unit {0})
stmt_whole = inner_attributes >> stmt_outer >> take_while K-semi

pub stmt_is : stmt_whole ≡ stmt_text
unfolding stmt_whole stmt_outer stmt_inner stmt_kind stmt_text
stmt_is = refl
