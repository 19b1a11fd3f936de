-- Classes of kinds: the macros `ws!`, `lit!`, `path_component!`, `object_key!` of grammar.rs and its tests on kinds, made of lists of names.
-- k is the next token's kind, g the kind glued to it; in `kind_is_stmt_recovering` j is the second next, and elsewhere a kind that k is compared with; `kind` is a node's.
-- Eof, 0, is a member of no class of tokens (kinds' Laws `at_eof`).
-- Assumes nothing.
use Rattle.std.specs.Prelude.{ℕ, Bool, true, false, cond, not, ◌&&◌, ◌||◌, List, [], ◌∷◌, leb, eqb}
use Rattle.definition.specs.Modes.{Brace, Range, is_brace, is_ranged}
use Rattle.definition.specs.Kinds.{Eof, K-ident, K-::, K-super, K-crate, K-self, K-Self, K-true, K-false, K-number, K-str, K-bytestr, K-char, K-byte, K-Whitespace, K-Comment, K-MultilineComment, K-Other, K-paren, K-bracket, K-brace, K-brace-end, K-semi, K-:, K-!, K-dash, K-&, K-*, K-label, K-#, K-||, K-|, K-dotdot, K-dotdot=, K-underscore, K-OpenEmpty, K-TemplateString, K-async, K-break, K-const, K-continue, K-default, K-enum, K-fn, K-for, K-if, K-impl, K-let, K-loop, K-match, K-mod, K-pub, K-return, K-select, K-struct, K-use, K-while, tokens, ExprFor, ExprRange, ExprRangeFrom, ExprRangeFull, ExprRangeInclusive, ExprRangeTo, ExprRangeToInclusive, ExprWhile}

unfoldable pub among : ℕ → List ℕ → Bool
among k [] = false
among k (x ∷ l) = elim (eqb k x) [ true ↦ true | false ↦ among k l ]

-- a kind and the one glued to it
unfoldable pub glues : ℕ → ℕ → ℕ → ℕ → Bool
glues a b k g = eqb k a && eqb g b

-- Kinds that a guard of a `match` arm lets through: `K!['{'] if matches!(brace, Brace::Yes)`, `K![..] if matches!(range, Range::Yes)` and `..=` so, `K![ident] if m.is_const`
unfoldable pub braced_by : Brace → ℕ → Bool
braced_by brace k = eqb k K-brace && is_brace brace

unfoldable pub ranged_by : Range → ℕ → ℕ → Bool
ranged_by range j k = eqb k j && is_ranged range

unfoldable pub named_const : Bool → ℕ → Bool
named_const is-const k = eqb k K-ident && is-const

-- 1 to 127: a token's kind
unfoldable pub is_token : ℕ → Bool
is_token k = leb 1 k && leb k 127

-- A number that no token kind has is treated as Other is. (Eof stays Eof.)
unfoldable pub is_assigned : ℕ → Bool
is_assigned k = among k (Eof ∷ tokens)

unfoldable pub treated : ℕ → ℕ
treated k = cond (is_assigned k) k K-Other

-- ws!
unfoldable pub is_trivia : ℕ → Bool
is_trivia k = among k (K-Whitespace ∷ K-Comment ∷ K-MultilineComment ∷ [])

-- object_key!
unfoldable pub is_object_key : ℕ → Bool
is_object_key k = among k (K-ident ∷ K-str ∷ [])

-- lit!
unfoldable pub is_lit : ℕ → Bool
is_lit k = among k (K-true ∷ K-false ∷ K-number ∷ K-str ∷ K-bytestr ∷ K-char ∷ K-byte ∷ [])

-- path_component!
unfoldable pub is_path_component : ℕ → Bool
is_path_component k = among k (K-:: ∷ K-ident ∷ K-super ∷ K-crate ∷ K-self ∷ K-Self ∷ [])

-- is_stmt_recovering, of the next two kinds
unfoldable pub kind_is_stmt_recovering : ℕ → ℕ → Bool
kind_is_stmt_recovering k j =
    not (among k (Eof ∷ K-semi ∷ K-let ∷ K-use ∷ K-struct ∷ K-enum ∷ K-fn ∷ K-impl ∷ K-mod ∷ K-ident ∷ K-pub ∷ K-const ∷ K-async ∷ []))
    && not (eqb k K-# && among j (K-bracket ∷ K-! ∷ []))

-- is_pat
unfoldable pub kind_is_pat : ℕ → ℕ → Bool
kind_is_pat k g =
    is_path_component k || is_lit k || among k (K-underscore ∷ K-paren ∷ K-bracket ∷ [])
    || eqb k K-dash && eqb g K-number || eqb k K-# && eqb g K-brace

-- is_expr_with
unfoldable pub kind_is_expr_with : Brace → Range → ℕ → ℕ → Bool
kind_is_expr_with brace range k g =
    is_path_component k
    || among k (K-async ∷ K-break ∷ K-continue ∷ K-for ∷ K-if ∷ K-let ∷ K-loop ∷ K-match ∷ K-return ∷ K-select ∷ K-while ∷ [])
    || is_lit k
    || among k (K-|| ∷ K-| ∷ K-# ∷ K-dash ∷ K-! ∷ K-& ∷ K-* ∷ [])
    || eqb k K-label && eqb g K-:
    || among k (K-OpenEmpty ∷ K-paren ∷ K-bracket ∷ [])
    || eqb k K-brace && is_brace brace
    || among k (K-dotdot ∷ K-dotdot= ∷ []) && is_ranged range
    || eqb k K-TemplateString

-- is_range
unfoldable pub is_range : ℕ → Bool
is_range kind = among kind (ExprRangeTo ∷ ExprRangeToInclusive ∷ ExprRangeFull ∷ ExprRange ∷ ExprRangeInclusive ∷ ExprRangeFrom ∷ [])

-- kind_is_callable
unfoldable pub kind_is_callable : ℕ → Bool
kind_is_callable kind = not (among kind (ExprWhile ∷ ExprFor ∷ []))

-- a bracket of kind j that may follow an expression of that kind
unfoldable pub linked : ℕ → ℕ → ℕ → Bool
linked kind j k = eqb k j && kind_is_callable kind

-- `!`, `-`, `&`, `*`: what expr_primary takes as a unary operator
unfoldable pub is_unary : ℕ → Bool
is_unary k = among k (K-! ∷ K-dash ∷ K-& ∷ K-* ∷ [])

-- a part of `item_use`, and what begins one in a group
unfoldable pub is_use_part : ℕ → Bool
is_use_part k = is_path_component k || eqb k K-*

unfoldable pub is_use_path : ℕ → Bool
is_use_path k = is_path_component k || among k (K-brace ∷ K-* ∷ [])

-- what begins an item of `pat_parens`, an arm of `select`; what does not end a block
unfoldable pub is_pat_or_rest : ℕ → ℕ → Bool
is_pat_or_rest k g = kind_is_pat k g || eqb k K-dotdot

unfoldable pub is_select_arm : ℕ → ℕ → Bool
is_select_arm k g = kind_is_pat k g || eqb k K-default

unfoldable pub in_block : ℕ → Bool
in_block k = not (among k (K-brace-end ∷ Eof ∷ []))

-- a token is left
unfoldable pub is_some : ℕ → Bool
is_some k = not (eqb k Eof)
