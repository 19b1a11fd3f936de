-- The operators of expr_binary.rs, as 01's table has them.
-- Assumes nothing.
use Rattle.std.specs.Prelude.{ℕ, Bool, true, false, cond, not, ◌&&◌, List, [], ◌∷◌, ltb, eqb}
use Rattle.definition.specs.Kinds.{K-&, K-*, K-<, K->, K-+, K-dash, K-/, K-%, K-==, K-!=, K-<=, K->=, K-&&, K-||, K-<<, K->>, K-^, K-|, K-as, K-is, K-not, K-+=, K-dash=, K-*=, K-/=, K-%=, K-&=, K-^=, K-|=, K-<<=, K->>=}
use Rattle.definition.specs.Classes.{among}

-- a binding and its operators; `is not` is looked up as `is` is. Higher binds tighter.
unfoldable pub bindings : List (ℕ × List ℕ)
bindings =
    (13, K-as ∷ K-is ∷ []) ∷
    (11, K-* ∷ K-/ ∷ K-% ∷ []) ∷
    (10, K-+ ∷ K-dash ∷ []) ∷
    (9, K-<< ∷ K->> ∷ []) ∷
    (8, K-& ∷ []) ∷
    (7, K-^ ∷ []) ∷
    (6, K-| ∷ []) ∷
    (5, K-== ∷ K-!= ∷ K-< ∷ K-> ∷ K-<= ∷ K->= ∷ []) ∷
    (4, K-&& ∷ []) ∷
    (3, K-|| ∷ []) ∷
    (1, K-+= ∷ K-dash= ∷ K-*= ∷ K-/= ∷ K-%= ∷ K-&= ∷ K-^= ∷ K-|= ∷ K-<<= ∷ K->>= ∷ []) ∷ []

-- is_assoc, which the table gives for each binding
unfoldable pub associative : ℕ → Bool
associative b = not (among b (13 ∷ 5 ∷ 1 ∷ []))

-- the binding of the first line that has k, 0 where none has
unfoldable pub binding_in : ℕ → List (ℕ × List ℕ) → ℕ
binding_in k [] = 0
binding_in k (l ∷ ls) = elim (among k l.1) [ true ↦ l.0 | false ↦ binding_in k ls ]

-- An operator: its binding, 0 where there is none, and how many tokens it takes
pub record Op : Type 0 where
  pub binding : ℕ
  pub tokens : ℕ

-- from_slice: the operator that the next two kinds make
unfoldable pub from_slice : ℕ → ℕ → Op
from_slice k j = record { binding = binding_in k bindings; tokens = cond (eqb k K-is && eqb j K-not) 2 1 }

unfoldable pub is_none : Op → Bool
is_none op = eqb op.binding 0

-- whether it binds less than `least`
unfoldable pub is_below : ℕ → Op → Bool
is_below least op = ltb op.binding least

-- whether the second operator nests under the first, and whether the two need parentheses
unfoldable pub is_tighter : Op → Op → Bool
is_tighter op next = ltb op.binding next.binding

unfoldable pub clashes : Op → Op → Bool
clashes op next = eqb op.binding next.binding && not (associative next.binding)
