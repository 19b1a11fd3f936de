-- The rows that a shape stands for, in a table with four elements for each.
-- Assumes nothing.
use Prim.Native.Nat.{ℕ, zero, suc, ◌+◌, ◌-◌, ◌*◌, ◌/◌, ◌^◌, ◌≤◌, ◌<◌}
use Rattle.std.specs.Prelude.{◌≡◌, refl, cond, ◌&&◌, Option, Some, None, List, [], ◌∷◌, leb, ltb, eqb, length, set}
use Rattle.std.proofs.Math.Path.{sym}
use Rattle.std.proofs.Common.{◌∙◌, arith, length-set}
use Rattle.std.proofs.Math.ListN.{get_or}
use borrow.Author.Tests.{lt-ltb, le-ltb, le-leb, lt-leb}

-- the table with one row written
unfoldable pub row_put : List ℕ → ℕ → ℕ → ℕ → ℕ → ℕ → List ℕ
row_put out row kind back start len = set (set (set (set out (4 * row) kind) (4 * row + 1) back) (4 * row + 2) start) (4 * row + 3) len

-- a node over the `back` rows before it starts where the first of them does, and over none at the byte behind the last leaf
unfoldable pub start_of : List ℕ → ℕ → ℕ → ℕ → ℕ
start_of out row back byte = cond (eqb back 0) byte (get_or out (4 * (row - back) + 2) 0)

unfoldable pub node_put : List ℕ → ℕ → ℕ → ℕ → ℕ → List ℕ
node_put out row kind back byte = row_put out row kind back (start_of out row back byte) (byte - start_of out row back byte)

-- The rest of a shape, with the tokens left, the byte behind the last leaf, the rows so far and the table. 0 is a leaf, and kind and back are a node.
unfoldable pub rows_from : List ℕ → List ℕ → List ℕ → ℕ → ℕ → List ℕ → Option ℕ × List ℕ
rows_from [] ks ls byte row out = (Some row, out)
rows_from (zero ∷ s) [] ls byte row out = (None, out)
rows_from (zero ∷ s) (k ∷ ks) [] byte row out = (None, out)
rows_from (zero ∷ s) (k ∷ ks) (l ∷ ls) byte row out =
    cond (ltb row (length out / 4) && leb (byte + l) 4294967295)
    (rows_from s ks ls (byte + l) (row + 1) (row_put out row k 0 byte l))
    (None, out)
rows_from (suc k ∷ []) ks ls byte row out = (None, out)
rows_from (suc k ∷ back ∷ s) ks ls byte row out =
    cond (ltb row (length out / 4) && leb back row)
    (rows_from s ks ls byte (row + 1) (node_put out row (suc k) back byte))
    (None, out)

abbrev pub rows_of : List ℕ → List ℕ → List ℕ → List ℕ → Option ℕ × List ℕ
rows_of shape ks ls out = rows_from shape ks ls 0 0 out

-- ## One row more, by each way of a turn

-- there is no room for it
no_room : (k : ℕ) (s ks ls : List ℕ) (byte row : ℕ) (out : List ℕ) → length out / 4 ≤ row → rows_from (k ∷ s) ks ls byte row out ≡ (None, out)
unfolding rows_from
no_room zero s [] ls byte row out h = refl
no_room zero s (k ∷ ks) [] byte row out h = refl
no_room zero s (k ∷ ks) (l ∷ ls) byte row out h = rw (le-ltb row (length out / 4) h)
no_room (suc k) [] ks ls byte row out h = refl
no_room (suc k) (back ∷ s) ks ls byte row out h = rw (le-ltb row (length out / 4) h)

-- a leaf without a length, a node without a back, and one that reaches too far back
no_length : (s ks : List ℕ) (byte row : ℕ) (out : List ℕ) → rows_from (0 ∷ s) ks [] byte row out ≡ (None, out)
unfolding rows_from
no_length s [] byte row out = refl
no_length s (k ∷ ks) byte row out = refl

no_back : (k : ℕ) (ks ls : List ℕ) (byte row : ℕ) (out : List ℕ) → (k ≡ 0 → ⊥) → rows_from (k ∷ []) ks ls byte row out ≡ (None, out)
unfolding rows_from
no_back zero ks ls byte row out h = absurd (h refl)
no_back (suc k) ks ls byte row out h = refl

module _ (back : ℕ) (s ks ls : List ℕ) (byte row : ℕ) (out : List ℕ) (room : row < length out / 4) where
  reaches : (k : ℕ) → (k ≡ 0 → ⊥) → row < back → rows_from (k ∷ back ∷ s) ks ls byte row out ≡ (None, out)
  unfolding rows_from
  reaches zero h far = absurd (h refl)
  reaches (suc k) h far = rw (lt-ltb row (length out / 4) room, lt-leb back row far)

  node_next : (k : ℕ) → (k ≡ 0 → ⊥) → back ≤ row → rows_from (k ∷ back ∷ s) ks ls byte row out ≡ rows_from s ks ls byte (row + 1) (node_put out row k back byte)
  unfolding rows_from
  node_next zero h near = absurd (h refl)
  node_next (suc k) h near = rw (lt-ltb row (length out / 4) room, le-leb back row near)

row_length : (out : List ℕ) (row kind back start len : ℕ) → length (row_put out row kind back start len) ≡ length out
unfolding row_put
row_length out row kind back start len = simp length-set

-- ## The loop

-- what is left of the shape, with the tokens left, comes to what the whole comes to
pub record Upto (shape kinds lens out₀ rest ks ls : List ℕ) (byte row : ℕ) (out : List ℕ) : Type 0 where
  pub len : length out ≡ length out₀
  pub comes : rows_from rest ks ls byte row out ≡ rows_of shape kinds lens out₀

pub upto_start : (shape kinds lens out : List ℕ) → Upto shape kinds lens out shape kinds lens 0 0 out
upto_start shape kinds lens out = record { len = refl; comes = refl }

empty : (l : List ℕ) → length l ≡ 0 → l ≡ []
empty [] h = refl
empty (x ∷ l) h = absurd (omega arith)

module _ {shape kinds lens out₀ rest ks ls : List ℕ} {byte row : ℕ} {out : List ℕ} (u : Upto shape kinds lens out₀ rest ks ls byte row out) where
  pub upto_end : length rest ≡ 0 → (Some row, out) ≡ rows_of shape kinds lens out₀
  unfolding rows_from
  upto_end h = rw (empty rest h) at u.comes

  module _ {k : ℕ} {s : List ℕ} (is : rest ≡ k ∷ s) where
    here : rows_from (k ∷ s) ks ls byte row out ≡ rows_of shape kinds lens out₀
    here = rw is at u.comes

    pub full : length out / 4 ≤ row → (None, out) ≡ rows_of shape kinds lens out₀
    full h = sym (no_room _ _ _ _ _ _ _ h) ∙ here

    module _ (leaf : k ≡ 0) where
      leaf_here : rows_from (0 ∷ s) ks ls byte row out ≡ rows_of shape kinds lens out₀
      leaf_here = rw leaf at here

      pub lacks_kind : length ks ≡ 0 → (None, out) ≡ rows_of shape kinds lens out₀
      unfolding rows_from
      lacks_kind h = rw (empty ks h) at leaf_here

      pub lacks_length : length ls ≡ 0 → (None, out) ≡ rows_of shape kinds lens out₀
      lacks_length h = sym (no_length _ _ _ _ _) ∙ rw (empty ls h) at leaf_here

      module _ {token len : ℕ} {ks' ls' : List ℕ} (kind_is : ks ≡ token ∷ ks') (len_is : ls ≡ len ∷ ls') (room : row < length out / 4) where
        token_here : rows_from (0 ∷ s) (token ∷ ks') (len ∷ ls') byte row out ≡ rows_of shape kinds lens out₀
        token_here = rw (kind_is, len_is) at leaf_here

        pub too_long : (byte + len < 2 ^ 32 → ⊥) → (None, out) ≡ rows_of shape kinds lens out₀
        unfolding rows_from
        too_long m = rw (lt-ltb row (length out / 4) room, lt-leb (byte + len) 4294967295 (omega arith)) at token_here

        pub upto_leaf : byte + len < 2 ^ 32 → Upto shape kinds lens out₀ s ks' ls' (byte + len) (row + 1) (row_put out row token 0 byte len)
        unfolding rows_from
        upto_leaf m =
            record {
              len = row_length out row token 0 byte len ∙ u.len;
              comes = rw (lt-ltb row (length out / 4) room, le-leb (byte + len) 4294967295 (omega arith)) at token_here;
            }

    module _ (node : k ≡ 0 → ⊥) where
      pub lacks_back : length s ≡ 0 → (None, out) ≡ rows_of shape kinds lens out₀
      lacks_back h = sym (no_back _ _ _ _ _ _ node) ∙ rw (empty s h) at here

      module _ {back : ℕ} {s' : List ℕ} (back_is : s ≡ back ∷ s') (room : row < length out / 4) where
        node_here : rows_from (k ∷ back ∷ s') ks ls byte row out ≡ rows_of shape kinds lens out₀
        node_here = rw back_is at here

        pub too_far : row < back → (None, out) ≡ rows_of shape kinds lens out₀
        too_far m = sym (reaches _ _ _ _ _ _ _ room _ node m) ∙ node_here

        pub upto_node : back ≤ row → Upto shape kinds lens out₀ s' ks ls byte (row + 1) (node_put out row k back byte)
        unfolding node_put
        upto_node m =
            record {
              len = row_length out row k back _ _ ∙ u.len;
              comes = sym (node_next _ _ _ _ _ _ _ room _ node m) ∙ node_here;
            }
