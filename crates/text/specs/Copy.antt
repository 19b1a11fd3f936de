-- Numbers that are bytes, copied over the front of a list, one store a turn.
-- Assumes nothing.
use Rattle.std.specs.Prelude.{ℕ, zero, suc, ◌+◌, ◌≤◌, ◌<◌, ◌≡◌, refl, Bool, cond, ◌&&◌, List, [], ◌∷◌, ◌++◌, leb, length, get_or, set, take, drop}
use Rattle.std.specs.List.{list_all}
use Rattle.std.proofs.Math.Path.{sym}
use Rattle.std.proofs.Common.{ap, ◌∙◌, not-suc-le-zero, le_of_suc-le-suc, add-one, arith, length-set, drop_of_length-le}
use Rattle.std.proofs.Math.Bool.{true, false}
use Rattle.std.proofs.Math.Seq.{take-length, drop-cons}
use borrow.Author.Tests.{le-leb, lt-leb, leb-true}

unfoldable pub all_bytes : List ℕ → Bool
all_bytes [] = true
all_bytes (x ∷ l) = leb x 255 && all_bytes l

-- they are copied where each is a byte and there is room for all
unfoldable pub fits : List ℕ → List ℕ → Bool
fits from to = leb (length from) (length to) && all_bytes from

unfoldable pub copied : List ℕ → List ℕ → List ℕ
copied from to = cond (fits from to) (from ++ drop (length from) to) to

and_left : (s t : Bool) → (s && t) ≡ true → s ≡ true
and_left true t e = refl
and_left false t e = e

and_right : (s t : Bool) → (s && t) ≡ true → t ≡ true
and_right true t e = e
and_right false true e = refl
and_right false false e = e

-- a test of every element
pub all_bytes_test : (from : List ℕ) → list_all (λ x. leb x 255) from ≡ all_bytes from
unfolding all_bytes
all_bytes_test [] = refl
all_bytes_test (x ∷ l) = ap (λ (t : Bool). leb x 255 && t) (all_bytes_test l)

-- what is left from a place on
module _ (from : List ℕ) (i : ℕ) (h : i < length from) where
  pub bytes_on : get_or from i 0 ≤ 255 → all_bytes (drop i from) ≡ all_bytes (drop (i + 1) from)
  unfolding all_bytes
  bytes_on k = rw (add-one, drop-cons from i 0, le-leb _ 255 k)

  pub bytes_out : 255 < get_or from i 0 → all_bytes (drop i from) ≡ false
  unfolding all_bytes
  bytes_out k = rw (drop-cons from i 0, lt-leb _ 255 k)

pub bytes_end : (from : List ℕ) (i : ℕ) → length from ≤ i → all_bytes (drop i from) ≡ true
unfolding all_bytes
bytes_end from i h = rw (drop_of_length-le from h)

-- ## The loop

-- `to`, which was to₀, holds the first i elements of `from`
pub record Copying (from to₀ to : List ℕ) (i : ℕ) : Type 0 where
  pub passed : i ≤ length from
  pub holds : to ≡ take i from ++ drop i to₀
  pub len : length to ≡ length to₀

pub copying_start : (from to : List ℕ) → Copying from to to 0
copying_start from to = record { passed = omega arith; holds = refl; len = refl }

store : (from to : List ℕ) (i : ℕ) → i < length from → i < length to → set (take i from ++ drop i to) i (get_or from i 0) ≡ take (suc i) from ++ drop (suc i) to
store [] to i h k = absurd (not-suc-le-zero h)
store (x ∷ xs) [] i h k = absurd (not-suc-le-zero k)
store (x ∷ xs) (y ∷ ys) zero h k = refl
store (x ∷ xs) (y ∷ ys) (suc i) h k = ap (λ (l : List ℕ). x ∷ l) (store xs ys i (le_of_suc-le-suc h) (le_of_suc-le-suc k))

pub copying_go : {from to₀ to : List ℕ} {i : ℕ} → Copying from to₀ to i → i < length from → length from ≤ length to₀ → Copying from to₀ (set to i (get_or from i 0)) (i + 1)
copying_go {from} {to₀} {to} {i} c h k =
    record {
      passed = omega arith;
      holds = rw (c.holds, add-one) (store from to₀ i h (omega arith));
      len = length-set to i (get_or from i 0) ∙ c.len;
    }

pub copying_end : {from to₀ to : List ℕ} {i : ℕ} → Copying from to₀ to i → length from ≤ i → to ≡ from ++ drop (length from) to₀
copying_end {from} {to₀} {to} {i} c h =
    let e : i ≡ length from = omega arith in
    c.holds ∙ rw (e, take-length)

-- ## What `narrow` answers

module _ (from to : List ℕ) where
  pub too_long : length to < length from → (false ≡ fits from to) × (to ≡ copied from to)
  unfolding fits copied
  too_long h = let e : fits from to ≡ false = rw (lt-leb _ _ h) in (sym e, sym (rw e))

  pub no_bytes : length from ≤ length to → all_bytes from ≡ false → (false ≡ fits from to) × (to ≡ copied from to)
  unfolding fits copied
  no_bytes h k = let e : fits from to ≡ false = rw (le-leb _ _ h, k) in (sym e, sym (rw e))

  pub all_fit : length from ≤ length to → all_bytes from ≡ true → (true ≡ fits from to) × (from ++ drop (length from) to ≡ copied from to)
  unfolding fits copied
  all_fit h k = let e : fits from to ≡ true = rw (le-leb _ _ h, k) in (sym e, sym (rw e))

-- each of them is a byte
pub byte_at : (from : List ℕ) (i : ℕ) → all_bytes from ≡ true → i < length from → get_or from i 0 ≤ 255
unfolding all_bytes
byte_at [] i e h = absurd (not-suc-le-zero h)
byte_at (x ∷ l) zero e h = leb-true x 255 (and_left (leb x 255) (all_bytes l) e)
byte_at (x ∷ l) (suc i) e h = byte_at l i (and_right (leb x 255) (all_bytes l) e) (le_of_suc-le-suc h)

-- what was copied stands in front
pub copied_front : (from to : List ℕ) {to' : List ℕ} {r : Bool} → (r ≡ fits from to) × (to' ≡ copied from to) → r ≡ true → (length from ≤ length to) × (to' ≡ from ++ drop (length from) to)
unfolding fits copied
copied_front from to {to'} {r} (e, f) is =
    let b : fits from to ≡ true = sym e ∙ is in
    (leb-true (length from) (length to) (and_left (leb (length from) (length to)) (all_bytes from) b), f ∙ rw b)

pub copied_bytes : (from to : List ℕ) {r : Bool} → r ≡ fits from to → r ≡ true → all_bytes from ≡ true
unfolding fits
copied_bytes from to e is = and_right (leb (length from) (length to)) (all_bytes from) (sym e ∙ is)
