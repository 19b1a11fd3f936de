-- A line of decimal numbers with one space between two, read a byte at a time into a list that has room for some.
-- Assumes nothing.
use Rattle.std.specs.Prelude.{ℕ, ◌+◌, ◌-◌, ◌*◌, ◌≤◌, ◌<◌, ◌≡◌, refl, Bool, true, false, cond, ◌&&◌, Option, Some, None, List, [], ◌∷◌, leb, ltb, eqb, length, get_or, set, drop}
use Rattle.std.proofs.Common.{sym, ap, ◌∙◌, subst, add-one, arith, length-set, drop_of_length-le, drop-cons}
use borrow.Author.Tests.{eq-eqb, ltb-true}
use Rattle.text.specs.Part.{Counts, counts}
use Rattle.text.specs.declared.Reading.{Reading}
use Rattle.text.specs.declared.Reading.TheVariants.{Before, Within}

-- ## One byte

-- the digit b behind digits that mean v, of the number behind n others. (48 to 57 are the digits' codes, and 32 the space's.)
unfoldable pub longer : ℕ → ℕ → ℕ → Option Reading
longer n v b = cond (leb 48 b && (leb b 57 && leb (v * 10 + (b - 48)) 4294967295)) (Some (Within n (v * 10 + (b - 48)))) None

-- where the line is after the byte b, with room for so many numbers; None where it is no such line
unfoldable pub stepped : Option Reading → ℕ → ℕ → Option Reading
stepped (Some (Before n)) room b = longer n 0 b
stepped (Some (Within n v)) room b = cond (eqb b 32) (cond (ltb n room) (Some (Before (n + 1))) None) (longer n v b)
stepped None room b = None

-- the room with the number whose digits are read stored
unfoldable pub kept : Option Reading → List ℕ → List ℕ
kept (Some (Before n)) out = out
kept (Some (Within n v)) out = set out n v
kept None out = out

-- the room after the byte b
unfoldable pub stored : Option Reading → List ℕ → ℕ → List ℕ
stored r out b = cond (eqb b 32) (kept r out) out

-- ## A whole line

-- how many numbers the line has where it ends; None where it is no list of numbers
unfoldable pub ended : Option Reading → ℕ → Option ℕ
ended (Some (Before n)) room = cond (eqb n 0) (Some 0) None
ended (Some (Within n v)) room = cond (ltb n room) (Some (n + 1)) None
ended None room = None

unfoldable pub listed_from : List ℕ → Option Reading → List ℕ → Option ℕ
listed_from [] r out = ended r (length out)
listed_from (b ∷ l) r out = listed_from l (stepped r (length out) b) (stored r out b)

unfoldable pub filled_from : List ℕ → Option Reading → List ℕ → List ℕ
filled_from [] r out = kept r out
filled_from (b ∷ l) r out = filled_from l (stepped r (length out) b) (stored r out b)

abbrev pub listed : List ℕ → List ℕ → Option ℕ
listed line out = listed_from line (Some (Before 0)) out

abbrev pub filled : List ℕ → List ℕ → List ℕ
filled line out = filled_from line (Some (Before 0)) out

-- ## Some lines, into room for three numbers

three : List ℕ
three = 0 ∷ 0 ∷ 0 ∷ []

-- "1 23", and no number
two : (listed (49 ∷ 32 ∷ 50 ∷ 51 ∷ []) three ≡ Some 2) × (filled (49 ∷ 32 ∷ 50 ∷ 51 ∷ []) three ≡ 1 ∷ 23 ∷ 0 ∷ [])
unfolding listed_from filled_from stepped longer stored kept ended three
two = (refl, refl)

none : listed [] three ≡ Some 0
unfolding listed_from ended three
none = refl

-- "1  2", "1 " and "x": a space too many, a space at the end, no digit
not_lists : (listed (49 ∷ 32 ∷ 32 ∷ 50 ∷ []) three ≡ None) × ((listed (49 ∷ 32 ∷ []) three ≡ None) × (listed (120 ∷ []) three ≡ None))
unfolding listed_from stepped longer stored kept ended three
not_lists = (refl, (refl, refl))

-- "1 2 3 4": no room for the fourth
four : listed (49 ∷ 32 ∷ 50 ∷ 32 ∷ 51 ∷ 32 ∷ 52 ∷ []) three ≡ None
unfolding listed_from stepped longer stored kept ended three
four = refl

-- ## Each way of a step

-- behind a number, a space
module _ {r : Option Reading} {n v : ℕ} (is : r ≡ Some (Within n v)) (out : List ℕ) {b : ℕ} (space : b ≡ 32) where
  pub has_room : ltb n (length out) ≡ true → Some (Before (n + 1)) ≡ stepped r (length out) b
  unfolding stepped
  has_room e = simp (is, eq-eqb b 32 space, e)

  pub is_full : ltb n (length out) ≡ false → None ≡ stepped r (length out) b
  unfolding stepped
  is_full e = simp (is, eq-eqb b 32 space, e)

  pub stores : set out n v ≡ stored r out b
  unfolding stored kept
  stores = simp (is, eq-eqb b 32 space)

-- where no number's digits are read, nothing is stored
same : (t : Bool) (out : List ℕ) → out ≡ cond t out out
same true out = refl
same false out = refl

pub keeps_before : {r : Option Reading} {n : ℕ} → r ≡ Some (Before n) → (out : List ℕ) (b : ℕ) → out ≡ stored r out b
unfolding stored kept
keeps_before is out b = rw is (same (eqb b 32) out)

pub keeps_broken : {r : Option Reading} → r ≡ None → (out : List ℕ) (b : ℕ) → out ≡ stored r out b
unfolding stored kept
keeps_broken is out b = rw is (same (eqb b 32) out)

-- ## The loop

kept_length : (r : Option Reading) (out : List ℕ) → length (kept r out) ≡ length out
unfolding kept
kept_length (Some (Before n)) out = refl
kept_length (Some (Within n v)) out = length-set out n v
kept_length None out = refl

stored_length : (r : Option Reading) (out : List ℕ) (b : ℕ) → length (stored r out b) ≡ length out
unfolding stored
stored_length r out b = go (eqb b 32)
  where
    go : (t : Bool) → length (cond t (kept r out) out) ≡ length out
    go true = kept_length r out
    go false = refl

-- the line is read up to the byte i
pub record Upto (line out₀ out : List ℕ) (r : Option Reading) (i : ℕ) : Type 0 where
  pub within : i ≤ length line
  pub room : length out ≡ length out₀
  pub lists : listed_from (drop i line) r out ≡ listed line out₀
  pub fills : filled_from (drop i line) r out ≡ filled line out₀

pub upto_start : (line out : List ℕ) → Upto line out out (Some (Before 0)) 0
upto_start line out = record { within = omega arith; room = refl; lists = refl; fills = refl }

module _ {line out₀ out : List ℕ} {r : Option Reading} {i : ℕ} (u : Upto line out₀ out r i) where
  pub upto_go : i < length line → Upto line out₀ (stored r out (get_or line i 0)) (stepped r (length out) (get_or line i 0)) (i + 1)
  unfolding listed_from filled_from
  upto_go h =
      record {
        within = omega arith;
        room = stored_length r out (get_or line i 0) ∙ u.room;
        lists = rw (add-one) (rw (drop-cons line i 0) at u.lists);
        fills = rw (add-one) (rw (drop-cons line i 0) at u.fills);
      }

  pub upto_end : length line ≤ i → (ended r (length out) ≡ listed line out₀) × (kept r out ≡ filled line out₀)
  unfolding listed_from filled_from
  upto_end h = (rw (drop_of_length-le line h) at u.lists, rw (drop_of_length-le line h) at u.fills)

-- ## What a caller needs of the room

pub filled_length : (line : List ℕ) (r : Option Reading) (out : List ℕ) → length (filled_from line r out) ≡ length out
unfolding filled_from
filled_length [] r out = kept_length r out
filled_length (b ∷ l) r out = filled_length l (stepped r (length out) b) (stored r out b) ∙ stored_length r out b

ended_fits : (r : Option Reading) (room : ℕ) {n : ℕ} → ended r room ≡ Some n → n ≤ room
unfolding ended
ended_fits (Some (Before k)) room {n} e = go (eqb k 0) e
  where
    go : (t : Bool) → cond t (Some 0) None ≡ Some n → n ≤ room
    go true e = let z : 0 ≡ n = cc in omega arith
    go false e = cc
ended_fits (Some (Within k v)) room {n} e = go (ltb k room) (ltb-true k room) e
  where
    go : (t : Bool) → (t ≡ true → k < room) → cond t (Some (k + 1)) None ≡ Some n → n ≤ room
    go true h e = let z : k + 1 ≡ n = cc in omega (arith, h refl)
    go false h e = cc
ended_fits None room e = cc

-- so many numbers stand in the room
pub listed_fits : (line : List ℕ) (r : Option Reading) (out : List ℕ) {n : ℕ} → listed_from line r out ≡ Some n → n ≤ length out
unfolding listed_from
listed_fits [] r out e = ended_fits r (length out) e
listed_fits (b ∷ l) r out {n} e = subst (λ (k : ℕ). n ≤ k) (stored_length r out b) (listed_fits l (stepped r (length out) b) (stored r out b) e)

pub numbers_count : (line out : List ℕ) {out' : List ℕ} {r : Option ℕ} {n : ℕ} → (r ≡ listed line out) × (out' ≡ filled line out) → r ≡ Some n → Counts n out'
numbers_count line out {out'} {r} {n} (e, f) is =
    counts n out' (omega (arith, listed_fits line (Some (Before 0)) out (sym e ∙ is), ap length f, filled_length line (Some (Before 0)) out))

pub end_count : (r : Option Reading) (out : List ℕ) {out' : List ℕ} {s : Option ℕ} {n : ℕ} → (s ≡ ended r (length out)) × (out' ≡ kept r out) → s ≡ Some n → Counts n out'
end_count r out {out'} {s} {n} (e, f) is =
    counts n out' (omega (arith, ended_fits r (length out) (sym e ∙ is), ap length f, kept_length r out))
