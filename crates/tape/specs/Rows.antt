-- Rows in the table.
-- Assumes nothing.
use Rattle.std.specs.Prelude.{ℕ, zero, suc, ◌+◌, ◌*◌, ◌≤◌, ◌<◌, ◌≡◌, refl, List, [], ◌∷◌, ◌++◌, drop, take}
use Rattle.std.proofs.Common.{ap, ◌∙◌, add-one, length-drop, drop_of_length-le, length-take-le, get_or-append-add, get_or-take}
use native.Mathlib.Omega.{arith}
use Rattle.std.proofs.Math.Decide.{dec_lt}
use Rattle.std.proofs.Math.ListN.{length, get_or, length-append, get_or-append}
use Rattle.std.proofs.lemmas.List.Edits.{sets}
use Rattle.std.proofs.Math.Seq.{sets-eq, drop-append_seam}
use Rattle.std.proofs.lemmas.List.{drop-append-le}
use Rattle.definition.specs.Tape.{Row, elements, start_of}
use Rattle.laws.specs.Sizes.{start_append}
use Rattle.tape.specs.Ready.{row_at, rows_in}

pub length_rows : (n : ℕ) (tab : List ℕ) → length (rows_in n tab) ≡ n
unfolding rows_in
length_rows zero tab = refl
length_rows (suc n) tab = rw (length-append (rows_in n tab), length_rows n tab) (omega arith)

-- what lies past the rows is not read
rows_alike : (n : ℕ) (tab tab' : List ℕ) → ((j : ℕ) → j < 4 * n → get_or tab' j 0 ≡ get_or tab j 0) → rows_in n tab' ≡ rows_in n tab
unfolding rows_in
rows_alike zero tab tab' h = refl
rows_alike (suc n) tab tab' h =
    rw (rows_alike n tab tab' (λ j q. h j (omega arith)), h (4 * n) (omega arith), h (4 * n + 1) (omega arith), h (4 * n + 2) (omega arith), h (4 * n + 3) (omega arith))

-- a row that is written behind n rows
module _ (r : Row) (n : ℕ) (tab : List ℕ) (h : 4 * n + 4 ≤ length tab) where
  abbrev front : List ℕ
  front = take (4 * n) tab

  wrote : sets tab (4 * n) (elements r) ≡ (front ++ elements r) ++ drop (4 * n + 4) tab
  unfolding elements
  wrote = sets-eq (elements r) tab (4 * n) h

  front_length : length front ≡ 4 * n
  front_length = length-take-le (4 * n) tab (omega arith)

  element_new : (j : ℕ) → j < 4 → get_or (sets tab (4 * n) (elements r)) (4 * n + j) 0 ≡ get_or (elements r) j 0
  unfolding elements
  element_new j q =
      let e : 4 * n + j ≡ length front + j = omega (arith, front_length) in
      let w : 4 * n + j < length (front ++ elements r) = omega (arith, length-append front (elements r), front_length) in
      rw (wrote, get_or-append (front ++ elements r) (drop (4 * n + 4) tab) 0 (4 * n + j) w, e) (get_or-append-add front (elements r) j 0)

  element_old : (j : ℕ) → j < 4 * n → get_or (sets tab (4 * n) (elements r)) j 0 ≡ get_or tab j 0
  unfolding elements
  element_old j q =
      let w : j < length (front ++ elements r) = omega (arith, length-append front (elements r), front_length) in
      rw (wrote, get_or-append (front ++ elements r) (drop (4 * n + 4) tab) 0 j w, get_or-append front (elements r) 0 j (omega (arith, front_length))) (get_or-take (4 * n) tab j 0 q)

  row_new : row_at n (sets tab (4 * n) (elements r)) ≡ r
  unfolding elements
  row_new =
      let e : 4 * n ≡ 4 * n + 0 = omega arith in
      rw (element_new 1 (omega arith), element_new 2 (omega arith), element_new 3 (omega arith)) (ap (λ (k : ℕ). record { kind = k; back = r.back; start = r.start; len = r.len }) (ap (λ (x : ℕ). get_or (sets tab (4 * n) (elements r)) x 0) e ∙ element_new 0 (omega arith)))

  pub rows_next : rows_in (n + 1) (sets tab (4 * n) (elements r)) ≡ rows_in n tab ++ (r ∷ [])
  unfolding rows_in
  rows_next = rw (add-one n, row_new, rows_alike n tab (sets tab (4 * n) (elements r)) element_old)

-- where the rows since m start
pub start_in : (m n : ℕ) (tab : List ℕ) (b : ℕ) → m < n → start_of (drop m (rows_in n tab)) b ≡ get_or tab (4 * m + 2) 0
unfolding rows_in start_of
start_in m zero tab b h = absurd (omega arith)
start_in m (suc n) tab b h = go (dec_lt m n) (start_in m n tab b)
  where
    go : Dec (m < n) → (m < n → start_of (drop m (rows_in n tab)) b ≡ get_or tab (4 * m + 2) 0) → start_of (drop m (rows_in n tab ++ (row_at n tab ∷ []))) b ≡ get_or tab (4 * m + 2) 0
    go (yes p) f =
        let l : 0 < length (drop m (rows_in n tab)) = omega (arith, length-drop m (rows_in n tab), length_rows n tab) in
        rw (drop-append-le m (rows_in n tab) (row_at n tab ∷ []) (omega (arith, length_rows n tab)), start_append (drop m (rows_in n tab)) (row_at n tab ∷ []) b b l) (f p)
    go (no p) f =
        let e : m ≡ length (rows_in n tab) = omega (arith, length_rows n tab) in
        rw (e, drop-append_seam (rows_in n tab) (row_at n tab ∷ []), length_rows n tab)

pub start_out : (m n : ℕ) (tab : List ℕ) (b : ℕ) → n ≤ m → start_of (drop m (rows_in n tab)) b ≡ b
unfolding start_of
start_out m n tab b h = rw (drop_of_length-le (rows_in n tab) {i = m} (omega (arith, length_rows n tab)))
