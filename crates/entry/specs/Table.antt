-- The table after a parse: its rows are its first elements, zeros follow, and that is what the definition promises.
-- Assumes nothing.
use Rattle.std.specs.Prelude.{ℕ, zero, suc, ◌+◌, ◌*◌, ◌/◌, ◌≤◌, ◌≡◌, refl, List, [], ◌∷◌, ◌++◌, length, take, drop, get_or, Result, Ok, Err}
use Rattle.std.proofs.Common.{ap, sym, ◌∙◌, append-nil, arith, length-drop, take-add, length-take-le, get_or-drop}
use Rattle.std.proofs.Math.Nat.{min-le_left, mul-div-le}
use Rattle.definition.specs.Tape.{Out, ok, refused, elements, capacity}
use Rattle.definition.specs.Parse.{flat, number_of, place_of, rows_of, table_of}
use Rattle.laws.specs.Flat.{flat_append}
use Rattle.tape.specs.Numbers.{number_of as code_of}
use Rattle.tape.specs.Ready.{row_at, rows_in}
use Rattle.tape.specs.View.{state_of}
use Rattle.tape.specs.Rows.{length_rows}
use Rattle.tape.specs.declared.refusal.Refusal.{Refusal}
use Rattle.tape.specs.declared.Tape.{Tape}
use Rattle.entry.specs.Promise.{rows, Ends, ends, Leaves}
use Rattle.entry.specs.Round.{Zeroed}

-- ## The table

-- a row's elements, as the table has them
four : (l : List ℕ) → 4 ≤ length l → take 4 l ≡ get_or l 0 0 ∷ get_or l 1 0 ∷ get_or l 2 0 ∷ get_or l 3 0 ∷ []
four [] h = absurd (omega arith)
four (a ∷ []) h = absurd (omega arith)
four (a ∷ b ∷ []) h = absurd (omega arith)
four (a ∷ b ∷ c ∷ []) h = absurd (omega arith)
four (a ∷ b ∷ c ∷ d ∷ l) h = refl

row_elements : (n : ℕ) (tab : List ℕ) → 4 * n + 4 ≤ length tab → elements (row_at n tab) ≡ take 4 (drop (4 * n) tab)
unfolding elements
row_elements n tab h =
    let z : 4 * n + 0 ≡ 4 * n = omega arith in
    sym (four (drop (4 * n) tab) (omega (arith, length-drop (4 * n) tab)) ∙
    (rw (get_or-drop (4 * n) tab 0 0, get_or-drop (4 * n) tab 1 0, get_or-drop (4 * n) tab 2 0, get_or-drop (4 * n) tab 3 0, z)))

-- the rows that a table holds are its first elements
pub flat_rows : (n : ℕ) (tab : List ℕ) → 4 * n ≤ length tab → flat (rows_in n tab) ≡ take (4 * n) tab
unfolding flat rows_in
flat_rows zero tab h = refl
flat_rows (suc n) tab h =
    let e : 4 * suc n ≡ 4 * n + 4 = omega arith in
    rw (e, take-add (4 * n) 4 tab, flat_append (rows_in n tab) (row_at n tab ∷ []), flat_rows n tab (omega arith), sym (row_elements n tab (omega arith)))
    (ap (λ (l : List ℕ). take (4 * n) tab ++ l) (append-nil (elements (row_at n tab))))

-- ## What is left with the caller

-- refused before the parse or in it: nothing is said of the table but its length
pub refused_leaves : (e : Refusal) {n : ℕ} (tab : List ℕ) → length tab ≡ n → Leaves (refused (code_of e.reason) e.place) n (Err e) tab
unfolding number_of place_of rows_of flat
refused_leaves e tab h = record { tells = record { number_is = refl; place_is = refl; rows_is = refl }; len = h; inside = omega arith; front = refl }

-- a parse that ended: the rows are the table's first elements
pub tree_leaves : (t : Tape) → Leaves (ok tt (state_of t)) (length t.table.now) (Ok (length (state_of t).out)) t.table.now
unfolding number_of place_of rows_of capacity
tree_leaves t =
    let r : length (rows_in t.rows t.table.now) ≡ t.rows = length_rows t.rows t.table.now in
    let h : 4 * t.rows ≤ length t.table.now = omega (arith, t.ready.fits.rows, r, min-le_left (length t.table.now / 4) 4294967295, mul-div-le (length t.table.now) 4) in
    record {
      tells = record { number_is = refl; place_is = refl; rows_is = refl };
      len = refl;
      inside = omega (arith, h, r);
      front = ap (λ (n : ℕ). take (4 * n) t.table.now) r ∙ sym (flat_rows t.rows t.table.now h);
    }

-- zeros behind the rows
pub settled : {o : Out (Unit {0})} {n : ℕ} {r r' : Result ℕ Refusal} {tab tab' : List ℕ} → Leaves o n r tab → (r' ≡ r) × Zeroed (4 * rows r) tab tab' → Ends o n r' tab'
unfolding table_of
settled {r = r} {tab = tab} l e =
    let h : 4 * rows r ≤ length tab = omega (arith, l.inside, l.len) in
    rw e.0 (ends l.tells (e.1.is ∙ (rw (sym l.front, length-take-le (4 * rows r) tab h, l.len))))
