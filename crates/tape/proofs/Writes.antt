-- The two moves of the tape as the code makes them: a leaf and a node, written or refused; and the loop that writes pending trivia.
-- Assumes nothing.
use Rattle.std.specs.Prelude.{ℕ, zero, suc, ◌+◌, ◌-◌, ◌*◌, ◌/◌, ◌≤◌, ◌<◌, ◌≡◌, true, false, List, [], ◌∷◌, length, take, drop, get_or, Result, Ok, Err}
use Rattle.std.proofs.Math.Path.{refl, ap, subst, sym}
use Rattle.std.proofs.Common.{◌∙◌, arith, length-drop}
use native.Mathlib.Nat.{min-le_left, min-le_right, mul-div-le}
use lib.Seq.{sets, length-sets}
use borrow.Author.Tests.{lt-ltb, le-ltb, eq-eqb}
use Rattle.definition.specs.Tape.{In, Row, State, Out, ok, refused, and_then, choose, guard, room, wrote_leaf, leaf_at, leaves_at, here_at, elements, capacity, start_of, leaves_len, node_over, wrote_node, close_at, flush_at, bump_at, triv}
use Rattle.definition.specs.Prog.{mark, eval, flush, bump, close}
use Rattle.definition.specs.Parse.{run}
use Rattle.definition.specs.Grammar.{grammar}
use Rattle.laws.specs.Kept.{After}
use Rattle.laws.specs.Sizes.{total, total_next, Fits, FitsOn, fits, fits_leaf_at}
use Rattle.laws.specs.Looking.{skipped, skipped_ge, skipped_le, skipped_in}
use Rattle.laws.specs.Moves.{leaves_last, flush_end}
use Rattle.tape.specs.Ready.{rows_in, in_of, Ready}
use Rattle.tape.specs.Numbers.{number_of}
use Rattle.tape.specs.View.{given, state_of, Refuses, Marked, Leaf, Step, Ran}
use Rattle.tape.specs.Places.{place_of, state_in, Writing, Room, LeafAt, Writes, Written}
use Rattle.tape.specs.Rows.{length_rows, rows_next}
use Rattle.tape.specs.Steps.{same_given, kept_self, kept_on}
use Rattle.tape.specs.declared.refusal.Reason.{Reason}
use Rattle.tape.specs.declared.refusal.Refusal.{Refusal}
use Rattle.tape.specs.declared.Tape.{Tape}
use Rattle.tape.specs.declared.write.Place.{Place}

-- ## Room

pub cap_four : (n : ℕ) → 4 * capacity n ≤ n
unfolding capacity
cap_four n = omega (arith, min-le_left (n / 4) 4294967295, mul-div-le n 4)

pub cap_few : (n : ℕ) → capacity n ≤ 4294967295
unfolding capacity
cap_few n = min-le_right (n / 4) 4294967295

-- a row behind those that are written lies in the table
pub in_table : (rows : ℕ) (tab : List ℕ) → rows < capacity (length tab) → 4 * rows + 4 ≤ length tab
in_table rows tab h = omega (arith, cap_four (length tab))

pub rows_fit : (t : Tape) → t.rows ≤ capacity (length t.table.now)
rows_fit t = omega (arith, t.ready.fits.rows, length_rows t.rows t.table.now)

pub rows_in_table : (t : Tape) → 4 * t.rows ≤ length t.table.now
rows_in_table t = omega (arith, rows_fit t, cap_four (length t.table.now))

module _ (ks ls tab : List ℕ) (p : Place) where
  has_room : p.rows < capacity (length tab) → room (in_of ks ls tab) (state_in p tab) ≡ true
  unfolding room
  has_room h = rw (length_rows p.rows tab) (lt-ltb p.rows (capacity (length tab)) h)

  no_room : capacity (length tab) ≤ p.rows → room (in_of ks ls tab) (state_in p tab) ≡ false
  unfolding room
  no_room h = rw (length_rows p.rows tab) (le-ltb p.rows (capacity (length tab)) h)

-- ## The sizes after a move

fits_then : {A : Type 0} (i : In) (m : ℕ) (s u : State) (o : Out A) (a : A) → After (FitsOn i m) s o → ok a u ≡ o → Fits i s → Fits i u
unfolding FitsOn
fits_then i m s u o a h e f = subst (λ (x : Out _). After (FitsOn i m) s x) (sym e) h f

-- ## A leaf

total_take : (l : List ℕ) (n : ℕ) → total (take n l) ≤ total l
unfolding total
total_take [] zero = omega arith
total_take [] (suc n) = omega arith
total_take (x ∷ l) zero = omega arith
total_take (x ∷ l) (suc n) = omega (arith, total_take l n)

-- the byte position stays in its bound
pub byte_fits : (t : Tape) → t.byte + get_or t.lens.now t.at 0 ≤ 16777216
byte_fits t = omega (arith, t.ready.fits.byte, t.ready.sized.small, total_next t.lens.now t.at, total_take t.lens.now (t.at + 1))

module _ {ks ls tab : List ℕ} {p : Place} {end : ℕ} (w : Writing ks ls tab p end) (h : p.at < end) where
  pub room_for : p.rows < capacity (length tab) → Room ks ls tab p
  room_for c =
      record {
        pair = w.sized.pair;
        token = omega (arith, w.inside);
        row = c;
        byte = omega (arith, w.fits.byte, w.sized.small, total_next ls p.at, total_take ls (p.at + 1));
      }

  leaf_none : capacity (length tab) ≤ p.rows → leaf_at (in_of ks ls tab) (state_in p tab) ≡ refused 11 (skipped p.at ks)
  unfolding leaf_at choose guard here_at skipped
  leaf_none c = rw (lt-ltb p.at (length ks) (omega (arith, w.inside)), no_room ks ls tab p c)

  module _ (c : p.rows < capacity (length tab)) {tab' : List ℕ} {r : Place} (l : LeafAt ks ls tab p tab' r) where
    pub leaf_len : length tab' ≡ length tab
    leaf_len = rw l.table (length-sets tab (4 * p.rows) (get_or ks p.at 0 ∷ 0 ∷ p.byte ∷ get_or ls p.at 0 ∷ []))

    pub leaf_is : ok tt (state_in r tab') ≡ leaf_at (in_of ks ls tab) (state_in p tab)
    unfolding leaf_at choose guard wrote_leaf elements
    leaf_is =
        let row : Row = record { kind = get_or ks p.at 0; back = 0; start = p.byte; len = get_or ls p.at 0 } in
        rw (l.place, lt-ltb p.at (length ks) (omega (arith, w.inside)), has_room ks ls tab p c, l.table, rows_next row p.rows tab (in_table p.rows tab c))

    pub leaf_on : Writing ks ls tab' r end
    leaf_on =
        let i = in_of ks ls tab in
        record {
          sized = w.sized;
          ahead = rw l.place (omega arith);
          inside = w.inside;
          fits = rw leaf_len (fits_then i 0 (state_in p tab) (state_in r tab') (leaf_at i (state_in p tab)) tt (fits_leaf_at i 0 (state_in p tab)) leaf_is w.fits);
        }

pub leaf_full : (t : Tape) (e : Refusal) → t.at < length t.kinds.now → capacity (length t.table.now) ≤ t.rows → Refuses Reason.Full e t → Leaf (Err e) t t
unfolding leaf_at choose guard here_at skipped
leaf_full t e h c w =
    record {
      is = rw (lt-ltb t.at (length t.kinds.now) h, no_room t.kinds.now t.lens.now t.table.now (place_of t) c, w.reason, w.place);
      at = tt;
      kept = kept_self;
    }

-- ## The leaves up to a place

leaves_one : (i : In) (a n : ℕ) (s : State) → a < n → leaves_at i (n - a) s ≡ and_then (leaf_at i s) (λ u t. leaves_at i (n - (a + 1)) t)
unfolding leaves_at
leaves_one i a n s h = let e : n - a ≡ suc (n - (a + 1)) = omega arith in rw e

pub writes_start : {ks ls tab : List ℕ} {p : Place} {end : ℕ} → Writing ks ls tab p end → Writes ks ls end tab p tab p
writes_start w = record { rest = refl; len = refl; goes = omega arith; on = w }

module _ {ks ls tab₀ tab : List ℕ} {p₀ p : Place} {end : ℕ} (v : Writes ks ls end tab₀ p₀ tab p) (h : p.at < end) where
  -- what is left of them, one leaf on
  one_on : (o : Out (Unit {0})) → o ≡ leaf_at (in_of ks ls tab) (state_in p tab) →
      and_then o (λ u s. leaves_at (in_of ks ls tab₀) (end - (p.at + 1)) s) ≡ leaves_at (in_of ks ls tab₀) (end - p₀.at) (state_in p₀ tab₀)
  one_on o e =
      let i = in_of ks ls tab₀ in
      let g : in_of ks ls tab ≡ i = rw v.len in
      ap (λ (x : Out _). and_then x (λ u s. leaves_at i (end - (p.at + 1)) s)) (e ∙ ap (λ (j : In). leaf_at j (state_in p tab)) g) ∙
      (sym (leaves_one i p.at end (state_in p tab) h) ∙ v.rest)

  pub writes_room : p.rows < capacity (length tab₀) → Room ks ls tab p
  writes_room c = room_for v.on h (rw v.len c)

  pub writes_go : {tab' : List ℕ} {r : Place} → p.rows < capacity (length tab₀) → LeafAt ks ls tab p tab' r → Writes ks ls end tab₀ p₀ tab' r
  unfolding and_then
  writes_go {tab'} {r} c l =
      let d : p.rows < capacity (length tab) = rw v.len c in
      let e : p.at + 1 ≡ r.at = rw l.place in
      record {
        rest = ap (λ (n : ℕ). leaves_at (in_of ks ls tab₀) (end - n) (state_in r tab')) (sym e) ∙ one_on _ (leaf_is v.on h d l);
        len = leaf_len v.on h d l ∙ v.len;
        goes = omega (arith, v.goes, e);
        on = leaf_on v.on h d l;
      }

  pub writes_full : capacity (length tab₀) ≤ p.rows → leaves_at (in_of ks ls tab₀) (end - p₀.at) (state_in p₀ tab₀) ≡ refused 11 (skipped p.at ks)
  unfolding and_then
  writes_full c = sym (one_on _ (sym (leaf_none v.on h (rw v.len c))))

-- ## A node

module _ (t : Tape) {c : ℕ} (b : Marked c t) where
  pub mark_low : c ≤ t.rows
  mark_low = omega (arith, b.based.low, length_rows t.rows t.table.now)

  -- the row that the code writes is the definition's
  node_row : (k st : ℕ) → st ≡ start_of (drop c (rows_in t.rows t.table.now)) t.byte →
      record { kind = k; back = t.rows - c; start = st; len = t.byte - st } ≡ node_over c k (state_of t)
  unfolding node_over
  node_row k st e =
      let n : t.rows - c ≡ length (drop c (rows_in t.rows t.table.now)) = omega (arith, length-drop c (rows_in t.rows t.table.now), length_rows t.rows t.table.now) in
      let l : t.byte - st ≡ leaves_len (drop c (rows_in t.rows t.table.now)) = omega (arith, b.based.sum) in
      rw (n, l, e)

  module _ (k st : ℕ) {tab : List ℕ} (h : st ≡ start_of (drop c (rows_in t.rows t.table.now)) t.byte) (r : t.rows < capacity (length t.table.now))
      (w : tab ≡ sets t.table.now (4 * t.rows) (k ∷ (t.rows - c) ∷ st ∷ (t.byte - st) ∷ [])) where
    pub node_len : length tab ≡ length t.table.now
    node_len = rw w (length-sets t.table.now (4 * t.rows) (k ∷ (t.rows - c) ∷ st ∷ (t.byte - st) ∷ []))

    pub node_is : ok tt (record { at = t.at; byte = t.byte; out = rows_in (t.rows + 1) tab }) ≡ run (given t) t.left c (close (mark c) k) (state_of t)
    unfolding run eval choose close_at guard wrote_node elements
    node_is =
        let row : Row = record { kind = k; back = t.rows - c; start = st; len = t.byte - st } in
        rw (eq-eqb c c refl, has_room t.kinds.now t.lens.now t.table.now (place_of t) r, w, rows_next row t.rows t.table.now (in_table t.rows t.table.now r), node_row k st h)

    pub node_ready : Ready t.kinds.now t.lens.now tab t.at t.next t.second (t.rows + 1) t.byte
    unfolding run eval
    node_ready =
        record {
          sized = t.ready.sized;
          next = t.ready.next;
          second = t.ready.second;
          fits = rw node_len (fits_then (given t) c (state_of t) (record { at = t.at; byte = t.byte; out = rows_in (t.rows + 1) tab }) _ tt (fits grammar (given t) t.left c (close (mark c) k) (state_of t)) node_is t.ready.fits);
        }

  pub node_full : (k : ℕ) (e : Refusal) → capacity (length t.table.now) ≤ t.rows → Refuses Reason.Full e t → Step c (close (mark c) k) (Err e) t t
  unfolding run eval choose close_at guard here_at skipped
  node_full k e h w = record { is = rw (eq-eqb c c refl, no_room t.kinds.now t.lens.now t.table.now (place_of t) h, w.reason, w.place); kept = kept_self }

-- ## Pending trivia

-- from some trivia on the next place stays, up to where they end
still : (l : List ℕ) (a n : ℕ) → a + n ≤ skipped a l → skipped (a + n) l ≡ skipped a l
still l a zero h = let e : a + 0 ≡ a = omega arith in rw e
still l a (suc n) h =
    let e : a + suc n ≡ a + n + 1 = omega arith in
    rw e (skipped_in l (a + n) (omega (arith, still l a n (omega arith))) ∙ still l a n (omega arith))

-- the flush of the definition, counted by the code's places
flush_is : (m : ℕ) (t : Tape) → leaves_at (given t) (t.next - t.at) (state_of t) ≡ run (given t) t.left m flush (state_of t)
unfolding run eval flush_at skipped
flush_is m t =
    let e : t.next - t.at ≡ triv (drop t.at t.kinds.now) = omega (arith, t.ready.next) in
    rw e

module _ (t : Tape) where
  -- the next place is that of any place up to it
  next_of : (n : ℕ) → t.at ≤ n → n ≤ t.next → t.next ≡ skipped n t.kinds.now
  next_of n h g =
      let e : t.at + (n - t.at) ≡ n = omega arith in
      t.ready.next ∙ (sym (still t.kinds.now t.at (n - t.at) (omega (arith, t.ready.next))) ∙ ap (λ (x : ℕ). skipped x t.kinds.now) e)

  pub pending : Writing t.kinds.now t.lens.now t.table.now (place_of t) t.next
  pending =
      record {
        sized = t.ready.sized;
        ahead = omega (arith, t.ready.next, skipped_ge t.kinds.now t.at);
        inside = omega (arith, t.ready.next, skipped_le t.kinds.now t.at t.ready.fits.end);
        fits = t.ready.fits;
      }

  pub flush_none : t.at ≡ t.next → Ran flush (Ok tt) t t
  unfolding leaves_at
  flush_none e =
      let z : 0 ≡ t.next - t.at = omega arith in
      record { under = λ m. record { is = ap (λ (n : ℕ). leaves_at (given t) n (state_of t)) z ∙ flush_is m t; kept = kept_self } }

  module _ {tab : List ℕ} {p : Place} (w : Written t.kinds.now t.lens.now t.next t.table.now (place_of t) tab p) where
    pub flush_ready : Ready t.kinds.now t.lens.now tab p.at t.next t.second p.rows p.byte
    flush_ready =
        record { sized = t.ready.sized; next = next_of p.at w.writes.goes w.writes.on.ahead; second = t.ready.second; fits = w.writes.on.fits }

    pub flush_all : p.at ≡ t.next → (m : ℕ) → ok tt (state_in p tab) ≡ run (given t) t.left m flush (state_of t)
    unfolding leaves_at
    flush_all e m =
        let z : 0 ≡ t.next - p.at = omega arith in
        ap (λ (n : ℕ). leaves_at (given t) n (state_in p tab)) z ∙ (w.writes.rest ∙ flush_is m t)

    pub flush_full : (p.at ≡ t.next → ⊥) → {e : Refusal} → e.reason ≡ Reason.Full → e.place ≡ skipped p.at t.kinds.now → (m : ℕ) →
        refused (number_of e.reason) e.place ≡ run (given t) t.left m flush (state_of t)
    flush_full n h g m =
        let l : p.at < t.next = omega (arith, w.writes.on.ahead) in
        rw (h, g) (sym (writes_full w.writes l (w.stops l)) ∙ flush_is m t)

-- ## A bump: a flush, and one leaf more

bump_is : (i : In) (d m : ℕ) (s : State) → and_then (run i d m flush s) (λ u t. leaf_at i t) ≡ run i d m bump s
unfolding run eval bump_at flush_at
bump_is i d m s = sym (leaves_last i (triv (drop s.at i.kinds)) s)

module _ {t r : Tape} where
  pub bump_cut : {e : Refusal} → Ran flush (Err e) t r → Ran bump (Err e) t r
  unfolding and_then
  bump_cut w =
      record {
        under = λ m.
            record {
              is = ap (λ (x : Out _). and_then x (λ u s. leaf_at (given t) s)) (w.under m).is ∙ bump_is (given t) t.left m (state_of t);
              kept = (w.under m).kept;
            };
      }

  module _ (w : Ran flush (Ok tt) t r) where
    -- what a bump comes to where the flush goes on
    bump_on : (m : ℕ) → leaf_at (given r) (state_of r) ≡ run (given t) t.left m bump (state_of t)
    unfolding and_then
    bump_on m =
        ap (λ (i : In). leaf_at i (state_of r)) (same_given (w.under m).kept.same) ∙
        (ap (λ (x : Out _). and_then x (λ u s. leaf_at (given t) s)) (w.under m).is ∙ bump_is (given t) t.left m (state_of t))

    pub bump_leaf : {x : Tape} {o : Result (Unit {0}) Refusal} → Leaf o r x → Ran bump o t x
    bump_leaf l = record { under = λ m. record { is = l.is ∙ bump_on m; kept = kept_on (w.under m).kept l.kept } }

    pub flushed_to : r.at ≡ t.next
    unfolding run eval
    flushed_to = flush_end (given t) (state_of t) (state_of r) tt t.ready.fits.end (sym (w.under 0).is) ∙ sym t.ready.next

    -- behind a flush no trivia is pending
    pub flushed_at : r.at ≡ r.next
    flushed_at =
        let k = (w.under 0).kept.same.kinds in
        let e : t.next ≡ skipped t.next t.kinds.now = next_of t t.next (omega (arith, t.ready.next, skipped_ge t.kinds.now t.at)) (omega arith) in
        sym (r.ready.next ∙ (rw (k, flushed_to) (sym e) ∙ sym flushed_to))

    pub bump_none : length t.kinds.now ≤ t.next → Ran bump (Ok tt) t r
    unfolding leaf_at choose
    bump_none h =
        let l : length r.kinds.now ≤ r.at = rw (w.under 0).kept.same.kinds (omega (arith, flushed_to)) in
        record { under = λ m. record { is = (rw (le-ltb r.at (length r.kinds.now) l)) ∙ bump_on m; kept = (w.under m).kept } }

    module _ (h : t.next < length t.kinds.now) where
      -- the token's place
      abbrev token : Place
      token = record { at = t.next; rows = r.rows; byte = r.byte }

      on_token : Writing t.kinds.now r.lens.now r.table.now token (t.next + 1)
      on_token =
          let k = (w.under 0).kept.same.kinds in
          record {
            sized = rw (← k) r.ready.sized;
            ahead = omega arith;
            inside = omega arith;
            fits = rw (← k, ← flushed_to) r.ready.fits;
          }

      pub token_room : r.rows < capacity (length r.table.now) → Room t.kinds.now r.lens.now r.table.now token
      token_room c = room_for on_token (omega arith) c

      pub token_full : {e : Refusal} → capacity (length r.table.now) ≤ r.rows → Refuses Reason.Full e r → Ran bump (Err e) t r
      token_full {e} c q = bump_leaf (leaf_full r e (rw ((w.under 0).kept.same.kinds, flushed_to) h) c q)

      module _ (c : r.rows < capacity (length r.table.now)) {tab' : List ℕ} {p : Place} (l : LeafAt t.kinds.now r.lens.now r.table.now token tab' p) where
        pub token_ready : {after : ℕ} → after ≡ skipped (t.second + 1) t.kinds.now → Ready r.kinds.now r.lens.now tab' p.at t.second after p.rows p.byte
        token_ready e =
            let f = leaf_on on_token (omega arith) c l in
            let a : t.next + 1 ≡ p.at = rw l.place in
            rw (w.under 0).kept.same.kinds (record { sized = f.sized; next = t.ready.second ∙ ap (λ (n : ℕ). skipped n t.kinds.now) a; second = e; fits = f.fits })

        pub token_len : length tab' ≡ length r.table.now
        token_len = leaf_len on_token (omega arith) c l

        pub token_at : p.at ≡ r.at + 1
        token_at = rw (l.place, flushed_to)

        pub token_is : ok tt (state_in p tab') ≡ leaf_at (given r) (state_of r)
        token_is = rw ((w.under 0).kept.same.kinds, flushed_to) (leaf_is on_token (omega arith) c l)
