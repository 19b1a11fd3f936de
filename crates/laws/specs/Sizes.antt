-- What every program keeps: places, bytes and rows only grow, the rows fit the table, the byte position is the sum of the lengths written, and a
-- node over the rows since a mark starts and ends where its leaves do. Instances of `kept`.
-- Assumes nothing.
use Rattle.std.specs.Prelude.{ℕ, zero, suc, ◌+◌, ◌≤◌, ◌<◌, ◌≡◌, refl, cond, List, [], ◌∷◌, ◌++◌, length, take, drop, get_or, eqb}
use Rattle.std.proofs.Common.{subst, sym, ◌∙◌, append-nil, append_assoc, arith, add-one, length-append, length-drop, drop_of_length-le}
use Rattle.std.proofs.Math.Decide.{dec_lt}
use Rattle.std.proofs.lemmas.List.{drop-append-le}
use Rattle.std.proofs.Math.Seq.{drop-append_seam, drop-length}
use Rattle.std.proofs.Math.Dec.{eqb-suc-zero}
use Rattle.definition.specs.Tape.{In, Row, State, wrote_leaf, leaf_at, leaves_at, leaves_len, start_of, node_over, wrote_node}
use Rattle.definition.specs.Prog.{Prog, Rule, eval, call}
use Rattle.laws.specs.Kept.{After, Kept, after_leaf, after_leaves, kept}

-- ## Sums

unfoldable pub total : List ℕ → ℕ
total [] = 0
total (x ∷ l) = x + total l

pub total_next : (l : List ℕ) (n : ℕ) → total (take (n + 1) l) ≡ total (take n l) + get_or l n 0
unfolding total
total_next l n = rw add-one (go l n)
  where
    go : (l : List ℕ) (n : ℕ) → total (take (suc n) l) ≡ total (take n l) + get_or l n 0
    go [] zero = refl
    go [] (suc n) = refl
    go (x ∷ l) zero = omega arith
    go (x ∷ l) (suc n) = rw (go l n) (omega arith)

pub leaves_append : (l r : List Row) → leaves_len (l ++ r) ≡ leaves_len l + leaves_len r
unfolding leaves_len
leaves_append [] r = omega arith
leaves_append (x ∷ l) r = rw (leaves_append l r) (omega arith)

-- a node adds no length of its own
node_adds : (l : List Row) → cond (eqb (length l) 0) (leaves_len l) 0 ≡ 0
unfolding leaves_len
node_adds [] = refl
node_adds (r ∷ l) = rw (eqb-suc-zero (length l))

pub start_append : (l r : List Row) (b c : ℕ) → 0 < length l → start_of (l ++ r) c ≡ start_of l b
unfolding start_of
start_append [] r b c h = absurd (omega arith)
start_append (x ∷ l) r b c h = refl

-- ## Growth

pub record Grows (s t : State) : Type 0 where
  pub at : s.at ≤ t.at
  pub more : List Row
  pub out : t.out ≡ s.out ++ more
  pub byte : t.byte ≡ s.byte + leaves_len more

grows_leaf : (i : In) (s : State) → Grows s (wrote_leaf i s)
unfolding wrote_leaf leaves_len
grows_leaf i s = record { at = omega arith; more = _; out = refl; byte = omega arith }

grows_node : (m k : ℕ) (s : State) → Grows s (wrote_node m k s)
unfolding wrote_node node_over leaves_len
grows_node m k s = record { at = omega arith; more = _; out = refl; byte = omega (arith, node_adds (drop m s.out)) }

grows_on : (s t u : State) → Grows s t → Grows t u → Grows s u
grows_on s t u h g =
    record {
      at = omega arith;
      more = h.more ++ g.more;
      out = rw (g.out, h.out) (append_assoc s.out h.more g.more);
      byte = omega (arith, h.byte, g.byte, leaves_append h.more g.more);
    }

-- ## A mark: the rows since it start where the first of them does and have its bytes

pub record Based (m : ℕ) (s : State) : Type 0 where
  pub low : m ≤ length s.out
  pub sum : start_of (drop m s.out) s.byte + leaves_len (drop m s.out) ≡ s.byte

-- a mark that was just taken
pub based_now : (s : State) → Based (length s.out) s
unfolding start_of leaves_len
based_now s = record { low = omega arith; sum = rw (drop-length s.out) (omega arith) }

-- growth keeps a mark that has rows; one that has none yet is to be looked at
based_grows : (m : ℕ) (s t : State) → Grows s t → Based m s → (m ≡ length s.out → Based m t) → Based m t
based_grows m s t g b f = go (dec_lt m (length s.out))
  where
    go : Dec (m < length s.out) → Based m t
    go (yes p) =
        let e : drop m t.out ≡ drop m s.out ++ g.more = (rw g.out) ∙ drop-append-le m s.out g.more b.low in
        let n : 0 < length (drop m s.out) = omega (arith, length-drop m s.out) in
        record {
          low = rw (g.out, length-append s.out g.more) (omega (arith, b.low));
          sum = rw (e, start_append (drop m s.out) g.more s.byte t.byte n, leaves_append (drop m s.out) g.more) (omega (arith, b.sum, g.byte));
        }
    go (no p) = f (omega (arith, b.low))

-- a leaf is written under any mark
based_leaf : (i : In) (m : ℕ) (s : State) → Based m s → Based m (wrote_leaf i s)
unfolding wrote_leaf start_of leaves_len
based_leaf i m s b = based_grows m s (wrote_leaf i s) (grows_leaf i s) b first
  where
    first : m ≡ length s.out → Based m (wrote_leaf i s)
    first e = record { low = rw (length-append s.out) (omega arith); sum = rw (e, drop-append_seam s.out) (omega arith) }

-- a node over the rows since the mark itself
based_node : (m k : ℕ) (s : State) → Based m s → Based m (wrote_node m k s)
unfolding wrote_node node_over start_of leaves_len
based_node m k s b = based_grows m s (wrote_node m k s) (grows_node m k s) b first
  where
    first : m ≡ length s.out → Based m (wrote_node m k s)
    first e =
        let z : drop m s.out ≡ [] = rw e (drop-length s.out) in
        record { low = rw (length-append s.out) (omega arith); sum = rw (e, drop-append_seam s.out) (rw (rw e at z) (omega arith)) }

pub record Went (m : ℕ) (s t : State) : Type 0 where
  pub grows : Grows s t
  pub based : Based m s → Based m t

went_kept : (i : In) → Kept i Went
unfolding leaves_len
went_kept i =
    record {
      same = λ m s. record { grows = record { at = omega arith; more = []; out = sym (append-nil _); byte = omega arith }; based = λ b. b };
      trans = λ m s t u h g. record { grows = grows_on s t u h.grows g.grows; based = λ b. g.based (h.based b) };
      leaf = λ m s h r. record { grows = grows_leaf i s; based = based_leaf i m s };
      node = λ m s k r. record { grows = grows_node m k s; based = based_node m k s };
      inside = λ m s t h.
          record { grows = h.grows; based = λ b. based_grows m s t h.grows b (λ e. subst (λ (x : ℕ). Based x t) (sym e) (h.based (based_now s))) };
    }

-- every program, under any mark m: what it wrote, and that the mark stays one
pub went : {A : Type 0} (g : Rule → Prog ℕ) (i : In) (d m : ℕ) (p : Prog A) (s : State) → After (Went m) s (eval i (call g i d) m p s)
went g i d m p s = kept i Went (went_kept i) g d m p s

pub went_leaves : (i : In) (m n : ℕ) (s : State) → After (Went m) s (leaves_at i n s)
went_leaves i m n s = after_leaves i Went (went_kept i) m n s

-- ## Sizes

-- rows: they fit the table; byte: the sum of the lengths written; leaves: that of the rows that are leaves; starts: every row's start is at most the byte position
pub record Fits (i : In) (s : State) : Type 0 where
  pub rows : length s.out ≤ i.cap
  pub end : s.at ≤ length i.kinds
  pub byte : s.byte ≡ total (take s.at i.lens)
  pub leaves : s.byte ≡ leaves_len s.out
  pub starts : (m : ℕ) → start_of (drop m s.out) s.byte ≤ s.byte

-- one row more, which starts at most at c
starts_more : (l : List Row) (r : Row) (b c : ℕ) → b ≤ c → r.start ≤ c → ((m : ℕ) → start_of (drop m l) b ≤ b) → (m : ℕ) → start_of (drop m (l ++ (r ∷ []))) c ≤ c
unfolding start_of
starts_more l r b c h g f m = go (dec_lt m (length l)) (dec_lt (length l) m)
  where
    go : Dec (m < length l) → Dec (length l < m) → start_of (drop m (l ++ (r ∷ []))) c ≤ c
    go (yes p) q =
        let n : 0 < length (drop m l) = omega (arith, length-drop m l) in
        rw (drop-append-le m l (r ∷ []) (omega arith), start_append (drop m l) (r ∷ []) b c n) (omega (arith, f m))
    go (no p) (yes q) = rw (drop_of_length-le (l ++ (r ∷ [])) {i = m} (rw (length-append l (r ∷ [])) (omega arith))) (omega arith)
    go (no p) (no q) = let e : m ≡ length l = omega arith in rw (e, drop-append_seam l (r ∷ [])) g

fits_leaf : (i : In) (s : State) → s.at < length i.kinds → length s.out < i.cap → Fits i s → Fits i (wrote_leaf i s)
unfolding wrote_leaf leaves_len
fits_leaf i s h r f =
    record {
      rows = rw (length-append s.out) (omega arith);
      end = omega arith;
      byte = rw (total_next i.lens s.at) (omega (arith, f.byte));
      leaves = rw (leaves_append s.out) (omega (arith, f.leaves));
      starts = starts_more s.out _ s.byte _ (omega arith) (omega arith) f.starts;
    }

fits_node : (i : In) (m k : ℕ) (s : State) → length s.out < i.cap → Fits i s → Fits i (wrote_node m k s)
unfolding wrote_node node_over leaves_len
fits_node i m k s r f =
    record {
      rows = rw (length-append s.out) (omega arith);
      end = f.end;
      byte = f.byte;
      leaves = rw (leaves_append s.out) (omega (arith, f.leaves, node_adds (drop m s.out)));
      starts = starts_more s.out _ s.byte s.byte (omega arith) (f.starts m) f.starts;
    }

-- (whatever the mark)
unfoldable pub FitsOn : In → ℕ → State → State → Type 0
FitsOn i m s t = Fits i s → Fits i t

fits_kept : (i : In) → Kept i (FitsOn i)
unfolding FitsOn
fits_kept i =
    record {
      same = λ m s f. f;
      trans = λ m s t u h g f. g (h f);
      leaf = λ m s h r f. fits_leaf i s h r f;
      node = λ m s k r f. fits_node i m k s r f;
      inside = λ m s t h. h;
    }

pub fits : {A : Type 0} (g : Rule → Prog ℕ) (i : In) (d m : ℕ) (p : Prog A) (s : State) → After (FitsOn i m) s (eval i (call g i d) m p s)
fits g i d m p s = kept i (FitsOn i) (fits_kept i) g d m p s

pub fits_leaves : (i : In) (m n : ℕ) (s : State) → After (FitsOn i m) s (leaves_at i n s)
fits_leaves i m n s = after_leaves i (FitsOn i) (fits_kept i) m n s

pub fits_leaf_at : (i : In) (m : ℕ) (s : State) → After (FitsOn i m) s (leaf_at i s)
fits_leaf_at i m s = after_leaf i (FitsOn i) (fits_kept i) m s
