-- The input, a byte at a time: each of its lines is a case.
-- Assumes nothing.
use Rattle.std.specs.Prelude.{ℕ, ◌+◌, ◌≤◌, ◌<◌, ◌≡◌, refl, Bool, cond, Option, Some, length, get_or, take}
use Rattle.std.proofs.Common.{sym, ◌∙◌, arith, drop-cons}
use Rattle.std.proofs.Math.Bool.{true, false}
use mathlib.Core.List.{List, [], ◌∷◌}
use Rattle.std.proofs.Math.Numerals.{add-one}
use Rattle.std.proofs.Math.Dec.{eqb}
use Rattle.std.proofs.Math.ListN.{drop, drop_of_length-le}
use borrow.Author.Tests.{eq-eqb, ne_eqb}
use Rattle.text.specs.declared.Reading.{Reading}
use Rattle.text.specs.declared.Reading.TheVariants.{Before}
use Rattle.text.specs.Line.{stepped, stored, kept, ended}
use Rattle.replay.specs.declared.Place.{Place}
use Rattle.replay.specs.declared.tally.Tally.{Tally}
use Rattle.replay.specs.Case.{Case}

-- where the reading stands behind a byte, and what the room for numbers holds: 10 ends a line
unfoldable pub read_on : Option Reading → List ℕ → ℕ → Option Reading
read_on r ns b = cond (eqb b 10) (Some (Before 0)) (stepped r (length ns) b)

unfoldable pub room_on : Option Reading → List ℕ → ℕ → List ℕ
room_on r ns b = cond (eqb b 10) (kept r ns) (stored r ns b)

unfoldable pub read_all : List ℕ → Option Reading → List ℕ → Option Reading × List ℕ
read_all [] r ns = (r, ns)
read_all (b ∷ l) r ns = read_all l (read_on r ns b) (room_on r ns b)

-- the line that is read, if it ends here, is a case that holds
pub record LineHolds (r : Option Reading) (ns : List ℕ) : Type 0 where
  pub count : ℕ
  pub lists : ended r (length ns) ≡ Some count
  pub case : Case (take count (kept r ns))

-- each line that ends within the bytes is one
unfoldable pub Holding : List ℕ → Option Reading → List ℕ → Type 0
Holding [] r ns = Unit {0}
Holding (b ∷ l) r ns = (b ≡ 10 → LineHolds r ns) × Holding l (read_on r ns b) (room_on r ns b)

-- ## What the code does with a byte, and with a piece of the input

pub record Stepped (p : Place) (b : ℕ) (ns : List ℕ) (q : Place) (ns' : List ℕ) : Type 0 where
  pub reading_is : q.reading ≡ read_on p.reading ns b
  pub room_is : ns' ≡ room_on p.reading ns b
  pub cases_are : q.tally.cases ≡ p.tally.cases + cond (eqb b 10) 1 0
  pub grows : p.tally.differ ≤ q.tally.differ
  pub holds : q.tally.differ ≡ p.tally.differ → b ≡ 10 → LineHolds p.reading ns

-- a line that is no case that holds is counted
pub record Fed (p : Place) (bytes ns : List ℕ) (q : Place) (ns' : List ℕ) : Type 0 where
  pub stands : (q.reading, ns') ≡ read_all bytes p.reading ns
  pub few : q.tally.cases ≤ p.tally.cases + length bytes
  pub grows : p.tally.differ ≤ q.tally.differ
  pub holding : q.tally.differ ≡ p.tally.differ → Holding bytes p.reading ns

-- ## One byte

-- a case was counted, and none more differs: it holds
unchanged : (t : Bool) {d : ℕ} → d + cond t 0 1 ≡ d → t ≡ true
unchanged true e = refl
unchanged false {d} e = absurd (omega arith)

grown : (t : Bool) (d : ℕ) → d ≤ d + cond t 0 1
grown true d = omega arith
grown false d = omega arith

module _ (p : Place) (ns : List ℕ) {ns' : List ℕ} where
  pub byte_on : {b : ℕ} {r : Option Reading} → (b ≡ 10 → ⊥) → (r ≡ stepped p.reading (length ns) b) × (ns' ≡ stored p.reading ns b) →
      Stepped p b ns record { reading = r; tally = p.tally } ns'
  unfolding read_on room_on
  byte_on {b} other (e, f) =
      let x : eqb b 10 ≡ false = ne_eqb b 10 other in
      record {
        reading_is = e ∙ rw x;
        room_is = f ∙ rw x;
        cases_are = rw x (omega arith);
        grows = omega arith;
        holds = λ d is. absurd (other is);
      }

  module _ (t : Tally) {same : Bool} (l : (same ≡ true → LineHolds p.reading ns) × (ns' ≡ kept p.reading ns))
      (k : (t.cases ≡ p.tally.cases + 1) × (t.differ ≡ p.tally.differ + cond same 0 1))
    where
      pub line_counted : t.differ ≡ p.tally.differ → LineHolds p.reading ns
      line_counted d = l.0 (unchanged same (sym k.1 ∙ d))

      pub line_on : {b : ℕ} → b ≡ 10 → Stepped p b ns record { reading = Some (Before 0); tally = t } ns'
      unfolding read_on room_on
      line_on {b} is =
          let x : eqb b 10 ≡ true = eq-eqb b 10 is in
          record {
            reading_is = rw x;
            room_is = l.1 ∙ rw x;
            cases_are = rw x k.0;
            grows = omega (arith, grown same p.tally.differ, k.1);
            holds = λ d _. line_counted d;
          }

-- ## The loop

-- the piece is read up to the byte i
pub record Upto (p : Place) (bytes ns₀ : List ℕ) (q : Place) (ns : List ℕ) (i : ℕ) : Type 0 where
  pub within : i ≤ length bytes
  pub stands : read_all (drop i bytes) q.reading ns ≡ read_all bytes p.reading ns₀
  pub few : q.tally.cases ≤ p.tally.cases + i
  pub grows : p.tally.differ ≤ q.tally.differ
  pub holding : Holding (drop i bytes) q.reading ns → q.tally.differ ≡ p.tally.differ → Holding bytes p.reading ns₀

pub upto_start : (p : Place) (bytes ns : List ℕ) → Upto p bytes ns p ns 0
upto_start p bytes ns =
    record { within = omega arith; stands = refl; few = omega arith; grows = omega arith; holding = λ k e. k }

one : (t : Bool) → cond t 1 0 ≤ 1
one true = omega arith
one false = omega arith

module _ {p : Place} {bytes ns₀ : List ℕ} {q : Place} {ns : List ℕ} {i : ℕ} (u : Upto p bytes ns₀ q ns i) where
  pub upto_go : {q' : Place} {ns' : List ℕ} → i < length bytes → Stepped q (get_or bytes i 0) ns q' ns' → Upto p bytes ns₀ q' ns' (i + 1)
  unfolding read_all Holding
  upto_go {q'} {ns'} h s =
      record {
        within = omega arith;
        stands = rw (s.reading_is, s.room_is, add-one i) (rw (drop-cons bytes i 0 h) at u.stands);
        few = omega (arith, s.cases_are, one (eqb (get_or bytes i 0) 10));
        grows = omega (arith, s.grows);
        holding = λ k e. u.holding (rw (drop-cons bytes i 0 h) (s.holds (omega (arith, s.grows)), rw (s.reading_is, s.room_is, add-one i) at k)) (omega (arith, s.grows));
      }

  pub upto_end : length bytes ≤ i → Fed p bytes ns₀ q ns
  unfolding read_all Holding
  upto_end h =
      let e : drop i bytes ≡ [] = drop_of_length-le bytes h in
      record {
        stands = rw e at u.stands;
        few = omega arith;
        grows = u.grows;
        holding = λ d. u.holding (rw e tt) d;
      }
