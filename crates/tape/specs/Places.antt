-- How far the leaves are written: what the writing of one, and the loop over them, ask and leave.
-- Assumes nothing.
use Rattle.std.specs.Prelude.{ℕ, ◌+◌, ◌-◌, ◌*◌, ◌≤◌, ◌<◌, ◌≡◌, List, [], ◌∷◌, length, get_or}
use Rattle.std.proofs.lemmas.List.Edits.{sets}
use Rattle.definition.specs.Tape.{State, capacity, leaves_at}
use Rattle.laws.specs.Sizes.{Fits}
use Rattle.tape.specs.Ready.{rows_in, in_of, Sized}
use Rattle.tape.specs.declared.Tape.{Tape}
use Rattle.tape.specs.declared.write.Place.{Place}

abbrev pub place_of : Tape → Place
place_of t = record { at = t.at; rows = t.rows; byte = t.byte }

-- a place as a state of the definition
abbrev pub state_in : Place → List ℕ → State
state_in p tab = record { at = p.at; byte = p.byte; out = rows_in p.rows tab }

-- the tokens from p up to `end` are of the lists, and what is written fits
pub record Writing (ks ls tab : List ℕ) (p : Place) (end : ℕ) : Type 0 where
  pub sized : Sized ks ls
  pub ahead : p.at ≤ end
  pub inside : end ≤ length ks
  pub fits : Fits (in_of ks ls tab) (state_in p tab)

-- ## One leaf

-- there is a token, and a row for it
pub record Room (ks ls tab : List ℕ) (p : Place) : Type 0 where
  pub pair : length ls ≡ length ks
  pub token : p.at < length ks
  pub row : p.rows < capacity (length tab)
  pub byte : p.byte + get_or ls p.at 0 ≤ 16777216

-- the place behind a leaf
abbrev pub beyond : List ℕ → Place → Place
beyond ls p = record { at = p.at + 1; rows = p.rows + 1; byte = p.byte + get_or ls p.at 0 }

-- the leaf is written, and nothing else
pub record LeafAt (ks ls tab : List ℕ) (p : Place) (tab' : List ℕ) (r : Place) : Type 0 where
  pub place : r ≡ beyond ls p
  pub table : tab' ≡ sets tab (4 * p.rows) (get_or ks p.at 0 ∷ 0 ∷ p.byte ∷ get_or ls p.at 0 ∷ [])

-- ## The loop

-- some of the leaves from p up to `end` are written, up to r: what is left comes to what all of them do
pub record Writes (ks ls : List ℕ) (end : ℕ) (tab : List ℕ) (p : Place) (tab' : List ℕ) (r : Place) : Type 0 where
  pub rest : leaves_at (in_of ks ls tab) (end - r.at) (state_in r tab') ≡ leaves_at (in_of ks ls tab) (end - p.at) (state_in p tab)
  pub len : length tab' ≡ length tab
  pub goes : p.at ≤ r.at
  pub on : Writing ks ls tab' r end

-- all of them are, or the table is full
pub record Written (ks ls : List ℕ) (end : ℕ) (tab : List ℕ) (p : Place) (tab' : List ℕ) (r : Place) : Type 0 where
  pub writes : Writes ks ls end tab p tab' r
  pub stops : r.at < end → capacity (length tab) ≤ r.rows
