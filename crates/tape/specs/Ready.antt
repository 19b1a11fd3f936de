-- How a table is read as rows, and what is true of every tape.
-- Assumes nothing.
use Rattle.std.specs.Prelude.{ℕ, zero, suc, ◌+◌, ◌*◌, ◌≤◌, ◌≡◌, List, [], ◌∷◌, ◌++◌, length, get_or}
use Rattle.definition.specs.Tape.{In, Row, width, capacity}
use Rattle.laws.specs.Sizes.{total, Fits}
use Rattle.laws.specs.Looking.{skipped}

-- row n of a table, and its first n rows
abbrev pub row_at : ℕ → List ℕ → Row
row_at n tab =
    record {
      kind = get_or tab (width * n) 0;
      back = get_or tab (width * n + 1) 0;
      start = get_or tab (width * n + 2) 0;
      len = get_or tab (width * n + 3) 0;
    }

unfoldable pub rows_in : ℕ → List ℕ → List Row
rows_in zero tab = []
rows_in (suc n) tab = rows_in n tab ++ (row_at n tab ∷ [])

abbrev pub in_of : List ℕ → List ℕ → List ℕ → In
in_of ks ls tab = record { kinds = ks; lens = ls; cap = capacity (length tab) }

-- the lists are within 01's sizes
pub record Sized (ks ls : List ℕ) : Type 0 where
  pub pair : length ls ≡ length ks
  pub few : length ks ≤ 65535
  pub small : total ls ≤ 16777216

-- the tape's invariant: besides, `here` and `after` are the places of the next two tokens that are no trivia, and what is written fits
pub record Ready (ks ls tab : List ℕ) (at here after rows byte : ℕ) : Type 0 where
  pub sized : Sized ks ls
  pub next : here ≡ skipped at ks
  pub second : after ≡ skipped (here + 1) ks
  pub fits : Fits (in_of ks ls tab) (record { at = at; byte = byte; out = rows_in rows tab })
