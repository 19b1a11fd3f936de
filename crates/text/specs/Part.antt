-- A number that counts elements at the start of a list.
-- Assumes nothing.
use Rattle.std.specs.Prelude.{ℕ, ◌≤◌, ◌≡◌, List, length, take}
use Rattle.std.proofs.Common.{sym, length-take-le}

-- (The second part follows from the first. It is stated so that a part `&out[..n]` is proved without words.)
abbrev pub Counts : ℕ → List ℕ → Type 0
Counts n xs = (n ≤ length xs) × (n ≡ length (take n xs))

pub counts : (n : ℕ) (xs : List ℕ) → n ≤ length xs → Counts n xs
counts n xs h = (h, sym (length-take-le n xs h))
