-- A table's rows as a tree: where a row's subtree starts, and how deep a row lies.
-- Assumes nothing.
use Prim.Native.Nat.{ℕ, zero, suc, ◌+◌, ◌-◌, ◌*◌, ◌≤◌, ◌<◌}
use Rattle.std.specs.Prelude.{◌≡◌, List, leb, get_or}
use Rattle.std.proofs.Common.{sym, ap, le-leb}
use Rattle.std.proofs.Math.Bool.{cond}
use native.Mathlib.Omega.{arith}
use Rattle.std.proofs.lemmas.Bool.{lt-leb}

-- the first row of a row's subtree: its own number less its back
abbrev pub first_of : List ℕ → ℕ → ℕ
first_of tab row = row - get_or tab (4 * row + 1) 0

-- of the n rows behind a row, how many have it in their subtree
unfoldable pub depth_of : List ℕ → ℕ → ℕ → ℕ
depth_of tab row zero = 0
depth_of tab row (suc n) = depth_of tab row n + cond (leb (first_of tab (row + suc n)) row) 1 0

module _ (tab : List ℕ) (row : ℕ) where
  pub depth_none : depth_of tab row (row + 1 - (row + 1)) ≡ 0
  unfolding depth_of
  depth_none =
      let e : row + 1 - (row + 1) ≡ 0 = omega arith in
      rw e

-- one row more, which has it or not
module _ (tab : List ℕ) (row q : ℕ) (behind : row < q) where
  next : depth_of tab row (q + 1 - (row + 1)) ≡ depth_of tab row (q - (row + 1)) + cond (leb (first_of tab q) row) 1 0
  unfolding depth_of
  next =
      let n : ℕ = q - (row + 1) in
      let e : q + 1 - (row + 1) ≡ suc n = omega arith in
      let f : q ≡ row + suc n = omega arith in
      rw e (ap (λ (k : ℕ). depth_of tab row n + cond (leb (first_of tab k) row) 1 0) (sym f))

  pub depth_in : first_of tab q ≤ row → depth_of tab row (q - (row + 1)) + 1 ≡ depth_of tab row (q + 1 - (row + 1))
  depth_in h = rw (next, le-leb _ _ h)

  pub depth_out : row < first_of tab q → depth_of tab row (q - (row + 1)) ≡ depth_of tab row (q + 1 - (row + 1))
  depth_out h = rw (next, lt-leb _ _ h) (omega arith)
