-- The row count of an accepted table: it is the tree's, and the table itself shows it, so that no other can be given with it.
-- Assumes nothing.
use Rattle.std.specs.Prelude.{ℕ, zero, suc, ◌+◌, ◌-◌, ◌*◌, ◌≤◌, ◌<◌, ◌≡◌, refl, List, ◌++◌, length, get_or, replicate}
use Rattle.std.proofs.Common.{ap, sym, ◌∙◌, append_assoc, arith, get_or-append-add}
use Rattle.std.proofs.lemmas.List.{get_or_at}
use Rattle.definition.specs.Kinds.{Root}
use Rattle.definition.specs.Tape.{width, elements}
use Rattle.definition.specs.Parse.{Entry, flat}
use Rattle.laws.specs.Flat.{flat_append, flat_length}
use Rattle.trees.specs.Forest.{Forest, none, node, size, rows, rows_length}
use Rattle.entry.specs.Promise.{Answered}
use Rattle.answers.specs.Left.{Tree}
use Rattle.answers.specs.Accepted.{accepted}

-- a table of this many rows, the last of them Root's: zeros follow
pub record Ends (count : ℕ) (table : List ℕ) : Type 0 where
  pub some : 0 < count
  pub last : get_or table (width * (count - 1)) 0 ≡ Root
  pub rest : (i : ℕ) → width * count ≤ i → get_or table i 0 ≡ 0

-- a table has one such count at most: where a smaller one wants zeros, a larger one has Root
not_less : {count count' : ℕ} {table : List ℕ} → Ends count table → Ends count' table → count < count' → ⊥
not_less {count' = count'} a b h = omega (arith, a.rest (width * (count' - 1)) (omega arith), b.last)

pub one_count : {count count' : ℕ} {table : List ℕ} → Ends count table → Ends count' table → count ≡ count'
one_count a b = let h = not_less a b in let g = not_less b a in omega arith

-- ## Every accepted table has it

pub zeros : (n i : ℕ) → get_or (replicate {A = ℕ} n 0) i 0 ≡ 0
zeros zero i = refl
zeros (suc n) zero = refl
zeros (suc n) (suc i) = zeros n i

-- behind some elements, zeros alone
zeros_behind : (l : List ℕ) (n i : ℕ) → length l ≤ i → get_or (l ++ replicate n 0) i 0 ≡ 0
zeros_behind l n i h =
    let e : i ≡ length l + (i - length l) = omega arith in
    ap (λ (x : ℕ). get_or (l ++ replicate n 0) x 0) e ∙ get_or-append-add l (replicate n 0) (i - length l) 0 ∙ zeros n (i - length l)

-- a tree's last row is its top node's
last_row : (k : ℕ) (inside : Forest) (l : List ℕ) → get_or (flat (rows 0 (node k inside none)) ++ l) (width * size inside) 0 ≡ k
unfolding flat elements
last_row k inside l =
    rw (flat_append (rows 0 inside), append_assoc (flat (rows 0 inside)))
    (get_or_at (flat (rows 0 inside)) k _ 0 (width * size inside) (flat_length (rows 0 inside) ∙ ap (λ (x : ℕ). width * x) (rows_length 0 inside)))

tree_ends : {inside : Forest} {n number place count : ℕ} {table : List ℕ} → Tree (node Root inside none) n number place count table → Ends count table
tree_ends {inside} {n} {count = count} t =
    let f = node Root inside none in
    let long : length (flat (rows 0 f)) ≡ width * count = flat_length (rows 0 f) ∙ ap (λ (x : ℕ). width * x) (rows_length 0 f ∙ sym t.rows_are) in
    let top : width * (count - 1) ≡ width * size inside = omega (arith, t.rows_are) in
    record {
      some = omega (arith, t.rows_are);
      last = rw (t.table_is, top) (last_row Root inside (replicate (n - width * size f) 0));
      rest = λ i h. rw t.table_is (zeros_behind (flat (rows 0 f)) (n - width * size f) i (omega arith));
    }

-- **The row count of an accepted table is that of its tree, and the table shows it.**
pub record Counted (inside : Forest) (count : ℕ) (table : List ℕ) : Type 0 where
  pub is : count ≡ size (node Root inside none)
  pub ends : Ends count table

pub row_count : (e : Entry) (ks ls : List ℕ) (n limit : ℕ) {number place count : ℕ} {table : List ℕ} →
    (a : Answered e ks ls n limit number place count table) (z : number ≡ 0) → Counted (accepted e ks ls n limit a z).inside count table
row_count e ks ls n limit a z = let t = (accepted e ks ls n limit a z).tree in record { is = t.rows_are; ends = tree_ends t }
