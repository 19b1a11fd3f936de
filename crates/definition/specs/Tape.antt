-- The tape of document 01: a state, the outcome of a step, and what each tape operation does.
-- The input never changes, so it is a record beside the state.
-- Assumes nothing.
use Rattle.std.specs.Prelude.{ℕ, zero, suc, ◌+◌, ◌/◌, min, List, [], ◌∷◌, ◌++◌, Bool, true, false, cond, length, get_or, drop, ltb, eqb}
use Rattle.definition.specs.Kinds.{Eof}
use Rattle.definition.specs.Classes.{is_trivia, treated}

-- the lent lists, and how many rows the table holds
pub record In : Type 0 where
  pub kinds : List ℕ
  pub lens : List ℕ
  pub cap : ℕ

-- A row, and its elements in the table. Only `width`, `elements` and the row's writer know how many there are.
pub record Row : Type 0 where
  pub kind : ℕ
  pub back : ℕ
  pub start : ℕ
  pub len : ℕ

abbrev pub width : ℕ
width = 4

unfoldable pub elements : Row → List ℕ
elements r = r.kind ∷ r.back ∷ r.start ∷ r.len ∷ []

-- The rows that a table of n elements holds. (`back` is a u32, so a row's number must be one.)
unfoldable pub capacity : ℕ → ℕ
capacity n = min (n / width) 4294967295

-- at: index of the next token not yet written, trivia included; byte: where it starts; out: the rows, oldest first
pub record State : Type 0 where
  pub at : ℕ
  pub byte : ℕ
  pub out : List Row

-- What no program of the grammar does: go round in a loop without taking a token, close over another mark than that of the checkpoint it stands in
pub data Fault : Type 0 where
  never_ends : Fault
  wrong_mark : Fault

-- where a step ends: an answer and a state, or a refusal's number and place. (A fault never comes out: `never_faults` in crates/trees.)
pub data Out (A : Type 0) : Type 0 where
  ok : A → State → Out A
  refused : ℕ → ℕ → Out A
  fault : Fault → Out A

unfoldable pub and_then : {A B : Type 0} → Out A → (A → State → Out B) → Out B
and_then (ok a s) f = f a s
and_then (refused n pl) f = refused n pl
and_then (fault w) f = fault w

-- A test with two ways on, and a test that refuses. (The ways stand behind a λ, so that only the one taken is computed.)
unfoldable pub choose : {A : Type 0} → Bool → (Unit {0} → Out A) → (Unit {0} → Out A) → Out A
choose true k l = k tt
choose false k l = l tt

unfoldable pub guard : {A : Type 0} → Bool → ℕ → ℕ → (Unit {0} → Out A) → Out A
guard true n pl k = k tt
guard false n pl k = refused n pl

-- ## What is seen

-- how many trivia a list starts with
unfoldable pub triv : List ℕ → ℕ
triv [] = 0
triv (k ∷ l) = elim (is_trivia k) [ true ↦ suc (triv l) | false ↦ 0 ]

-- the n-th kind of a list that is no trivia, as it is treated; Eof past the end
unfoldable pub nth_kind : ℕ → List ℕ → ℕ
nth_kind n [] = Eof
nth_kind n (k ∷ l) = elim (is_trivia k) [ true ↦ nth_kind n l | false ↦ elim n [ zero ↦ treated k | suc m ↦ nth_kind m l ] ]

-- "here": index of the next token not yet written that is no trivia, or the token count
unfoldable pub here_at : In → State → ℕ
here_at i s = s.at + triv (drop s.at i.kinds)

unfoldable pub nth_at : In → ℕ → State → ℕ
nth_at i n s = nth_kind n (drop s.at i.kinds)

-- glued(1): the kind directly after the peeked token; Eof, which matches nothing, for trivia or the end
unfoldable pub glued_kind : ℕ → ℕ
glued_kind k = cond (is_trivia k) Eof (treated k)

unfoldable pub glued_at : In → State → ℕ
glued_at i s = glued_kind (get_or i.kinds (suc (here_at i s)) Eof)

-- ## What is written

unfoldable pub room : In → State → Bool
room i s = ltb (length s.out) i.cap

-- the state with the next token, trivia or not, as a leaf
unfoldable pub wrote_leaf : In → State → State
wrote_leaf i s =
    let len = get_or i.lens s.at 0 in
    let leaf : Row = record { kind = get_or i.kinds s.at Eof; back = 0; start = s.byte; len = len } in
    record { at = s.at + 1; byte = s.byte + len; out = s.out ++ (leaf ∷ []) }

-- that, or refusal 11; nothing at the end
unfoldable pub leaf_at : In → State → Out (Unit {0})
leaf_at i s =
    choose (ltb s.at (length i.kinds))
    (λ u. guard (room i s) 11 (here_at i s) (λ v. ok tt (wrote_leaf i s)))
    (λ u. ok tt s)

unfoldable pub leaves_at : In → ℕ → State → Out (Unit {0})
leaves_at i zero s = ok tt s
leaves_at i (suc n) s = and_then (leaf_at i s) (λ u t. leaves_at i n t)

-- flush_ws: pending trivia; bump: pending trivia, then the token
unfoldable pub flush_at : In → State → Out (Unit {0})
flush_at i s = leaves_at i (triv (drop s.at i.kinds)) s

unfoldable pub bump_at : In → State → Out (Unit {0})
bump_at i s = leaves_at i (suc (triv (drop s.at i.kinds))) s

-- The sum of the leaves' lengths. (A leaf's back is 0. So is an empty node's, whose length is 0.)
unfoldable pub leaves_len : List Row → ℕ
leaves_len [] = 0
leaves_len (r ∷ l) = cond (eqb r.back 0) r.len 0 + leaves_len l

-- where the first of some rows starts, or where the next unwritten token would
unfoldable pub start_of : List Row → ℕ → ℕ
start_of [] byte = byte
start_of (r ∷ l) byte = r.start

-- close_at: a node of kind k over all rows since the mark m
unfoldable pub node_over : ℕ → ℕ → State → Row
node_over m k s =
    let inside = drop m s.out in
    record { kind = k; back = length inside; start = start_of inside s.byte; len = leaves_len inside }

unfoldable pub wrote_node : ℕ → ℕ → State → State
wrote_node m k s = record { at = s.at; byte = s.byte; out = s.out ++ (node_over m k s ∷ []) }

unfoldable pub close_at : In → ℕ → ℕ → State → Out (Unit {0})
close_at i m k s = guard (room i s) 11 (here_at i s) (λ u. ok tt (wrote_node m k s))
