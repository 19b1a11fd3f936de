-- The three entries: refusals 1 to 5 in their order over the whole input, then the parse; and what an outcome leaves with the caller.
-- Assumes nothing.
use Rattle.std.specs.Prelude.{ℕ, suc, ◌-◌, Bool, true, false, not, ◌&&◌, List, [], ◌∷◌, ◌++◌, length, replicate, leb, eqb}
use Rattle.definition.specs.Classes.{is_token, is_trivia}
use Rattle.definition.specs.Tape.{In, Row, State, Out, ok, refused, fault, guard, capacity, elements}
use Rattle.definition.specs.Prog.{Prog, eval, call}
use Rattle.definition.specs.Grammar as grammar

-- what a call asks for: an entry (`exprs` with its separator)
pub data Entry : Type 0 where
  root : Entry
  exprs : ℕ → Entry
  format : Entry

unfoldable pub program : Entry → Prog (Unit {0})
program root = grammar.root
program (exprs separator) = grammar.exprs separator
program format = grammar.format

-- ## Refusals 1 to 5

-- the first index at which a test fails, or the length
unfoldable pub first_not : (ℕ → Bool) → List ℕ → ℕ
first_not c [] = 0
first_not c (k ∷ l) = elim (c k) [ true ↦ suc (first_not c l) | false ↦ 0 ]

-- the first index at which the running total passes n, or the length
unfoldable pub first_over : ℕ → List ℕ → ℕ
first_over n [] = 0
first_over n (x ∷ l) = elim (leb x n) [ true ↦ suc (first_over (n - x) l) | false ↦ 0 ]

unfoldable pub is_limit : ℕ → Bool
is_limit d = leb 1 d && leb d 256

unfoldable pub is_entry : Entry → Bool
is_entry root = true
is_entry (exprs separator) = is_token separator && not (is_trivia separator)
is_entry format = true

-- what follows where none of them refuses; `valid` says that limit and entry are
unfoldable pub admitted : {A : Type 0} → Bool → List ℕ → List ℕ → (Unit {0} → Out A) → Out A
admitted valid ks ls k =
    guard valid 1 0 λ u.
    guard (eqb (length ks) (length ls)) 2 0 λ u.
    guard (leb (length ks) 65535) 3 0 λ u.
    guard (eqb (first_not is_token ks) (length ks)) 4 (first_not is_token ks) λ u.
    guard (eqb (first_over 16777216 ls) (length ls)) 5 (first_over 16777216 ls) k

-- ## The parse

-- a program from the start of a state, with d entries of depth left; `open(Root)` marks row 0
unfoldable pub run : {A : Type 0} → In → ℕ → ℕ → Prog A → State → Out A
run i d m p s = eval i (call grammar.grammar i d) m p s

unfoldable pub start : State
start = record { at = 0; byte = 0; out = [] }

-- kinds, lengths, the table's element count, the depth limit
unfoldable pub parse : Entry → List ℕ → List ℕ → ℕ → ℕ → Out (Unit {0})
parse e ks ls n limit =
    admitted (is_limit limit && is_entry e) ks ls λ u.
    run (record { kinds = ks; lens = ls; cap = capacity n }) limit 0 (program e) start

-- ## What the caller gets: number, place, row count, and every element of the table

unfoldable pub flat : List Row → List ℕ
flat [] = []
flat (r ∷ l) = elements r ++ flat l

-- (A fault, which never comes out, has a number that no u32 is: 0 means acceptance alone.)
unfoldable pub number_of : Out (Unit {0}) → ℕ
number_of (ok a s) = 0
number_of (refused n pl) = n
number_of (fault w) = 4294967296

unfoldable pub place_of : Out (Unit {0}) → ℕ
place_of (ok a s) = 0
place_of (refused n pl) = pl
place_of (fault w) = 0

unfoldable pub rows_of : Out (Unit {0}) → List Row
rows_of (ok a s) = s.out
rows_of (refused n pl) = []
rows_of (fault w) = []

-- the rows, then zeros; after a refusal zeros alone
unfoldable pub table_of : ℕ → Out (Unit {0}) → List ℕ
table_of n o = let rows = flat (rows_of o) in rows ++ replicate (n - length rows) 0
