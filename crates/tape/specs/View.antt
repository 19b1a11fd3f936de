-- How a tape is read as a state of the definition, and what the functions that take one ensure.
-- Assumes nothing.
use Rattle.std.specs.Prelude.{ℕ, suc, ◌+◌, ◌≡◌, List, length, Result, Ok, Err, IfOk, IfErr}
use Rattle.definition.specs.Tape.{In, State, Out, ok, refused, leaf_at}
use Rattle.definition.specs.Prog.{Prog, flush}
use Rattle.definition.specs.Parse.{run}
use Rattle.laws.specs.Sizes.{Based}
use Rattle.laws.specs.Looking.{skipped}
use Rattle.tape.specs.Numbers.{number_of}
use Rattle.tape.specs.Ready.{rows_in, in_of}
use Rattle.tape.specs.declared.refusal.Reason.{Reason}
use Rattle.tape.specs.declared.refusal.Refusal.{Refusal}
use Rattle.tape.specs.declared.Tape.{Tape}

-- ## Reading

abbrev pub given : Tape → In
given t = in_of t.kinds.now t.lens.now t.table.now

abbrev pub state_of : Tape → State
state_of t = record { at = t.at; byte = t.byte; out = rows_in t.rows t.table.now }

-- what a call answers, and the state that it leaves
abbrev pub out_of : {A : Type 0} → Result A Refusal → State → Out A
out_of (Ok a) s = ok a s
out_of (Err e) s = refused (number_of e.reason) e.place

-- an answer dropped
abbrev pub void : {A : Type 0} → Result A Refusal → Result (Unit {0}) Refusal
void (Ok a) = Ok tt
void (Err e) = Err e

-- another answer in its place
abbrev pub instead : {A B : Type 0} → B → Result A Refusal → Result B Refusal
instead b (Ok a) = Ok b
instead b (Err e) = Err e

-- ## What is asked

-- m is the mark of a checkpoint: the rows since it are a whole number of subtrees
pub record Marked (m : ℕ) (t : Tape) : Type 0 where
  pub based : Based m (state_of t)

-- ## What is ensured

-- a tape that has written nothing, with n entries left
pub record Begins (n : ℕ) (t : Tape) (ks ls tab : List ℕ) : Type 0 where
  pub kinds : t.kinds.now ≡ ks
  pub lens : t.lens.now ≡ ls
  pub table : t.table.now ≡ tab
  pub at : t.at ≡ 0
  pub byte : t.byte ≡ 0
  pub rows : t.rows ≡ 0
  pub left : t.left ≡ n

-- a refusal for this reason at the next token
pub record Refuses (why : Reason) (e : Refusal) (t : Tape) : Type 0 where
  pub reason : e.reason ≡ why
  pub place : e.place ≡ skipped t.at t.kinds.now

-- the lists are the same, and so is the table that is lent, with as many elements
pub record Same (t r : Tape) : Type 0 where
  pub kinds : r.kinds.now ≡ t.kinds.now
  pub lens : r.lens.now ≡ t.lens.now
  pub len : length r.table.now ≡ length t.table.now
  pub name : r.table.ghost_name ≡ t.table.ghost_name

-- and as many entries are left
pub record Kept (t r : Tape) : Type 0 where
  pub same : Same t r
  pub left : r.left ≡ t.left

-- Under the mark m the program p goes from t to r and answers as o says, or is refused: what the code comes to is what the definition says
pub record Step {A : Type 0} (m : ℕ) (p : Prog A) (o : Result A Refusal) (t r : Tape) : Type 0 where
  pub is : out_of o (state_of r) ≡ run (given t) t.left m p (state_of t)
  pub kept : Kept t r

-- the same for a program that closes over no mark but its own
pub record Ran {A : Type 0} (p : Prog A) (o : Result A Refusal) (t r : Tape) : Type 0 where
  pub under : (m : ℕ) → Step m p o t r

-- one leaf
pub record Leaf (o : Result (Unit {0}) Refusal) (t r : Tape) : Type 0 where
  pub is : out_of o (state_of r) ≡ leaf_at (given t) (state_of t)
  pub at : IfOk o (λ _. r.at ≡ t.at + 1)
  pub kept : Kept t r

-- a checkpoint, and its mark
pub record Marks (o : Result ℕ Refusal) (t r : Tape) : Type 0 where
  pub ran : Ran flush (void o) t r
  pub mark : IfOk o (λ c. c ≡ r.rows)

-- an entry of a counted rule, which tells how many were left; with none left, refusal 10
pub record Enters (o : Result ℕ Refusal) (t r : Tape) : Type 0 where
  pub same : Same t r
  pub state : state_of r ≡ state_of t
  pub some : IfOk o (λ n. (n ≡ t.left) × (t.left ≡ suc r.left))
  pub none : IfErr o (λ e. (t.left ≡ 0) × ((r.left ≡ 0) × Refuses Reason.Deep e t))

-- n entries are left, and nothing else has changed
pub record Leaves (n : ℕ) (t r : Tape) : Type 0 where
  pub same : Same t r
  pub state : state_of r ≡ state_of t
  pub left : r.left ≡ n
