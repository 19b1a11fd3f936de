-- What the functions round the parse ask and ensure.
-- Assumes nothing.
use Rattle.std.specs.Prelude.{ℕ, ◌-◌, ◌<◌, ◌≡◌, Bool, List, ◌++◌, length, take, replicate, Option, Some, None, IfSome, Result, Ok, Err}
use Rattle.definition.specs.Tape.{Out, refused}
use Rattle.definition.specs.Parse.{Entry as Asked, root, exprs, format, admitted}
use Rattle.tape.specs.Numbers.{number_of}
use Rattle.tape.specs.Ready.{Sized}
use Rattle.tape.specs.declared.refusal.Refusal.{Refusal}
use Rattle.entry.specs.declared.Entry.{Entry}

-- the code's entries as the definition's
abbrev pub entry_of : Entry → Asked
entry_of Entry.Root = root
entry_of (Entry.Exprs separator) = exprs separator
entry_of Entry.Format = format

-- the first index of those looked for, or the length
abbrev pub or_length : List ℕ → Option ℕ → ℕ
or_length l (Some n) = n
or_length l None = length l

-- o is the index n of a list, or none where n is the length
pub record Finds (l : List ℕ) (o : Option ℕ) (n : ℕ) : Type 0 where
  pub is : or_length l o ≡ n
  pub inside : IfSome o (λ i. i < length l)

-- Refusals 1 to 5, whatever follows them. (`only_refusal` in Input: nothing is left open.)
pub record Passes (valid : Bool) (ks ls : List ℕ) : Type 0 where
  pub on : (k : Unit {0} → Out (Unit {0})) → admitted valid ks ls k ≡ k tt
  pub sized : Sized ks ls

abbrev pub Checked : Bool → List ℕ → List ℕ → Result (Unit {0}) Refusal → Type 0
Checked valid ks ls (Ok u) = Passes valid ks ls
Checked valid ks ls (Err e) = (k : Unit {0} → Out (Unit {0})) → admitted valid ks ls k ≡ refused (number_of e.reason) e.place

-- the elements from `from` on are 0, and the others as they were
pub record Zeroed (from : ℕ) (tab tab' : List ℕ) : Type 0 where
  pub is : tab' ≡ take from tab ++ replicate (length tab - from) 0
