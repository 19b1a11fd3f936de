-- What a caller gets of an outcome: a tree's row count, or a refusal's number and place; and every element of the table.
-- Assumes nothing.
use Rattle.std.specs.Prelude.{ℕ, ◌*◌, ◌≤◌, ◌≡◌, refl, List, length, take, Result, Ok, Err}
use Rattle.std.proofs.Common.{sym, ap, ◌∙◌, arith}
use Rattle.definition.specs.Tape.{State, Out, ok, refused}
use Rattle.definition.specs.Parse.{Entry, parse, flat, number_of, place_of, rows_of, table_of}
use Rattle.tape.specs.Numbers.{number_of as code_of, same_reason}
use Rattle.tape.specs.declared.refusal.Reason.{Reason}
use Rattle.tape.specs.declared.refusal.Refusal.{Refusal}

-- ## 01's number, place and row count of what a call ends in

abbrev pub number : Result ℕ Refusal → ℕ
number (Ok n) = 0
number (Err e) = code_of e.reason

abbrev pub place : Result ℕ Refusal → ℕ
place (Ok n) = 0
place (Err e) = e.place

abbrev pub rows : Result ℕ Refusal → ℕ
rows (Ok n) = n
rows (Err e) = 0

-- ## The promise

-- of the definition's outcome o, in a table of n elements
pub record Answers (o : Out (Unit {0})) (n number place rows : ℕ) (tab : List ℕ) : Type 0 where
  pub number_is : number ≡ number_of o
  pub place_is : place ≡ place_of o
  pub rows_is : rows ≡ length (rows_of o)
  pub table_is : tab ≡ table_of n o

-- the same of the code's outcome r
abbrev pub Ends : Out (Unit {0}) → ℕ → Result ℕ Refusal → List ℕ → Type 0
Ends o n r tab = Answers o n (number r) (place r) (rows r) tab

-- r says what o does, of the table nothing
pub record Tells (o : Out (Unit {0})) (r : Result ℕ Refusal) : Type 0 where
  pub number_is : number r ≡ number_of o
  pub place_is : place r ≡ place_of o
  pub rows_is : rows r ≡ length (rows_of o)

pub ends : {o : Out (Unit {0})} {n : ℕ} {r : Result ℕ Refusal} {tab : List ℕ} → Tells o r → tab ≡ table_of n o → Ends o n r tab
ends e t = record { number_is = e.number_is; place_is = e.place_is; rows_is = e.rows_is; table_is = t }

-- What a call without its last step, the zeros, leaves: the outcome, and its rows in front. What stands behind them is not said.
pub record Leaves (o : Out (Unit {0})) (n : ℕ) (r : Result ℕ Refusal) (tab : List ℕ) : Type 0 where
  pub tells : Tells o r
  pub len : length tab ≡ n
  pub inside : 4 * rows r ≤ n
  pub front : take (4 * rows r) tab ≡ flat (rows_of o)

-- What the public calls promise. n is how many elements the table has that is lent.
abbrev pub Parsed : Entry → List ℕ → List ℕ → ℕ → ℕ → Result ℕ Refusal → List ℕ → Type 0
Parsed e ks ls n limit r tab = Ends (parse e ks ls n limit) n r tab

abbrev pub Wrote : Entry → List ℕ → List ℕ → ℕ → ℕ → Result ℕ Refusal → List ℕ → Type 0
Wrote e ks ls n limit r tab = Leaves (parse e ks ls n limit) n r tab

abbrev pub Answered : Entry → List ℕ → List ℕ → ℕ → ℕ → ℕ → ℕ → ℕ → List ℕ → Type 0
Answered e ks ls n limit number place rows tab = Answers (parse e ks ls n limit) n number place rows tab

-- ## Nothing is left open

-- three numbers tell an outcome
reason_some : (a : Reason) → code_of a ≡ 0 → ⊥
reason_some a h = absurd (let p : 1 ≤ code_of a = some a in omega arith)
  where
    some : (a : Reason) → 1 ≤ code_of a
    some Reason.Asked = omega arith
    some Reason.Unequal = omega arith
    some Reason.Long = omega arith
    some Reason.NoToken = omega arith
    some Reason.Bytes = omega arith
    some Reason.NoExpr = omega arith
    some Reason.Clash = omega arith
    some Reason.Unclosed = omega arith
    some Reason.Standstill = omega arith
    some Reason.Deep = omega arith
    some Reason.Full = omega arith
    some Reason.Job = omega arith

pub same_refusal : (d e : Refusal) → code_of d.reason ≡ code_of e.reason → d.place ≡ e.place → d ≡ e
same_refusal d e p q =
    ap (λ (x : Reason). record { reason = x; place = d.place }) (same_reason d.reason e.reason p) ∙
    ap (λ (x : ℕ). record { reason = e.reason; place = x }) q

pub same_outcome : (r r' : Result ℕ Refusal) → number r ≡ number r' → place r ≡ place r' → rows r ≡ rows r' → r ≡ r'
same_outcome (Ok n) (Ok m) a b c = ap Ok c
same_outcome (Ok n) (Err e) a b c = absurd (reason_some e.reason (sym a))
same_outcome (Err d) (Ok m) a b c = absurd (reason_some d.reason a)
same_outcome (Err d) (Err e) a b c = ap Err (same_refusal d e a b)

-- so what an outcome tells is the definition's tree or the definition's refusal
pub tells_tree : {s : State} {r : Result ℕ Refusal} → Tells (ok tt s) r → r ≡ Ok (length s.out)
unfolding number_of place_of rows_of
tells_tree {r = r} t = same_outcome r (Ok _) t.number_is t.place_is t.rows_is

pub tells_refusal : {n pl : ℕ} (r : Result ℕ Refusal) → Tells (refused n pl) r → 1 ≤ n → (e : Refusal) × ((r ≡ Err e) × ((code_of e.reason ≡ n) × (e.place ≡ pl)))
unfolding number_of place_of
tells_refusal (Ok k) t h = absurd (omega (arith, h, t.number_is))
tells_refusal (Err e) t h = (e, (refl, (t.number_is, t.place_is)))

-- any two outcomes that a call's promise allows are the same
pub only_outcome : (e : Entry) (ks ls : List ℕ) (n limit : ℕ) {r r' : Result ℕ Refusal} {tab tab' : List ℕ} →
    Parsed e ks ls n limit r tab → Parsed e ks ls n limit r' tab' → (r ≡ r') × (tab ≡ tab')
only_outcome e ks ls n limit {r} {r'} p q =
    (same_outcome r r' (p.number_is ∙ sym q.number_is) (p.place_is ∙ sym q.place_is) (p.rows_is ∙ sym q.rows_is), p.table_is ∙ sym q.table_is)

pub record Same (number number' place place' rows rows' : ℕ) (tab tab' : List ℕ) : Type 0 where
  pub number_same : number ≡ number'
  pub place_same : place ≡ place'
  pub rows_same : rows ≡ rows'
  pub table_same : tab ≡ tab'

pub only_answer : (e : Entry) (ks ls : List ℕ) (n limit : ℕ) {number number' place place' rows rows' : ℕ} {tab tab' : List ℕ} →
    Answered e ks ls n limit number place rows tab → Answered e ks ls n limit number' place' rows' tab' →
    Same number number' place place' rows rows' tab tab'
only_answer e ks ls n limit a b =
    record {
      number_same = a.number_is ∙ sym b.number_is;
      place_same = a.place_is ∙ sym b.place_is;
      rows_same = a.rows_is ∙ sym b.rows_is;
      table_same = a.table_is ∙ sym b.table_is;
    }
