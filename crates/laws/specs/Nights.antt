-- Laws of the night: jobs in two parts, a refused job among others, a night of one job.
-- Assumes nothing.
use Rattle.std.specs.Prelude.{ℕ, suc, ◌+◌, ◌-◌, ◌≤◌, ◌≡◌, refl, true, List, [], ◌∷◌, ◌++◌, length, leb}
use Rattle.std.proofs.Common.{ap, sym, ◌∙◌, append-nil, append_assoc, arith, length-append, le-leb, eq-eqb, ne_eqb}
use Rattle.std.proofs.Math.Seq.{take-length}
use Rattle.definition.specs.Tape.{Row, Out, ok, refused, fault, guard}
use Rattle.definition.specs.Parse.{parse, flat, number_of, rows_of, table_of}
use Rattle.definition.specs.Night.{Job, Night, entry_of, part, outcome, answered, night, refusal, batch, table_after}
use Rattle.laws.specs.Flat.{flat_append}

abbrev pub joined : Night → Night → Night
joined a b = record { jobs = a.jobs ++ b.jobs; rows = a.rows ++ b.rows }

-- how many of n elements are free after a night
abbrev pub free : ℕ → Night → ℕ
free n a = n - length (flat a.rows)

free_append : (n : ℕ) (l m : List Row) → n - length (flat l) - length (flat m) ≡ n - length (flat (l ++ m))
free_append n l m = rw (flat_append l m, length-append (flat l) (flat m)) (omega arith)

-- what one job comes to, with what the others behind it do
abbrev before : Job → Out (Unit {0}) → Night → Night
before j o a = record { jobs = answered j o ∷ a.jobs; rows = rows_of o ++ a.rows }

-- jobs, and others behind them: those see what these leave
pub night_append : (ks ls : List ℕ) (n : ℕ) (xs ys : List Job) → night ks ls n (xs ++ ys) ≡ joined (night ks ls n xs) (night ks ls (free n (night ks ls n xs)) ys)
unfolding night flat
night_append ks ls n [] ys =
    let e : n ≡ n - 0 = omega arith in
    ap (λ (m : ℕ). night ks ls m ys) e
night_append ks ls n (x ∷ xs) ys =
    let o = outcome ks ls n x in
    let m = n - length (flat (rows_of o)) in
    let front = night ks ls m xs in
    let later = night ks ls (n - length (flat (rows_of o ++ front.rows))) ys in
    ap (before x o) (night_append ks ls m xs ys) ∙
    (ap (λ (k : ℕ). before x o (joined front (night ks ls k ys))) (free_append n (rows_of o) front.rows) ∙
    ap (λ (l : List Row). record { jobs = answered x o ∷ front.jobs ++ later.jobs; rows = l }) (sym (append_assoc (rows_of o) front.rows later.rows)))

-- a record for each job
pub night_length : (ks ls : List ℕ) (n : ℕ) (js : List Job) → length (night ks ls n js).jobs ≡ length js
unfolding night
night_length ks ls n [] = refl
night_length ks ls n (j ∷ js) = ap suc (night_length ks ls (n - length (flat (rows_of (outcome ks ls n j)))) js)

-- the row counts of records
unfoldable pub taken : List Job → ℕ
taken [] = 0
taken (j ∷ js) = j.rows + taken js

-- are those of the rows taken
pub night_taken : (ks ls : List ℕ) (n : ℕ) (js : List Job) → taken (night ks ls n js).jobs ≡ length (night ks ls n js).rows
unfolding night answered taken
night_taken ks ls n [] = refl
night_taken ks ls n (j ∷ js) =
    let o = outcome ks ls n j in
    let later = night ks ls (n - length (flat (rows_of o))) js in
    ap (λ (k : ℕ). length (rows_of o) + k) (night_taken ks ls (n - length (flat (rows_of o))) js) ∙ sym (length-append (rows_of o) later.rows)

-- ## The whole call

pub batch_runs : (ks ls : List ℕ) (n : ℕ) (js : List Job) → refusal (length js) ks ls ≡ 0 → batch ks ls n js ≡ night ks ls n js
unfolding batch
batch_runs ks ls n js e = rw (e, batch)

pub batch_refused : (ks ls : List ℕ) (n : ℕ) (js : List Job) → (refusal (length js) ks ls ≡ 0 → ⊥) → batch ks ls n js ≡ record { jobs = js; rows = [] }
unfolding batch
batch_refused ks ls n js h = rw (ne_eqb (refusal (length js) ks ls) 0 h, batch)

-- ## A refused job

no_rows : (o : Out (Unit {0})) → (number_of o ≡ 0 → ⊥) → rows_of o ≡ []
unfolding number_of rows_of
no_rows (ok a s) h = absurd (h refl)
no_rows (refused n pl) h = refl
no_rows (fault w) h = refl

-- before others: they see what it saw
refused_first : (ks ls : List ℕ) (n : ℕ) (j : Job) (ys : List Job) → (number_of (outcome ks ls n j) ≡ 0 → ⊥) →
    night ks ls n (j ∷ ys) ≡ record { jobs = answered j (outcome ks ls n j) ∷ (night ks ls n ys).jobs; rows = (night ks ls n ys).rows }
unfolding night flat
refused_first ks ls n j ys h =
    let o = outcome ks ls n j in
    let e : n - 0 ≡ n = omega arith in
    let taking : List Row → ℕ → Night = λ l k. record { jobs = answered j o ∷ (night ks ls k ys).jobs; rows = l ++ (night ks ls k ys).rows } in
    ap (λ (l : List Row). taking l (n - length (flat l))) (no_rows o h) ∙ ap (taking []) e

-- among others: with it and without it, these have the same records and there are the same rows
pub record Apart (ks ls : List ℕ) (n : ℕ) (xs : List Job) (j : Job) (ys : List Job) : Type 0 where
  pub before : List Job
  pub own : Job
  pub behind : List Job
  pub rows : List Row
  pub count : length before ≡ length xs
  pub among : night ks ls n (xs ++ j ∷ ys) ≡ record { jobs = before ++ own ∷ behind; rows = rows }
  pub without : night ks ls n (xs ++ ys) ≡ record { jobs = before ++ behind; rows = rows }

pub refused_apart : (ks ls : List ℕ) (n : ℕ) (xs : List Job) (j : Job) (ys : List Job) → (number_of (outcome ks ls (free n (night ks ls n xs)) j) ≡ 0 → ⊥) → Apart ks ls n xs j ys
refused_apart ks ls n xs j ys h =
    let a = night ks ls n xs in
    let b = night ks ls (free n a) ys in
    record {
      before = a.jobs;
      own = answered j (outcome ks ls (free n a) j);
      behind = b.jobs;
      rows = a.rows ++ b.rows;
      count = night_length ks ls n xs;
      among = night_append ks ls n xs (j ∷ ys) ∙ ap (joined a) (refused_first ks ls (free n a) j ys h);
      without = night_append ks ls n xs ys;
    }

-- ## A night of one job

-- over the whole lists, with an entry of the three
pub record Whole (ks ls : List ℕ) (j : Job) : Type 0 where
  pub pair : length ks ≡ length ls
  pub entry : j.entry ≤ 2
  pub first : j.first ≡ 0
  pub count : j.count ≡ length ks

whole_part : (j : Job) (l : List ℕ) → j.first ≡ 0 → j.count ≡ length l → part j l ≡ l
unfolding part
whole_part j l f c = rw (f, c) (take-length l)

passing : (n pl : ℕ) (k : Unit {0} → Out (Unit {0})) → guard true n pl k ≡ k tt
unfolding guard
passing n pl k = refl

whole_outcome : {ks ls : List ℕ} {j : Job} (n : ℕ) → Whole ks ls j → outcome ks ls n j ≡ parse (entry_of j.entry j.separator) ks ls n j.limit
unfolding outcome
whole_outcome {ks} {ls} {j} n w =
    let inside : leb (j.first + j.count) (length ks) ≡ true = le-leb (j.first + j.count) (length ks) (omega (arith, w.first, w.count)) in
    rw (le-leb j.entry 2 w.entry, inside, whole_part j ks w.first w.count, whole_part j ls w.first (w.count ∙ w.pair)) (passing 12 0 _)

-- is the single call: its answer in the record, its table
pub record Single (ks ls : List ℕ) (n : ℕ) (j : Job) (o : Out (Unit {0})) : Type 0 where
  pub accepted : refusal 1 ks ls ≡ 0
  pub records : (batch ks ls n (j ∷ [])).jobs ≡ answered j o ∷ []
  pub rows : (batch ks ls n (j ∷ [])).rows ≡ rows_of o
  pub table : table_after n (batch ks ls n (j ∷ [])) ≡ table_of n o

pub one_is_single : {ks ls : List ℕ} {j : Job} (n : ℕ) → Whole ks ls j → Single ks ls n j (parse (entry_of j.entry j.separator) ks ls n j.limit)
unfolding refusal night table_after table_of
one_is_single {ks} {ls} {j} n w =
    let zero : refusal 1 ks ls ≡ 0 = rw (eq-eqb (length ks) (length ls) w.pair) in
    let is : batch ks ls n (j ∷ []) ≡ night ks ls n (j ∷ []) = batch_runs ks ls n (j ∷ []) zero in
    let rows : (batch ks ls n (j ∷ [])).rows ≡ rows_of (outcome ks ls n j) = ap (λ (a : Night). a.rows) is ∙ append-nil (rows_of (outcome ks ls n j)) in
    rw (sym (whole_outcome n w))
    record { accepted = zero; records = ap (λ (a : Night). a.jobs) is; rows = rows; table = rw rows }
