-- What whoever calls can rely on, from the promise alone: nothing is left open, a refused call leaves the records, each job is the single call on its range
-- and on what is free, a night of one job is the single call, and a refused job changes nothing for the others.
-- Assumes nothing.
use Prim.Native.Nat.{ℕ, zero, suc, ◌+◌, ◌-◌, ◌*◌, ◌≤◌, min}
use Rattle.std.specs.Prelude.{◌≡◌, refl, Bool, true, false, drop, leb}
use Rattle.std.proofs.Math.Path.{ap, sym}
use Rattle.std.proofs.Common.{◌∙◌, arith, length-append, le-leb, leb-true}
use mathlib.Core.List.{List, [], ◌∷◌, ◌++◌, map, append_assoc}
use Rattle.std.proofs.Math.ListN.{length, take, get_or, replicate, get_or-map}
use Rattle.std.proofs.lemmas.List.{length-map}
use Rattle.std.proofs.Math.Seq.{take_at, drop_at, get_or_at, append_snoc}
use Rattle.definition.specs.Tape.{Out}
use Rattle.definition.specs.Parse.{parse, flat, number_of, place_of, rows_of, table_of}
use Rattle.definition.specs.Night as definition
use Rattle.definition.specs.Night.{Night, entry_of, part, outcome, night, refusal, batch, table_after}
use Rattle.laws.specs.Flat.{flat_append, flat_length}
use Rattle.laws.specs.Nights.{free, taken, night_append, night_length, night_taken, batch_runs, batch_refused, Whole, one_is_single, refused_apart}
use Rattle.entry.specs.declared.Answer.{Answer}
use Rattle.entry.specs.Promise.{Answered}
use Rattle.night.specs.declared.Job.{Job}
use Rattle.night.specs.Promise.{job_of, replied, Nightly}
use Rattle.night.specs.Rounds.{answer_of, map_append}
use Rattle.night.specs.Steps.{Inside, outcome_inside, outcome_outside}

-- ## Records of the code and of the definition are the same

unfoldable code_of : definition.Job → Job
code_of j =
    record { entry = j.entry; separator = j.separator; limit = j.limit; first = j.first; count = j.count; answer = record { number = j.number; place = j.place; rows = j.rows } }

same_records : (l m : List Job) → map job_of l ≡ map job_of m → l ≡ m
unfolding code_of
same_records l m e = sym (back l) ∙ (ap (map code_of) e ∙ back m)
  where
    back : (k : List Job) → map code_of (map job_of k) ≡ k
    back [] = refl
    back (j ∷ k) = ap (λ (x : List Job). j ∷ x) (back k)

map_take : (k : ℕ) (l : List Job) → map job_of (take k l) ≡ take k (map job_of l)
map_take zero l = refl
map_take (suc k) [] = refl
map_take (suc k) (j ∷ l) = ap (λ (x : List definition.Job). job_of j ∷ x) (map_take k l)

map_drop : (k : ℕ) (l : List Job) → map job_of (drop k l) ≡ drop k (map job_of l)
map_drop zero l = refl
map_drop (suc k) [] = refl
map_drop (suc k) (j ∷ l) = map_drop k l

-- ## Nothing is left open

pub record Same (a b : Answer) (jobs jobs' : List Job) (tab tab' : List ℕ) : Type 0 where
  pub answer_same : a ≡ b
  pub jobs_same : jobs ≡ jobs'
  pub table_same : tab ≡ tab'

-- any two outcomes that the promise allows are the same
pub only_night : {ks ls : List ℕ} {jobs jobs' jobs'' : List Job} {n : ℕ} {a b : Answer} {tab tab' : List ℕ} → Nightly ks ls jobs n a jobs' tab → Nightly ks ls jobs n b jobs'' tab' → Same a b jobs' jobs'' tab tab'
only_night {jobs' = jobs'} {jobs'' = jobs''} p q =
    let number = p.number_is ∙ sym q.number_is in
    let place = p.place_is ∙ sym q.place_is in
    let rows = p.rows_is ∙ sym q.rows_is in
    record {
      answer_same = λ i. record { number = number i; place = place i; rows = rows i };
      jobs_same = same_records jobs' jobs'' (p.jobs_is ∙ sym q.jobs_is);
      table_same = p.table_is ∙ sym q.table_is;
    }

-- ## A refused call

pub record Unchanged (n : ℕ) (a : Answer) (jobs jobs' : List Job) (tab : List ℕ) : Type 0 where
  pub rows_none : a.rows ≡ 0
  pub jobs_same : jobs' ≡ jobs
  pub zeros : tab ≡ replicate n 0

pub refused_unchanged : {ks ls : List ℕ} {jobs jobs' : List Job} {n : ℕ} {a : Answer} {tab : List ℕ} → Nightly ks ls jobs n a jobs' tab → (a.number ≡ 0 → ⊥) → Unchanged n a jobs jobs' tab
unfolding table_after flat
refused_unchanged {ks} {ls} {jobs} {jobs'} {n} {a} p h =
    let stops : refusal (length (map job_of jobs)) ks ls ≡ 0 → ⊥ = λ x. h (p.number_is ∙ (ap (λ (k : ℕ). refusal k ks ls) (sym (length-map jobs job_of)) ∙ x)) in
    let b = batch_refused ks ls n (map job_of jobs) stops in
    let z : n - 0 ≡ n = omega arith in
    record {
      rows_none = p.rows_is ∙ ap (λ (x : Night). min (length x.rows) 4294967295) b;
      jobs_same = same_records jobs' jobs (p.jobs_is ∙ ap (λ (x : Night). x.jobs) b);
      zeros = p.table_is ∙ (ap (table_after n) b ∙ ap (λ (k : ℕ). replicate {A = ℕ} k 0) z);
    }

-- ## A job among others

-- a call that is not refused is the definition's night
runs : {ks ls : List ℕ} {jobs jobs' : List Job} {n : ℕ} {a : Answer} {tab : List ℕ} → Nightly ks ls jobs n a jobs' tab → a.number ≡ 0 → batch ks ls n (map job_of jobs) ≡ night ks ls n (map job_of jobs)
runs {ks} {ls} {jobs} {n = n} p z = batch_runs ks ls n (map job_of jobs) (ap (λ (k : ℕ). refusal k ks ls) (length-map jobs job_of) ∙ (sym p.number_is ∙ z))

module _ {ks ls : List ℕ} {n : ℕ} {a : Answer} {jobs' : List Job} {tab : List ℕ} (xs : List Job) (j : Job) (ys : List Job) (p : Nightly ks ls (xs ++ j ∷ ys) n a jobs' tab) (z : a.number ≡ 0) where
  -- the night of the jobs before it, what it comes to, and the night of those behind it
  abbrev first : Night
  first = night ks ls n (map job_of xs)

  abbrev come : Out (Unit {0})
  come = outcome ks ls (free n first) (job_of j)

  abbrev later : Night
  later = night ks ls (free n first - length (flat (rows_of come))) (map job_of ys)

  apart : batch ks ls n (map job_of (xs ++ j ∷ ys)) ≡ record { jobs = first.jobs ++ definition.answered (job_of j) come ∷ later.jobs; rows = first.rows ++ (rows_of come ++ later.rows) }
  unfolding night
  apart = runs p z ∙ (ap (night ks ls n) (map_append xs (j ∷ ys)) ∙ night_append ks ls n (map job_of xs) (job_of j ∷ map job_of ys))

  records : map job_of jobs' ≡ first.jobs ++ definition.answered (job_of j) come ∷ later.jobs
  records = p.jobs_is ∙ ap (λ (x : Night). x.jobs) apart

  count : length first.jobs ≡ length xs
  count = night_length ks ls n (map job_of xs) ∙ length-map xs job_of

  -- its record
  pub record_is : (d : Job) → get_or jobs' (length xs) d ≡ replied j (answer_of come)
  unfolding definition.answered code_of
  record_is d =
      ap code_of (sym (get_or-map job_of jobs' (length xs) d) ∙ (ap (λ (l : List definition.Job). get_or l (length xs) (job_of d)) records ∙ get_or_at first.jobs (definition.answered (job_of j) come) later.jobs (job_of d) (length xs) count))

  -- the rows of the jobs before it, by their records
  pub before_is : taken (map job_of (take (length xs) jobs')) ≡ length first.rows
  before_is =
      ap taken (map_take (length xs) jobs' ∙ (ap (take (length xs)) records ∙ take_at first.jobs (definition.answered (job_of j) come ∷ later.jobs) (length xs) count)) ∙ night_taken ks ls n (map job_of xs)

  -- its rows, behind those
  pub elements_are : take (4 * length (rows_of come)) (drop (4 * length first.rows) tab) ≡ flat (rows_of come)
  unfolding table_after
  elements_are =
      let zs = replicate {A = ℕ} (n - length (flat (first.rows ++ (rows_of come ++ later.rows)))) 0 in
      let all : tab ≡ flat first.rows ++ (flat (rows_of come) ++ (flat later.rows ++ zs)) =
      p.table_is ∙ (ap (table_after n) apart ∙
      (rw (flat_append first.rows (rows_of come ++ later.rows), flat_append (rows_of come) later.rows, append_assoc (flat first.rows) (flat (rows_of come) ++ flat later.rows), append_assoc (flat (rows_of come)) (flat later.rows)))) in
      rw (all, drop_at (flat first.rows) (flat (rows_of come) ++ (flat later.rows ++ zs)) (4 * length first.rows) (flat_length first.rows))
      (take_at (flat (rows_of come)) (flat later.rows ++ zs) (4 * length (rows_of come)) (flat_length (rows_of come)))

  -- where its entry or its range is wrong
  pub outside_job : Inside j (length ks) ≡ false → (d : Job) → get_or jobs' (length xs) d ≡ replied j (record { number = 12; place = 0; rows = 0 })
  unfolding number_of place_of rows_of
  outside_job h d = record_is d ∙ ap (λ (o : Out (Unit {0})). replied j (answer_of o)) (outcome_outside ks ls (free n first) j h)

  -- Where they are right, the job is the single call on its part of the lists and on the elements that the jobs before it left: of whatever that call's promise allows,
  -- its record has the answer, and behind the rows of the jobs before it stand the rows.
  pub as_single : {number place rows : ℕ} {own : List ℕ} → Inside j (length ks) ≡ true →
      Answered (entry_of j.entry j.separator) (part (job_of j) ks) (part (job_of j) ls) (n - 4 * taken (map job_of (take (length xs) jobs'))) j.limit number place rows own →
      ((d : Job) → get_or jobs' (length xs) d ≡ replied j (record { number = number; place = place; rows = rows })) ×
      (take (4 * rows) (drop (4 * taken (map job_of (take (length xs) jobs'))) tab) ≡ take (4 * rows) own)
  unfolding table_of
  as_single {number} {place} {rows} {own} h s =
      let k = taken (map job_of (take (length xs) jobs')) in
      let single : ℕ → Out (Unit {0}) = λ m. parse (entry_of j.entry j.separator) (part (job_of j) ks) (part (job_of j) ls) m j.limit in
      let left : free n first ≡ n - 4 * k = omega (arith, flat_length first.rows, before_is) in
      let same : come ≡ single (n - 4 * k) = outcome_inside ks ls (free n first) j h ∙ ap single left in
      let answer : answer_of (single (n - 4 * k)) ≡ record { number = number; place = place; rows = rows } = λ i. record { number = sym s.number_is i; place = sym s.place_is i; rows = sym s.rows_is i } in
      let here : take (4 * rows) (drop (4 * k) tab) ≡ flat (rows_of come) =
      ap (λ (m : ℕ). take (4 * m) (drop (4 * k) tab)) (s.rows_is ∙ ap (λ (o : Out (Unit {0})). length (rows_of o)) (sym same)) ∙
      (ap (λ (m : ℕ). take (4 * length (rows_of come)) (drop (4 * m) tab)) before_is ∙ elements_are) in
      let there : take (4 * rows) own ≡ flat (rows_of (single (n - 4 * k))) =
      ap (λ (m : ℕ). take (4 * m) own) s.rows_is ∙
      (ap (take (4 * length (rows_of (single (n - 4 * k))))) s.table_is ∙ take_at (flat (rows_of (single (n - 4 * k)))) _ (4 * length (rows_of (single (n - 4 * k)))) (flat_length (rows_of (single (n - 4 * k))))) in
      (λ d. record_is d ∙ ap (replied j) (ap answer_of same ∙ answer), here ∙ (ap (λ (o : Out (Unit {0})). flat (rows_of o)) same ∙ sym there))

-- ## A night of one job

pub record TheCall (ks ls : List ℕ) (j : Job) (n : ℕ) (a : Answer) (jobs' : List Job) (tab : List ℕ) : Type 0 where
  pub own : Answer
  pub accepted : a.number ≡ 0
  pub jobs_are : jobs' ≡ replied j own ∷ []
  pub answered : Answered (entry_of j.entry j.separator) ks ls n j.limit own.number own.place own.rows tab

-- over the whole lists: the single call, its answer in the record, and its table
pub one_is_the_call : {ks ls : List ℕ} {j : Job} {n : ℕ} {a : Answer} {jobs' : List Job} {tab : List ℕ} → Whole ks ls (job_of j) → Nightly ks ls (j ∷ []) n a jobs' tab → TheCall ks ls j n a jobs' tab
unfolding definition.answered
one_is_the_call {ks} {ls} {j} {n} {jobs' = jobs'} w p =
    let o = parse (entry_of j.entry j.separator) ks ls n j.limit in
    let one = one_is_single n w in
    record {
      own = answer_of o;
      accepted = p.number_is ∙ one.accepted;
      jobs_are = same_records jobs' (replied j (answer_of o) ∷ []) (p.jobs_is ∙ one.records);
      answered = record { number_is = refl; place_is = refl; rows_is = refl; table_is = p.table_is ∙ one.table };
    }

-- ## A refused job

-- with fewer jobs a call that is not refused is not
fewer : (ks ls : List ℕ) (m k : ℕ) → m ≤ k → refusal k ks ls ≡ 0 → refusal m ks ls ≡ 0
unfolding refusal
fewer ks ls m k h e = go (leb k 400) refl
  where
    go : (b : Bool) → leb k 400 ≡ b → refusal m ks ls ≡ 0
    go true t =
        let same : refusal m ks ls ≡ refusal k ks ls = rw (le-leb m 400 (omega (arith, h, leb-true k 400 t)), t) in
        same ∙ e
    go false t =
        let many : refusal k ks ls ≡ 12 = rw t in
        absurd (omega (arith, many, e))

pub record Unmoved (k : ℕ) (a b : Answer) (jobs jobs' : List Job) (tab tab' : List ℕ) : Type 0 where
  pub answer_same : a ≡ b
  pub before_same : take k jobs ≡ take k jobs'
  pub behind_same : drop (k + 1) jobs ≡ drop k jobs'
  pub table_same : tab ≡ tab'

-- without it: the same answer of the call, the same records of all others, the same table
pub refused_unmoved : {ks ls : List ℕ} {n : ℕ} {a b : Answer} {jobs jobs' : List Job} {tab tab' : List ℕ} (xs : List Job) (j : Job) (ys : List Job) (d : Job) →
    Nightly ks ls (xs ++ j ∷ ys) n a jobs tab → a.number ≡ 0 → ((get_or jobs (length xs) d).answer.number ≡ 0 → ⊥) → Nightly ks ls (xs ++ ys) n b jobs' tab' → Unmoved (length xs) a b jobs jobs' tab tab'
unfolding table_after
refused_unmoved {ks} {ls} {n} {a} {b} {jobs} {jobs'} xs j ys d p z h q =
    let number : number_of (come xs j ys p z) ≡ 0 → ⊥ = λ x. h (ap (λ (r : Job). r.answer.number) (record_is xs j ys p z d) ∙ x) in
    let s = refused_apart ks ls n (map job_of xs) (job_of j) (map job_of ys) number in
    let shorter : length (xs ++ ys) ≤ length (xs ++ j ∷ ys) = omega (arith, length-append xs ys, length-append xs (j ∷ ys)) in
    let zero : b.number ≡ 0 = q.number_is ∙ fewer ks ls (length (xs ++ ys)) (length (xs ++ j ∷ ys)) shorter (sym p.number_is ∙ z) in
    let with_it = runs p z ∙ (ap (night ks ls n) (map_append xs (j ∷ ys)) ∙ s.among) in
    let without-it = runs q zero ∙ (ap (night ks ls n) (map_append xs ys) ∙ s.without) in
    let count : length s.before ≡ length xs = s.count ∙ length-map xs job_of in
    let past : length (s.before ++ s.own ∷ []) ≡ length xs + 1 = length-append s.before (s.own ∷ []) ∙ ap (λ (k : ℕ). k + 1) count in
    let records : map job_of jobs ≡ s.before ++ s.own ∷ s.behind = p.jobs_is ∙ ap (λ (x : Night). x.jobs) with_it in
    let records' : map job_of jobs' ≡ s.before ++ s.behind = q.jobs_is ∙ ap (λ (x : Night). x.jobs) without-it in
    let first : map job_of (take (length xs) jobs) ≡ s.before = map_take (length xs) jobs ∙ (ap (take (length xs)) records ∙ take_at s.before (s.own ∷ s.behind) (length xs) count) in
    let first' : map job_of (take (length xs) jobs') ≡ s.before = map_take (length xs) jobs' ∙ (ap (take (length xs)) records' ∙ take_at s.before s.behind (length xs) count) in
    let rest : map job_of (drop (length xs + 1) jobs) ≡ s.behind =
    map_drop (length xs + 1) jobs ∙ (ap (drop (length xs + 1)) (records ∙ sym (append_snoc s.before s.own s.behind)) ∙ drop_at (s.before ++ s.own ∷ []) s.behind (length xs + 1) past) in
    let rest' : map job_of (drop (length xs) jobs') ≡ s.behind = map_drop (length xs) jobs' ∙ (ap (drop (length xs)) records' ∙ drop_at s.before s.behind (length xs) count) in
    let number = z ∙ sym zero in
    let place = p.place_is ∙ sym q.place_is in
    let rows = p.rows_is ∙ (ap (λ (x : Night). min (length x.rows) 4294967295) with_it ∙ sym (q.rows_is ∙ ap (λ (x : Night). min (length x.rows) 4294967295) without-it)) in
    record {
      answer_same = λ i. record { number = number i; place = place i; rows = rows i };
      before_same = same_records (take (length xs) jobs) (take (length xs) jobs') (first ∙ sym first');
      behind_same = same_records (drop (length xs + 1) jobs) (drop (length xs) jobs') (rest ∙ sym rest');
      table_same = p.table_is ∙ (ap (table_after n) with_it ∙ sym (q.table_is ∙ ap (table_after n) without-it));
    }
