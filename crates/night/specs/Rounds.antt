-- The loop over the jobs: what its functions ask and ensure, what holds before each turn, and that the definition's night comes of it.
-- Assumes nothing.
use Rattle.std.specs.Prelude.{ℕ, ◌+◌, ◌-◌, ◌*◌, ◌≤◌, ◌<◌, min, ◌≡◌, List, [], ◌∷◌, ◌++◌, map, length, take, drop, get_or, set, Result, Ok, Err}
use Rattle.std.proofs.Math.Path.{refl}
use Rattle.std.proofs.Common.{ap, sym, ◌∙◌, append-nil, arith, add-one, length-set, length-append, drop-drop, drop-set-lt, get_or-drop, take_all, take-suc}
use Rattle.std.proofs.lemmas.List.{length-map}
use Rattle.std.proofs.Math.Seq.{take-suc-set}
use Rattle.definition.specs.Tape.{Row, Out}
use Rattle.definition.specs.Parse.{flat, number_of, place_of, rows_of}
use Rattle.definition.specs.Night as definition
use Rattle.definition.specs.Night.{outcome, night, refusal, batch, table_after}
use Rattle.laws.specs.Flat.{flat_append, flat_length}
use Rattle.laws.specs.Nights.{joined, free, night_append, batch_runs, batch_refused}
use Rattle.tape.specs.Numbers.{number_of as code_of}
use Rattle.tape.specs.declared.refusal.Reason.{Reason}
use Rattle.entry.specs.Round.{Zeroed}
use Rattle.entry.specs.declared.Answer.{Answer}
use Rattle.night.specs.declared.Job.{Job}
use Rattle.night.specs.Promise.{job_of, replied, Nightly}

-- ## What the functions of the loop ask and ensure

-- `check`, of n jobs: it lets pass what the definition's call does, or has its refusal
abbrev pub Planned : ℕ → List ℕ → List ℕ → Result (Unit {0}) Reason → Type 0
Planned n ks ls (Ok u) = (refusal n ks ls ≡ 0) × (length ks ≡ length ls)
Planned n ks ls (Err e) = (refusal n ks ls ≡ code_of e) × (1 ≤ code_of e)

-- `run`, with so many rows taken
pub record Runs (rows : ℕ) (ks ls tab : List ℕ) : Type 0 where
  pub pair : length ks ≡ length ls
  pub inside : 4 * rows ≤ length tab

abbrev pub outcome_at : ℕ → List ℕ → List ℕ → List ℕ → Job → Out (Unit {0})
outcome_at rows ks ls tab j = outcome ks ls (length tab - 4 * rows) (job_of j)

abbrev pub answer_of : Out (Unit {0}) → Answer
answer_of o = record { number = number_of o; place = place_of o; rows = length (rows_of o) }

pub record Done (j : Job) (rows : ℕ) (ks ls tab : List ℕ) (r : Job) (tab' : List ℕ) : Type 0 where
  pub is : r ≡ replied j (answer_of (outcome_at rows ks ls tab j))
  pub len : length tab' ≡ length tab
  pub inside : 4 * (rows + r.answer.rows) ≤ length tab
  pub front : take (4 * (rows + r.answer.rows)) tab' ≡ take (4 * rows) tab ++ flat (rows_of (outcome_at rows ks ls tab j))

-- `end`
pub record Ended (number rows : ℕ) (tab : List ℕ) (a : Answer) (tab' : List ℕ) : Type 0 where
  pub is : a ≡ record { number = number; place = 0; rows = min rows 4294967295 }
  pub zeroed : Zeroed (4 * rows) tab tab'

-- ## Before a turn

-- i jobs are run: their records and the rows in front are the definition's night of those jobs, and the records behind them are as they were
pub record Round (ks ls : List ℕ) (jobs₀ : List Job) (tab₀ : List ℕ) (i rows : ℕ) (jobs : List Job) (tab : List ℕ) : Type 0 where
  pub low : i ≤ length jobs₀
  pub jobs_len : length jobs ≡ length jobs₀
  pub behind : drop i jobs ≡ drop i jobs₀
  pub len : length tab ≡ length tab₀
  pub inside : 4 * rows ≤ length tab
  pub taken : List Row
  pub count : length taken ≡ rows
  pub front : take (4 * rows) tab ≡ flat taken
  pub so_far : night ks ls (length tab₀) (map job_of (take i jobs₀)) ≡ record { jobs = map job_of (take i jobs); rows = taken }

pub begins : (ks ls : List ℕ) (jobs : List Job) (tab : List ℕ) → Round ks ls jobs tab 0 0 jobs tab
unfolding flat night
begins ks ls jobs tab =
    record {
      low = omega arith;
      jobs_len = refl;
      behind = refl;
      len = refl;
      inside = omega arith;
      taken = [];
      count = refl;
      front = refl;
      so_far = refl;
    }

pub map_append : (l m : List Job) → map job_of (l ++ m) ≡ map job_of l ++ map job_of m
map_append [] m = refl
map_append (x ∷ l) m = ap (λ (k : List definition.Job). job_of x ∷ k) (map_append l m)

-- ## A turn

-- one job more, at the end
one_more : (ks ls : List ℕ) (n : ℕ) (xs : List definition.Job) (j : definition.Job) → night ks ls n (xs ++ j ∷ []) ≡
    joined (night ks ls n xs) (record { jobs = definition.answered j (outcome ks ls (free n (night ks ls n xs)) j) ∷ []; rows = rows_of (outcome ks ls (free n (night ks ls n xs)) j) })
unfolding night
one_more ks ls n xs j =
    let a = night ks ls n xs in
    let o = outcome ks ls (free n a) j in
    night_append ks ls n xs (j ∷ []) ∙ ap (λ (l : List Row). joined a (record { jobs = definition.answered j o ∷ []; rows = l })) (append-nil (rows_of o))

module _ {ks ls : List ℕ} {jobs₀ jobs : List Job} {tab₀ tab tab' : List ℕ} {i rows : ℕ} (d r : Job) (q : Round ks ls jobs₀ tab₀ i rows jobs tab) (h : i < length jobs₀)
    (e : Done (get_or jobs i d) rows ks ls tab r tab') where
  abbrev job : Job
  job = get_or jobs i d

  abbrev come : Out (Unit {0})
  come = outcome_at rows ks ls tab job

  -- the job is still as it was
  same : get_or jobs₀ i d ≡ job
  same =
      let z : i + 0 ≡ i = omega arith in
      ap (λ (k : ℕ). get_or jobs₀ k d) (sym z) ∙ (sym (get_or-drop i jobs₀ 0 d) ∙ (ap (λ (l : List Job). get_or l 0 d) (sym q.behind) ∙ (get_or-drop i jobs 0 d ∙ ap (λ (k : ℕ). get_or jobs k d) z)))

  -- the elements that are free are those that the definition counts
  freed : free (length tab₀) (record { jobs = map job_of (take i jobs); rows = q.taken }) ≡ length tab - 4 * rows
  freed = omega (arith, flat_length q.taken, q.count, q.len)

  first_jobs : map job_of (take (i + 1) jobs₀) ≡ map job_of (take i jobs₀) ++ job_of job ∷ []
  first_jobs = rw (add-one i, take-suc jobs₀ i d h, map_append (take i jobs₀) (get_or jobs₀ i d ∷ []), same)

  first_records : map job_of (take (i + 1) (set jobs i r)) ≡ map job_of (take i jobs) ++ definition.answered (job_of job) come ∷ []
  unfolding definition.answered
  first_records = rw (add-one i, take-suc-set jobs i r (omega (arith, h, q.jobs_len)), map_append (take i jobs) (r ∷ []), e.is)

  pub goes_on : Round ks ls jobs₀ tab₀ (i + 1) (rows + r.answer.rows) (set jobs i r) tab'
  goes_on =
      let c : r.answer.rows ≡ length (rows_of come) = ap (λ (x : Job). x.answer.rows) e.is in
      record {
        low = omega (arith, h);
        jobs_len = length-set jobs i r ∙ q.jobs_len;
        behind = drop-set-lt (i + 1) jobs i r (omega arith) ∙ (sym (drop-drop 1 i jobs) ∙ (ap (drop 1) q.behind ∙ drop-drop 1 i jobs₀));
        len = e.len ∙ q.len;
        inside = omega (arith, e.inside, e.len);
        taken = q.taken ++ rows_of come;
        count = omega (arith, length-append q.taken (rows_of come), q.count, c);
        front = e.front ∙ (rw q.front (sym (flat_append q.taken (rows_of come))));
        so_far = rw (first_jobs, one_more ks ls (length tab₀) (map job_of (take i jobs₀)) (job_of job), q.so_far, freed, first_records);
      }

-- ## The end

-- where the definition's records and rows are known
answers : (ks ls : List ℕ) (jobs₀ jobs : List Job) {n number rows : ℕ} {tab tab' : List ℕ} {a : Answer} (rs : List Row) →
    number ≡ refusal (length jobs₀) ks ls → batch ks ls n (map job_of jobs₀) ≡ record { jobs = map job_of jobs; rows = rs } →
    length rs ≡ rows → take (4 * rows) tab ≡ flat rs → length tab ≡ n → Ended number rows tab a tab' → Nightly ks ls jobs₀ n a jobs tab'
unfolding table_after
answers ks ls jobs₀ jobs rs m b c f l e =
    record {
      number_is = ap (λ (x : Answer). x.number) e.is ∙ m;
      place_is = ap (λ (x : Answer). x.place) e.is;
      rows_is = ap (λ (x : Answer). x.rows) e.is ∙ (rw (b, c));
      jobs_is = rw b;
      table_is = e.zeroed.is ∙ (rw (b, f, l, flat_length rs, c));
    }

-- all jobs are run
pub ends : {ks ls : List ℕ} {jobs₀ jobs : List Job} {tab₀ tab tab' : List ℕ} {i rows : ℕ} {a : Answer} →
    Planned (length jobs₀) ks ls (Ok tt) → Round ks ls jobs₀ tab₀ i rows jobs tab → length jobs₀ ≤ i → Ended 0 rows tab a tab' → Nightly ks ls jobs₀ (length tab₀) a jobs tab'
ends {ks} {ls} {jobs₀} {jobs} {tab₀} {i = i} c q h e =
    let all : i ≡ length jobs₀ = omega (arith, h, q.low) in
    let runs : refusal (length (map job_of jobs₀)) ks ls ≡ 0 = rw (length-map jobs₀ job_of) c.0 in
    let is : night ks ls (length tab₀) (map job_of jobs₀) ≡ record { jobs = map job_of jobs; rows = q.taken } =
    ap (λ (l : List Job). night ks ls (length tab₀) (map job_of l)) (sym (take_all i jobs₀ (omega (arith, all)))) ∙
    (q.so_far ∙ ap (λ (l : List Job). record { jobs = map job_of l; rows = q.taken }) (take_all i jobs (omega (arith, all, q.jobs_len)))) in
    answers ks ls jobs₀ jobs q.taken (sym c.0) (batch_runs ks ls (length tab₀) (map job_of jobs₀) runs ∙ is) q.count q.front q.len e

-- none is, where the call is refused
pub stops : {ks ls : List ℕ} (jobs₀ : List Job) (tab₀ : List ℕ) {number : ℕ} {tab' : List ℕ} {a : Answer} (f : Reason) →
    Planned (length jobs₀) ks ls (Err f) → number ≡ code_of f → Ended number 0 tab₀ a tab' → Nightly ks ls jobs₀ (length tab₀) a jobs₀ tab'
unfolding flat
stops {ks} {ls} jobs₀ tab₀ f c h e =
    let refused : refusal (length (map job_of jobs₀)) ks ls ≡ 0 → ⊥ = λ x. omega (arith, x, ap (λ (k : ℕ). refusal k ks ls) (length-map jobs₀ job_of), c.0, c.1) in
    answers ks ls jobs₀ jobs₀ [] (h ∙ sym c.0) (batch_refused ks ls (length tab₀) (map job_of jobs₀) refused) refl refl refl e
