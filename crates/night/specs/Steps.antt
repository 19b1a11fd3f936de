-- What the functions of the loop come to: a job's outcome, its rows put into the table.
-- Assumes nothing.
use Rattle.std.specs.Prelude.{ℕ, ◌+◌, ◌-◌, ◌*◌, ◌≤◌, ◌<◌, ◌≡◌, Option, Some, None, MatchOption, unwrap_or, refl, Bool, true, false, not, ◌&&◌, List, ◌++◌, length, take, drop, leb, Result, Err}
use Rattle.std.proofs.Common.{ap, sym, ◌∙◌, append-nil, arith, length-append, length-drop, drop_of_length-le, length-take-le, leb-true}
use Rattle.std.proofs.Math.Seq.{take-append-add}
use Rattle.std.proofs.lemmas.Bool.{not-true, not-false}
use borrow.Rule.Slice.PartMut.{put_mid}
use Rattle.definition.specs.Tape.{Out, refused, guard}
use Rattle.definition.specs.Parse.{parse, flat, rows_of}
use Rattle.definition.specs.Night.{entry_of, part, outcome}
use Rattle.laws.specs.Bools.{and_second}
use Rattle.tape.specs.declared.refusal.Reason.{Reason}
use Rattle.tape.specs.declared.refusal.Refusal.{Refusal}
use Rattle.entry.specs.declared.Entry.{Entry}
use Rattle.entry.specs.declared.Answer.{Answer}
use Rattle.entry.specs.Promise.{number, place, rows, Leaves, Wrote}
use Rattle.entry.specs.Round.{entry_of as asked_of}
use Rattle.entry.specs.Numbered.{asks_format}
use Rattle.entry.specs.Table.{refused_leaves}
use Rattle.night.specs.declared.Job.{Job}
use Rattle.night.specs.Promise.{job_of, replied}
use Rattle.night.specs.Rounds.{Runs, answer_of, Done}

-- ## A job

-- as the code finds it
abbrev pub Inside : Job → ℕ → Bool
Inside j n = leb j.entry 2 && leb (j.first + j.count) n

pub inside_ends : {b : Bool} {n : ℕ} (j : Job) → b ≡ Inside j n → not b ≡ false → j.first + j.count ≤ n
inside_ends {b} {n} j e h = leb-true (j.first + j.count) n (and_second (leb j.entry 2) (leb (j.first + j.count) n) (sym e ∙ not-false b h))

pub outcome_outside : (ks ls : List ℕ) (n : ℕ) (j : Job) → Inside j (length ks) ≡ false → outcome ks ls n (job_of j) ≡ refused 12 0
unfolding outcome guard
outcome_outside ks ls n j e = rw e

pub outcome_inside : (ks ls : List ℕ) (n : ℕ) (j : Job) → Inside j (length ks) ≡ true → outcome ks ls n (job_of j) ≡ parse (entry_of j.entry j.separator) (part (job_of j) ks) (part (job_of j) ls) n j.limit
unfolding outcome guard
outcome_inside ks ls n j e = rw e

pub outside : {b : Bool} (j : Job) (ks ls free : List ℕ) → b ≡ Inside j (length ks) → not b ≡ true → Leaves (outcome ks ls (length free) (job_of j)) (length free) (Err (record { reason = Reason.Job; place = 0 })) free
outside {b} j ks ls free e h = rw (outcome_outside ks ls (length free) j (sym e ∙ not-true b h)) (refused_leaves (record { reason = Reason.Job; place = 0 }) free refl)

-- the part of a list that the code takes
part_is : (j : Job) (l : List ℕ) → take (j.first + j.count - j.first) (drop j.first l) ≡ part (job_of j) l
unfolding part
part_is j l =
    let e : j.first + j.count - j.first ≡ j.count = omega arith in
    rw e

pub parsed : {b : Bool} {r : Result ℕ Refusal} {free' : List ℕ} (j : Job) (asked : Entry) (ks ls free : List ℕ) → b ≡ Inside j (length ks) → not b ≡ false → asked_of asked ≡ entry_of j.entry j.separator →
    Wrote (asked_of asked) (take (j.first + j.count - j.first) (drop j.first ks)) (take (j.first + j.count - j.first) (drop j.first ls)) (length free) j.limit r free' →
    Leaves (outcome ks ls (length free) (job_of j)) (length free) r free'
parsed {b} j asked ks ls free e h a w = rw (outcome_inside ks ls (length free) j (sym e ∙ not-false b h), sym a, sym (part_is j ks), sym (part_is j ls)) w

-- ## Its rows in the table, and its answer

-- how many elements are free
pub free_length : (taken : ℕ) (tab : List ℕ) → length (take (length tab - taken) (drop taken tab)) ≡ length tab - taken
free_length taken tab = length-take-le (length tab - taken) (drop taken tab) (omega (arith, length-drop taken tab))

module _ {taken n : ℕ} {ks ls tab free' : List ℕ} {r : Result ℕ Refusal} {a : Answer} (j : Job) (m : Runs taken ks ls tab) (f : n ≡ length tab - 4 * taken)
    (w : Leaves (outcome ks ls n (job_of j)) n r free') (e : a ≡ record { number = number r; place = place r; rows = rows r }) where
  abbrev come : Out (Unit {0})
  come = outcome ks ls (length tab - 4 * taken) (job_of j)

  -- the table afterwards has nothing behind the part
  whole : put_mid (4 * taken) (length tab - 4 * taken) tab free' ≡ take (4 * taken) tab ++ free'
  whole =
      let short : length (drop (4 * taken) tab) ≤ length tab - 4 * taken = omega (arith, length-drop (4 * taken) tab) in
      ap (λ (l : List ℕ). take (4 * taken) tab ++ (free' ++ l)) (drop_of_length-le (drop (4 * taken) tab) short) ∙ ap (λ (l : List ℕ). take (4 * taken) tab ++ l) (append-nil free')

  before : length (take (4 * taken) tab) ≡ 4 * taken
  before = length-take-le (4 * taken) tab m.inside

  told : record { number = number r; place = place r; rows = rows r } ≡ answer_of (outcome ks ls n (job_of j))
  told = λ i. record { number = w.tells.number_is i; place = w.tells.place_is i; rows = w.tells.rows_is i }

  count : a.rows ≡ rows r
  count = ap (λ (x : Answer). x.rows) e

  taking : take (4 * (taken + a.rows)) (take (4 * taken) tab ++ free') ≡ take (4 * taken) tab ++ flat (rows_of come)
  taking =
      let k : 4 * (taken + a.rows) ≡ length (take (4 * taken) tab) + 4 * rows r = omega (arith, before, count) in
      rw (k, take-append-add (take (4 * taken) tab) free' (4 * rows r), w.front, f)

  pub done : Done j taken ks ls tab (replied j a) (put_mid (4 * taken) (length tab - 4 * taken) tab free')
  done =
      rw whole
      record {
        is = ap (replied j) (e ∙ (told ∙ ap (λ (k : ℕ). answer_of (outcome ks ls k (job_of j))) f));
        len = omega (arith, length-append (take (4 * taken) tab) free', before, w.len, f, m.inside);
        inside = omega (arith, count, w.inside, f, m.inside);
        front = taking;
      }

-- ## The entry of a number

pub asked_is : (r : Option Entry) (n separator : ℕ) → MatchOption r (2 < n) (λ e. (n ≤ 2) × (asked_of e ≡ entry_of n separator)) → asked_of (unwrap_or r Entry.Format) ≡ entry_of n separator
asked_is (Some e) n separator h = h.1
asked_is None n separator h = sym (asks_format n separator (λ z. omega (arith, h, z)) (λ z. omega (arith, h, z)))
