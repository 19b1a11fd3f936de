-- A night of jobs, document 02's request 1: up to 400 scripts in one call, over shared lists and one table.
-- Assumes nothing.
use Rattle.std.specs.Prelude.{ℕ, ◌+◌, ◌-◌, true, false, cond, ◌&&◌, List, [], ◌∷◌, ◌++◌, length, take, drop, replicate, leb, eqb}
use Rattle.definition.specs.Tape.{Row, Out, guard}
use Rattle.definition.specs.Parse.{Entry, root, exprs, format, parse, flat, number_of, place_of, rows_of}

-- a job's record: what it asks, and its answer
pub record Job : Type 0 where
  pub entry : ℕ
  pub separator : ℕ
  pub limit : ℕ
  pub first : ℕ
  pub count : ℕ
  pub number : ℕ
  pub place : ℕ
  pub rows : ℕ

-- ## One job

-- 0, 1 and 2 are entries
unfoldable pub entry_of : ℕ → ℕ → Entry
entry_of entry separator = cond (eqb entry 0) root (cond (eqb entry 1) (exprs separator) format)

-- the job's part of a shared list
unfoldable pub part : Job → List ℕ → List ℕ
part j l = take j.count (drop j.first l)

-- Where n elements of the table are free: 12, before anything else is looked at, or what the single call comes to on the job's parts and on those elements.
unfoldable pub outcome : List ℕ → List ℕ → ℕ → Job → Out (Unit {0})
outcome ks ls n j =
    guard (leb j.entry 2 && leb (j.first + j.count) (length ks)) 12 0 λ u.
    parse (entry_of j.entry j.separator) (part j ks) (part j ls) n j.limit

-- the record afterwards
unfoldable pub answered : Job → Out (Unit {0}) → Job
answered j o = record { entry = j.entry; separator = j.separator; limit = j.limit; first = j.first; count = j.count; number = number_of o; place = place_of o; rows = length (rows_of o) }

-- ## The jobs in order

-- the records afterwards, and the rows taken, one job's behind the other's
pub record Night : Type 0 where
  pub jobs : List Job
  pub rows : List Row

-- over n free elements: an accepted job takes its rows, a refused one has none, and the next job gets what is left
unfoldable pub night : List ℕ → List ℕ → ℕ → List Job → Night
night ks ls n [] = record { jobs = []; rows = [] }
night ks ls n (j ∷ js) =
    let o = outcome ks ls n j in
    let later = night ks ls (n - length (flat (rows_of o))) js in
    record { jobs = answered j o ∷ later.jobs; rows = rows_of o ++ later.rows }

-- ## The whole call

-- its own refusal, at place 0: over 400 jobs, then lists of different lengths; or 0
unfoldable pub refusal : ℕ → List ℕ → List ℕ → ℕ
refusal jobs ks ls = cond (leb jobs 400) (cond (eqb (length ks) (length ls)) 0 2) 12

-- refused, it changes no record and takes no row
unfoldable pub batch : List ℕ → List ℕ → ℕ → List Job → Night
batch ks ls n js = elim (eqb (refusal (length js) ks ls) 0) [ true ↦ night ks ls n js | false ↦ record { jobs = js; rows = [] } ]

-- every element of a table of n: the rows, then zeros
unfoldable pub table_after : ℕ → Night → List ℕ
table_after n a = let rows = flat a.rows in rows ++ replicate (n - length rows) 0
