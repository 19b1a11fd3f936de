-- What the night's call promises: its answer, every field of every record and every element of the table.
-- Assumes nothing.
use Rattle.std.specs.Prelude.{ℕ, min, ◌≡◌, List, map, length}
use Rattle.definition.specs.Night as definition
use Rattle.entry.specs.declared.Answer.{Answer}
use Rattle.night.specs.declared.Job.{Job}

-- a record of the code as the definition has it
abbrev pub job_of : Job → definition.Job
job_of j = record { entry = j.entry; separator = j.separator; limit = j.limit; first = j.first; count = j.count; number = j.answer.number; place = j.answer.place; rows = j.answer.rows }

-- the code's record with an answer
abbrev pub replied : Job → Answer → Job
replied j a = record { entry = j.entry; separator = j.separator; limit = j.limit; first = j.first; count = j.count; answer = a }

-- The whole call over a table of n elements. (A count of rows that no u32 can say, in a table of 64 GiB or more, is given as the largest that one can.)
pub record Nightly (ks ls : List ℕ) (jobs : List Job) (n : ℕ) (a : Answer) (jobs' : List Job) (tab : List ℕ) : Type 0 where
  pub number_is : a.number ≡ definition.refusal (length jobs) ks ls
  pub place_is : a.place ≡ 0
  pub rows_is : a.rows ≡ min (length (definition.batch ks ls n (map job_of jobs)).rows) 4294967295
  pub jobs_is : map job_of jobs' ≡ (definition.batch ks ls n (map job_of jobs)).jobs
  pub table_is : tab ≡ definition.table_after n (definition.batch ks ls n (map job_of jobs))
