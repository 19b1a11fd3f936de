-- A night with its result, computed: each kind of job once, over the lists of `1,a==b==c` and a table of seven rows and two elements more. The trees are those of Known, the oracle's.
-- Assumes nothing.
use Rattle.std.specs.Prelude.{ℕ, ◌≡◌, refl, List, [], ◌∷◌, ◌++◌, replicate}
use Rattle.definition.specs.Kinds.{K-comma, K-ident, K-number, K-==, Lit, Expr, Root}
use Rattle.definition.specs.Night as Night
use Rattle.definition.specs.Night.{Job, refusal, batch, table_after}
use Rattle.laws.specs.Known.{answered, row}

abbrev job : ℕ → ℕ → ℕ → ℕ → ℕ → ℕ → ℕ → Job
job entry limit first count number place rows = record { entry = entry; separator = K-comma; limit = limit; first = first; count = count; number = number; place = place; rows = rows }

abbrev kinds : List ℕ
kinds = K-number ∷ K-comma ∷ K-ident ∷ K-== ∷ K-ident ∷ K-== ∷ K-ident ∷ []

abbrev lens : List ℕ
lens = 1 ∷ 1 ∷ 1 ∷ 2 ∷ 1 ∷ 2 ∷ 1 ∷ []

-- what the records held for answers does not matter
abbrev asked : List Job
asked =
    job 1 256 2 5 7 7 7 ∷
    job 3 0 0 1 7 7 7 ∷
    job 1 256 0 1 7 7 7 ∷
    job 0 256 7 1 7 7 7 ∷
    job 1 1 2 1 7 7 7 ∷
    job 0 256 7 0 7 7 7 ∷
    job 2 256 0 1 7 7 7 ∷ []

abbrev came : List Job
came =
    -- `a==b==c`: the place counts from the job's first token, which is the lists' third
    job 1 256 2 5 7 2 0 ∷
    -- no entry, and no limit either: 12 comes before 1
    job 3 0 0 1 12 0 0 ∷
    -- `1` in exprs: its rows are the first
    job 1 256 0 1 0 0 4 ∷
    -- one token past the lists' end
    job 0 256 7 1 12 0 0 ∷
    -- `a` at the depth limit 1
    job 1 1 2 1 10 0 0 ∷
    -- no token, at the lists' end: one Root row, behind those
    job 0 256 7 0 0 0 1 ∷
    -- `1` in format, with two rows left
    job 2 256 0 1 11 1 0 ∷ []

pub night_result : ((batch kinds lens 30 asked).jobs ≡ came) ×
    (table_after 30 (batch kinds lens 30 asked) ≡ row K-number 0 0 1 ++ row Lit 1 0 1 ++ row Expr 2 0 1 ++ row Root 3 0 1 ++ row Root 0 0 0 ++ replicate 10 0)
unfolding answered Night.entry_of Night.part Night.outcome Night.answered Night.night Night.refusal Night.batch Night.table_after
night_result = (refl, refl)

-- over 400 jobs, then lists of different lengths
pub night_refusals : (refusal 401 kinds [] ≡ 12) × (refusal 400 kinds [] ≡ 2) × (refusal 400 kinds lens ≡ 0)
unfolding Night.refusal
night_refusals = (refl, refl, refl)
