-- Every starred result of 01, and an open stream's: no outcome that the promise allows is another. So each refusal from 6 to 11 has its number and its place.
-- Assumes nothing.
use Rattle.std.specs.Prelude.{ℕ, ◌≡◌, refl, List, [], ◌∷◌, map, drop, get_or}
use Rattle.std.proofs.Common.{ap}
use Rattle.definition.specs.Kinds.{K-ident, K-#, K-bracket}
use Rattle.definition.specs.Parse.{root}
use Rattle.laws.specs.Known.{Case, answered, promised, known, known_results}
use Rattle.answers.specs.ShutOut.{Allowed, known as known_only}

-- what is allowed of a case is what it promises: number, place, row count, and then the table's elements
abbrev pub Only : Case → Type 0
Only c = (number place count : ℕ) (table : List ℕ) → Allowed c number place count table → ◌≡◌ {A = List ℕ} (number ∷ place ∷ count ∷ table) (promised c)

abbrev pub Each : List Case → Type 0
Each [] = Unit {0}
Each (c ∷ l) = Only c × Each l

each : (l : List Case) → map answered l ≡ map promised l → Each l
each [] e = tt
each (c ∷ l) e = (λ number place count table p. known_only c (ap (λ (x : List (List ℕ)). get_or x 0 []) e) p, each l (ap (drop 1) e))

pub starred_only : Each known
starred_only = each known known_results

-- `#[a` in root: 8 at 3
abbrev pub open_stream : Case
open_stream =
    record { entry = root; kinds = K-# ∷ K-bracket ∷ K-ident ∷ []; lens = 1 ∷ 1 ∷ 1 ∷ []; size = 40; limit = 256; number = 8; place = 3; rows = [] }

open_stream_result : answered open_stream ≡ promised open_stream
unfolding answered
open_stream_result = refl

pub open_stream_only : Only open_stream
open_stream_only number place count table p = known_only open_stream open_stream_result p
