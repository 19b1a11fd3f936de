-- The glued kind, where no trivia stands behind the peeked token.
-- Assumes nothing.
use Rattle.std.specs.Prelude.{ℕ, ◌<◌, ◌≡◌, List, length, get_or}
use Rattle.std.proofs.Math.Path.{ap, sym}
use Rattle.std.proofs.Math.ListN.{get_or-eq_default}
use Rattle.std.proofs.Common.{◌∙◌, arith}
use Rattle.std.proofs.Math.Decide.{dec_lt}
use Rattle.definition.specs.Classes.{treated, is_assigned, among}
use Rattle.definition.specs.Tape.{glued_kind}
use Rattle.laws.specs.Looking.{skipped, glued_next, glued_end}

pub glued_same : (l : List ℕ) (j : ℕ) → skipped j l ≡ j → glued_kind (get_or l j 0) ≡ treated (get_or l j 0)
unfolding treated is_assigned among
glued_same l j h = go (dec_lt j (length l))
  where
    go : Dec (j < length l) → glued_kind (get_or l j 0) ≡ treated (get_or l j 0)
    go (yes p) = glued_next l j h p
    go (no p) = glued_end l j (omega arith) ∙ ap treated (sym (get_or-eq_default l 0 {n = j} (omega arith)))
