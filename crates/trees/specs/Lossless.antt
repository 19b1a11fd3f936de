-- The leaves of a table. An accepted table's are the input's tokens: none is lost, made up, moved or changed (proofs/Lossless).
-- Assumes nothing.
use Rattle.std.specs.Prelude.{true, false, List, [], ◌∷◌, ltb}
use Rattle.definition.specs.Tape.{Row}

-- the rows that are leaves: a token's kind is below 128, a node's is not
unfoldable pub leaf_rows : List Row → List Row
leaf_rows [] = []
leaf_rows (r ∷ l) = elim (ltb r.kind 128) [ true ↦ r ∷ leaf_rows l | false ↦ leaf_rows l ]
