-- Rows as elements of a table: how many there are, and those of two lists of rows.
-- Assumes nothing.
use Rattle.std.specs.Prelude.{◌*◌, ◌≡◌, refl, List, [], ◌∷◌, ◌++◌, length}
use Rattle.std.proofs.Common.{sym, append_assoc, arith}
use Rattle.definition.specs.Tape.{Row, width, elements}
use Rattle.definition.specs.Parse.{flat}

pub flat_length : (l : List Row) → length (flat l) ≡ width * length l
unfolding flat elements
flat_length [] = omega arith
flat_length (r ∷ l) = omega (arith, flat_length l)

pub flat_append : (l m : List Row) → flat (l ++ m) ≡ flat l ++ flat m
unfolding flat
flat_append [] m = refl
flat_append (r ∷ l) m = rw (flat_append l m) (sym (append_assoc (elements r) (flat l) (flat m)))
