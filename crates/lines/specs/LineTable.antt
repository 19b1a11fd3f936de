-- No kind but those in 01's table is an operator.
-- Assumes nothing.
use Rattle.std.specs.Prelude.{ℕ, ◌≡◌, refl, true, List, map}
use Rattle.definition.specs.Classes.{among}
use Rattle.definition.specs.Operators.{bindings}
use Rattle.definition.specs.Table.{Listing, table}
use Rattle.lines.specs.Line.{is_operator}
use Rattle.lines.specs.LineKinds.{every, every_in, operator_every}

abbrev operators : List ℕ
operators = map (λ (e : Listing). e.operator) table

pub no_other : (k : ℕ) → is_operator k ≡ true → among k operators ≡ true
unfolding every every_in table bindings among
no_other = operator_every (λ k. among k operators) refl
