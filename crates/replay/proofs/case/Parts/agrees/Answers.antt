-- The two tables are compared element by element.
use Rattle.std.proofs.Common.{◌≡◌, rules}
use Rattle.std.proofs.lemmas.Slice.Eq.{slice_eq-Decides}
use Rattle.std.proofs.lemmas.Bool.Decides.{Decides-eqb}
use Rattle.replay.specs.Case.{Decides}
use Rattle.replay.proofs.case.Parts.agrees.Goals as goal

pub returns : goal.returns
returns c =
    let same = slice_eq-Decides Decides-eqb c.ask-answer.new.table c.rows.new.out c.eq.result c.eq.ensures in
    let decides : Decides c.eq.result (c.ask-answer.new.table ≡ c.rows.new.out) = record { yes = same.0; no = same.1 } in
    search rules
