use Rattle.entry.specs.Table.{settled}
use Rattle.krosstavel.proofs.parse.Goals as goal

pub returns : goal.returns
returns c = settled c.rows-outcome.ensures c.settle.ensures
