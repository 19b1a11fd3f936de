use Rattle.std.proofs.Math.Path.{refl}
use Rattle.definition.specs.Parse.{is_limit}
use Rattle.entry.proofs.input.is_limit.Goals as goal

pub returns : goal.returns
unfolding is_limit
returns c = refl
