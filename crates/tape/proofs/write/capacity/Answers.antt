use Rattle.std.proofs.Common.{rules}
use Rattle.definition.specs.Tape.{capacity}
use Rattle.tape.proofs.write.capacity.Goals as goal

pub returns : goal.returns
unfolding capacity
returns c = search rules
