use Rattle.std.proofs.Common.{refl}
use Rattle.tape.proofs.Tape.is_spent.Goals as goal

pub returns : goal.returns
returns c = refl
