use Rattle.std.proofs.Common.{arith}
use Rattle.tape.specs.Steps.{here_few}
use Rattle.tape.proofs.Tape.here.Goals as goal

pub overflow_cast-result : goal.overflow_cast-result
overflow_cast-result c = omega (arith, here_few c.args.self.now)
