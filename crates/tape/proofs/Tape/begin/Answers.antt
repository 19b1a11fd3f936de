use Rattle.std.proofs.Common.{arith}
use Rattle.laws.specs.Looking.{skipped_le}
use Rattle.tape.proofs.Starts.{begins_ready}
use Rattle.tape.proofs.Tape.begin.Goals as goal

pub overflow_add-next : goal.overflow_add-next
overflow_add-next c = omega (arith, c.skip-next.ensures, skipped_le c.args.kinds.now 0 (omega arith), c.requires.1.few)

pub invariant_of-result : goal.invariant_of-result
invariant_of-result c = record { ready = begins_ready c.args.table.now c.requires.1 c.skip-next.ensures c.skip-second.ensures; holds = c.capacity-room.ensures }
