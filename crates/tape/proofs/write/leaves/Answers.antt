use Rattle.std.proofs.Common.{arith}
use Rattle.tape.proofs.Writes.{writes_go, writes_room}
use Rattle.tape.proofs.write.leaves.Goals as goal

pub leaf-to-requires : goal.leaf-to-requires
leaf-to-requires c = writes_room c.loop-to.invariant c.loop-to-test.true (omega (arith, c.if-to-room.true, c.requires.1))

pub loop-to-preserved : goal.loop-to-preserved
loop-to-preserved c = writes_go c.loop-to.invariant c.loop-to-test.true (omega (arith, c.if-to-room.true, c.requires.1)) c.leaf-to.ensures
