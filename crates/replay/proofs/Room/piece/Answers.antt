use Rattle.std.proofs.Common.{arith}
use Rattle.replay.specs.Input.{upto_go, upto_end}
use Rattle.replay.proofs.Room.piece.Goals as goal

pub loop-byte-preserved : goal.loop-byte-preserved
loop-byte-preserved c = upto_go c.loop-byte.invariant (omega arith) c.byte-place.ensures

pub returns : goal.returns
returns c = upto_end c.loop-byte.invariant (omega arith)
