-- A piece more: what was read before it and what it read.
use Rattle.std.proofs.Common.{arith}
use Rattle.text.specs.Written.{shrinks_trans}
use Rattle.replay.proofs.replay.Goals as goal

pub returns-in_err-next : goal.returns-in_err-next
returns-in_err-next g c = record { shrinks = shrinks_trans _ _ _ c.loop.invariant.shrinks c.read_piece.ensures.shrinks }

pub returns-in-Break : goal.returns-in-Break
returns-in-Break g c = record { shrinks = shrinks_trans _ _ _ c.loop.invariant.shrinks c.read_piece.ensures.shrinks }

pub loop-preserved : goal.loop-preserved
loop-preserved g c =
    let few = rw c.in-Continue.is at c.in_ok-next.ensures.ok in
    record {
      counted = omega (arith, few);
      shrinks = shrinks_trans _ _ _ c.loop.invariant.shrinks c.read_piece.ensures.shrinks;
    }
