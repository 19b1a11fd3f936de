-- What is left of the shape and of the tokens comes to the whole.
use Rattle.std.proofs.Common.{length}
use Rattle.replay.specs.Wanted.{Upto}
use Rattle.replay.proofs.wanted.rows.Given as goal

abbrev pub invariant-loop-kind : goal.invariant-loop-kind
invariant-loop-kind l = Upto l.initial.shape l.initial.kinds l.initial.lens l.initial.out l.shape l.kinds l.lens l.byte l.row l.out

abbrev pub decreases-loop-kind : goal.decreases-loop-kind
decreases-loop-kind l = length l.shape
