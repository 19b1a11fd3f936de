use Rattle.tape.specs.Steps.{fuel}
use Rattle.pieces.specs.Streaming.{Streaming}
use Rattle.kinds.specs.Matchers.{matcher_of}
use Rattle.pieces.proofs.streams.stream.Given as goal

abbrev pub invariant-loop-m : goal.invariant-loop-m
invariant-loop-m l = Streaming (matcher_of l.m) l.level l.initial.p l.p

abbrev pub decreases-loop-m : goal.decreases-loop-m
decreases-loop-m l = fuel l.p
