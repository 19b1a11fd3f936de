-- The piece is read up to `byte`.
use Rattle.replay.specs.Input.{Upto}
use Rattle.replay.proofs.Room.piece.Given as goal

abbrev pub invariant-loop-byte : goal.invariant-loop-byte
invariant-loop-byte l = Upto l.initial.place l.bytes l.initial.self.numbers l.place l.self.numbers l.byte-index
