-- The line is read up to `byte`.
use Rattle.text.specs.Line.{Upto}
use Rattle.text.proofs.numbers.Given as goal

abbrev pub invariant-loop-byte : goal.invariant-loop-byte
invariant-loop-byte l = Upto l.line l.initial.out l.out l.reading l.byte-index
