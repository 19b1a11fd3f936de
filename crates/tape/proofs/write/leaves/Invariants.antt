use Rattle.std.specs.Prelude.{◌-◌}
use Rattle.tape.specs.Places.{Writes}
use Rattle.tape.proofs.write.leaves.Given as goal

abbrev pub invariant-loop-to : goal.invariant-loop-to
invariant-loop-to l = Writes l.kinds l.lens l.end l.initial.table l.fn.from l.table l.to

abbrev pub decreases-loop-to : goal.decreases-loop-to
decreases-loop-to l = l.end - l.to.at
