use Rattle.std.specs.Prelude.{◌≡◌, ◌-◌, length}
use Rattle.laws.specs.Looking.{skipped}
use Rattle.tape.proofs.look.skip_rest.Given as goal

abbrev pub invariant-loop-at : goal.invariant-loop-at
invariant-loop-at l = skipped l.at l.kinds ≡ skipped l.initial.at l.kinds

abbrev pub decreases-loop-at : goal.decreases-loop-at
decreases-loop-at l = length l.kinds - l.at
