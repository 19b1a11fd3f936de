-- The first `at` numbers are copied.
use Rattle.text.specs.Copy.{Copying}
use Rattle.text.proofs.narrow.Given as goal

abbrev pub invariant-loop-at : goal.invariant-loop-at
invariant-loop-at l = Copying l.from l.initial.to l.to l.at
