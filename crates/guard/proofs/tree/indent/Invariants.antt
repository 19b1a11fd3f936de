-- What was written stands at the writer's end.
use Rattle.text.specs.Written.{Grows}
use Rattle.guard.proofs.tree.indent.Given as goal

abbrev pub invariant-loop : goal.invariant-loop
invariant-loop g l = Grows (g.W.Write.contents l.initial.out) (g.W.Write.contents l.out)
