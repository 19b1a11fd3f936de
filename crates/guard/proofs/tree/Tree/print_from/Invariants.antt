-- What was written stands at the writer's end.
use Rattle.text.specs.Written.{Grows}
use Rattle.guard.proofs.tree.Tree.print_from.Given as goal

abbrev pub invariant-loop-row : goal.invariant-loop-row
invariant-loop-row g l = Grows (g.W.Write.contents l.initial.out) (g.W.Write.contents l.out)
