-- What was written stands at the writer's end.
use Rattle.text.specs.Written.{Grows}
use Rattle.guard.proofs.tree.Tree.print.Given as goal

abbrev pub invariant-loop-first : goal.invariant-loop-first
invariant-loop-first g l = Grows (g.W.Write.contents l.initial.out) (g.W.Write.contents l.out)
