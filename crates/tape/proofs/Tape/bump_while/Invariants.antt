use Rattle.definition.specs.Prog.{repeat}
use Rattle.definition.specs.Grammar.{bump_while_turn, bump_while}
use Rattle.tape.specs.Steps.{Loop, fuel}
use Rattle.tape.proofs.Tape.bump_while.Given as goal

abbrev pub invariant-loop-self : goal.invariant-loop-self
invariant-loop-self l = Loop (repeat (bump_while_turn l.k) l.any) (bump_while l.k) l.initial.self l.self

abbrev pub decreases-loop-self : goal.decreases-loop-self
decreases-loop-self l = fuel l.self
