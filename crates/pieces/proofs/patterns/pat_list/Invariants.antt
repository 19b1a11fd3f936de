-- Written by tools/walk.py from the code and its program; docs/CONTRIBUTING.md says how.
-- Assumes nothing.
use Rattle.definition.specs.Grammar.{pat_list}
use Rattle.tape.specs.Steps.{Loop, fuel}
use Rattle.pieces.proofs.patterns.pat_list.Given as goal

abbrev pub invariant-loop-p : goal.invariant-loop-p
invariant-loop-p l =
    Loop pat_list pat_list l.initial.p l.p

abbrev pub decreases-loop-p : goal.decreases-loop-p
decreases-loop-p l =
    fuel l.p
