-- Written by tools/walk.py from the code and its program; docs/CONTRIBUTING.md says how.
-- Assumes nothing.
use Rattle.definition.specs.Grammar.{not_eof, separated, while}
use Rattle.tape.specs.Steps.{Loop, fuel}
use Rattle.krosstavel.proofs.rules.exprs_rule.Given as goal

abbrev pub invariant-loop-p : goal.invariant-loop-p
invariant-loop-p l =
    Loop (while not_eof (separated l.separator)) (while not_eof (separated l.separator)) l.initial.p l.p

abbrev pub decreases-loop-p : goal.decreases-loop-p
decreases-loop-p l =
    fuel l.p
