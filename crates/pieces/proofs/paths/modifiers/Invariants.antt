-- Written by tools/walk.py from the code and its program; docs/CONTRIBUTING.md says how.
-- Assumes nothing.
use Rattle.std.specs.Prelude.{false}
use Rattle.definition.specs.Prog.{repeat}
use Rattle.definition.specs.Grammar.{modifiers_turn}
use Rattle.tape.specs.Steps.{Loop, fuel}
use Rattle.pieces.proofs.paths.modifiers.Given as goal

abbrev pub invariant-loop-p : goal.invariant-loop-p
invariant-loop-p l =
    Loop (repeat modifiers_turn (l.is_const, l.has_mods)) (repeat modifiers_turn (false, false)) l.initial.p l.p

abbrev pub decreases-loop-p : goal.decreases-loop-p
decreases-loop-p l =
    fuel l.p
