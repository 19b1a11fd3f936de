-- Written by tools/walk.py from the code and its program; docs/CONTRIBUTING.md says how.
-- Assumes nothing.
use Rattle.std.specs.Prelude.{◌+◌, ◌*◌}
use Rattle.definition.specs.Grammar.{use_parts, use_paths}
use Rattle.tape.specs.Steps.{Loop, fuel}
use Rattle.pieces.proofs.items.+uses.Given as goal

abbrev pub decreases-item_use : goal.decreases-item_use
decreases-item_use l = 7 * l.p.now.left + 0

abbrev pub decreases-item_use_text : goal.decreases-item_use_text
decreases-item_use_text l = 7 * l.p.now.left + 6

abbrev pub decreases-use_group : goal.decreases-use_group
decreases-use_group l = 7 * l.p.now.left + 4

abbrev pub decreases-use_item : goal.decreases-use_item
decreases-use_item l = 7 * l.p.now.left + 1

abbrev pub decreases-use_parts : goal.decreases-use_parts
decreases-use_parts l = 7 * l.p.now.left + 5

abbrev pub decreases-use_path : goal.decreases-use_path
decreases-use_path l = 7 * l.p.now.left + 2

abbrev pub decreases-use_paths : goal.decreases-use_paths
decreases-use_paths l = 7 * l.p.now.left + 3

abbrev pub invariant-use_parts-loop-p : goal.invariant-use_parts-loop-p
invariant-use_parts-loop-p l =
    Loop use_parts use_parts l.initial.p l.p

abbrev pub decreases-use_parts-loop-p : goal.decreases-use_parts-loop-p
decreases-use_parts-loop-p l =
    fuel l.p

abbrev pub invariant-use_paths-loop-p : goal.invariant-use_paths-loop-p
invariant-use_paths-loop-p l =
    Loop use_paths use_paths l.initial.p l.p

abbrev pub decreases-use_paths-loop-p : goal.decreases-use_paths-loop-p
decreases-use_paths-loop-p l =
    fuel l.p
