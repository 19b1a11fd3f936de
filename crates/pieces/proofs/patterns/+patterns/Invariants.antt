-- Written by tools/walk.py from the code and its program; docs/CONTRIBUTING.md says how.
-- Assumes nothing.
use Rattle.std.specs.Prelude.{◌+◌, ◌*◌}
use Rattle.definition.specs.Grammar.{pat_items, pat_object_items}
use Rattle.tape.specs.Steps.{Loop, fuel}
use Rattle.pieces.proofs.patterns.+patterns.Given as goal

abbrev pub decreases-pat : goal.decreases-pat
decreases-pat l = 8 * l.p.now.left + 0

abbrev pub decreases-pat_anonymous : goal.decreases-pat_anonymous
decreases-pat_anonymous l = 8 * l.p.now.left + 5

abbrev pub decreases-pat_group : goal.decreases-pat_group
decreases-pat_group l = 8 * l.p.now.left + 5

abbrev pub decreases-pat_item : goal.decreases-pat_item
decreases-pat_item l = 8 * l.p.now.left + 2

abbrev pub decreases-pat_items : goal.decreases-pat_items
decreases-pat_items l = 8 * l.p.now.left + 3

abbrev pub decreases-pat_kind : goal.decreases-pat_kind
decreases-pat_kind l = 8 * l.p.now.left + 6

abbrev pub decreases-pat_object : goal.decreases-pat_object
decreases-pat_object l = 8 * l.p.now.left + 4

abbrev pub decreases-pat_object_items : goal.decreases-pat_object_items
decreases-pat_object_items l = 8 * l.p.now.left + 3

abbrev pub decreases-pat_object_key : goal.decreases-pat_object_key
decreases-pat_object_key l = 8 * l.p.now.left + 2

abbrev pub decreases-pat_or_rest : goal.decreases-pat_or_rest
decreases-pat_or_rest l = 8 * l.p.now.left + 1

abbrev pub decreases-pat_parens : goal.decreases-pat_parens
decreases-pat_parens l = 8 * l.p.now.left + 4

abbrev pub decreases-pat_path : goal.decreases-pat_path
decreases-pat_path l = 8 * l.p.now.left + 5

abbrev pub decreases-pat_text : goal.decreases-pat_text
decreases-pat_text l = 8 * l.p.now.left + 7

abbrev pub decreases-pat_value : goal.decreases-pat_value
decreases-pat_value l = 8 * l.p.now.left + 1

abbrev pub invariant-pat_items-loop-p : goal.invariant-pat_items-loop-p
invariant-pat_items-loop-p l =
    Loop pat_items pat_items l.initial.p l.p

abbrev pub decreases-pat_items-loop-p : goal.decreases-pat_items-loop-p
decreases-pat_items-loop-p l =
    fuel l.p

abbrev pub invariant-pat_object_items-loop-p : goal.invariant-pat_object_items-loop-p
invariant-pat_object_items-loop-p l =
    Loop pat_object_items pat_object_items l.initial.p l.p

abbrev pub decreases-pat_object_items-loop-p : goal.decreases-pat_object_items-loop-p
decreases-pat_object_items-loop-p l =
    fuel l.p
