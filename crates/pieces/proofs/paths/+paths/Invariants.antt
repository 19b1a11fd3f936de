-- Written by tools/walk.py from the code and its program; docs/CONTRIBUTING.md says how.
-- Assumes nothing.
use Rattle.std.specs.Prelude.{◌+◌, ◌*◌}
use Rattle.definition.specs.Grammar.{generic_paths, generics_all, path_segments}
use Rattle.tape.specs.Steps.{Loop, fuel}
use Rattle.pieces.proofs.paths.+paths.Given as goal

abbrev pub decreases-generic_path : goal.decreases-generic_path
decreases-generic_path l = 8 * l.p.now.left + 1

abbrev pub decreases-generic_paths : goal.decreases-generic_paths
decreases-generic_paths l = 8 * l.p.now.left + 2

abbrev pub decreases-generics : goal.decreases-generics
decreases-generics l = 8 * l.p.now.left + 3

abbrev pub decreases-generics_all : goal.decreases-generics_all
decreases-generics_all l = 8 * l.p.now.left + 4

abbrev pub decreases-path : goal.decreases-path
decreases-path l = 8 * l.p.now.left + 0

abbrev pub decreases-path_segment : goal.decreases-path_segment
decreases-path_segment l = 8 * l.p.now.left + 5

abbrev pub decreases-path_segments : goal.decreases-path_segments
decreases-path_segments l = 8 * l.p.now.left + 6

abbrev pub decreases-path_text : goal.decreases-path_text
decreases-path_text l = 8 * l.p.now.left + 7

abbrev pub invariant-generic_paths-loop-p : goal.invariant-generic_paths-loop-p
invariant-generic_paths-loop-p l =
    Loop generic_paths generic_paths l.initial.p l.p

abbrev pub decreases-generic_paths-loop-p : goal.decreases-generic_paths-loop-p
decreases-generic_paths-loop-p l =
    fuel l.p

abbrev pub invariant-generics_all-loop-p : goal.invariant-generics_all-loop-p
invariant-generics_all-loop-p l =
    Loop generics_all generics_all l.initial.p l.p

abbrev pub decreases-generics_all-loop-p : goal.decreases-generics_all-loop-p
decreases-generics_all-loop-p l =
    fuel l.p

abbrev pub invariant-path_segments-loop-p : goal.invariant-path_segments-loop-p
invariant-path_segments-loop-p l =
    Loop path_segments path_segments l.initial.p l.p

abbrev pub decreases-path_segments-loop-p : goal.decreases-path_segments-loop-p
decreases-path_segments-loop-p l =
    fuel l.p
