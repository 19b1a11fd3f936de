-- What is not yet cut into lines is part of the list.
use Rattle.std.proofs.Common.{◌≡◌, false}
use Rattle.std.specs.Slice.Iter.{split_rest, split_done}
use Rattle.guard.specs.Names.{IsPart}
use Rattle.guard.proofs.names.name.Given as goal

abbrev pub invariant-loop-line : goal.invariant-loop-line
invariant-loop-line l = split_done l.line-iterator ≡ false → IsPart (split_rest l.line-iterator) l.names
