use Rattle.std.specs.Prelude.{◌≡◌, ◌+◌, drop}
use Rattle.definition.specs.Parse.{first_over}
use Rattle.entry.proofs.input.first_over.Given as goal

-- the search from `at` on, with `left` for the rest, finds what the whole search does
abbrev pub invariant-loop-at : goal.invariant-loop-at
invariant-loop-at l = l.at + first_over l.left (drop l.at l.lens) ≡ first_over 16777216 l.lens
