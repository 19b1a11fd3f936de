use Rattle.std.specs.Prelude.{◌≡◌, ◌+◌, drop}
use Rattle.definition.specs.Classes.{is_token}
use Rattle.definition.specs.Parse.{first_not}
use Rattle.entry.proofs.input.first_not_token.Given as goal

-- the search from `at` on finds what the whole search does
abbrev pub invariant-loop-at : goal.invariant-loop-at
invariant-loop-at l = l.at + first_not is_token (drop l.at l.kinds) ≡ first_not is_token l.kinds
