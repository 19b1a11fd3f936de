-- The code's brackets as the definition's, and what a step of the level ensures.
-- Assumes nothing.
use Rattle.std.specs.Prelude.{ℕ, ◌+◌, ◌≤◌, ◌≡◌}
use Rattle.definition.specs.Grammar.{Matcher as Matching, brackets, parens, braces, level_after}
use Rattle.kinds.specs.declared.matcher.Matcher.{Matcher}
use Rattle.kinds.specs.declared.matcher.Matcher.TheVariants.{Brackets, Parens, Braces}

abbrev pub matcher_of : Matcher → Matching
matcher_of Brackets = brackets
matcher_of Parens = parens
matcher_of Braces = braces

-- r is the level behind k
pub record Leveled (m : Matcher) (k level r : ℕ) : Type 0 where
  pub is : r ≡ level_after (matcher_of m) k level
  pub small : r ≤ level + 1
