-- `a;b` in `root`. Its first statement followed by loose leaves would be nested and lose no token too, and it is not the tree: that is fixed row by row.
-- Assumes nothing.
use Rattle.std.specs.Prelude.{◌≡◌, refl, [], ◌∷◌}
use Rattle.definition.specs.Kinds.{K-ident, K-semi, Root, Expr, Path}
use Rattle.definition.specs.Parse.{root}
use Rattle.laws.specs.Known.{Case, answered, promised}

abbrev pub two : Case
two =
    record {
      entry = root;
      kinds = K-ident ∷ K-semi ∷ K-ident ∷ [];
      lens = 1 ∷ 1 ∷ 1 ∷ [];
      size = 40;
      limit = 256;
      number = 0;
      place = 0;
      rows =
          K-ident ∷ 0 ∷ 0 ∷ 1 ∷ Path ∷ 1 ∷ 0 ∷ 1 ∷ Expr ∷ 2 ∷ 0 ∷ 1 ∷ K-semi ∷ 0 ∷ 1 ∷ 1 ∷
          K-ident ∷ 0 ∷ 2 ∷ 1 ∷ Path ∷ 1 ∷ 2 ∷ 1 ∷ Expr ∷ 2 ∷ 2 ∷ 1 ∷ Root ∷ 7 ∷ 0 ∷ 3 ∷ [];
    }

pub two_result : answered two ≡ promised two
unfolding answered
two_result = refl
