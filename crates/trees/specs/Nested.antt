-- A table that is one tree: Root on top, every node over whole trees, and the tokens of the input, in their order, as its leaves. Each accepted one is (proofs/Nested).
-- Assumes nothing.
use Rattle.std.specs.Prelude.{◌≤◌, ◌≡◌, List, length}
use Rattle.definition.specs.Kinds.{Root}
use Rattle.definition.specs.Tape.{State, Out, ok, refused, fault}
use Rattle.trees.specs.Forest.{Tok, Forest, none, node, leaves, rows, kinds}
use Rattle.trees.specs.Planted.{Nodes}
use Rattle.trees.specs.Sound.{Named}

-- a table that is one tree, whose leaves are l
pub record Tree (l : List Tok) (s : State) : Type 0 where
  pub inside : Forest
  pub out : s.out ≡ rows 0 (node Root inside none)
  pub leaves : leaves inside ≡ l
  pub nodes : Nodes Named inside

-- a tree; or a refusal with a number of document 01, at a place in the list or at its end; and no fault
abbrev pub Whole : List Tok → Out (Unit {0}) → Type 0
Whole l (ok u s) = Tree l s
Whole l (refused n pl) = (1 ≤ n) × (n ≤ 11) × (pl ≤ length (kinds l))
Whole l (fault w) = ⊥
