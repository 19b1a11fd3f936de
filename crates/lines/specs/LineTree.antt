-- The tree of an operator line that reads as a grouping, and the place of a clash.
-- Assumes nothing.
use Rattle.std.specs.Prelude.{ℕ, suc, ◌+◌, cond, List, length}
use Rattle.definition.specs.Kinds.{Root, Expr, Path, Lit, ExprBinary, ExprOperator}
use Rattle.definition.specs.Classes.{is_lit}
use Rattle.trees.specs.Forest.{Tok, Forest, none, leaf, node, ◌⊕◌, leafs}
use Rattle.lines.specs.Line.{Sign, Item, Line, Links, end, link, sign_toks, rest_toks}

-- a literal in a Lit, an identifier in a Path
abbrev pub operand_f : Tok → Forest
operand_f t = node (cond (is_lit t.kind) Lit Path) (leaf t none) none

-- an operator in an ExprOperator, the trivia inside `is not` too
abbrev pub sign_f : Sign → Forest
sign_f o = node ExprOperator (leafs (sign_toks o)) none

-- a group is put into an ExprBinary; where there is no operator there is no group
abbrev pub around : Links → Forest → Forest
around end f = f
around (link a g l) f = node ExprBinary f none

-- An operator, the trivia before its operand, and the operand: plain, or the first of a nested group, with the trivia after it in that group. After a
-- plain one the trivia stands beside it.
abbrev pub links_f : Links → Forest
links_f end = none
links_f (link a g l) =
    sign_f a.sign ⊕ leafs a.gap ⊕ around g (operand_f a.operand ⊕ leafs a.after ⊕ links_f g) ⊕ links_f l

-- the whole: a Root over the leading trivia and an Expr
unfoldable pub line_f : Line → Links → Forest
line_f l g = node Root (leafs l.lead ⊕ node Expr (around g (operand_f l.first ⊕ leafs l.after ⊕ links_f g)) none) none

-- how many tokens stand before a's operand, where the items p stand before a
unfoldable pub place : List Item → Item → ℕ
place p a = length (rest_toks p) + (length (sign_toks a.sign) + length a.gap)

-- the same from the line's first token on
unfoldable pub line_place : Line → List Item → Item → ℕ
line_place l p a = suc (length l.lead + length l.after) + place p a
