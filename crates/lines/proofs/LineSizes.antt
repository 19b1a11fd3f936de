-- The tokens and the rows of what a line's parts write.
-- Assumes nothing.
use Rattle.std.specs.Prelude.{ℕ, suc, ◌+◌, ◌≡◌, refl, List, [], ◌∷◌, ◌++◌, length}
use Rattle.std.proofs.Common.{ap, ◌∙◌, append-nil, append_assoc, arith, length-append}
use Rattle.trees.specs.Forest.{Tok, Forest, ◌⊕◌, size, leaves, leafs, app_assoc, size_app, leaves_app, leafs_size, leafs_leaves}
use Rattle.lines.specs.Line.{Sign, Item, sign_toks, rest_toks, Links, end, link, flatten}
use Rattle.lines.specs.LineTree.{operand_f, sign_f, around, links_f}

-- ## What is written

-- an operand, and the trivia after it
abbrev pub operand_g : Tok → List Tok → Forest
operand_g t w = operand_f t ⊕ leafs w

-- an operand with the group that starts there
abbrev pub group_f : Tok → List Tok → Links → Forest
group_f t w g = operand_f t ⊕ leafs w ⊕ links_f g

pub group_is : (f : Forest) (t : Tok) (w : List Tok) (g : Links) → (f ⊕ operand_g t w) ⊕ links_f g ≡ f ⊕ group_f t w g
group_is f t w g = simp app_assoc

-- a group's node is a row
abbrev pub wrap : Links → ℕ
wrap end = 0
wrap (link a g l) = 1

-- what an item adds to the rows where its operand stays plain
abbrev pub plain : Item → ℕ
plain a = length (sign_toks a.sign) + length a.gap + length a.after + 3

-- ## Rows

pub around_size : (g : Links) (h : Forest) → size (around g h) ≡ size h + wrap g
around_size end h = omega arith
around_size (link a g l) h = omega arith

pub operand_size : (f : Forest) (t : Tok) (w : List Tok) → size (f ⊕ operand_g t w) ≡ size f + (2 + length w)
operand_size f t w = simp (size_app, leafs_size) (omega arith)

pub group_size : (f : Forest) (t : Tok) (w : List Tok) (g : Links) → size (f ⊕ group_f t w g) ≡ size f + (2 + length w + size (links_f g))
group_size f t w g = simp (size_app, leafs_size) (omega arith)

pub group_around_size : (f : Forest) (t : Tok) (w : List Tok) (g : Links) →
    size (f ⊕ around g (group_f t w g)) ≡ size f + (2 + length w + size (links_f g) + wrap g)
group_around_size f t w g = simp (size_app, around_size, leafs_size) (omega arith)

pub link_size : (a : Item) (g l : Links) → size (links_f (link a g l)) ≡ plain a + size (links_f g) + wrap g + size (links_f l)
link_size a g l = simp (size_app, leafs_size, around_size) (omega arith)

-- ## Tokens

pub rest_app : (x y : List Item) → rest_toks (x ++ y) ≡ rest_toks x ++ rest_toks y
rest_app [] y = refl
rest_app (a ∷ x) y = rw (rest_app x y) (simp append_assoc)

pub rest_length_app : (x y : List Item) → length (rest_toks (x ++ y)) ≡ length (rest_toks x) + length (rest_toks y)
rest_length_app x y = ap length (rest_app x y) ∙ length-append (rest_toks x) (rest_toks y)

pub rest_length : (a : Item) (x : List Item) →
    length (rest_toks (a ∷ x)) ≡ length (sign_toks a.sign) + (length a.gap + suc (length a.after + length (rest_toks x)))
rest_length a x = simp length-append

around_leaves : (g : Links) (h : Forest) → leaves (around g h) ≡ leaves h
around_leaves end h = refl
around_leaves (link a g l) h = append-nil (leaves h)

pub sign_f_leaves : (s : Sign) → leaves (sign_f s) ≡ sign_toks s
sign_f_leaves s = append-nil (leaves (leafs (sign_toks s))) ∙ leafs_leaves (sign_toks s)

pub links_leaves : (t : Links) → leaves (links_f t) ≡ rest_toks (flatten t)
links_leaves end = refl
links_leaves (link a g l) = go (links_leaves g) (links_leaves l)
  where
    go : leaves (links_f g) ≡ rest_toks (flatten g) → leaves (links_f l) ≡ rest_toks (flatten l) → leaves (links_f (link a g l)) ≡ rest_toks (flatten (link a g l))
    go p q = simp (leaves_app, leafs_leaves, around_leaves, rest_app, append_assoc, p, q)

pub group_leaves : (t : Tok) (w : List Tok) (g : Links) → leaves (around g (group_f t w g)) ≡ t ∷ (w ++ rest_toks (flatten g))
group_leaves t w g = simp (around_leaves, leaves_app, leafs_leaves, links_leaves)

-- how many tokens are written
pub operand_length : (f : Forest) (t : Tok) (w : List Tok) → length (leaves (f ⊕ operand_g t w)) ≡ length (leaves f) + suc (length w)
operand_length f t w = simp (leaves_app, length-append, leafs_leaves)
