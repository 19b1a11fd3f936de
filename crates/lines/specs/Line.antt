-- An operator line, its groupings and its clashes (document 01, "Operators"), as plain data. Nothing here names the tape or the grammar.
-- Assumes nothing.
use Rattle.std.specs.Prelude.{ℕ, ◌≤◌, ◌<◌, ◌≡◌, Bool, true, false, not, ◌||◌, List, [], ◌∷◌, ◌++◌, eqb}
use Rattle.definition.specs.Kinds.{K-ident, K-is, K-not}
use Rattle.definition.specs.Classes.{is_trivia, is_lit}
use Rattle.definition.specs.Operators.{bindings, binding_in, associative}
use Rattle.trees.specs.Forest.{Tok}

-- ## A line

-- an operator as it is written: one token, or `is`, trivia and `not`
pub data Sign : Type 0 where
  one : Tok → Sign
  is_not : Tok → List Tok → Tok → Sign

-- an operator, trivia, its operand (the one after it), and the trivia after that
pub record Item : Type 0 where
  pub sign : Sign
  pub gap : List Tok
  pub operand : Tok
  pub after : List Tok

-- trivia, the first operand, the trivia after it, and the operators with their operands
pub record Line : Type 0 where
  pub lead : List Tok
  pub first : Tok
  pub after : List Tok
  pub rest : List Item

abbrev pub All : {A : Type 0} → (A → Type 0) → List A → Type 0
All P [] = Unit {0}
All P (x ∷ l) = P x × All P l

-- A literal or an identifier; a member of 01's table, which are those with a binding. Both are lists of names, so an unassigned number is in
-- neither, and no trivia; nor is `not`, so that it stands in a line after `is` alone, and `is` and `not` are always one operator.
unfoldable pub is_operand : ℕ → Bool
is_operand k = is_lit k || eqb k K-ident

unfoldable pub is_operator : ℕ → Bool
is_operator k = not (eqb (binding_in k bindings) 0)

-- what is meant by the words above: spaces and comments, an operand, an operator
abbrev pub Gap : List Tok → Type 0
Gap l = All (λ (t : Tok). is_trivia t.kind ≡ true) l

abbrev pub Operand : Tok → Type 0
Operand t = is_operand t.kind ≡ true

abbrev pub Operator : Sign → Type 0
Operator (one t) = is_operator t.kind ≡ true
Operator (is_not t g u) = (t.kind ≡ K-is) × Gap g × (u.kind ≡ K-not)

pub record Proper (a : Item) : Type 0 where
  pub sign : Operator a.sign
  pub gap : Gap a.gap
  pub operand : Operand a.operand
  pub after : Gap a.after

pub record ProperLine (l : Line) : Type 0 where
  pub lead : Gap l.lead
  pub first : Operand l.first
  pub after : Gap l.after
  pub rest : All Proper l.rest

-- its tokens
abbrev pub sign_toks : Sign → List Tok
sign_toks (one t) = t ∷ []
sign_toks (is_not t g u) = t ∷ (g ++ (u ∷ []))

abbrev pub rest_toks : List Item → List Tok
rest_toks [] = []
rest_toks (a ∷ l) = sign_toks a.sign ++ (a.gap ++ (a.operand ∷ (a.after ++ rest_toks l)))

unfoldable pub spell : Line → List Tok
spell l = l.lead ++ (l.first ∷ (l.after ++ rest_toks l.rest))

-- ## Groupings

-- the kind by which an operator is looked up: `is not` as `is`
abbrev pub key : Sign → ℕ
key (one t) = t.kind
key (is_not t g u) = t.kind

-- how an item's operator binds
unfoldable pub bind : Item → ℕ
bind a = binding_in (key a.sign) bindings

-- A group's own operators, in order, each with its operand: `link a g l` is a's operator and operand, the nested group g that starts with that
-- operand (`end`: there is none, the operand is plain), and the operators after it in this group, l. So a group has an operator and starts with a
-- plain operand, a nested one follows an operator, and `end` is no group: as a whole line, one operand.
pub data Links : Type 0 where
  end : Links
  link : Item → Links → Links → Links

-- its operators as they stand in the line
abbrev pub flatten : Links → List Item
flatten end = []
flatten (link a g l) = a ∷ (flatten g ++ flatten l)

-- b binds tighter than a
abbrev pub Tighter : Item → Item → Type 0
Tighter a b = bind a < bind b

-- b may come next after a among a group's own operators: it is not tighter, and if it is equal, associative
abbrev pub Follows : Item → Item → Type 0
Follows a b = (bind b ≤ bind a) × (bind b ≡ bind a → associative (bind a) ≡ true)

abbrev pub Head : {A : Type 0} → (A → Type 0) → List A → Type 0
Head P [] = Unit {0}
Head P (x ∷ l) = P x

-- A valid group: the one nested after a's operator binds tighter throughout than it, and is valid; this group's next operator may follow a; and so
-- on. (The next operator of the group is the first of `flatten l`.)
abbrev pub Valid : Links → Type 0
Valid end = Unit {0}
Valid (link a g l) = All (Tighter a) (flatten g) × Valid g × Head (Follows a) (flatten l) × Valid l

-- the whole of a line's operators reads as g
pub record Reads (l : List Item) (g : Links) : Type 0 where
  pub whole : flatten g ≡ l
  pub valid : Valid g

-- ## Clashes

-- Some operator, that of `right`, has an earlier one of equal non-associative binding, that of `left`, with only tighter ones between. `before` is
-- what stands before the left one.
pub record Clash (l before : List Item) (left : Item) : Type 0 where
  pub between : List Item
  pub right : Item
  pub later : List Item
  pub whole : l ≡ before ++ (left ∷ (between ++ (right ∷ later)))
  pub equal : bind right ≡ bind left
  pub loose : associative (bind left) ≡ false
  pub tight : All (Tighter left) between

-- and it is the first such right operator: what stands before it has no clash
pub record FirstClash (l before : List Item) (left : Item) : Type 0 where
  pub clash : Clash l before left
  pub first : (p : List Item) (a : Item) → Clash (before ++ (left ∷ clash.between)) p a → ⊥
