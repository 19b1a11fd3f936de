-- The demand on an operator line, as definitions: the call, and what its answer has to be. `LineTheorem.line` proves it.
-- Assumes nothing.
use Rattle.std.specs.Prelude.{ℕ, ◌*◌, ◌≤◌, ◌≡◌, true, ◌⊎◌, List, length}
use Rattle.std.proofs.Common.{ap, sym, ◌∙◌, inl, inr, arith}
use Rattle.definition.specs.Tape.{State, Out, ok, refused, width}
use Rattle.definition.specs.Parse.{exprs, is_entry, number_of}
use Rattle.definition.specs.Parse as Parse
use Rattle.laws.specs.Sizes.{total}
use Rattle.trees.specs.Forest.{st, kinds, lens}
use Rattle.lines.specs.Line.{Item, Line, ProperLine, spell, Links, Reads, FirstClash}
use Rattle.lines.specs.LineTree.{line_f, line_place}

-- the expression entry on a line: its separator, the table's n elements, the depth limit
unfoldable pub parse : Line → ℕ → ℕ → ℕ → Out (Unit {0})
parse l separator n limit = Parse.parse (exprs separator) (kinds (spell l)) (lens (spell l)) n limit

-- No line needs more depth than this: eleven bindings, the first expression, an operand, a path.
abbrev pub enough : ℕ
enough = 14

-- a proper line within 01's sizes, four rows a token, a depth limit from `enough` to 256, a valid separator
pub record Call (l : Line) (separator n limit : ℕ) : Type 0 where
  pub proper : ProperLine l
  pub few : length (spell l) ≤ 65535
  pub small : total (lens (spell l)) ≤ 16777216
  pub room : width * (4 * length (spell l)) ≤ n
  pub deep : enough ≤ limit
  pub shallow : limit ≤ 256
  pub separates : is_entry (exprs separator) ≡ true

-- what 01 wants of the answer o to a line
pub record Answers (l : Line) (o : Out (Unit {0})) : Type 0 where
  -- a line that reads as a grouping (`end`: it is one operand) is accepted, and the grouping is the tree
  pub accepts : (g : Links) → Reads l.rest g → o ≡ ok tt (st (line_f l g))
  -- that grouping is the only one
  pub only : (g h : Links) → Reads l.rest g → Reads l.rest h → g ≡ h
  -- otherwise there is a first clash
  pub either : ((g : Links) × Reads l.rest g) ⊎ ((before : List Item) × (left : Item) × FirstClash l.rest before left)
  -- and the refusal is 7, at the operand after its left operator
  pub refuses : (before : List Item) (left : Item) → FirstClash l.rest before left → o ≡ refused 7 (line_place l before left)

-- ## So it reads as the demand does

-- accepted exactly if it reads as a grouping (`accepts` is the other half), and the grouping is the tree
pub exactly : {l : Line} {o : Out (Unit {0})} → Answers l o → (s : State) → o ≡ ok tt s → (g : Links) × Reads l.rest g × (s ≡ st (line_f l g))
unfolding number_of
exactly {l} {o} h s e = go h.either
  where
    go : ((g : Links) × Reads l.rest g) ⊎ ((before : List Item) × (left : Item) × FirstClash l.rest before left) → (g : Links) × Reads l.rest g × (s ≡ st (line_f l g))
    go (inl r) = (r.0, r.1, let q = sym e ∙ h.accepts r.0 r.1 in cc)
    go (inr c) = absurd (let q = ap number_of (sym e ∙ h.refuses c.0 c.1 c.2) in omega (arith, q))

-- otherwise refused with 7, at the operand that 01 names
pub otherwise : {l : Line} {o : Out (Unit {0})} → Answers l o → ((g : Links) → Reads l.rest g → ⊥) →
    (before : List Item) × (left : Item) × FirstClash l.rest before left × (o ≡ refused 7 (line_place l before left))
otherwise {l} {o} h n = go h.either
  where
    go : ((g : Links) × Reads l.rest g) ⊎ ((before : List Item) × (left : Item) × FirstClash l.rest before left) →
        (before : List Item) × (left : Item) × FirstClash l.rest before left × (o ≡ refused 7 (line_place l before left))
    go (inl r) = absurd (n r.0 r.1)
    go (inr c) = (c.0, c.1, c.2, h.refuses c.0 c.1 c.2)
