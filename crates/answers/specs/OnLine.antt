-- What a caller of `krosstavel_exprs` gets on an operator line: demand 3 of the code. It follows from what that call ensures (`Answered`) and the theorem `line`.
-- Assumes nothing.
use Rattle.std.specs.Prelude.{ℕ, ◌≡◌, refl, ◌⊎◌, List}
use Rattle.std.proofs.Common.{inl, inr, arith}
use Rattle.definition.specs.Parse.{exprs}
use Rattle.trees.specs.Forest.{st, kinds, lens}
use Rattle.lines.specs.Line.{Item, Line, spell, Links, Reads, FirstClash}
use Rattle.lines.specs.LineTree.{line_f, line_place}
use Rattle.lines.specs.LineDemand.{parse, Call, otherwise, Answers as LineAnswers}
use Rattle.lines.proofs.LineTheorem.{line}
use Rattle.entry.specs.Promise.{Answers, Answered}
use Rattle.answers.specs.Left.{Tree, Refusal, tree, refusal}

pub record Gets (l : Line) (n number place count : ℕ) (table : List ℕ) : Type 0 where
  -- a line that reads as a grouping is accepted, and the grouping is the tree
  pub accepts : (g : Links) → Reads l.rest g → Tree (line_f l g) n number place count table
  -- it is accepted only then
  pub exactly : number ≡ 0 → (g : Links) × Reads l.rest g
  -- that grouping is the only one
  pub only : (g h : Links) → Reads l.rest g → Reads l.rest h → g ≡ h
  -- otherwise the refusal is 7, at the operand after the left operator of the first clash
  pub refuses : (before : List Item) (left : Item) → FirstClash l.rest before left → Refusal 7 (line_place l before left) n number place count table
  pub otherwise : ((g : Links) → Reads l.rest g → ⊥) → (before : List Item) × (left : Item) × FirstClash l.rest before left

-- Of any call, with lists that spell a line. All that is asked here of the code is what `krosstavel_exprs` ensures.
pub gets : {l : Line} {separator n limit number place count : ℕ} {ks ls table : List ℕ} →
    Call l separator n limit → ks ≡ kinds (spell l) → ls ≡ lens (spell l) →
    Answered (exprs separator) ks ls n limit number place count table → Gets l n number place count table
unfolding parse st
gets {l} {separator} {n} {limit} {number} {place} {count} {ks} {ls} {table} c e f a = of (line l separator n limit c) (rw (e, f) at a)
  where
    of : LineAnswers l (parse l separator n limit) → Answers (parse l separator n limit) n number place count table → Gets l n number place count table
    of h b =
        record {
          accepts = λ g r. tree b (line_f l g) (st (line_f l g)) (h.accepts g r) refl;
          exactly = λ z. reads z h.either;
          only = h.only;
          refuses = λ p x k. refusal b 7 (line_place l p x) (h.refuses p x k);
          otherwise = λ none. let k = otherwise h none in (k.0, k.1, k.2);
        }
      where
        reads : number ≡ 0 → ((g : Links) × Reads l.rest g) ⊎ ((before : List Item) × (left : Item) × FirstClash l.rest before left) →
            (g : Links) × Reads l.rest g
        reads z (inl r) = r
        reads z (inr k) = absurd (omega (arith, (refusal b 7 (line_place l k.0 k.1) (h.refuses k.0 k.1 k.2)).number_is))
