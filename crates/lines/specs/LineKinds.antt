-- A fact of every operand's kind, or every operator's, from one test that antt computes at each name in their lists. So no proof depends on the numbers.
-- Assumes nothing.
use Rattle.std.specs.Prelude.{ℕ, ◌≤◌, ◌≡◌, refl, Bool, true, false, ◌&&◌, ◌||◌, List, [], ◌∷◌, eqb, leb}
use Rattle.std.proofs.Common.{ap, sym, ◌∙◌, eqb-true, leb-true}
use Rattle.std.proofs.lemmas.Bool.{false≢true, not-true}
use Rattle.definition.specs.Kinds.{K-ident, K-true, K-false, K-number, K-str, K-bytestr, K-char, K-byte, K-Whitespace, K-Comment, K-MultilineComment, K-yield}
use Rattle.definition.specs.Classes.{among, is_trivia, is_lit}
use Rattle.definition.specs.Operators.{bindings, binding_in}
use Rattle.lines.specs.Line.{is_operand, is_operator}

-- the test passes at each member
unfoldable pub every : (ℕ → Bool) → List ℕ → Bool
every P [] = true
every P (x ∷ l) = P x && every P l

and_both : (a b : Bool) → (a && b) ≡ true → (a ≡ true) × (b ≡ true)
and_both true b e = (refl, e)
and_both false b e = absurd (false≢true e)

or_either : (a b : Bool) (C : Type 0) → (a ≡ true → C) → (b ≡ true → C) → (a || b) ≡ true → C
or_either true b C f g e = f refl
or_either false b C f g e = g e

pub among_every : (P : ℕ → Bool) (k : ℕ) (l : List ℕ) → every P l ≡ true → among k l ≡ true → P k ≡ true
unfolding every among
among_every P k [] e h = absurd (false≢true h)
among_every P k (x ∷ l) e h = let w = and_both (P x) (every P l) e in go w.0 (λ q. among_every P k l w.1 q) (eqb k x) refl h
  where
    go : P x ≡ true → (among k l ≡ true → P k ≡ true) → (b : Bool) → eqb k x ≡ b → elim b [ true ↦ true | false ↦ among k l ] ≡ true → P k ≡ true
    go f g true q h = ap P (eqb-true k x q) ∙ f
    go f g false q h = g h

-- trivia
pub trivia_every : (P : ℕ → Bool) → every P (K-Whitespace ∷ K-Comment ∷ K-MultilineComment ∷ []) ≡ true → (k : ℕ) → is_trivia k ≡ true → P k ≡ true
unfolding is_trivia
trivia_every P e k h = among_every P k _ e h

-- literals and identifiers
abbrev pub operands : List ℕ
operands = K-ident ∷ K-true ∷ K-false ∷ K-number ∷ K-str ∷ K-bytestr ∷ K-char ∷ K-byte ∷ []

pub operand_every : (P : ℕ → Bool) → every P operands ≡ true → (k : ℕ) → is_operand k ≡ true → P k ≡ true
unfolding is_operand is_lit every
operand_every P e k h =
    let w = and_both (P K-ident) _ e in
    or_either (is_lit k) (eqb k K-ident) (P k ≡ true) (λ q. among_every P k _ w.1 q) (λ q. ap P (eqb-true k K-ident q) ∙ w.0) h

-- operators
unfoldable pub every_in : (ℕ → Bool) → List (ℕ × List ℕ) → Bool
every_in P [] = true
every_in P (l ∷ ls) = every P l.1 && every_in P ls

binding_every : (P : ℕ → Bool) (k : ℕ) (ls : List (ℕ × List ℕ)) → every_in P ls ≡ true → eqb (binding_in k ls) 0 ≡ false → P k ≡ true
unfolding every_in binding_in
binding_every P k [] e h = absurd (false≢true (sym h))
binding_every P k (l ∷ ls) e h =
    let w = and_both (every P l.1) (every_in P ls) e in
    go (λ q. among_every P k l.1 w.0 q) (λ q. binding_every P k ls w.1 q) (among k l.1) refl h
  where
    go : (among k l.1 ≡ true → P k ≡ true) → (eqb (binding_in k ls) 0 ≡ false → P k ≡ true) → (b : Bool) → among k l.1 ≡ b →
        eqb (elim b [ true ↦ l.0 | false ↦ binding_in k ls ]) 0 ≡ false → P k ≡ true
    go f g true q h = f q
    go f g false q h = g h

pub operator_every : (P : ℕ → Bool) → every_in P bindings ≡ true → (k : ℕ) → is_operator k ≡ true → P k ≡ true
unfolding is_operator
operator_every P e k h = binding_every P k bindings e (not-true (eqb (binding_in k bindings) 0) h)

-- all three are assigned token kinds
pub operand_token : (k : ℕ) → is_operand k ≡ true → (1 ≤ k) × (k ≤ K-yield)
unfolding every
operand_token k h = (leb-true 1 k (operand_every (λ k. leb 1 k) refl k h), leb-true k K-yield (operand_every (λ k. leb k K-yield) refl k h))

pub operator_token : (k : ℕ) → is_operator k ≡ true → (1 ≤ k) × (k ≤ K-yield)
unfolding every every_in bindings
operator_token k h = (leb-true 1 k (operator_every (λ k. leb 1 k) refl k h), leb-true k K-yield (operator_every (λ k. leb k K-yield) refl k h))

pub trivia_token : (k : ℕ) → is_trivia k ≡ true → (1 ≤ k) × (k ≤ K-yield)
unfolding every
trivia_token k h = (leb-true 1 k (trivia_every (λ k. leb 1 k) refl k h), leb-true k K-yield (trivia_every (λ k. leb k K-yield) refl k h))
