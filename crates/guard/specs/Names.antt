-- Numbers and names in the list of the kinds' names.
-- Assumes nothing.
use Rattle.std.specs.Prelude.{ℕ, ◌≡◌, Bool, true, false, MatchBool, ◌&&◌, Option, Some, None, List, [], ◌∷◌, ◌++◌, eqb, get_or, take, drop}
use Rattle.std.proofs.Common.{sym, ◌∙◌, append_assoc}
use Rattle.std.proofs.lemmas.List.{append-nil, take-append-drop}
use borrow.Author.Tests.{eq-eqb, ne_eqb}
use Rattle.text.specs.Line.{listed, filled}

abbrev pub is_one : Option ℕ → Bool
is_one (Some n) = eqb n 1
is_one None = false

-- the text is one number, and this one
unfoldable pub is_number : List ℕ → ℕ → Bool
is_number text number = is_one (listed text (0 ∷ [])) && eqb (get_or (filled text (0 ∷ [])) 0 0) number

module _ (text : List ℕ) (number : ℕ) where
  pub no_list : listed text (0 ∷ []) ≡ None → false ≡ is_number text number
  unfolding is_number
  no_list e = rw e

  pub not_one : {n : ℕ} → listed text (0 ∷ []) ≡ Some n → (n ≡ 1 → ⊥) → false ≡ is_number text number
  unfolding is_number
  not_one {n} e h = rw (e, ne_eqb n 1 h)

  pub one : {n : ℕ} → listed text (0 ∷ []) ≡ Some n → n ≡ 1 → eqb (get_or (filled text (0 ∷ [])) 0 0) number ≡ is_number text number
  unfolding is_number
  one {n} e h = rw (e, eq-eqb n 1 h)

-- ## Parts

-- the part stands in the list, with something before it and behind it
pub record IsPart (part list : List ℕ) : Type 0 where
  pub before : List ℕ
  pub behind : List ℕ
  pub is : list ≡ before ++ (part ++ behind)

pub whole : (list : List ℕ) → IsPart list list
whole list = record { before = []; behind = []; is = sym (append-nil list) }

-- the halves of a part
module _ (a b : List ℕ) {list : List ℕ} (p : IsPart (a ++ b) list) where
  first_half : IsPart a list
  first_half = record { before = p.before; behind = b ++ p.behind; is = p.is ∙ simp append_assoc }

  second_half : IsPart b list
  second_half = record { before = p.before ++ a; behind = p.behind; is = p.is ∙ simp append_assoc }

module _ (n : ℕ) (part : List ℕ) {list : List ℕ} (p : IsPart part list) where
  pub taken : IsPart (take n part) list
  taken = first_half (take n part) (drop n part) (rw (take-append-drop n part) p)

  pub dropped : IsPart (drop n part) list
  dropped = second_half (take n part) (drop n part) (rw (take-append-drop n part) p)

-- a line, and what is left of the list behind its end: `last` says that no end is there
pub line_cut : (last : Bool) {rest line left list : List ℕ} → MatchBool last (rest ≡ line) ((y : ℕ) × (rest ≡ line ++ (y ∷ left))) → IsPart rest list →
    IsPart line list × (last ≡ false → IsPart left list)
line_cut true e p = (rw e at p, λ f. cc)
line_cut false {line = line} {left = left} e p =
    (first_half line (e.0 ∷ left) (rw e.1 at p), λ _. dropped 1 (e.0 ∷ left) (second_half line (e.0 ∷ left) (rw e.1 at p)))
