-- What is seen of the lists: where the trivia end, and which kind stands there.
-- Assumes nothing.
use Rattle.std.specs.Prelude.{ℕ, suc, ◌+◌, ◌≤◌, ◌<◌, ◌≡◌, refl, Bool, true, false, List, [], ◌∷◌, length, drop, get_or}
use Rattle.std.proofs.Common.{ap, sym, ◌∙◌, arith, add-one, length-drop, drop_of_length-le, drop-cons, get_or-drop, drop-drop}
use Rattle.std.proofs.Math.Decide.{dec_lt}
use Rattle.std.proofs.Math.ListN.{get_or-eq_default}
use Rattle.definition.specs.Classes.{among, is_trivia, is_assigned, treated}
use Rattle.definition.specs.Tape.{triv, nth_kind, glued_kind}

-- the place of the first token from n on that is no trivia, or the length
unfoldable pub skipped : ℕ → List ℕ → ℕ
skipped n l = n + triv (drop n l)

triv_yes : (k : ℕ) (l : List ℕ) → is_trivia k ≡ true → triv (k ∷ l) ≡ suc (triv l)
unfolding triv
triv_yes k l e = rw (e, triv)

triv_no : (k : ℕ) (l : List ℕ) → is_trivia k ≡ false → triv (k ∷ l) ≡ 0
unfolding triv
triv_no k l e = rw (e, triv)

-- over a trivia; at another token; at the end
pub skipped_go : (l : List ℕ) (j : ℕ) → j < length l → is_trivia (get_or l j 0) ≡ true → skipped (j + 1) l ≡ skipped j l
unfolding skipped
skipped_go l j h e = rw (drop-cons l j 0 h, triv_yes (get_or l j 0) (drop (suc j) l) e, add-one j) (omega arith)

pub skipped_stop : (l : List ℕ) (j : ℕ) → j < length l → is_trivia (get_or l j 0) ≡ false → skipped j l ≡ j
unfolding skipped
skipped_stop l j h e = rw (drop-cons l j 0 h, triv_no (get_or l j 0) (drop (suc j) l) e) (omega arith)

pub skipped_end : (l : List ℕ) (j : ℕ) → length l ≤ j → skipped j l ≡ j
unfolding skipped triv
skipped_end l j h = rw (drop_of_length-le l h) (omega arith)

triv_length : (l : List ℕ) → triv l ≤ length l
unfolding triv
triv_length [] = omega arith
triv_length (k ∷ l) = go (is_trivia k) refl (triv_length l)
  where
    go : (b : Bool) → is_trivia k ≡ b → triv l ≤ length l → triv (k ∷ l) ≤ suc (length l)
    go true e h = rw (e, triv) (omega arith)
    go false e h = rw (e, triv) (omega arith)

pub skipped_le : (l : List ℕ) (n : ℕ) → n ≤ length l → skipped n l ≤ length l
unfolding skipped
skipped_le l n h = omega (arith, triv_length (drop n l), length-drop n l)

pub skipped_ge : (l : List ℕ) (n : ℕ) → n ≤ skipped n l
unfolding skipped
skipped_ge l n = omega arith

-- the next kind stands behind the trivia
next_is : (l : List ℕ) → nth_kind 0 l ≡ treated (get_or l (triv l) 0)
unfolding nth_kind triv treated is_assigned among
next_is [] = refl
next_is (k ∷ l) = go (next_is l) (is_trivia k) refl
  where
    go : nth_kind 0 l ≡ treated (get_or l (triv l) 0) → (b : Bool) → is_trivia k ≡ b → nth_kind 0 (k ∷ l) ≡ treated (get_or (k ∷ l) (triv (k ∷ l)) 0)
    go h true e = rw (e, nth_kind, triv) h
    go h false e = rw (e, nth_kind, triv)

pub next_at : (l : List ℕ) (n : ℕ) → nth_kind 0 (drop n l) ≡ treated (get_or l (skipped n l) 0)
unfolding skipped
next_at l n = next_is (drop n l) ∙ ap treated (get_or-drop n l (triv (drop n l)) 0)

-- the one after it is the next from the place behind it on
later_is : (n : ℕ) (l : List ℕ) → nth_kind (suc n) l ≡ nth_kind n (drop (suc (triv l)) l)
unfolding nth_kind triv
later_is n [] = refl
later_is n (k ∷ l) = go (later_is n l) (is_trivia k) refl
  where
    go : nth_kind (suc n) l ≡ nth_kind n (drop (suc (triv l)) l) → (b : Bool) → is_trivia k ≡ b → nth_kind (suc n) (k ∷ l) ≡ nth_kind n (drop (suc (triv (k ∷ l))) (k ∷ l))
    go h true e = rw (e, nth_kind, triv) h
    go h false e = rw (e, nth_kind, triv)

pub later_at : (l : List ℕ) (n m : ℕ) → nth_kind (suc n) (drop m l) ≡ nth_kind n (drop (skipped m l + 1) l)
unfolding skipped
later_at l n m =
    let e : m + suc (triv (drop m l)) ≡ skipped m l + 1 = omega arith in
    later_is n (drop m l) ∙ ap (nth_kind n) (drop-drop (suc (triv (drop m l))) m l ∙ ap (λ (x : ℕ). drop x l) e)

-- where a kind is seen, a token is left
seen_here : (l : List ℕ) → (nth_kind 0 l ≡ 0 → ⊥) → triv l < length l
unfolding nth_kind triv
seen_here [] h = absurd (h refl)
seen_here (k ∷ l) h = go (seen_here l) (is_trivia k) refl
  where
    go : ((nth_kind 0 l ≡ 0 → ⊥) → triv l < length l) → (b : Bool) → is_trivia k ≡ b → triv (k ∷ l) < suc (length l)
    go g true e = rw (e, triv) (omega (arith, g (λ z. h ((rw (e, nth_kind)) ∙ z))))
    go g false e = rw (e, triv) (omega arith)

pub seen : (l : List ℕ) (n : ℕ) → (nth_kind 0 (drop n l) ≡ 0 → ⊥) → skipped n l < length l
unfolding skipped
seen l n h = omega (arith, seen_here (drop n l) h, length-drop n l)

-- past the trivia the same is seen
pub same_seen : (l : List ℕ) (n m : ℕ) → nth_kind m (drop (skipped n l) l) ≡ nth_kind m (drop n l)
unfolding skipped nth_kind triv
same_seen l n m = ap (nth_kind m) (sym (drop-drop (triv (drop n l)) n l)) ∙ go (drop n l)
  where
    go : (l : List ℕ) → nth_kind m (drop (triv l) l) ≡ nth_kind m l
    go [] = refl
    go (k ∷ l) = one (go l) (is_trivia k) refl
      where
        one : nth_kind m (drop (triv l) l) ≡ nth_kind m l → (b : Bool) → is_trivia k ≡ b → nth_kind m (drop (triv (k ∷ l)) (k ∷ l)) ≡ nth_kind m (k ∷ l)
        one h true e = rw (e, nth_kind, triv) h
        one h false e = ap (λ (x : ℕ). nth_kind m (drop x (k ∷ l))) (triv_no k l e)

-- within the trivia every place leads to the same token
pub skipped_in : (l : List ℕ) (n : ℕ) → n < skipped n l → skipped (n + 1) l ≡ skipped n l
skipped_in l n h = go (dec_lt n (length l)) (is_trivia (get_or l n 0)) refl
  where
    go : Dec (n < length l) → (b : Bool) → is_trivia (get_or l n 0) ≡ b → skipped (n + 1) l ≡ skipped n l
    go (yes p) true e = skipped_go l n p e
    go (yes p) false e = absurd (omega (arith, skipped_stop l n p e))
    go (no p) b e = absurd (omega (arith, skipped_end l n (omega arith)))

pub skipped_again : (l : List ℕ) (n : ℕ) → skipped (skipped n l) l ≡ skipped n l
unfolding skipped triv
skipped_again l n = rw (sym (drop-drop (triv (drop n l)) n l), none (drop n l)) (omega arith)
  where
    none : (l : List ℕ) → triv (drop (triv l) l) ≡ 0
    none [] = refl
    none (k ∷ l) = one (none l) (is_trivia k) refl
      where
        one : triv (drop (triv l) l) ≡ 0 → (b : Bool) → is_trivia k ≡ b → triv (drop (triv (k ∷ l)) (k ∷ l)) ≡ 0
        one h true e = rw (e, triv) h
        one h false e = ap (λ (x : ℕ). triv (drop x (k ∷ l))) (triv_no k l e) ∙ triv_no k l e

-- ## The glued kind at j, the place behind the peeked token

-- trivia stands there
pub glued_apart : (l : List ℕ) (j : ℕ) → (skipped j l ≡ j → ⊥) → glued_kind (get_or l j 0) ≡ 0
unfolding glued_kind
glued_apart l j h = go (dec_lt j (length l)) (is_trivia (get_or l j 0)) refl
  where
    go : Dec (j < length l) → (b : Bool) → is_trivia (get_or l j 0) ≡ b → glued_kind (get_or l j 0) ≡ 0
    go (yes p) true e = rw e
    go (yes p) false e = absurd (h (skipped_stop l j p e))
    go (no p) b e = absurd (h (skipped_end l j (omega arith)))

-- a token that is no trivia stands there
pub glued_next : (l : List ℕ) (j : ℕ) → skipped j l ≡ j → j < length l → glued_kind (get_or l j 0) ≡ treated (get_or l j 0)
unfolding glued_kind
glued_next l j h p = go (is_trivia (get_or l j 0)) refl
  where
    go : (b : Bool) → is_trivia (get_or l j 0) ≡ b → glued_kind (get_or l j 0) ≡ treated (get_or l j 0)
    go true e = absurd (omega (arith, skipped_go l j p e, skipped_ge l (j + 1)))
    go false e = rw e

-- nothing does
pub glued_end : (l : List ℕ) (j : ℕ) → length l ≤ j → glued_kind (get_or l j 0) ≡ 0
unfolding glued_kind is_trivia treated is_assigned among
glued_end l j h = rw (get_or-eq_default l 0 {n = j} h)
