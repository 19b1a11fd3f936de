-- An input as a list of tokens, and what is known of one that is parsed.
-- Assumes nothing.
use Rattle.std.specs.Prelude.{ℕ, zero, suc, ◌-◌, ◌≤◌, ◌≡◌, refl, Bool, true, false, ◌&&◌, List, [], ◌∷◌, length, drop, leb}
use Rattle.std.proofs.Common.{arith, eqb-true, leb-true}
use Rattle.definition.specs.Kinds.{Eof}
use Rattle.definition.specs.Classes.{is_trivia, is_token, is_assigned, treated}
use Rattle.definition.specs.Tape.{Out, refused, guard, triv, nth_kind}
use Rattle.definition.specs.Parse.{Entry, program, first_not, first_over, is_limit, is_entry, admitted, run, start, parse, number_of}
use Rattle.laws.specs.Bools.{and_first}
use Rattle.laws.specs.Looking.{skipped}
use Rattle.trees.specs.Forest.{Tok, kinds, lens, in_of}

-- kinds and lengths, one by one
abbrev pub tokens : List ℕ → List ℕ → List Tok
tokens [] ls = []
tokens (k ∷ ks) [] = []
tokens (k ∷ ks) (x ∷ ls) = record { kind = k; len = x } ∷ tokens ks ls

pub tokens_kinds : (ks ls : List ℕ) → length ks ≡ length ls → kinds (tokens ks ls) ≡ ks
tokens_kinds [] ls e = refl
tokens_kinds (k ∷ ks) [] e = absurd (omega arith)
tokens_kinds (k ∷ ks) (x ∷ ls) e = rw (tokens_kinds ks ls (omega arith))

pub tokens_length : (ks ls : List ℕ) → length (kinds (tokens ks ls)) ≤ length ks
tokens_length [] ls = omega arith
tokens_length (k ∷ ks) [] = omega arith
tokens_length (k ∷ ks) (x ∷ ls) = omega (arith, tokens_length ks ls)

pub tokens_lens : (ks ls : List ℕ) → length ks ≡ length ls → lens (tokens ks ls) ≡ ls
tokens_lens [] [] e = refl
tokens_lens [] (x ∷ ls) e = absurd (omega arith)
tokens_lens (k ∷ ks) [] e = absurd (omega arith)
tokens_lens (k ∷ ks) (x ∷ ls) e = rw (tokens_lens ks ls (omega arith))

-- every kind is a token's
abbrev pub Kinds : List ℕ → Type 0
Kinds ks = first_not is_token ks ≡ length ks

pub kinds_first : (k : ℕ) (ks : List ℕ) → Kinds (k ∷ ks) → (is_token k ≡ true) × Kinds ks
unfolding first_not
kinds_first k ks h = go (is_token k) refl
  where
    go : (b : Bool) → is_token k ≡ b → (is_token k ≡ true) × Kinds ks
    go true e = (e, omega (arith, rw (e, first_not) at h))
    go false e = absurd (omega (arith, rw (e, first_not) at h))

-- ## What is let in

first_not_le : (c : ℕ → Bool) (l : List ℕ) → first_not c l ≤ length l
unfolding first_not
first_not_le c [] = omega arith
first_not_le c (k ∷ l) = go (c k) refl (first_not_le c l)
  where
    go : (b : Bool) → c k ≡ b → first_not c l ≤ length l → first_not c (k ∷ l) ≤ suc (length l)
    go true e h = rw (e, first_not) (omega arith)
    go false e h = rw (e, first_not) (omega arith)

first_over_le : (n : ℕ) (l : List ℕ) → first_over n l ≤ length l
unfolding first_over
first_over_le n [] = omega arith
first_over_le n (x ∷ l) = go (leb x n) refl (first_over_le (n - x) l)
  where
    go : (b : Bool) → leb x n ≡ b → first_over (n - x) l ≤ length l → first_over n (x ∷ l) ≤ suc (length l)
    go true e h = rw (e, first_over) (omega arith)
    go false e h = rw (e, first_over) (omega arith)

guard_either : (P : Out (Unit {0}) → Type 0) (b : Bool) (n pl : ℕ) (k : Unit {0} → Out (Unit {0})) → P (refused n pl) → (b ≡ true → P (k tt)) → P (guard b n pl k)
unfolding guard
guard_either P true n pl k h g = g refl
guard_either P false n pl k h g = h

-- an input that is parsed
pub record Parsed (e : Entry) (ks ls : List ℕ) (limit : ℕ) : Type 0 where
  pub entry : is_limit limit && is_entry e ≡ true
  pub pair : length ks ≡ length ls
  pub all : Kinds (kinds (tokens ks ls))

-- A call is refused with 1 to 5, at a place in the list or at its end; or its input is parsed, as a list of tokens.
pub let_in : (e : Entry) (ks ls : List ℕ) (n limit : ℕ) (P : Out (Unit {0}) → Type 0) →
    ((k pl : ℕ) → 1 ≤ k → k ≤ 5 → pl ≤ length (kinds (tokens ks ls)) → P (refused k pl)) →
    (Parsed e ks ls limit → P (run (in_of (tokens ks ls) n) limit 0 (program e) start)) → P (parse e ks ls n limit)
unfolding parse admitted in_of
let_in e ks ls n limit P early late =
    guard_either P _ 1 0 _ (early 1 0 (omega arith) (omega arith) (omega arith)) (λ g1.
    guard_either P _ 2 0 _ (early 2 0 (omega arith) (omega arith) (omega arith)) (λ g2.
    let pair : length ks ≡ length ls = eqb-true _ _ g2 in
    guard_either P _ 3 0 _ (early 3 0 (omega arith) (omega arith) (omega arith)) (λ g3.
    guard_either P _ 4 _ _ (early 4 _ (omega arith) (omega arith) (rw (tokens_kinds ks ls pair) (first_not_le is_token ks))) (λ g4.
    guard_either P _ 5 _ _ (early 5 _ (omega arith) (omega arith) (rw (tokens_kinds ks ls pair, pair) (first_over_le 16777216 ls))) (λ g5.
    rw (tokens_kinds ks ls pair, tokens_lens ks ls pair) at (late (record { entry = g1; pair = pair; all = rw (tokens_kinds ks ls pair) (eqb-true _ _ g4) })))))))

-- number 0: it is parsed
pub parsed : (e : Entry) (ks ls : List ℕ) (n limit : ℕ) → number_of (parse e ks ls n limit) ≡ 0 → Parsed e ks ls limit
unfolding number_of
parsed e ks ls n limit = let_in e ks ls n limit (λ o. number_of o ≡ 0 → Parsed e ks ls limit) (λ k pl a b c z. absurd (omega arith)) (λ x z. x)

-- ## Where a token is no longer seen, none is left

pub treated_some : (k : ℕ) → is_token k ≡ true → treated k ≡ Eof → ⊥
unfolding is_token treated
treated_some k h e = go (is_assigned k) refl
  where
    go : (b : Bool) → is_assigned k ≡ b → ⊥
    go true z = omega (arith, leb-true 1 k (and_first (leb 1 k) _ h), rw z at e)
    go false z = omega (arith, rw z at e)

unseen_here : (l : List ℕ) → Kinds l → nth_kind 0 l ≡ Eof → length l ≤ triv l
unfolding nth_kind triv
unseen_here [] h e = omega arith
unseen_here (k ∷ l) h e = go (unseen_here l (kinds_first k l h).1) (is_trivia k) refl
  where
    go : (nth_kind 0 l ≡ Eof → length l ≤ triv l) → (b : Bool) → is_trivia k ≡ b → suc (length l) ≤ triv (k ∷ l)
    go f true y = rw (y, triv) (omega (arith, f (rw (y, nth_kind) at e)))
    go f false y = absurd (treated_some k (kinds_first k l h).0 (rw (y, nth_kind) at e))

pub unseen : (l : List ℕ) (n : ℕ) → Kinds l → nth_kind 0 (drop n l) ≡ Eof → length l ≤ skipped n l
unfolding skipped
unseen l zero h e = omega (arith, unseen_here l h e)
unseen [] (suc n) h e = omega arith
unseen (k ∷ l) (suc n) h e = omega (arith, unseen l n (kinds_first k l h).1 e)
