-- Refusals 1 to 5: the separator, the two searches over the input, and what the guards come to.
-- Assumes nothing.
use Rattle.std.specs.Prelude.{ℕ, suc, ◌+◌, ◌-◌, ◌≤◌, ◌<◌, ◌≡◌, refl, Bool, not, ◌&&◌, List, [], ◌∷◌, length, drop, get_or, leb, Result, Ok, Err}
use Rattle.std.proofs.Common.{ap, ◌∙◌, arith, add-one, drop_of_length-le, drop-cons}
use Rattle.std.proofs.Math.Path.{sym}
use Rattle.std.proofs.Math.Bool.{true, false}
use Rattle.std.proofs.Math.Dec.{eqb}
use borrow.Author.Tests.{not-true, not-false, le-leb, lt-leb, leb-true, eq-eqb, ne_eqb}
use Rattle.definition.specs.Classes.{is_token, is_trivia}
use Rattle.definition.specs.Tape.{Out, refused, guard}
use Rattle.definition.specs.Parse.{exprs, is_entry, first_not, first_over, admitted, number_of, place_of}
use Rattle.laws.specs.Sizes.{total}
use Rattle.tape.specs.Numbers.{number_of as code_of}
use Rattle.tape.specs.declared.refusal.Refusal.{Refusal}
use Rattle.entry.specs.Promise.{same_refusal}
use Rattle.entry.specs.Round.{Passes, Checked}

-- ## The separator

and_none : (a b c : Bool) → b ≡ false → a && b && c ≡ false
and_none true b c e = rw e
and_none false b c e = refl

-- no kind is above 127
pub no_separator : (k : ℕ) → 127 < k → is_entry (exprs k) ≡ false
unfolding is_entry is_token
no_separator k h = and_none (leb 1 k) (leb k 127) (not (is_trivia k)) (lt-leb k 127 h)

-- ## The first that fails a test

not_yes : (c : ℕ → Bool) (k : ℕ) (l : List ℕ) → c k ≡ true → first_not c (k ∷ l) ≡ suc (first_not c l)
unfolding first_not
not_yes c k l e = rw (e, first_not)

not_no : (c : ℕ → Bool) (k : ℕ) (l : List ℕ) → c k ≡ false → first_not c (k ∷ l) ≡ 0
unfolding first_not
not_no c k l e = rw (e, first_not)

-- from the place j on: over one that passes, at one that fails, at the end
pub not_go : (c : ℕ → Bool) (l : List ℕ) (j : ℕ) → j < length l → c (get_or l j 0) ≡ true → j + 1 + first_not c (drop (j + 1) l) ≡ j + first_not c (drop j l)
not_go c l j h e = rw (drop-cons l j 0 h, not_yes c (get_or l j 0) (drop (suc j) l) e, add-one j) (omega arith)

pub not_stop : (c : ℕ → Bool) (l : List ℕ) (j : ℕ) → j < length l → c (get_or l j 0) ≡ false → j + first_not c (drop j l) ≡ j
not_stop c l j h e = rw (drop-cons l j 0 h, not_no c (get_or l j 0) (drop (suc j) l) e) (omega arith)

pub not_end : (c : ℕ → Bool) (l : List ℕ) (j : ℕ) → length l ≤ j → j + first_not c (drop j l) ≡ j
unfolding first_not
not_end c l j h = rw (drop_of_length-le l h) (omega arith)

pub not_le : (c : ℕ → Bool) (l : List ℕ) → first_not c l ≤ length l
unfolding first_not
not_le c [] = omega arith
not_le c (k ∷ l) = go (c k) refl (not_le c l)
  where
    go : (b : Bool) → c k ≡ b → first_not c l ≤ length l → first_not c (k ∷ l) ≤ suc (length l)
    go true e h = rw (not_yes c k l e) (omega arith)
    go false e h = rw (not_no c k l e) (omega arith)

-- ## The first at which the total passes n

over_yes : (n x : ℕ) (l : List ℕ) → leb x n ≡ true → first_over n (x ∷ l) ≡ suc (first_over (n - x) l)
unfolding first_over
over_yes n x l e = rw (e, first_over)

over_no : (n x : ℕ) (l : List ℕ) → leb x n ≡ false → first_over n (x ∷ l) ≡ 0
unfolding first_over
over_no n x l e = rw (e, first_over)

-- from the place j on, with n left
pub over_go : (n : ℕ) (l : List ℕ) (j : ℕ) → j < length l → get_or l j 0 ≤ n → j + 1 + first_over (n - get_or l j 0) (drop (j + 1) l) ≡ j + first_over n (drop j l)
over_go n l j h e = rw (drop-cons l j 0 h, over_yes n (get_or l j 0) (drop (suc j) l) (le-leb (get_or l j 0) n e), add-one j) (omega arith)

pub over_stop : (n : ℕ) (l : List ℕ) (j : ℕ) → j < length l → n < get_or l j 0 → j + first_over n (drop j l) ≡ j
over_stop n l j h e = rw (drop-cons l j 0 h, over_no n (get_or l j 0) (drop (suc j) l) (lt-leb (get_or l j 0) n e)) (omega arith)

pub over_end : (n : ℕ) (l : List ℕ) (j : ℕ) → length l ≤ j → j + first_over n (drop j l) ≡ j
unfolding first_over
over_end n l j h = rw (drop_of_length-le l h) (omega arith)

pub over_le : (n : ℕ) (l : List ℕ) → first_over n l ≤ length l
unfolding first_over
over_le n [] = omega arith
over_le n (x ∷ l) = go (leb x n) refl (over_le (n - x) l)
  where
    go : (b : Bool) → leb x n ≡ b → first_over (n - x) l ≤ length l → first_over n (x ∷ l) ≤ suc (length l)
    go true e h = rw (over_yes n x l e) (omega arith)
    go false e h = rw (over_no n x l e) (omega arith)

-- where it passes it nowhere, the total is at most n
over_none : (n : ℕ) (l : List ℕ) → first_over n l ≡ length l → total l ≤ n
unfolding total
over_none n [] e = omega arith
over_none n (x ∷ l) e = go (leb x n) refl (over_none (n - x) l)
  where
    go : (b : Bool) → leb x n ≡ b → (first_over (n - x) l ≡ length l → total l ≤ n - x) → x + total l ≤ n
    go true t h = omega (arith, leb-true x n t, h (omega (arith, over_yes n x l t, e)))
    go false t h = absurd (omega (arith, over_no n x l t, e))

-- ## Refusals 1 to 5

module _ (valid : Bool) (ks ls : List ℕ) where
  module _ (v : not valid ≡ true) where
    pub refuse_entry : (k : Unit {0} → Out (Unit {0})) → admitted valid ks ls k ≡ refused 1 0
    unfolding admitted guard
    refuse_entry k = rw (not-true valid v)

  module _ (v : not valid ≡ false) where
    pub refuse_pair : (length ks ≡ length ls → ⊥) → (k : Unit {0} → Out (Unit {0})) → admitted valid ks ls k ≡ refused 2 0
    unfolding admitted guard
    refuse_pair h k = rw (not-false valid v, ne_eqb (length ks) (length ls) h)

    module _ (p : length ks ≡ length ls) where
      pub refuse_many : 65535 < length ks → (k : Unit {0} → Out (Unit {0})) → admitted valid ks ls k ≡ refused 3 0
      unfolding admitted guard
      refuse_many h k = rw (not-false valid v, eq-eqb (length ks) (length ls) p, lt-leb (length ks) 65535 h)

      module _ (m : length ks ≤ 65535) where
        pub refuse_kind : {bad : ℕ} → bad < length ks → bad ≡ first_not is_token ks → (k : Unit {0} → Out (Unit {0})) → admitted valid ks ls k ≡ refused 4 bad
        unfolding admitted guard
        refuse_kind {bad} h e k = rw (sym e, not-false valid v, eq-eqb (length ks) (length ls) p, le-leb (length ks) 65535 m, ne_eqb bad (length ks) (λ x. omega arith))

        module _ (t : length ks ≡ first_not is_token ks) where
          pub refuse_total : {over : ℕ} → over < length ls → over ≡ first_over 16777216 ls → (k : Unit {0} → Out (Unit {0})) → admitted valid ks ls k ≡ refused 5 over
          unfolding admitted guard
          refuse_total {over} h f k =
              let g : eqb over (length ls) ≡ false = ne_eqb over (length ls) (λ x. omega arith) in
              rw (sym t, sym f, not-false valid v, eq-eqb (length ks) (length ls) p, le-leb (length ks) 65535 m, eq-eqb (length ks) (length ks) refl, g)

          pub admit : length ls ≡ first_over 16777216 ls → Passes valid ks ls
          unfolding admitted guard
          admit f =
              record {
                on = λ k. rw (sym t, sym f, not-false valid v, eq-eqb (length ks) (length ls) p, le-leb (length ks) 65535 m, eq-eqb (length ks) (length ks) refl, eq-eqb (length ls) (length ls) refl);
                sized = record { pair = sym p; few = m; small = over_none 16777216 ls (sym f) };
              }

-- ## Nothing is left open

-- any two answers that `check` is allowed are the same
after : Unit {0} → Out (Unit {0})
after u = refused 0 0

module _ (valid : Bool) (ks ls : List ℕ) where
  not_both : (e : Refusal) → Passes valid ks ls → Checked valid ks ls (Err e) → ⊥
  unfolding number_of
  not_both e p q =
      let next : (u : Unit {0}) → Out (Unit {0}) = λ u. refused (suc (code_of e.reason)) 0 in
      omega (arith, ap number_of (sym (p.on next) ∙ q next))

  pub only_refusal : (o x : Result (Unit {0}) Refusal) → Checked valid ks ls o → Checked valid ks ls x → o ≡ x
  unfolding number_of place_of
  only_refusal (Ok u) (Ok v) c d = refl
  only_refusal (Ok u) (Err e) c d = absurd (not_both e c d)
  only_refusal (Err e) (Ok v) c d = absurd (not_both e d c)
  only_refusal (Err e) (Err f) c d =
      let same = sym (c after) ∙ d after in
      ap Err (same_refusal e f (ap number_of same) (ap place_of same))
