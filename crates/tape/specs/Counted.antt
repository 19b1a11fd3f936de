-- The counted rules: one entry less for the body, and as many as before on the way out. And progress, as the code's loops cite it.
-- Assumes nothing.
use Rattle.std.specs.Prelude.{ℕ, suc, ◌+◌, ◌≡◌, refl, Bool, true, false, cond, length, drop, get_or, eqb, Result, Ok, Err}
use Rattle.std.proofs.Math.Path.{ap, subst, sym}
use Rattle.std.proofs.Common.{◌∙◌, arith}
use Rattle.definition.specs.Kinds.{Eof}
use Rattle.definition.specs.Tape.{In, State, Out, nth_kind, nth_at, glued_kind, glued_at, here_at}
use Rattle.definition.specs.Prog.{Prog, done, seq, enter, Rule, eval, call}
use Rattle.definition.specs.Grammar.{grammar}
use Rattle.definition.specs.Parse.{run}
use Rattle.laws.specs.Kept.{After}
use Rattle.laws.specs.Looking.{skipped}
use Rattle.laws.specs.Progress.{Further}
use Rattle.tape.specs.View.{given, state_of, Step, Enters, Leaves}
use Rattle.tape.specs.Steps.{same_on, same_given, step_went, Onward, both, cut, nothing, nothing_as}
use Rattle.tape.specs.declared.refusal.Refusal.{Refusal}
use Rattle.tape.specs.declared.Tape.{Tape}

-- the body of a rule runs with one entry less, from the state that the rule is entered in
enter_is : (m : ℕ) (t u : Tape) (q : Rule) {n : ℕ} → Enters (Ok n) t u →
    run (given u) u.left (length (state_of u).out) (grammar q) (state_of u) ≡ run (given t) t.left m (enter q) (state_of t)
unfolding run eval call
enter_is m t u q w =
    rw (w.some.1, same_given w.same) (ap (λ (s : State). eval (given t) (call grammar (given t) u.left) (length s.out) (grammar q) s) w.state)

module _ {m : ℕ} {t u : Tape} {q : Rule} where
  -- the rule's body, and the entry given back
  pub entered : {n : ℕ} {o : Result ℕ Refusal} {v r : Tape} → Enters (Ok n) t u → Step (length (state_of u).out) (grammar q) o u v → Leaves n v r → Step m (enter q) o t r
  entered {o = o} w s l =
      record {
        is = rw l.state (s.is ∙ enter_is m t u q w);
        kept = record { same = same_on (same_on w.same s.kept.same) l.same; left = l.left ∙ w.some.0 };
      }

  -- no entry is left
  pub barred : {e : Refusal} → Enters (Err e) t u → Step m (enter q) (Err e) t u
  unfolding run eval call here_at skipped
  barred w =
      record {
        is = rw (w.none.1.1.reason, w.none.1.1.place, w.none.0) refl;
        kept = record { same = w.same; left = w.none.1.0 ∙ sym w.none.0 };
      }

  -- a rule whose answer goes out as a number, which is read back
  pub entered_as : {A : Type 0} {body : Prog A} (f : A → ℕ) (g : ℕ → A) {n : ℕ} {o : Result A Refusal} {v r : Tape} → ((a : A) → g (f a) ≡ a) →
      grammar q ≡ seq body (λ a. done (f a)) → Enters (Ok n) t u → Step (length (state_of u).out) body o u v → Leaves n v r →
      Step m (seq (enter q) (λ n. done (g n))) o t r
  entered_as {A} {body} f g {n} {o} {v} {r} back e w s l = go o s
    where
      inner : {x : Result ℕ Refusal} → Step (length (state_of u).out) (seq body (λ a. done (f a))) x u v → Step m (enter q) x t r
      inner {x} z = entered w (subst (λ (p : Prog ℕ). Step (length (state_of u).out) p x u v) (sym e) z) l

      go : (x : Result A Refusal) → Step (length (state_of u).out) body x u v → Step m (seq (enter q) (λ n. done (g n))) x t r
      go (Ok a) z = both (inner (both z nothing)) (nothing_as (back a))
      go (Err d) z = cut (inner (cut z))

-- a rule that answers yes or no
pub yes_no : (b : Bool) → eqb (cond b 1 0) 1 ≡ b
yes_no true = refl
yes_no false = refl

-- ## Progress

-- a step that comes further
module _ {A : Type 0} {m : ℕ} {p : Prog A} {a : A} {t r : Tape} (w : Step m p (Ok a) t r) where
  pub goes : After Further (state_of t) (run (given t) t.left m p (state_of t)) → Onward t r
  unfolding Further
  goes f = record { goes = subst (λ (o : Out A). After Further (state_of t) o) (sym w.is) f }

  -- by a law that asks nothing; that a token is left; that the next kind is of a class; with the kind glued to it
  pub goes_on : ((i : In) (d n : ℕ) (s : State) → After Further s (run i d n p s)) → Onward t r
  goes_on law = goes (law (given t) t.left m (state_of t))

  module _ {k : ℕ} (e : k ≡ nth_kind 0 (drop t.at t.kinds.now)) where
    pub goes_some : (k ≡ 0 → ⊥) → ((i : In) (d n : ℕ) (s : State) → (nth_at i 0 s ≡ Eof → ⊥) → After Further s (run i d n p s)) → Onward t r
    unfolding nth_at
    goes_some h law = goes (law (given t) t.left m (state_of t) (λ y. h (e ∙ y)))

    pub goes_saw : (c : ℕ → Bool) → c k ≡ true → ((i : In) (d n : ℕ) (s : State) → c (nth_at i 0 s) ≡ true → After Further s (run i d n p s)) → Onward t r
    unfolding nth_at
    goes_saw c h law = goes (law (given t) t.left m (state_of t) (ap c (sym e) ∙ h))

    pub goes_glued : {g : ℕ} → g ≡ glued_kind (get_or t.kinds.now (skipped t.at t.kinds.now + 1) 0) → (c : ℕ → ℕ → Bool) → c k g ≡ true →
        ((i : In) (d n : ℕ) (s : State) → c (nth_at i 0 s) (glued_at i s) ≡ true → After Further s (run i d n p s)) → Onward t r
    unfolding nth_at glued_at here_at skipped
    goes_glued {g = g} f c h law =
        let q : glued_kind (get_or t.kinds.now (suc (skipped t.at t.kinds.now)) 0) ≡ g = ap (λ (x : ℕ). glued_kind (get_or t.kinds.now x 0)) (omega arith) ∙ sym f in
        goes (law (given t) t.left m (state_of t)
        (ap (λ (x : ℕ). c x (glued_kind (get_or t.kinds.now (suc (skipped t.at t.kinds.now)) 0))) (sym e) ∙ (ap (c k) q ∙ h)))

-- what follows a step that came further
pub and_on : {A : Type 0} {m : ℕ} {p : Prog A} {a : A} {t r x : Tape} → Onward t r → Step m p (Ok a) r x → Onward t x
and_on h w = record { goes = omega (arith, h.goes, (step_went w).grows.at) }
