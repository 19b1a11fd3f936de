-- Steps of the code put together: one law for each way in which a program is made of others.
-- Assumes nothing.
use Rattle.std.specs.Prelude.{ℕ, ◌+◌, ◌-◌, ◌≤◌, ◌<◌, ◌≡◌, Bool, true, false, ◌⊎◌, length, drop, get_or, eqb, Result, Ok, Err}
use Rattle.std.proofs.Math.Path.{refl, ap, subst, sym}
use Rattle.std.proofs.Common.{◌∙◌, inl, inr, arith}
use borrow.Author.Tests.{lt-ltb}
use Rattle.std.specs.Result.{IsErr, IsErrAnd}
use Rattle.std.proofs.lemmas.Result.{err_from_is_err_and}
use Rattle.definition.specs.Tape.{State, Out, ok, refused, and_then, choose, here_at, nth_at, nth_kind, glued_at, glued_kind}
use Rattle.definition.specs.Prog.{Prog, Mark, mark, done, seq, nth, glued, here, flush, bump, scope, stop, test, repeat, left, turn, eval, call}
use Rattle.definition.specs.Grammar.{grammar}
use Rattle.definition.specs.Parse.{run}
use Rattle.laws.specs.Kept.{After}
use Rattle.laws.specs.Unroll.{unroll}
use Rattle.laws.specs.Sizes.{Went, went, Based, based_now}
use Rattle.laws.specs.Looking.{skipped, skipped_le, seen}
use Rattle.laws.specs.Moves.{bump_end}
use Rattle.tape.specs.Numbers.{number_of}
use Rattle.tape.specs.View.{given, state_of, instead, Marked, Same, Kept, Step, Ran, Marks, Refuses}
use Rattle.tape.specs.Rows.{length_rows}
use Rattle.tape.specs.declared.refusal.Reason.{Reason}
use Rattle.tape.specs.declared.refusal.Refusal.{Refusal}
use Rattle.tape.specs.declared.Tape.{Tape}

-- a kind that is one is no other
pub not_key : (b : ℕ) {k a : ℕ} → k ≡ a → eqb a b ≡ false → eqb k b ≡ false
not_key b e h = ap (λ (x : ℕ). eqb x b) e ∙ h

-- one of two facts, whichever holds
pub either : {A B C : Type 0} → A ⊎ B → (A → C) → (B → C) → C
either (inl a) f g = f a
either (inr b) f g = g b

-- ## What is kept

pub same_self : {t : Tape} → Same t t
same_self = record { kinds = refl; lens = refl; len = refl; name = refl }

pub same_on : {t r x : Tape} → Same t r → Same r x → Same t x
same_on h g = record { kinds = g.kinds ∙ h.kinds; lens = g.lens ∙ h.lens; len = g.len ∙ h.len; name = g.name ∙ h.name }

pub same_given : {t r : Tape} → Same t r → given r ≡ given t
same_given h = rw (h.kinds, h.lens, h.len)

pub kept_self : {t : Tape} → Kept t t
kept_self = record { same = same_self; left = refl }

pub kept_on : {t r x : Tape} → Kept t r → Kept r x → Kept t x
kept_on h g = record { same = same_on h.same g.same; left = g.left ∙ h.left }

-- the same run, from where the tape came to
pub run_kept : {A : Type 0} {t r : Tape} (m : ℕ) (p : Prog A) (s : State) → Kept t r → run (given r) r.left m p s ≡ run (given t) t.left m p s
run_kept m p s h = rw (same_given h.same, h.left)

-- ## What `?` hands on: the error as it is

abbrev pub Thrown : {A : Type 0} → Result A Refusal → Refusal → Type 0
Thrown o e = IsErr o × IsErrAnd o (λ d. d ≡ e)

pub thrown_is : {A : Type 0} {e : Refusal} (o : Result A Refusal) → Thrown o e → o ≡ Err e
thrown_is o h = let p = err_from_is_err_and o h.1 in p.1 ∙ ap Err p.2

-- ## One step behind another

module _ {A B : Type 0} (t : Tape) (m : ℕ) (p : Prog A) (f : A → Prog B) where
  then_ok : {a : A} {s : State} → ok a s ≡ run (given t) t.left m p (state_of t) → run (given t) t.left m (f a) s ≡ run (given t) t.left m (seq p f) (state_of t)
  unfolding run eval and_then
  then_ok e = rw (← e)

  then_no : {n pl : ℕ} → refused n pl ≡ run (given t) t.left m p (state_of t) → refused n pl ≡ run (given t) t.left m (seq p f) (state_of t)
  unfolding run eval and_then
  then_no e = rw (← e)

module _ {m : ℕ} where
  module _ {A : Type 0} {p : Prog A} {t r : Tape} where
    -- what was written, and that the mark stays one
    pub step_went : {a : A} → Step m p (Ok a) t r → Went m (state_of t) (state_of r)
    unfolding run
    step_went w = subst (λ (o : Out A). After (Went m) (state_of t) o) (sym w.is) (went grammar (given t) t.left m p (state_of t))

    pub step_marked : {a : A} → Step m p (Ok a) t r → Marked m t → Marked m r
    step_marked w b = record { based = (step_went w).based b.based }

    -- a program whose outcome is another's
    pub alike : {o : Result A Refusal} {q : Prog A} → Step m p o t r → run (given t) t.left m p (state_of t) ≡ run (given t) t.left m q (state_of t) → Step m q o t r
    alike w e = record { is = w.is ∙ e; kept = w.kept }

    -- a call that is refused, and so is what it stands in
    pub cut : {B : Type 0} {f : A → Prog B} {e : Refusal} → Step m p (Err e) t r → Step m (seq p f) (Err e) t r
    cut {f = f} w = record { is = then_no t m p f w.is; kept = w.kept }

    -- a call that goes on, and what follows it
    pub both : {B : Type 0} {f : A → Prog B} {a : A} {o : Result B Refusal} {x : Tape} → Step m p (Ok a) t r → Step m (f a) o r x → Step m (seq p f) o t x
    both {f = f} {a = a} w v =
        record { is = v.is ∙ (run_kept m (f a) (state_of r) w.kept ∙ then_ok t m p f w.is); kept = kept_on w.kept v.kept }

    -- what `?` hands on
    pub thrown : {o : Result A Refusal} {e : Refusal} → Thrown o e → Step m p (Err e) t r → Step m p o t r
    thrown {o} h w = subst (λ (x : Result A Refusal). Step m p x t r) (sym (thrown_is o h)) w

    pub if_yes : {b : Bool} {q : Prog A} {o : Result A Refusal} → b ≡ true → Step m p o t r → Step m (test b p q) o t r
    unfolding run eval choose
    if_yes {q = q} e w = alike {q = test _ p q} w (rw e)

    pub if_no : {b : Bool} {q : Prog A} {o : Result A Refusal} → b ≡ false → Step m p o t r → Step m (test b q p) o t r
    unfolding run eval choose
    if_no {q = q} e w = alike {q = test _ q p} w (rw e)

  -- ## What is seen

  module _ {A : Type 0} {t r : Tape} {o : Result A Refusal} where
    pub look : {n k : ℕ} {f : ℕ → Prog A} → k ≡ nth_kind n (drop t.at t.kinds.now) → Step m (f k) o t r → Step m (seq (nth n) f) o t r
    unfolding run eval and_then nth_at
    look {n = n} {f = f} e w = alike {q = seq (nth n) f} w (ap (λ (x : ℕ). run (given t) t.left m (f x) (state_of t)) e)

    pub touch : {k : ℕ} {f : ℕ → Prog A} → k ≡ glued_kind (get_or t.kinds.now (skipped t.at t.kinds.now + 1) 0) → Step m (f k) o t r → Step m (seq glued f) o t r
    unfolding run eval and_then glued_at here_at skipped
    touch {f = f} e w =
        let g : glued_kind (get_or t.kinds.now (skipped t.at t.kinds.now + 1) 0) ≡ glued_at (given t) (state_of t) =
        ap (λ (x : ℕ). glued_kind (get_or t.kinds.now x 0)) (omega arith) in
        alike {q = seq glued f} w (ap (λ (x : ℕ). run (given t) t.left m (f x) (state_of t)) (e ∙ g))

    pub spot : {k : ℕ} {f : ℕ → Prog A} → k ≡ skipped t.at t.kinds.now → Step m (f k) o t r → Step m (seq here f) o t r
    unfolding run eval and_then here_at skipped
    spot {f = f} e w = alike {q = seq here f} w (ap (λ (x : ℕ). run (given t) t.left m (f x) (state_of t)) e)

    -- tests of what is seen, of the next kind, with the one glued to it, and with the second
    pub ask : {B : Type 0} {k : ℕ} {c : ℕ → B} {f : B → Prog A} → k ≡ nth_kind 0 (drop t.at t.kinds.now) →
        Step m (f (c k)) o t r → Step m (seq (seq (nth 0) (λ j. done (c j))) f) o t r
    unfolding run eval and_then nth_at
    ask {c = c} {f = f} e w = alike {q = seq (seq (nth 0) (λ j. done (c j))) f} w (ap (λ (x : ℕ). run (given t) t.left m (f (c x)) (state_of t)) e)

    pub ask_second : {B : Type 0} {k j : ℕ} {c : ℕ → ℕ → B} {f : B → Prog A} → k ≡ nth_kind 0 (drop t.at t.kinds.now) → j ≡ nth_kind 1 (drop t.at t.kinds.now) →
        Step m (f (c k j)) o t r → Step m (seq (seq (nth 0) (λ x. seq (nth 1) (λ y. done (c x y)))) f) o t r
    unfolding run eval and_then nth_at
    ask_second {j = j} {c = c} {f = f} e h w =
        alike {q = seq (seq (nth 0) (λ x. seq (nth 1) (λ y. done (c x y)))) f} w
        (ap (λ (x : ℕ). run (given t) t.left m (f (c x j)) (state_of t)) e ∙
        ap (λ (x : ℕ). run (given t) t.left m (f (c (nth_kind 0 (drop t.at t.kinds.now)) x)) (state_of t)) h)

    -- the same where the code has another form of what the two kinds make
    pub ask_second_as : {B : Type 0} {k j : ℕ} {c : ℕ → ℕ → B} {b : B} {f : B → Prog A} → k ≡ nth_kind 0 (drop t.at t.kinds.now) → j ≡ nth_kind 1 (drop t.at t.kinds.now) → b ≡ c k j →
        Step m (f b) o t r → Step m (seq (seq (nth 0) (λ x. seq (nth 1) (λ y. done (c x y)))) f) o t r
    ask_second_as {f = f} e h q w = ask_second e h (subst (λ (x : _). Step m (f x) o t r) q w)

    pub ask_glued : {B : Type 0} {k g : ℕ} {c : ℕ → ℕ → B} {f : B → Prog A} → k ≡ nth_kind 0 (drop t.at t.kinds.now) → g ≡ glued_kind (get_or t.kinds.now (skipped t.at t.kinds.now + 1) 0) →
        Step m (f (c k g)) o t r → Step m (seq (seq (nth 0) (λ x. seq glued (λ y. done (c x y)))) f) o t r
    unfolding run eval and_then nth_at glued_at here_at skipped
    ask_glued {g = g} {c = c} {f = f} e h w =
        let q : glued_kind (get_or t.kinds.now (skipped t.at t.kinds.now + 1) 0) ≡ glued_at (given t) (state_of t) =
        ap (λ (x : ℕ). glued_kind (get_or t.kinds.now x 0)) (omega arith) in
        alike {q = seq (seq (nth 0) (λ x. seq glued (λ y. done (c x y)))) f} w
        (ap (λ (x : ℕ). run (given t) t.left m (f (c x g)) (state_of t)) e ∙
        ap (λ (x : ℕ). run (given t) t.left m (f (c (nth_kind 0 (drop t.at t.kinds.now)) x)) (state_of t)) (h ∙ q))

  -- ## Ends

  -- nothing more is done, and an answer given
  pub nothing : {A : Type 0} {a : A} {t : Tape} → Step m (done a) (Ok a) t t
  unfolding run eval
  nothing = record { is = refl; kept = kept_self }

  -- the same where the code's answer is another form of the program's
  pub nothing_as : {A : Type 0} {a b : A} {t : Tape} → a ≡ b → Step m (done a) (Ok b) t t
  nothing_as {b = b} {t = t} e = subst (λ (x : _). Step m (done x) (Ok b) t t) (sym e) nothing

  -- a call whose answer is another one's, or that is refused
  pub ends_as : {A B : Type 0} {p : Prog A} (o : Result A Refusal) {b : B} {t r : Tape} → Step m p o t r → Step m (seq p (λ x. done b)) (instead b o) t r
  ends_as (Ok a) w = both w nothing
  ends_as (Err e) w = cut w

  -- a call whose answer is dropped
  pub ends : {A B : Type 0} {p : Prog A} {a : A} {b : B} {t r : Tape} → Step m p (Ok a) t r → Step m (seq p (λ x. done b)) (Ok b) t r
  ends w = both w nothing

  -- a refusal of the code's own, whatever it wrote before
  pub halt_at : {A : Type 0} {n pl : ℕ} {e : Refusal} {t r : Tape} → number_of e.reason ≡ n → e.place ≡ pl → Kept t r → Step {A = A} m (stop n pl) (Err e) t r
  unfolding run eval
  halt_at h g k = record { is = rw (h, g); kept = k }

  pub halt : {A : Type 0} {n pl : ℕ} {e : Refusal} {t : Tape} → number_of e.reason ≡ n → e.place ≡ pl → Step {A = A} m (stop n pl) (Err e) t t
  halt h g = halt_at h g kept_self

  -- at the next token
  pub refuses : {A : Type 0} {n : ℕ} {e : Refusal} {reason : Reason} {t : Tape} → Refuses reason e t → number_of reason ≡ n → Step {A = A} m (seq here (λ pl. stop n pl)) (Err e) t t
  refuses w h = spot (sym (sym w.place)) (halt (ap number_of w.reason ∙ h) refl)

-- the place of the next token fits 16 bits
pub here_few : (t : Tape) → t.next ≤ 65535
here_few t = omega (arith, t.ready.next, skipped_le t.kinds.now t.at t.ready.fits.end, t.ready.sized.few)

-- ## Scopes

-- the row count is a mark
pub marked_rows : {t : Tape} → Marked t.rows t
marked_rows {t} = record { based = subst (λ (n : ℕ). Based n (state_of t)) (length_rows t.rows t.table.now) (based_now (state_of t)) }

module _ {t r : Tape} where
  marks_ok : {c : ℕ} → Marks (Ok c) t r → (m : ℕ) → ok tt (state_of r) ≡ run (given t) t.left m flush (state_of t)
  marks_ok w m = (w.ran.under m).is

  mark_is : {c : ℕ} → Marks (Ok c) t r → length (state_of r).out ≡ c
  mark_is w = length_rows r.rows r.table.now ∙ sym w.mark

  -- a mark that was just taken
  pub marked_now : {c : ℕ} → Marks (Ok c) t r → Marked c r
  marked_now w = subst (λ (n : ℕ). Marked n r) (sym w.mark) marked_rows

  module _ {A : Type 0} (q : Mark → Prog A) (m : ℕ) where
    scope_ok : {c : ℕ} → Marks (Ok c) t r → run (given t) t.left c (q (mark c)) (state_of r) ≡ run (given t) t.left m (scope q) (state_of t)
    unfolding run eval and_then
    scope_ok w = rw (← marks_ok w m, mark_is w)

    scope_no : {e : Refusal} → Marks (Err e) t r → refused (number_of e.reason) e.place ≡ run (given t) t.left m (scope q) (state_of t)
    unfolding run eval and_then
    scope_no w = rw (← (w.ran.under m).is)

  -- a checkpoint, and what is done under its mark
  pub scoped : {A : Type 0} {q : Mark → Prog A} {c : ℕ} {o : Result A Refusal} {x : Tape} → Marks (Ok c) t r → Step c (q (mark c)) o r x → Ran (scope q) o t x
  scoped {q = q} {c = c} w v =
      record {
        under = λ m.
            record {
              is = v.is ∙ (run_kept c (q (mark c)) (state_of r) (w.ran.under m).kept ∙ scope_ok q m w);
              kept = kept_on (w.ran.under m).kept v.kept;
            };
      }

  -- a checkpoint that is refused
  pub unscoped : {A : Type 0} {q : Mark → Prog A} {e : Refusal} → Marks (Err e) t r → Ran (scope q) (Err e) t r
  unscoped {q = q} w = record { under = λ m. record { is = scope_no q m w; kept = (w.ran.under m).kept } }

  pub thrown_ran : {A : Type 0} {p : Prog A} {o : Result A Refusal} {e : Refusal} → Thrown o e → Ran p (Err e) t r → Ran p o t r
  thrown_ran {p = p} {o = o} h w = subst (λ (x : Result _ Refusal). Ran p x t r) (sym (thrown_is o h)) w

-- ## Loops

-- where a loop stands: what is left of it from t has the outcome that q has from t₀
pub record Inv {A : Type 0} (m : ℕ) (p q : Prog A) (t₀ t : Tape) : Type 0 where
  pub is : run (given t₀) t₀.left m p (state_of t) ≡ run (given t₀) t₀.left m q (state_of t₀)
  pub kept : Kept t₀ t
  pub marked : Marked m t₀ → Marked m t

-- under every mark
pub record Loop {A : Type 0} (p q : Prog A) (t₀ t : Tape) : Type 0 where
  pub under : (m : ℕ) → Inv m p q t₀ t

-- what falls at each turn
abbrev pub fuel : Tape → ℕ
fuel t = length t.kinds.now - t.at

-- r is further than t
pub record Onward (t r : Tape) : Type 0 where
  pub goes : t.at < r.at

further : {n x y : ℕ} → y ≤ n → x < y → n - y < n - x
further h g = omega arith

pub burns_same : {t r : Tape} → r.kinds.now ≡ t.kinds.now → Onward t r → fuel r < fuel t
burns_same {r = r} e h = rw (← e) (further r.ready.fits.end h.goes)

pub burns : {t r : Tape} → Kept t r → Onward t r → fuel r < fuel t
burns k h = burns_same k.same.kinds h

module _ {m : ℕ} where
  pub inv_start : {A : Type 0} {p : Prog A} {t : Tape} → Inv m p p t t
  inv_start = record { is = refl; kept = kept_self; marked = λ b. b }

  -- out of the loop
  pub inv_end : {A : Type 0} {p q : Prog A} {o : Result A Refusal} {t₀ t r : Tape} → Inv m p q t₀ t → Step m p o t r → Step m q o t₀ r
  inv_end {p = p} {t = t} v w = record { is = w.is ∙ (run_kept m p (state_of t) v.kept ∙ v.is); kept = kept_on v.kept w.kept }

  module _ {A C : Type 0} {f : A → Prog (A ⊎ C)} {a : A} {t r : Tape} where
    -- the last turn
    pub last : {b : C} → Step m (f a) (Ok (inr b)) t r → Step m (repeat f a) (Ok b) t r
    unfolding run turn and_then
    last w = record { is = sym (unroll (given t) (call grammar (given t) t.left) m f a (state_of t) ∙ (rw (← w.is))); kept = w.kept }

    -- a turn that is refused
    pub last_cut : {e : Refusal} → Step m (f a) (Err e) t r → Step m (repeat f a) (Err e) t r
    unfolding run turn and_then
    last_cut w = record { is = sym (unroll (given t) (call grammar (given t) t.left) m f a (state_of t) ∙ (rw (← w.is))); kept = w.kept }

  module _ {A C : Type 0} (f : A → Prog (A ⊎ C)) (a : A) {t r : Tape} where
    turn_is : {b : A} → Step m (f a) (Ok (inl b)) t r → Onward t r →
        run (given t) t.left m (repeat f b) (state_of r) ≡ run (given t) t.left m (repeat f a) (state_of t)
    unfolding run turn and_then choose left
    turn_is w h =
        sym (unroll (given t) (call grammar (given t) t.left) m f a (state_of t) ∙
        (rw (← w.is, lt-ltb (length t.kinds.now - r.at) (length t.kinds.now - t.at) (rw (← w.kept.same.kinds) (further r.ready.fits.end h.goes)))))

  -- a turn that goes round, where it came further
  pub inv_again : {A C : Type 0} {f : A → Prog (A ⊎ C)} {a b : A} {q : Prog C} {t₀ t r : Tape} →
      Inv m (repeat f a) q t₀ t → Step m (f a) (Ok (inl b)) t r → Onward t r → Inv m (repeat f b) q t₀ r
  inv_again {f = f} {a = a} {b = b} {t = t} {r = r} v w h =
      record {
        is = sym (run_kept m (repeat f b) (state_of r) v.kept) ∙
            (turn_is f a w h ∙ (run_kept m (repeat f a) (state_of t) v.kept ∙ v.is));
        kept = kept_on v.kept w.kept;
        marked = λ b. step_marked w (v.marked b);
      }

-- ## Progress

-- a bump where a kind is seen comes further
pub bumped : {m : ℕ} {t r : Tape} → Step m bump (Ok tt) t r → (nth_kind 0 (drop t.at t.kinds.now) ≡ 0 → ⊥) → Onward t r
unfolding run eval skipped
bumped {t = t} {r = r} w k =
    record { goes = omega (arith, bump_end (given t) (state_of t) (state_of r) tt (seen t.kinds.now t.at k) (sym w.is)) }
