-- More depth changes no outcome but refusal 10, and more room none but refusal 11. Both are one induction over the language.
-- Assumes nothing.
use Prim.Native.Nat.{ℕ, zero, suc, ◌+◌, ◌≤◌}
use Rattle.std.specs.Prelude.{◌≡◌, Bool, ◌⊎◌, List, length, ltb, eqb}
use Rattle.std.proofs.Math.Path.{refl, subst}
use Rattle.std.proofs.Common.{ap, sym, ◌∙◌, arith, zero-add, suc-add}
use Rattle.std.proofs.Math.Bool.{true, false}
use Rattle.std.proofs.Math.Logic.{inl, inr}
use borrow.Author.Tests.{ltb-true, lt-ltb}
use Rattle.definition.specs.Tape.{In, State, Out, ok, refused, fault, and_then, choose, guard, room, wrote_leaf, here_at, nth_at, glued_at, leaf_at, leaves_at, flush_at, bump_at, close_at}
use Rattle.definition.specs.Prog.{Prog, mark, done, seq, nth, glued, here, flush, bump, scope, close, stop, enter, test, repeat, Rule, Calls, left, turn, turns, eval, call}

-- an outcome that is refusal n
abbrev pub Refused : {A : Type 0} → ℕ → Out A → Type 0
Refused n (ok a s) = ⊥
Refused n (refused k pl) = k ≡ n
Refused n (fault w) = ⊥

-- the second outcome is the first, unless that is refusal n
abbrev pub Below : {A : Type 0} → ℕ → Out A → Out A → Type 0
Below n o p = Refused n o ⊎ (o ≡ p)

-- an outcome that is kept
pub below_ok : {A : Type 0} (n : ℕ) (o p : Out A) {a : A} {t : State} → Below n o p → o ≡ ok a t → p ≡ ok a t
below_ok n o p (inl x) e = absurd (subst (Refused n) e x)
below_ok n o p (inr q) e = sym q ∙ e

pub below_refused : {A : Type 0} (n : ℕ) (o p : Out A) {k pl : ℕ} → Below n o p → o ≡ refused k pl → (k ≡ n → ⊥) → p ≡ refused k pl
below_refused n o p (inl x) e h = absurd (h (subst (Refused n) e x))
below_refused n o p (inr q) e h = sym q ∙ e

module _ (n : ℕ) where
  below_then : {A B : Type 0} (o p : Out A) (f g : A → State → Out B) →
      Below n o p → ((a : A) (s : State) → Below n (f a s) (g a s)) → Below n (and_then o f) (and_then p g)
  unfolding and_then
  below_then (ok a s) p f g (inl t) h = absurd t
  below_then (ok a s) p f g (inr e) h = subst (λ (x : Out _). Below n (f a s) (and_then x g)) e (h a s)
  below_then (refused k pl) p f g (inl t) h = inl t
  below_then (refused k pl) p f g (inr e) h = inr (ap (λ (x : Out _). and_then x g) e)
  below_then (fault w) p f g (inl t) h = absurd t
  below_then (fault w) p f g (inr e) h = inr (ap (λ (x : Out _). and_then x g) e)

  below_choose : {A : Type 0} (b : Bool) (f f' g g' : Unit {0} → Out A) → Below n (f tt) (f' tt) → Below n (g tt) (g' tt) → Below n (choose b f g) (choose b f' g')
  unfolding choose
  below_choose true f f' g g' h k = h
  below_choose false f f' g g' h k = k

-- the same lists with two tables
abbrev input : List ℕ → List ℕ → ℕ → In
input ks ls c = record { kinds = ks; lens = ls; cap = c }

module _ (n : ℕ) (ks ls : List ℕ) (c d : ℕ) (leaf : (s : State) → Below n (leaf_at (input ks ls c) s) (leaf_at (input ks ls d) s))
    (node : (m k : ℕ) (s : State) → Below n (close_at (input ks ls c) m k s) (close_at (input ks ls d) m k s)) where
  abbrev I : In
  I = input ks ls c

  abbrev J : In
  J = input ks ls d

  below_leaves : (k : ℕ) (s : State) → Below n (leaves_at I k s) (leaves_at J k s)
  unfolding leaves_at
  below_leaves zero s = inr refl
  below_leaves (suc k) s = below_then n (leaf_at I s) (leaf_at J s) _ _ (leaf s) (λ u t. below_leaves k t)

  below_turn : {A B : Type 0} (s : State) (k l : A → State → Out B) → ((a : A) (t : State) → Below n (k a t) (l a t)) →
      (x : A ⊎ B) (t : State) → Below n (turn I s k x t) (turn J s l x t)
  unfolding turn left
  below_turn s k l h (inl a) t = below_choose n (ltb (left I t) (left I s)) _ _ _ _ (h a t) (inr refl)
  below_turn s k l h (inr b) t = inr refl

  below_turns : {A B : Type 0} (k : ℕ) (f g : A → State → Out (A ⊎ B)) → ((a : A) (s : State) → Below n (f a s) (g a s)) →
      (a : A) (s : State) → Below n (turns I k f a s) (turns J k g a s)
  unfolding turns
  below_turns zero f g h a s = inr refl
  below_turns (suc k) f g h a s =
      below_then n (f a s) (g a s) _ _ (h a s) (below_turn s _ _ (λ b t. below_turns k f g h b t))

  pub below_eval : {A : Type 0} (e e' : Calls) → ((r : Rule) (s : State) → Below n (e r s) (e' r s)) →
      (m : ℕ) (p : Prog A) (s : State) → Below n (eval I e m p s) (eval J e' m p s)
  unfolding eval flush_at bump_at nth_at glued_at here_at left
  below_eval e e' h m (done a) s = inr refl
  below_eval e e' h m (seq p f) s =
      below_then n (eval I e m p s) (eval J e' m p s) _ _ (below_eval e e' h m p s) (λ a t. below_eval e e' h m (f a) t)
  below_eval e e' h m (nth k) s = inr refl
  below_eval e e' h m glued s = inr refl
  below_eval e e' h m here s = inr refl
  below_eval e e' h m flush s = below_leaves _ s
  below_eval e e' h m bump s = below_leaves _ s
  below_eval e e' h m (scope f) s =
      below_then n (flush_at I s) (flush_at J s) _ _ (below_leaves _ s) (λ u t. below_eval e e' h (length t.out) (f (mark (length t.out))) t)
  below_eval e e' h m (close c k) s = below_choose n (eqb c.row m) _ _ _ _ (node m k s) (inr refl)
  below_eval e e' h m (stop k pl) s = inr refl
  below_eval e e' h m (enter r) s = h r s
  below_eval e e' h m (test b p q) s = below_choose n b _ _ _ _ (below_eval e e' h m p s) (below_eval e e' h m q s)
  below_eval e e' h m (repeat f a) s = below_turns _ _ _ (λ b t. below_eval e e' h m (f b) t) a s

-- ## Depth

module _ (g : Rule → Prog ℕ) (i : In) where
  below_deep : {A : Type 0} (e e' : Calls) → ((r : Rule) (s : State) → Below 10 (e r s) (e' r s)) → (m : ℕ) (p : Prog A) (s : State) →
      Below 10 (eval i e m p s) (eval i e' m p s)
  below_deep e e' h m p s = below_eval 10 i.kinds i.lens i.cap i.cap (λ t. inr refl) (λ m k t. inr refl) e e' h m p s

  below_call : (d : ℕ) (r : Rule) (s : State) → Below 10 (call g i d r s) (call g i (suc d) r s)
  unfolding call
  below_call zero r s = inl refl
  below_call (suc d) r s = below_deep (call g i d) (call g i (suc d)) (below_call d) (length s.out) (g r) s

  one_deeper : {A : Type 0} (d m : ℕ) (p : Prog A) (s : State) → Below 10 (eval i (call g i d) m p s) (eval i (call g i (suc d)) m p s)
  one_deeper d m p s = below_deep (call g i d) (call g i (suc d)) (below_call d) m p s

  -- more depth changes no outcome but refusal 10
  pub more_depth : {A : Type 0} (d k m : ℕ) (p : Prog A) (s : State) → Below 10 (eval i (call g i d) m p s) (eval i (call g i (k + d)) m p s)
  more_depth d zero m p s = rw zero-add (inr refl)
  more_depth {A} d (suc k) m p s = rw suc-add (on _ _ _ (more_depth d k m p s) (one_deeper (k + d) m p s))
    where
      on : (o q r : Out A) → Below 10 o q → Below 10 q r → Below 10 o r
      on o q r (inl x) y = inl x
      on o q r (inr e) y = subst (λ (z : Out A). Below 10 z r) (sym e) y

-- ## Room

-- A test that a larger table passes too
below_room : {A : Type 0} (b b' : Bool) (pl : ℕ) (k : Unit {0} → Out A) → (b ≡ true → b' ≡ true) → Below 11 (guard b 11 pl k) (guard b' 11 pl k)
unfolding guard
below_room true b' pl k h = rw (h refl) (inr refl)
below_room false b' pl k h = inl refl

module _ (ks ls : List ℕ) (c d : ℕ) (le : c ≤ d) where
  wider : (s : State) → room (input ks ls c) s ≡ true → room (input ks ls d) s ≡ true
  unfolding room
  wider s e = lt-ltb (length s.out) d (omega (arith, ltb-true (length s.out) c e))

  wider_leaf : (s : State) → Below 11 (leaf_at (input ks ls c) s) (leaf_at (input ks ls d) s)
  unfolding leaf_at here_at wrote_leaf
  wider_leaf s = below_choose 11 (ltb s.at (length ks)) _ _ _ _ (below_room (room (input ks ls c) s) (room (input ks ls d) s) _ _ (wider s)) (inr refl)

  wider_node : (m k : ℕ) (s : State) → Below 11 (close_at (input ks ls c) m k s) (close_at (input ks ls d) m k s)
  unfolding close_at here_at
  wider_node m k s = below_room (room (input ks ls c) s) (room (input ks ls d) s) _ _ (wider s)

  wider_call : (g : Rule → Prog ℕ) (n : ℕ) (r : Rule) (s : State) → Below 11 (call g (input ks ls c) n r s) (call g (input ks ls d) n r s)
  unfolding call here_at
  wider_call g zero r s = inr refl
  wider_call g (suc n) r s =
      below_eval 11 ks ls c d wider_leaf wider_node (call g (input ks ls c) n) (call g (input ks ls d) n) (wider_call g n) (length s.out) (g r) s

  -- more room changes no outcome but refusal 11
  pub more_room : {A : Type 0} (g : Rule → Prog ℕ) (n m : ℕ) (p : Prog A) (s : State) →
      Below 11 (eval (input ks ls c) (call g (input ks ls c) n) m p s) (eval (input ks ls d) (call g (input ks ls d) n) m p s)
  more_room g n m p s =
      below_eval 11 ks ls c d wider_leaf wider_node (call g (input ks ls c) n) (call g (input ks ls d) n) (wider_call g n) m p s
