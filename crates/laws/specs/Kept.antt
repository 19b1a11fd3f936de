-- What a relation of states that the tape's two moves keep is worth: every program keeps it. One induction over the language.
-- Assumes nothing.
use Prim.Native.Nat.{ℕ, zero, suc, ◌<◌}
use Rattle.std.specs.Prelude.{◌≡◌, Bool, ◌⊎◌, ltb, eqb}
use Rattle.std.proofs.Math.Path.{refl}
use Rattle.std.proofs.Math.Bool.{true, false}
use Rattle.std.proofs.Common.{inl, inr, ltb-true}
use Rattle.std.proofs.Math.ListN.{length}
use Rattle.definition.specs.Tape.{In, State, Out, ok, refused, fault, and_then, choose, guard, room, wrote_leaf, leaf_at, leaves_at, flush_at, bump_at, wrote_node, close_at}
use Rattle.definition.specs.Prog.{Prog, mark, done, seq, nth, glued, here, flush, bump, scope, close, stop, enter, test, repeat, Rule, Calls, turn, turns, eval, call}

-- where an outcome goes on, its state is related to s
abbrev pub After : {A : Type 0} → (State → State → Type 0) → State → Out A → Type 0
After R s (ok a t) = R s t
After R s (refused n pl) = Unit {0}
After R s (fault w) = Unit {0}

-- A relation, for each mark, that the moves keep: a leaf, and a node over the rows since the mark. What is done under a mark of its own
-- (in a scope, or by a rule that is entered) is done under any mark.
pub record Kept (i : In) (R : ℕ → State → State → Type 0) : Type 0 where
  pub same : (m : ℕ) (s : State) → R m s s
  pub trans : (m : ℕ) (s t u : State) → R m s t → R m t u → R m s u
  pub leaf : (m : ℕ) (s : State) → s.at < length i.kinds → length s.out < i.cap → R m s (wrote_leaf i s)
  pub node : (m : ℕ) (s : State) (k : ℕ) → length s.out < i.cap → R m s (wrote_node m k s)
  pub inside : (m : ℕ) (s t : State) → R (length s.out) s t → R m s t

module _ (i : In) (R : ℕ → State → State → Type 0) (K : Kept i R) (m : ℕ) where
  after_trans : {A : Type 0} (s t : State) (o : Out A) → R m s t → After (R m) t o → After (R m) s o
  after_trans s t (ok a u) h g = K.trans m s t u h g
  after_trans s t (refused n pl) h g = tt
  after_trans s t (fault w) h g = tt

  pub after_then : {A B : Type 0} (s : State) (o : Out A) (f : A → State → Out B) →
      After (R m) s o → ((a : A) (t : State) → After (R m) t (f a t)) → After (R m) s (and_then o f)
  unfolding and_then
  after_then s (ok a t) f h g = after_trans s t (f a t) h (g a t)
  after_then s (refused n pl) f h g = tt
  after_then s (fault w) f h g = tt

  after_guard : {A : Type 0} (s : State) (b : Bool) (n pl : ℕ) (k : Unit {0} → Out A) → (b ≡ true → After (R m) s (k tt)) → After (R m) s (guard b n pl k)
  unfolding guard
  after_guard s true n pl k h = h refl
  after_guard s false n pl k h = tt

  after_choose : {A : Type 0} (s : State) (b : Bool) (k l : Unit {0} → Out A) →
      (b ≡ true → After (R m) s (k tt)) → (b ≡ false → After (R m) s (l tt)) → After (R m) s (choose b k l)
  unfolding choose
  after_choose s true k l h g = h refl
  after_choose s false k l h g = g refl

  pub after_leaf : (s : State) → After (R m) s (leaf_at i s)
  unfolding leaf_at room
  after_leaf s =
      after_choose s (ltb s.at (length i.kinds)) _ _
      (λ e. after_guard s (room i s) 11 _ _ (λ r. K.leaf m s (ltb-true _ _ e) (ltb-true _ _ r)))
      (λ e. K.same m s)

  pub after_leaves : (n : ℕ) (s : State) → After (R m) s (leaves_at i n s)
  unfolding leaves_at
  after_leaves zero s = K.same m s
  after_leaves (suc n) s = after_then s (leaf_at i s) _ (after_leaf s) (λ u t. after_leaves n t)

  after_close : (k : ℕ) (s : State) → After (R m) s (close_at i m k s)
  unfolding close_at room
  after_close k s = after_guard s (room i s) 11 _ _ (λ r. K.node m s k (ltb-true _ _ r))

  pub after_turn : {A B : Type 0} (s : State) (k : A → State → Out B) → ((a : A) (t : State) → After (R m) t (k a t)) →
      (x : A ⊎ B) (t : State) → After (R m) t (turn i s k x t)
  unfolding turn
  after_turn s k h (inl a) t = after_choose t _ _ _ (λ e. h a t) (λ e. tt)
  after_turn s k h (inr b) t = K.same m t

  after_turns : {A B : Type 0} (n : ℕ) (f : A → State → Out (A ⊎ B)) → ((a : A) (s : State) → After (R m) s (f a s)) →
      (a : A) (s : State) → After (R m) s (turns i n f a s)
  unfolding turns
  after_turns zero f h a s = tt
  after_turns (suc n) f h a s = after_then s (f a s) _ (h a s) (after_turn s _ (λ b t. after_turns n f h b t))

  -- what a mark of its own is good for
  after_inside : {A : Type 0} (s : State) (o : Out A) → After (R (length s.out)) s o → After (R m) s o
  after_inside s (ok a t) h = K.inside m s t h
  after_inside s (refused n pl) h = tt
  after_inside s (fault w) h = tt

module _ (i : In) (R : ℕ → State → State → Type 0) (K : Kept i R) where
  pub after_eval : {A : Type 0} (e : Calls) → ((r : Rule) (s : State) → After (R (length s.out)) s (e r s)) →
      (m : ℕ) (p : Prog A) (s : State) → After (R m) s (eval i e m p s)
  unfolding eval flush_at bump_at
  after_eval e h m (done a) s = K.same m s
  after_eval e h m (seq p f) s = after_then i R K m s (eval i e m p s) _ (after_eval e h m p s) (λ a t. after_eval e h m (f a) t)
  after_eval e h m (nth n) s = K.same m s
  after_eval e h m glued s = K.same m s
  after_eval e h m here s = K.same m s
  after_eval e h m flush s = after_leaves i R K m _ s
  after_eval e h m bump s = after_leaves i R K m _ s
  after_eval e h m (scope f) s =
      after_then i R K m s (flush_at i s) _ (after_leaves i R K m _ s)
      (λ u t.
      let n = length t.out in
      after_inside i R K m t (eval i e n (f (mark n)) t) (after_eval e h n (f (mark n)) t))
  after_eval e h m (close c k) s = after_choose i R K m s (eqb c.row m) _ _ (λ x. after_close i R K m k s) (λ x. tt)
  after_eval e h m (stop n pl) s = tt
  after_eval e h m (enter r) s = after_inside i R K m s (e r s) (h r s)
  after_eval e h m (test b p q) s = after_choose i R K m s b _ _ (λ x. after_eval e h m p s) (λ x. after_eval e h m q s)
  after_eval e h m (repeat f a) s = after_turns i R K m _ _ (λ b t. after_eval e h m (f b) t) a s

  pub after_call : (g : Rule → Prog ℕ) (d : ℕ) (r : Rule) (s : State) → After (R (length s.out)) s (call g i d r s)
  unfolding call
  after_call g zero r s = tt
  after_call g (suc d) r s = after_eval (call g i d) (after_call g d) (length s.out) (g r) s

  -- every program, with any depth left and under any mark
  pub kept : {A : Type 0} (g : Rule → Prog ℕ) (d m : ℕ) (p : Prog A) (s : State) → After (R m) s (eval i (call g i d) m p s)
  kept g d m p s = after_eval (call g i d) (after_call g d) m p s
