-- A loop unrolls, with no condition: its fuel is always enough, since a turn that writes no token is a fault.
-- Assumes nothing.
use Rattle.std.specs.Prelude.{ℕ, zero, suc, ◌<◌, ◌≡◌, refl, Bool, true, false, ◌⊎◌, ltb}
use Rattle.std.proofs.Common.{inl, inr, arith, ltb-true}
use Rattle.definition.specs.Tape.{In, State, Out, ok, refused, fault, never_ends, and_then, choose}
use Rattle.definition.specs.Prog.{Prog, repeat, Calls, left, turn, turns, eval}

pub then_cong : {A B : Type 0} (o : Out A) (f g : A → State → Out B) → ((a : A) (s : State) → f a s ≡ g a s) → and_then o f ≡ and_then o g
unfolding and_then
then_cong (ok a s) f g h = h a s
then_cong (refused n pl) f g h = refl
then_cong (fault w) f g h = refl

pub then_assoc : {A B C : Type 0} (o : Out A) (f : A → State → Out B) (g : B → State → Out C) →
    and_then (and_then o f) g ≡ and_then o (λ a s. and_then (f a s) g)
unfolding and_then
then_assoc (ok a s) f g = refl
then_assoc (refused n pl) f g = refl
then_assoc (fault w) f g = refl

choose_cong : {A : Type 0} (b : Bool) (k l o : Unit {0} → Out A) → (b ≡ true → k tt ≡ l tt) → choose b k o ≡ choose b l o
unfolding choose
choose_cong true k l o h = h refl
choose_cong false k l o h = refl

turn_cong : {A B : Type 0} (i : In) (s : State) (k l : A → State → Out B) → ((a : A) (t : State) → left i t < left i s → k a t ≡ l a t) →
    (x : A ⊎ B) (t : State) → turn i s k x t ≡ turn i s l x t
unfolding turn
turn_cong i s k l h (inl a) t =
    choose_cong (ltb (left i t) (left i s)) (λ u. k a t) (λ u. l a t) (λ u. fault never_ends) (λ e. h a t (ltb-true _ _ e))
turn_cong i s k l h (inr b) t = refl

enough : {A B : Type 0} (i : In) (f : A → State → Out (A ⊎ B)) (n m : ℕ) (a : A) (s : State) →
    left i s < n → left i s < m → turns i n f a s ≡ turns i m f a s
unfolding turns
enough i f zero m a s h g = absurd (omega arith)
enough i f (suc n) zero a s h g = absurd (omega arith)
enough i f (suc n) (suc m) a s h g =
    then_cong (f a s) _ _ (turn_cong i s _ _ (λ b t l. enough i f n m b t (omega arith) (omega arith)))

pub unroll : {A B : Type 0} (i : In) (e : Calls) (m : ℕ) (f : A → Prog (A ⊎ B)) (a : A) (s : State) →
    eval i e m (repeat f a) s ≡ and_then (eval i e m (f a) s) (turn i s (λ b t. eval i e m (repeat f b) t))
unfolding eval turns
unroll i e m f a s =
    then_cong (eval i e m (f a) s) _ _
    (turn_cong i s _ _ (λ b t l. enough i (λ c u. eval i e m (f c) u) (left i s) (suc (left i t)) b t l (omega arith)))
