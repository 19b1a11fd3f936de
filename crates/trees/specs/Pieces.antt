-- Loops are sound where their turns come further, and so are the rules that close no node. `search` walks each program. (The rules that close nodes: proofs/Pieces.)
-- Assumes nothing.
use Rattle.std.specs.Prelude.{ℕ, ◌≡◌, refl, Bool, true, false, ◌⊎◌, eqb}
use Rattle.std.proofs.Common.{inl, inr}
use Rattle.std.proofs.lemmas.Bool.{eqb-false}
use Rattle.definition.specs.Kinds
use Rattle.definition.specs.Tape.{In, State, Out, ok, refused, fault, and_then, nth_at, glued_at}
use Rattle.definition.specs.Prog.{Prog, Mark, eval}
use Rattle.definition.specs.Grammar as g
use Rattle.definition.specs.Parse.{run}
use Rattle.laws.specs.Kept.{After}
use Rattle.laws.specs.Progress as far
use Rattle.trees.specs.Sound.{Safe, Moved, s_done, s_scope, s_stop, s_test, s_seq, s_nth, s_glued, s_here, s_flush, s_bump, s_enter, s_loop, s_while}

-- (nothing is asked)
pub nothing : Unit {0}
nothing = tt

-- (all but a close)
pub ruleset moves = (nothing, s_done, s_scope, s_stop, s_test, s_seq, s_nth, s_glued, s_here, s_flush, s_bump, s_enter)

-- ## Loops, by what they see

-- a turn that stays leaves its loop
abbrev pub Leaves : {A B : Type 0} → A ⊎ B → Type 0
Leaves (inl a) = ⊥
Leaves (inr b) = Unit {0}

pub moved : {A B : Type 0} (i : In) (d m : ℕ) (p : Prog (A ⊎ B)) (s : State) → far.Stays i s (far.Deep i s) p Leaves → Moved s (run i d m p s)
moved {A} {B} i d m p s h = go (run i d m p s) (far.stays i d m p Leaves s h)
  where
    go : (o : Out (A ⊎ B)) → far.Ends s Leaves o → Moved s o
    go (ok (inl a) t) (inl x) = x
    go (ok (inl a) t) (inr x) = absurd x.1
    go (ok (inr b) t) x = tt
    go (refused n pl) x = tt
    go (fault w) x = tt

-- a token is seen
abbrev pub Seen : In → State → Type 0
Seen i s = nth_at i 0 s ≡ Kinds.Eof → ⊥

-- a test's way that takes a token: the test fails at the end
pub taken : {P Q : Type 0} {b : Bool} {k : ℕ} → (b ≡ true → k ≡ Kinds.Eof → ⊥) → (b ≡ false → Q) → (b ≡ true → k ≡ Kinds.Eof → P) × (b ≡ false → Q)
taken h q = (λ y z. absurd (h y z), q)

-- the same where the token is taken behind a checkpoint
pub marked : {P : Mark → Type 0} {Q : Type 0} {b : Bool} {k : ℕ} → (b ≡ true → k ≡ Kinds.Eof → ⊥) → (b ≡ false → Q) →
    (b ≡ true → (c : Mark) → k ≡ Kinds.Eof → P c) × (b ≡ false → Q)
marked h q = (λ y c z. absurd (h y z), q)

pub kind_seen : (j k : ℕ) → eqb Kinds.Eof j ≡ false → eqb k j ≡ true → k ≡ Kinds.Eof → ⊥
kind_seen j k e = far.not_eof (λ x. eqb x j) k e

-- while a kind passes c: p comes further, or c fails at the end and p takes a token
module _ (c : ℕ → Bool) (p : Prog (Unit {0})) (h : Safe p) where
  pub while_next : ((i : In) (d m : ℕ) (s : State) → c (nth_at i 0 s) ≡ true → After far.Further s (run i d m p s)) → Safe (g.while (g.next c) p)
  unfolding eval and_then
  while_next f = s_while (g.next c) p (λ i s. c (nth_at i 0 s)) (λ i e m s. refl) h f

  pub while_token : c Kinds.Eof ≡ false → ((i : In) (d m : ℕ) (s : State) → Seen i s → After far.Further s (run i d m p s)) → Safe (g.while (g.next c) p)
  while_token e f = while_next (λ i d m s z. f i d m s (far.not_eof c (nth_at i 0 s) e z))

-- the same with the kind glued to it
module _ (c : ℕ → ℕ → Bool) (p : Prog (Unit {0})) (h : Safe p) where
  pub while_glued : ((i : In) (d m : ℕ) (s : State) → c (nth_at i 0 s) (glued_at i s) ≡ true → After far.Further s (run i d m p s)) →
      Safe (g.while (g.next_glued c) p)
  unfolding eval and_then
  while_glued f = s_while (g.next_glued c) p (λ i s. c (nth_at i 0 s) (glued_at i s)) (λ i e m s. refl) h f

-- ## Tokens and token streams, over which no node is closed

pub bump_if_safe : (k : ℕ) → Safe (g.bump_if k)
unfolding g.bump_if
bump_if_safe k c l K h = search moves depth 12

pub bump_while_safe : (k : ℕ) → eqb Kinds.Eof k ≡ false → Safe (g.bump_while k)
unfolding g.bump_while g.bump_while_turn far.Stays
bump_while_safe k e c l K h =
    s_loop (λ any. search moves depth 12)
    (λ i d m any s. moved i d m (g.bump_while_turn k any) s (λ y. far.not_eof (λ j. eqb j k) (nth_at i 0 s) e y, λ n. tt))

pub stream_safe : (m : g.Matcher) → Safe (g.stream m)
unfolding g.stream g.stream_turn g.stream_step far.Stays
stream_safe m c l K h =
    s_loop (λ level. search moves depth 12)
    (λ i d j level s. moved i d j (g.stream_turn m level) s (λ y. tt, λ n. (λ y. tt, λ w z. eqb-false _ _ n z)))
