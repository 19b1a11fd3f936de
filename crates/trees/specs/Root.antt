-- How an entry ends: its loop goes on until no token is seen, what trivia is left is written, and Root is closed over all.
-- Assumes nothing.
use Prim.Native.Nat.{ℕ, zero, suc, ◌≤◌}
use Rattle.std.specs.Prelude.{◌≡◌, Bool, true, false, ◌⊎◌, List}
use Rattle.std.proofs.Math.Path.{refl}
use Rattle.std.proofs.Common.{subst, sym, ◌∙◌, inl, inr, arith}
use Rattle.std.proofs.Math.Decide.{dec_le}
use Rattle.std.proofs.Math.ListN.{length}
use borrow.Author.Tests.{eqb-true, not-false}
use Rattle.definition.specs.Kinds.{Eof, Root}
use Rattle.definition.specs.Classes.{is_some}
use Rattle.definition.specs.Tape.{In, State, Out, ok, refused, fault, and_then, choose, nth_at, flush_at, close_at}
use Rattle.definition.specs.Prog.{Prog, flush, bump, ◌>>◌, Calls, turn, turns, eval}
use Rattle.definition.specs.Grammar.{not_eof, while, while_turn, expr, separated, stmt}
use Rattle.definition.specs.Grammar as grammar
use Rattle.definition.specs.Parse.{Entry, root, exprs, format, program}
use Rattle.laws.specs.Kept.{After}
use Rattle.laws.specs.Unroll.{then_assoc, then_cong}
use Rattle.laws.specs.Moves.{flush_end}
use Rattle.laws.specs.Sizes.{Went, went_leaves}
use Rattle.trees.specs.Forest.{Tok, kinds, in_of}
use Rattle.trees.specs.Input.{Kinds, unseen}

-- an entry, but for its `close` of Root
unfoldable pub before : Entry → Prog (Unit {0})
before root = while not_eof stmt >> flush
before (exprs separator) = while not_eof (separated separator) >> flush
before format = expr >> while not_eof bump >> flush

pub closed_last : (i : In) (e : Calls) (x : Entry) (s : State) → eval i e 0 (program x) s ≡ and_then (eval i e 0 (before x) s) (λ u t. close_at i 0 Root t)
unfolding program before eval choose grammar.root grammar.exprs grammar.format
closed_last i e root s = sym (then_assoc _ _ _)
closed_last i e (exprs separator) s = sym (then_assoc _ _ _)
closed_last i e format s = then_cong _ _ _ (λ u t. sym (then_assoc _ _ _)) ∙ sym (then_assoc _ _ _)

-- ## Loops that go on to the end

-- what holds where an outcome goes on
abbrev pub Post : {A : Type 0} → (A → State → Type 0) → Out A → Type 0
Post P (ok a t) = P a t
Post P (refused n pl) = Unit {0}
Post P (fault w) = Unit {0}

post_then : {A B : Type 0} (J : A → State → Type 0) (P : B → State → Type 0) (o : Out A) (f : A → State → Out B) → Post J o →
    ((a : A) (t : State) → J a t → Post P (f a t)) → Post P (and_then o f)
unfolding and_then
post_then J P (ok a t) f h g = g a t h
post_then J P (refused n pl) f h g = tt
post_then J P (fault w) f h g = tt

pub post_choose : {A : Type 0} (P : A → State → Type 0) (b : Bool) (k l : Unit {0} → Out A) → (b ≡ true → Post P (k tt)) → (b ≡ false → Post P (l tt)) →
    Post P (choose b k l)
unfolding choose
post_choose P true k l h g = h refl
post_choose P false k l h g = g refl

-- of which nothing is known
post_any : {A : Type 0} (o : Out A) → Post (λ a t. Unit {0}) o
post_any (ok a t) = tt
post_any (refused n pl) = tt
post_any (fault w) = tt

-- a turn that leaves its loop leaves P true
abbrev Last : {A B : Type 0} → (B → State → Type 0) → A ⊎ B → State → Type 0
Last P (inl a) t = Unit {0}
Last P (inr b) t = P b t

module _ {A B : Type 0} (i : In) (P : B → State → Type 0) (f : A → State → Out (A ⊎ B)) (h : (a : A) (s : State) → Post (Last P) (f a s)) where
  post_turn : (s : State) (k : A → State → Out B) → ((a : A) (t : State) → Post P (k a t)) → (x : A ⊎ B) (t : State) → Last P x t → Post P (turn i s k x t)
  unfolding turn
  post_turn s k g (inl b) t z = post_choose P _ _ _ (λ y. g b t) (λ y. tt)
  post_turn s k g (inr b) t z = z

  post_turns : (n : ℕ) (a : A) (s : State) → Post P (turns i n f a s)
  unfolding turns
  post_turns zero a s = tt
  post_turns (suc n) a s = post_then (Last P) P (f a s) _ (h a s) (post_turn s _ (λ b t. post_turns n b t))

abbrev Unseen : {A : Type 0} → In → A → State → Type 0
Unseen i a t = nth_at i 0 t ≡ Eof

module _ (i : In) (e : Calls) (m : ℕ) (q : Prog (Unit {0})) where
  while_turn_ends : (u : Unit {0}) (s : State) → Post (Last (Unseen i)) (eval i e m (while_turn not_eof q u) s)
  unfolding eval while_turn and_then is_some
  while_turn_ends u s =
      post_choose (Last (Unseen i)) (is_some (nth_at i 0 s)) _ _
      (λ z. post_then (λ a t. Unit {0}) (Last (Unseen i)) (eval i e m q s) _ (post_any (eval i e m q s)) (λ a t x. tt))
      (λ z. eqb-true _ _ (not-false _ z))

  while_ends : (s : State) → Post (Unseen i) (eval i e m (while not_eof q) s)
  unfolding eval
  while_ends s = post_turns i (Unseen i) _ while_turn_ends _ tt s

-- ## No token is left

abbrev pub AtEnd : List Tok → Unit {0} → State → Type 0
AtEnd l u t = length (kinds l) ≤ t.at

module _ (l : List Tok) (n : ℕ) (e : Calls) (all : Kinds (kinds l)) where
  flush_at_end : (s : State) → nth_at (in_of l n) 0 s ≡ Eof → Post (AtEnd l) (flush_at (in_of l n) s)
  unfolding in_of nth_at flush_at
  flush_at_end s z = go (dec_le s.at (length (kinds l))) (flush_at (in_of l n) s) refl
    where
      go : Dec (s.at ≤ length (kinds l)) → (o : Out (Unit {0})) → flush_at (in_of l n) s ≡ o → Post (AtEnd l) o
      go (yes h) (ok u t) x = omega (arith, flush_end (in_of l n) s t u h x, unseen (kinds l) s.at all z)
      go (no h) (ok u t) x = omega (arith, (subst (λ (o : Out _). After (Went 0) s o) x (went_leaves (in_of l n) 0 _ s)).grows.at)
      go h (refused k pl) x = tt
      go h (fault w) x = tt

  while_at_end : (q : Prog (Unit {0})) (s : State) → Post (AtEnd l) (eval (in_of l n) e 0 (while not_eof q >> flush) s)
  unfolding eval
  while_at_end q s =
      post_then (Unseen (in_of l n)) (AtEnd l) (eval (in_of l n) e 0 (while not_eof q) s) _ (while_ends (in_of l n) e 0 q s) (λ u t z. flush_at_end t z)

  pub before_at_end : (x : Entry) (s : State) → Post (AtEnd l) (eval (in_of l n) e 0 (before x) s)
  unfolding before eval
  before_at_end root s = while_at_end stmt s
  before_at_end (exprs separator) s = while_at_end (separated separator) s
  before_at_end format s =
      post_then (λ u t. Unit {0}) (AtEnd l) (eval (in_of l n) e 0 expr s) _ (post_any (eval (in_of l n) e 0 expr s)) (λ u t z. while_at_end bump t)
