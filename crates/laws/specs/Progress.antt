-- Progress: which programs come further or are refused. A loop's turn is one, so that the loop ends.
-- A step either comes further or stays at its place, and where it stays, the same is seen. So one walk over the language, `Stays`, says what
-- is to be shown of the answers with which a program stays. A program that cannot stay comes further or is refused: `further`.
-- Assumes nothing.
use Rattle.std.specs.Prelude.{ℕ, zero, suc, ◌+◌, ◌≤◌, ◌<◌, ◌≡◌, Bool, ◌||◌, ◌⊎◌, List, ◌∷◌, length, ltb}
use Rattle.std.proofs.Math.Path.{refl}
use Rattle.std.proofs.Common.{ap, subst, sym, ◌∙◌, true≢false, ltb-true, eqb-true, ne_eqb, le-ltb}
use Rattle.std.proofs.Math.Bool.{true, false, false≢true}
use Rattle.std.proofs.Math.Logic.{inl, inr}
use native.Mathlib.Omega.{arith}
use Rattle.std.proofs.Math.Decide.{dec_lt}
use Rattle.std.proofs.Math.Dec.{eqb}
use Rattle.std.proofs.lemmas.Bool.{eqb-false}
use Rattle.definition.specs.Kinds.{Eof, K-underscore, K-paren, K-bracket, K-#, K-brace}
use Rattle.definition.specs.Tape.{In, State, Out, ok, refused, fault, never_ends, and_then, choose, here_at, nth_at, glued_at, flush_at, bump_at}
use Rattle.definition.specs.Prog.{Prog, Mark, mark, done, seq, nth, glued, here, flush, bump, scope, close, stop, enter, test, repeat, Rule, left, turn, eval, call}
use Rattle.definition.specs.Modes.{Brace, Range, Binary, ExprCx, ErrorCx, recovers}
use Rattle.definition.specs.Operators.{Op, from_slice, is_none, is_below, is_tighter, bindings, binding_in}
use Rattle.definition.specs.Classes.{among, glues, ranged_by, linked, is_object_key, is_lit, is_path_component, kind_is_stmt_recovering, kind_is_pat, is_unary, is_use_path, is_pat_or_rest, is_select_arm}
use Rattle.definition.specs.Grammar.{grammar, bump_if, push, while_turn, stmt, item_use, pat, path, outer_expr_with, expr_binary, inner_attribute, attribute, attributes, label, labels, generic_path, generics, path_segment, path_text, path_segments, modifier_pub, modifiers, parenthesized, pat_or_rest, pat_item, pat_parens, pat_object_key, pat_negative, pat_path, pat_group, pat_anonymous, pat_kind, pat_text, field, use_item, use_path, use_group, item_use_text, variant_item, variant, expr_with, expr, block_open, block_with, else_branch, expr_if, expr_while, expr_loop, expr_for, match_case, match_arm, expr_match, select_pat, select_case, select_arm, expr_select, empty_group, expr_tuple_or_group, object_field, recover, primary_path, closure_arguments, range_to, expr_primary, field_link, chain_link, chain_step, advance, nest, operator, binary_turn, expr_binary_text, outer_expr_with_text, impl_path, stmt_text, stmt_once, separated}
use Rattle.definition.specs.Parse.{run}
use Rattle.laws.specs.Kept.{After}
use Rattle.laws.specs.Unroll.{unroll}
use Rattle.laws.specs.Sizes.{Went, went}
use Rattle.laws.specs.Looking.{skipped_ge, seen}
use Rattle.laws.specs.Moves.{bump_end}

-- the place of the next token not yet written has grown (trivia are tokens, as they are for a loop's turn)
unfoldable pub Further : State → State → Type 0
Further s t = s.at < t.at

-- ## What is to be shown of a program that stays

-- what is to be shown of a rule that is entered, for the answers with which it may stay
abbrev pub Entered : Type 1
Entered = Rule → (ℕ → Type 0) → Type 0

-- a turn that stays and asks for another is refused
abbrev pub Again : {A B : Type 0} → (B → Type 0) → A ⊎ B → Type 0
Again K (inl a) = Unit {0}
Again K (inr b) = K b

-- From s, p comes further, is refused, or stays with an answer of K.
unfoldable pub Stays : {A : Type 0} → In → State → Entered → Prog A → (A → Type 0) → Type 0
Stays i s C (done a) K = K a
Stays i s C (seq p f) K = Stays i s C p (λ a. Stays i s C (f a) K)
Stays i s C (nth n) K = K (nth_at i n s)
Stays i s C glued K = K (glued_at i s)
Stays i s C here K = K (here_at i s)
Stays i s C flush K = K tt
Stays i s C bump K = nth_at i 0 s ≡ Eof → K tt
Stays i s C (scope f) K = (c : Mark) → Stays i s C (f c) K
Stays i s C (close c k) K = K tt
Stays i s C (stop n pl) K = Unit {0}
Stays i s C (enter r) K = C r K
Stays i s C (test b p q) K = (b ≡ true → Stays i s C p K) × (b ≡ false → Stays i s C q K)
Stays i s C (repeat f a) K = Stays i s C (f a) (Again K)

-- a rule that is entered: nothing is known of its answer, or its body is walked with C for what it enters
unfoldable pub Any : Entered
Any r K = (n : ℕ) → K n

unfoldable pub Deeper : In → State → Entered → Entered
Deeper i s C r K = Stays i s C (grammar r) K

-- two entries down, which is as far as the first token ever is
abbrev pub Deep : In → State → Entered
Deep i s = Deeper i s (Deeper i s Any)

-- ## It holds

-- an outcome that comes further than s, is refused, or stays with an answer of K
abbrev pub Ends : {A : Type 0} → State → (A → Type 0) → Out A → Type 0
Ends s K (ok a t) = (s.at < t.at) ⊎ ((t.at ≡ s.at) × K a)
Ends s K (refused n pl) = Unit {0}
Ends s K (fault w) = Unit {0}

-- places do not shrink
abbrev On : {A : Type 0} → State → Out A → Type 0
On s (ok a t) = s.at ≤ t.at
On s (refused n pl) = Unit {0}
On s (fault w) = Unit {0}

on_went : {A : Type 0} (m : ℕ) (s : State) (o : Out A) → After (Went m) s o → On s o
on_went m s (ok a t) h = h.grows.at
on_went m s (refused n pl) h = tt
on_went m s (fault w) h = tt

-- a step of which only that is known
ends_any : {A : Type 0} (s t : State) (K : A → Type 0) (o : Out A) → t.at ≡ s.at → On t o → ((a : A) → K a) → Ends s K o
ends_any {A} s t K (ok a u) e h k = go (dec_lt s.at u.at)
  where
    go : Dec (s.at < u.at) → Ends s K (ok a u)
    go (yes p) = inl p
    go (no p) = inr (omega arith, k a)
ends_any s t K (refused n pl) e h k = tt
ends_any s t K (fault w) e h k = tt

ends_then : {A B : Type 0} (s : State) (J : A → Type 0) (K : B → Type 0) (o : Out A) (f : A → State → Out B) → Ends s J o →
    ((a : A) (t : State) → On t (f a t)) → ((a : A) (t : State) → t.at ≡ s.at → J a → Ends s K (f a t)) → Ends s K (and_then o f)
unfolding and_then
ends_then {B = B} s J K (ok a t) f (inl h) g k = go (f a t) (g a t)
  where
    go : (o : Out B) → On t o → Ends s K o
    go (ok b u) l = inl (omega arith)
    go (refused n pl) l = tt
    go (fault w) l = tt
ends_then s J K (ok a t) f (inr h) g k = k a t h.0 h.1
ends_then s J K (refused n pl) f h g k = tt
ends_then s J K (fault w) f h g k = tt

ends_test : {A : Type 0} (s : State) (K : A → Type 0) (b : Bool) (k l : Unit {0} → Out A) →
    (b ≡ true → Ends s K (k tt)) → (b ≡ false → Ends s K (l tt)) → Ends s K (choose b k l)
unfolding choose
ends_test s K true k l h g = h refl
ends_test s K false k l h g = g refl

-- a bump comes further where a token is seen
ends_bump : (i : In) (s t : State) (K : Unit {0} → Type 0) (o : Out (Unit {0})) → bump_at i t ≡ o → t.at ≡ s.at → On t o → (nth_at i 0 s ≡ Eof → K tt) → Ends s K o
unfolding nth_at
ends_bump i s t K (ok u v) q e h k = go (eqb (nth_at i 0 s) Eof) refl
  where
    go : (b : Bool) → eqb (nth_at i 0 s) Eof ≡ b → Ends s K (ok u v)
    go true z = ends_any s t K (ok u v) e h (λ x. k (eqb-true _ _ z))
    go false z =
        let l = seen i.kinds t.at (λ x. eqb-false (nth_at i 0 s) Eof z (rw (sym e) x)) in
        inl (omega (arith, bump_end i t v u l q, skipped_ge i.kinds t.at))
ends_bump i s t K (refused n pl) q e h k = tt
ends_bump i s t K (fault w) q e h k = tt

module _ (i : In) (d : ℕ) where
  on_run : {A : Type 0} (m : ℕ) (p : Prog A) (s : State) → On s (eval i (call grammar i d) m p s)
  on_run m p s = on_went m s (eval i (call grammar i d) m p s) (went grammar i d m p s)

  on_turn : {A B : Type 0} (m : ℕ) (f : A → Prog (A ⊎ B)) (s : State) (x : A ⊎ B) (t : State) →
      On t (turn i s (λ b u. eval i (call grammar i d) m (repeat f b) u) x t)
  unfolding turn choose
  on_turn {B = B} m f s (inl a) t = go (ltb (left i t) (left i s))
    where
      go : (b : Bool) → On t (choose {A = B} b (λ u. eval i (call grammar i d) m (repeat f a) t) (λ u. fault never_ends))
      go true = on_run m (repeat f a) t
      go false = tt
  on_turn m f s (inr b) t = omega arith

  ends_turn : {A B : Type 0} (s t : State) (K : B → Type 0) (k : A → State → Out B) → t.at ≡ s.at →
      (x : A ⊎ B) (u : State) → u.at ≡ s.at → Again K x → Ends s K (turn i t k x u)
  unfolding turn choose left
  ends_turn s t K k e (inl a) u g h = rw (le-ltb (left i u) (left i t) (omega arith)) tt
  ends_turn s t K k e (inr b) u g h = inr (g, h)

  -- what is to be shown of the rules is enough
  abbrev Holds : State → Entered → Type 1
  Holds s C = (r : Rule) (K : ℕ → Type 0) (t : State) → t.at ≡ s.at → C r K → Ends s K (call grammar i d r t)

  ends : {A : Type 0} (s : State) (C : Entered) → Holds s C → (m : ℕ) (p : Prog A) (K : A → Type 0) (t : State) → t.at ≡ s.at →
      Stays i s C p K → Ends s K (eval i (call grammar i d) m p t)
  unfolding eval Stays nth_at glued_at here_at
  ends s C h m (done a) K t e x = inr (e, x)
  ends s C h m (seq p f) K t e x =
      ends_then s (λ a. Stays i s C (f a) K) K (eval i (call grammar i d) m p t) _ (ends s C h m p (λ a. Stays i s C (f a) K) t e x)
      (λ a u. on_run m (f a) u) (λ a u g y. ends s C h m (f a) K u g y)
  ends s C h m (nth n) K t e x = inr (e, rw e x)
  ends s C h m glued K t e x = inr (e, rw e x)
  ends s C h m here K t e x = inr (e, rw e x)
  ends s C h m flush K t e x = ends_any s t K (flush_at i t) e (on_run m flush t) (λ u. x)
  ends s C h m bump K t e x = ends_bump i s t K (bump_at i t) refl e (on_run m bump t) x
  ends s C h m (scope f) K t e x =
      let J : Unit {0} → Type 0 = λ u. (c : Mark) → Stays i s C (f c) K in
      ends_then s J K (flush_at i t) _ (ends_any s t J (flush_at i t) e (on_run m flush t) (λ u. x))
      (λ a u. on_run (length u.out) (f (mark (length u.out))) u)
      (λ a u g y. ends s C h (length u.out) (f (mark (length u.out))) K u g (y (mark (length u.out))))
  ends s C h m (close c k) K t e x = ends_any s t K (choose (eqb c.row m) _ _) e (on_run m (close c k) t) (λ u. x)
  ends s C h m (stop n pl) K t e x = tt
  ends s C h m (enter r) K t e x = h r K t e x
  ends s C h m (test b p q) K t e x = ends_test s K b _ _ (λ z. ends s C h m p K t e (x.0 z)) (λ z. ends s C h m q K t e (x.1 z))
  ends s C h m (repeat f a) K t e x =
      rw (unroll i (call grammar i d) m f a t)
      (ends_then s (Again K) K (eval i (call grammar i d) m (f a) t) _ (ends s C h m (f a) (Again K) t e x)
      (on_turn m f t) (ends_turn s t K _ e))

  holds_any : (s : State) → Holds s Any
  unfolding Any eval
  holds_any s r K t e x = ends_any s t K (call grammar i d r t) e (on_run 0 (enter r) t) x

holds_deeper : (i : In) (s : State) (C : Entered) → ((d : ℕ) → Holds i d s C) → (d : ℕ) → Holds i d s (Deeper i s C)
unfolding Deeper call
holds_deeper i s C h zero r K t e x = tt
holds_deeper i s C h (suc d) r K t e x = ends i d s C (h d) (length t.out) (grammar r) K t e x

-- what is to be shown of a program is true of its outcome
pub stays : {A : Type 0} (i : In) (d m : ℕ) (p : Prog A) (K : A → Type 0) (s : State) → Stays i s (Deep i s) p K → Ends s K (run i d m p s)
unfolding run
stays i d m p K s x =
    ends i d s (Deep i s) (holds_deeper i s _ (holds_deeper i s Any (λ n. holds_any i n s)) d) m p K s refl x

ends_further : {A : Type 0} (s : State) (o : Out A) → Ends s (λ a. ⊥) o → After Further s o
unfolding Further
ends_further s (ok a t) (inl h) = h
ends_further s (ok a t) (inr h) = absurd h.1
ends_further s (refused n pl) h = tt
ends_further s (fault w) h = tt

-- a program that cannot stay
pub further : {A : Type 0} (i : In) (d m : ℕ) (p : Prog A) (s : State) → Stays i s (Deep i s) p (λ a. ⊥) → After Further s (run i d m p s)
further i d m p s x = ends_further s (run i d m p s) (stays i d m p (λ a. ⊥) s x)

-- a sequence comes further if its first part does, or what follows where the first part ends
module _ {A B : Type 0} (i : In) (d m : ℕ) (p : Prog A) (f : A → Prog B) (s : State) where
  pub first_further : After Further s (run i d m p s) → After Further s (run i d m (seq p f) s)
  unfolding run eval Further
  first_further h =
      ends_further s (run i d m (seq p f) s)
      (ends_then s (λ a. ⊥) (λ b. ⊥) (run i d m p s) _ (go (run i d m p s) h) (λ a t. on_run i d m (f a) t) (λ a t e x. absurd x))
    where
      go : (o : Out A) → After Further s o → Ends s (λ a. ⊥) o
      go (ok a t) l = inl l
      go (refused n pl) l = tt
      go (fault w) l = tt

  pub later_further : (a : A) (t : State) → run i d m p s ≡ ok a t → After Further t (run i d m (f a) t) → After Further s (run i d m (seq p f) s)
  unfolding run eval and_then Further
  later_further a t e h = rw e (go (run i d m (f a) t) (subst (On s) e (on_run i d m p s)) h)
    where
      go : (o : Out B) → s.at ≤ t.at → After Further t o → After Further s o
      go (ok b u) l k = omega arith
      go (refused n pl) l k = tt
      go (fault w) l k = tt

-- ## Where nothing is to be shown

abbrev Free : Entered → Type 1
Free C = (r : Rule) (K : ℕ → Type 0) → ((n : ℕ) → K n) → C r K

module _ (i : In) (s : State) where
  -- every answer will do
  anyway : {A : Type 0} (C : Entered) → Free C → (p : Prog A) (K : A → Type 0) → ((a : A) → K a) → Stays i s C p K
  unfolding Stays
  anyway C c (done a) K k = k a
  anyway C c (seq p f) K k = anyway C c p (λ a. Stays i s C (f a) K) (λ a. anyway C c (f a) K k)
  anyway C c (nth n) K k = k _
  anyway C c glued K k = k _
  anyway C c here K k = k _
  anyway C c flush K k = k tt
  anyway C c bump K k = λ z. k tt
  anyway C c (scope f) K k = λ m. anyway C c (f m) K k
  anyway C c (close m n) K k = k tt
  anyway C c (stop n pl) K k = tt
  anyway C c (enter r) K k = c r K k
  anyway C c (test b p q) K k = (λ z. anyway C c p K k, λ z. anyway C c q K k)
  anyway {A = B} C c (repeat {A = A} f a) K k = anyway C c (f a) (Again K) go
    where
      go : (x : A ⊎ B) → Again K x
      go (inl y) = tt
      go (inr y) = k y

  free_any : Free Any
  unfolding Any
  free_any r K k = k

  free_deeper : (C : Entered) → Free C → Free (Deeper i s C)
  unfolding Deeper
  free_deeper C c r K k = anyway C c (grammar r) K k

  free_one : Free (Deeper i s Any)
  free_one = free_deeper Any free_any

  free_deep : Free (Deep i s)
  free_deep = free_deeper (Deeper i s Any) free_one

-- ## Rules that begin with a token, whatever it is

-- a kind that passes a test which Eof fails, as do the tests of the loops
pub not_eof : (b : ℕ → Bool) (k : ℕ) → b Eof ≡ false → b k ≡ true → k ≡ Eof → ⊥
not_eof b k z h e = false≢true (sym z ∙ (ap b (sym e) ∙ h))

pub path_component_some : (k : ℕ) → is_path_component k ≡ true → k ≡ Eof → ⊥
unfolding is_path_component among
path_component_some k h = not_eof is_path_component k refl h

pub use_path_some : (k : ℕ) → is_use_path k ≡ true → k ≡ Eof → ⊥
unfolding is_use_path is_path_component among
use_path_some k h = not_eof is_use_path k refl h

pub object_key_some : (k : ℕ) → is_object_key k ≡ true → k ≡ Eof → ⊥
unfolding is_object_key among
object_key_some k h = not_eof is_object_key k refl h

pub glues_some : (a b k g : ℕ) → eqb Eof a ≡ false → glues a b k g ≡ true → k ≡ Eof → ⊥
unfolding glues
glues_some a b k g z h = not_eof (λ j. glues a b j g) k (rw z) h

pub recovering_some : (k j : ℕ) → kind_is_stmt_recovering k j ≡ true → k ≡ Eof → ⊥
unfolding kind_is_stmt_recovering among
recovering_some k j h = not_eof (λ x. kind_is_stmt_recovering x j) k refl h

module _ (i : In) (d m : ℕ) (s : State) (some : nth_at i 0 s ≡ Eof → ⊥) where
  pub bump_further : After Further s (run i d m bump s)
  unfolding Stays
  bump_further = further i d m bump s some

  pub inner_attribute_further : After Further s (run i d m inner_attribute s)
  unfolding Stays inner_attribute
  inner_attribute_further = further i d m inner_attribute s (λ c z. absurd (some z))

  pub attribute_further : After Further s (run i d m attribute s)
  unfolding Stays attribute
  attribute_further = further i d m attribute s (λ c z. absurd (some z))

  pub label_further : After Further s (run i d m label s)
  unfolding Stays label
  label_further = further i d m label s (λ z. absurd (some z))

  pub generics_further : After Further s (run i d m generics s)
  unfolding Stays generics
  generics_further = further i d m generics s (λ c z. absurd (some z))

  pub path_segment_further : After Further s (run i d m path_segment s)
  unfolding Stays path_segment
  path_segment_further = further i d m path_segment s (λ z. absurd (some z))

  pub modifier_pub_further : After Further s (run i d m modifier_pub s)
  unfolding Stays modifier_pub
  modifier_pub_further = further i d m modifier_pub s (λ z. absurd (some z))

  pub pat_object_key_further : After Further s (run i d m pat_object_key s)
  unfolding Stays pat_object_key
  pat_object_key_further = further i d m pat_object_key s (λ z. absurd (some z))

  pub field_further : After Further s (run i d m field s)
  unfolding Stays field push
  field_further = further i d m field s (λ c z. absurd (some z))

  pub item_use_further : After Further s (run i d m item_use s)
  unfolding Stays Deeper item_use grammar item_use_text
  item_use_further = further i d m item_use s (λ z. absurd (some z))

  pub use_item_further : After Further s (run i d m use_item s)
  unfolding Stays Deeper use_item item_use grammar item_use_text
  use_item_further = further i d m use_item s (λ c z. absurd (some z))

  pub use_path_further : After Further s (run i d m use_path s)
  unfolding Stays Deeper use_path use_item item_use grammar item_use_text
  use_path_further = further i d m use_path s (λ c z. absurd (some z))

  pub use_group_further : After Further s (run i d m use_group s)
  unfolding Stays use_group
  use_group_further = further i d m use_group s (λ c z. absurd (some z))

  pub variant_item_further : After Further s (run i d m variant_item s)
  unfolding Stays variant_item
  variant_item_further = further i d m variant_item s (λ c z. absurd (some z))

  pub variant_further : After Further s (run i d m variant s)
  unfolding Stays variant variant_item
  variant_further = further i d m variant s (λ c z. absurd (some z))

  pub else_branch_further : After Further s (run i d m else_branch s)
  unfolding Stays else_branch
  else_branch_further = further i d m else_branch s (λ c z. absurd (some z))

  pub object_field_further : After Further s (run i d m object_field s)
  unfolding Stays object_field
  object_field_further = further i d m object_field s (λ z. absurd (some z))

  pub operator_further : (op : Op) → After Further s (run i d m (operator op) s)
  unfolding Stays operator advance
  operator_further op = further i d m (operator op) s (λ c. (λ e z. absurd (some z), λ e z. absurd (some z)))

-- ## Rules that begin with a token that is looked at

against : {b : Bool} → b ≡ true → b ≡ false → ⊥
against h n = true≢false (sym h ∙ n)

or_first : (a b : Bool) → (a || b) ≡ true → b ≡ false → a ≡ true
or_first true b h n = refl
or_first false b h n = absurd (against h n)

-- the two ways of a test; the first way takes a token, which is seen, since the test fails at Eof
way : {P Q : Type 0} {b : Bool} → (b ≡ true → P) → (b ≡ false → Q) → (b ≡ true → P) × (b ≡ false → Q)
way h g = (h, g)

token : {P Q : Type 0} {b : Bool} {k : ℕ} → (b ≡ true → k ≡ Eof → ⊥) → (b ≡ false → Q) → (b ≡ true → k ≡ Eof → P) × (b ≡ false → Q)
token h g = (λ y z. absurd (h y z), g)

-- the same where the token is taken behind a checkpoint
marked : {P : Mark → Type 0} {Q : Type 0} {b : Bool} {k : ℕ} → (b ≡ true → k ≡ Eof → ⊥) → (b ≡ false → Q) → (b ≡ true → (c : Mark) → k ≡ Eof → P c) × (b ≡ false → Q)
marked h g = (λ y c z. absurd (h y z), g)

among_next : (k x : ℕ) (l : List ℕ) → eqb k x ≡ false → among k (x ∷ l) ≡ among k l
unfolding among
among_next k x l e = rw (e, among)

module _ (i : In) (s : State) where
  path_stays : (C : Entered) (K : Unit {0} → Type 0) → is_path_component (nth_at i 0 s) ≡ true → Stays i s (Deeper i s C) path K
  unfolding Stays Deeper grammar path path_text path_segments while_turn path_segment is_path_component among
  path_stays C K h = λ c. (λ y z. absurd (against y (rw z)), λ n. absurd (against h n))

  -- `#[`, which begins an attribute, comes further; else what follows is looked at with the same kinds seen
  attributes_stays : (C : Entered) (K : Unit {0} → Type 0) → K tt → Stays i s C attributes K
  unfolding Stays attributes attribute while_turn glues
  attributes_stays C K k = (λ y c z. absurd (against y (rw z)), λ n. k)

  pat_kind_stays : (C : Entered) (K : Unit {0} → Type 0) → kind_is_pat (nth_at i 0 s) (glued_at i s) ≡ true →
      Stays i s (Deeper i s C) (pat_kind (nth_at i 0 s) (glued_at i s)) K
  unfolding Stays pat_kind push pat_negative pat_path pat_group pat_parens pat_anonymous kind_is_pat is_path_component is_lit glues among
  pat_kind_stays C K h =
      marked (λ y z. against y (rw z)) (λ n1.
      marked (λ y z. against y (rw z)) (λ n2.
      marked (λ y z. against y (rw z)) (λ n3.
      way (λ y c. path_stays C _ y) (λ n4.
      marked {b = eqb (nth_at i 0 s) K-bracket} (λ y z. against y (rw z)) (λ n5.
      marked {b = eqb (nth_at i 0 s) K-paren} (λ y z. against y (rw z)) (λ n6.
      marked {b = glues K-# K-brace (nth_at i 0 s) (glued_at i s)} (λ y z. against y (rw z)) (λ n7.
      absurd (against h (rw (n4, n1, among_next _ K-underscore _ n3, among_next _ K-paren _ n6, among_next _ K-bracket _ n5, n2, n7))))))))))

  pat_stays : (K : Unit {0} → Type 0) → kind_is_pat (nth_at i 0 s) (glued_at i s) ≡ true → Stays i s (Deep i s) pat K
  unfolding Stays Deeper grammar pat pat_text
  pat_stays K h = λ c. attributes_stays _ _ (pat_kind_stays Any _ h)

  -- one token, or a pattern
  pat_or_rest_stays : (K : Unit {0} → Type 0) → is_pat_or_rest (nth_at i 0 s) (glued_at i s) ≡ true → Stays i s (Deep i s) pat_or_rest K
  unfolding Stays pat_or_rest is_pat_or_rest
  pat_or_rest_stays K h =
      (λ y z. absurd (against y (rw z)), λ n. pat_stays K (or_first _ _ h n))

  select_pat_stays : (K : Unit {0} → Type 0) → is_select_arm (nth_at i 0 s) (glued_at i s) ≡ true → Stays i s (Deep i s) select_pat K
  unfolding Stays select_pat is_select_arm
  select_pat_stays K h =
      (λ y z. absurd (against y (rw z)), λ n. pat_stays _ (or_first _ _ h n))

-- a path component is next
module _ (i : In) (d m : ℕ) (s : State) (h : is_path_component (nth_at i 0 s) ≡ true) where
  pub path_further : After Further s (run i d m path s)
  path_further = further i d m path s (path_stays i s _ _ h)

  pub generic_path_further : After Further s (run i d m generic_path s)
  unfolding Stays generic_path
  generic_path_further = further i d m generic_path s (path_stays i s _ _ h)

  pub impl_path_further : After Further s (run i d m impl_path s)
  unfolding Stays impl_path
  impl_path_further = further i d m impl_path s (λ y. path_stays i s _ _ h, λ n. absurd (against h n))

-- a pattern is next
module _ (i : In) (d m : ℕ) (s : State) (h : kind_is_pat (nth_at i 0 s) (glued_at i s) ≡ true) where
  pub pat_further : After Further s (run i d m pat s)
  pat_further = further i d m pat s (pat_stays i s _ h)

  pub match_case_further : After Further s (run i d m match_case s)
  unfolding Stays match_case
  match_case_further = further i d m match_case s (λ c. pat_stays i s _ h)

  pub match_arm_further : After Further s (run i d m match_arm s)
  unfolding Stays match_arm match_case
  match_arm_further = further i d m match_arm s (λ c. pat_stays i s _ h)

module _ (i : In) (d m : ℕ) (s : State) (h : is_pat_or_rest (nth_at i 0 s) (glued_at i s) ≡ true) where
  pub pat_or_rest_further : After Further s (run i d m pat_or_rest s)
  pat_or_rest_further = further i d m pat_or_rest s (pat_or_rest_stays i s _ h)

  pub pat_item_further : After Further s (run i d m pat_item s)
  unfolding Stays pat_item
  pat_item_further = further i d m pat_item s (pat_or_rest_stays i s _ h)

module _ (i : In) (d m : ℕ) (s : State) (h : is_select_arm (nth_at i 0 s) (glued_at i s) ≡ true) where
  pub select_case_further : After Further s (run i d m select_case s)
  unfolding Stays select_case
  select_case_further = further i d m select_case s (λ c. select_pat_stays i s _ h)

  pub select_arm_further : After Further s (run i d m select_arm s)
  unfolding Stays select_arm select_case
  select_arm_further = further i d m select_arm s (λ c. select_pat_stays i s _ h)

-- ## Expressions: a token is taken, or it is refusal 6 (but not where a statement recovers)

module _ (i : In) (s : State) where
  primary_stays : (C : Entered) (K : ℕ → Type 0) (brace : Brace) (range : Range) → Stays i s (Deeper i s C) (expr_primary brace range ErrorCx) K
  unfolding Stays expr_primary primary_path empty_group expr_tuple_or_group parenthesized block_with block_open bump_if push closure_arguments expr_if expr_while expr_loop expr_for expr_select expr_match range_to recover recovers ranged_by is_lit is_unary glues among
  primary_stays C K brace range = λ c.
      token (λ y z. against y (rw z)) (λ n1.
      way (λ y. path_stays i s C _ y) (λ n2.
      token (λ y z. against y (rw z)) (λ n3.
      token (λ y z. against y (rw z)) (λ n4.
      token (λ y z. against y (rw z)) (λ n5.
      way (λ y. (λ x z. absurd (against y (rw z)), λ n. absurd (against y n))) (λ n6.
      token (λ y z. against y (rw z)) (λ n7.
      marked (λ y z. against y (rw z)) (λ n8.
      marked (λ y z. against y (rw z)) (λ n9.
      token (λ y z. against y (rw z)) (λ n10.
      token (λ y z. against y (rw z)) (λ n11.
      token (λ y z. against y (rw z)) (λ n12.
      token (λ y z. against y (rw z)) (λ n13.
      token (λ y z. against y (rw z)) (λ n14.
      token (λ y z. against y (rw z)) (λ n15.
      token (λ y z. against y (rw z)) (λ n16.
      token (λ y z. against y (rw z)) (λ n17.
      token (λ y z. against y (rw z)) (λ n18.
      token (λ y z. against y (rw z)) (λ n19.
      token (λ y z. against y (rw z)) (λ n20.
      token (λ y z. against y (rw z)) (λ n21.
      token (λ y z. against y (rw z)) (λ n22.
      token (λ y z. against y (rw z)) (λ n23.
      marked (λ y z. against y (rw z)) (λ n24.
      (λ y. absurd (false≢true y), λ n. tt)))))))))))))))))))))))))

  outer_stays : (K : ℕ → Type 0) (brace : Brace) (range : Range) (binary : Binary) → Stays i s (Deep i s) (outer_expr_with brace range binary ErrorCx) K
  unfolding Stays Deeper grammar outer_expr_with outer_expr_with_text
  outer_stays K brace range binary = λ c. primary_stays Any _ brace range

  expr_stays : (K : Unit {0} → Type 0) (brace : Brace) (range : Range) (binary : Binary) → Stays i s (Deep i s) (expr_with brace range binary ErrorCx) K
  unfolding Stays expr_with
  expr_stays K brace range binary = λ m.
      anyway i s _ (free_deep i s) attributes _ (λ a. anyway i s _ (free_deep i s) modifiers _ (λ b. anyway i s _ (free_deep i s) labels _ (λ c.
      outer_stays _ brace range binary)))

module _ (i : In) (d m : ℕ) (s : State) where
  pub outer_expr_with_further : (brace : Brace) (range : Range) (binary : Binary) → After Further s (run i d m (outer_expr_with brace range binary ErrorCx) s)
  outer_expr_with_further brace range binary = further i d m (outer_expr_with brace range binary ErrorCx) s (outer_stays i s _ brace range binary)

  pub expr_with_further : (brace : Brace) (range : Range) (binary : Binary) → After Further s (run i d m (expr_with brace range binary ErrorCx) s)
  expr_with_further brace range binary = further i d m (expr_with brace range binary ErrorCx) s (expr_stays i s _ brace range binary)

  pub expr_further : After Further s (run i d m expr s)
  expr_further = expr_with_further Brace.Yes Range.Yes Binary.Yes

  pub separated_further : (separator : ℕ) → After Further s (run i d m (separated separator) s)
  unfolding Stays separated
  separated_further separator = further i d m (separated separator) s (expr_stays i s _ Brace.Yes Range.Yes Binary.Yes)

  pub empty_group_further : After Further s (run i d m empty_group s)
  unfolding Stays empty_group
  empty_group_further = further i d m empty_group s (λ z. expr_stays i s _ Brace.Yes Range.Yes Binary.Yes)

  -- a statement that stays is refused with 9
  pub stmt_further : After Further s (run i d m stmt s)
  unfolding Stays Deeper grammar stmt stmt_once
  stmt_further =
      further i d m stmt s (anyway i s _ (free_one i s) stmt_text _ (λ a. (λ y. tt, λ n. absurd (eqb-false (here_at i s) (here_at i s) n refl))))

-- ## Links and operators

link_stays : (i : In) (kind : ℕ) (s : State) (K : ℕ → Type 0) → K 0 → Stays i s (Deep i s) (chain_link kind (nth_at i 0 s)) K
unfolding Stays chain_link parenthesized field_link linked
link_stays i kind s K none =
    token (λ y z. against y (rw z)) (λ n1.
    token (λ y z. against y (rw z)) (λ n2.
    token (λ y z. against y (rw z)) (λ n3.
    token (λ y z. against y (rw z)) (λ n4. none))))

step_stays : (i : In) (kind : ℕ) (s : State) → Stays i s (Deep i s) (chain_step kind) (λ b. eqb b 0 ≡ true)
unfolding Stays chain_step
step_stays i kind s = λ c. link_stays i kind s _ (λ y. refl, λ n. absurd (true≢false n))

-- a link that is one comes further
pub chain_link_further : (i : In) (d m kind : ℕ) (s t : State) (a : ℕ) → run i d m (chain_link kind (nth_at i 0 s)) s ≡ ok a t → eqb a 0 ≡ false → Further s t
unfolding Further
chain_link_further i d m kind s t a e h = go (subst (Ends s (λ b. eqb b 0 ≡ true)) e (stays i d m (chain_link kind (nth_at i 0 s)) _ s (link_stays i kind s _ refl)))
  where
    go : Ends s (λ b. eqb b 0 ≡ true) (ok a t) → s.at < t.at
    go (inl l) = l
    go (inr k) = absurd (against k.1 h)

-- so does a step of a chain that has a link
pub chain_step_further : (i : In) (d m kind : ℕ) (s t : State) (a : ℕ) → run i d m (chain_step kind) s ≡ ok a t → eqb a 0 ≡ false → Further s t
unfolding Further
chain_step_further i d m kind s t a e h = go (subst (Ends s (λ b. eqb b 0 ≡ true)) e (stays i d m (chain_step kind) _ s (step_stays i kind s)))
  where
    go : Ends s (λ b. eqb b 0 ≡ true) (ok a t) → s.at < t.at
    go (inl l) = l
    go (inr k) = absurd (against k.1 h)

-- an operator that binds tighter is one, and binds enough
tighter_some : (op ahead : Op) → is_tighter op ahead ≡ true → is_none ahead ≡ false
unfolding is_tighter is_none
tighter_some op ahead h = let l = ltb-true op.binding ahead.binding h in ne_eqb ahead.binding 0 (λ z. omega arith)

tighter_below : (op ahead : Op) → is_tighter op ahead ≡ true → is_below (op.binding + 1) ahead ≡ false
unfolding is_tighter is_below
tighter_below op ahead h =
    let l = ltb-true op.binding ahead.binding h in
    le-ltb ahead.binding (op.binding + 1) (omega arith)

-- an operator is a token
module _ (i : In) (s : State) where
  abbrev pub operator_at : Op
  operator_at = from_slice (nth_at i 0 s) (nth_at i 1 s)

  not_none : is_none operator_at ≡ false → nth_at i 0 s ≡ Eof → ⊥
  unfolding is_none from_slice binding_in bindings among
  not_none h z = false≢true (sym h ∙ (rw z))

  -- (which `operator_further` asks for, where a turn goes on)
  pub operator_some : (op : Op) → op ≡ operator_at → is_none op ≡ false → nth_at i 0 s ≡ Eof → ⊥
  operator_some op e h = not_none (rw e at h)

  binary_stays : (K : Bool → Type 0) (op : Op) (least : ℕ) (brace : Brace) (cx : ExprCx) → op ≡ operator_at → is_none op ≡ false → is_below least op ≡ false →
      Stays i s (Deep i s) (expr_binary op least brace cx) K
  unfolding Stays Deeper grammar expr_binary expr_binary_text binary_turn operator advance
  binary_stays K op least brace cx e h g = (
    λ y. absurd (against y h),
    λ n. (
      λ y. absurd (against y g),
      λ k c.
          (λ y z. absurd (operator_some op e h z), λ y z. absurd (operator_some op e h z)),
    ),
  )

module _ (i : In) (d m : ℕ) (s : State) (op : Op) (brace : Brace) (cx : ExprCx) where
  pub expr_binary_further : (least : ℕ) → op ≡ operator_at i s → is_none op ≡ false → is_below least op ≡ false →
      After Further s (run i d m (expr_binary op least brace cx) s)
  expr_binary_further least e h g = further i d m (expr_binary op least brace cx) s (binary_stays i s _ op least brace cx e h g)

  pub nest_further : (c : Mark) (ahead : Op) → ahead ≡ operator_at i s → is_tighter op ahead ≡ true → After Further s (run i d m (nest c op ahead brace cx) s)
  unfolding Stays nest
  nest_further c ahead e h =
      further i d m (nest c op ahead brace cx) s
      (binary_stays i s _ ahead (op.binding + 1) brace cx e (tighter_some op ahead h) (tighter_below op ahead h))
