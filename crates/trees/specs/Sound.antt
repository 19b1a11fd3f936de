-- Sound programs: they write whole trees, close nodes of node kinds alone and over their own checkpoint's mark, never end in a fault, since their loops come
-- further, and are refused with a number of document 01 at a place in the list or at its end.
-- `Sound l m p K`: over the tokens l and under the mark m, p is sound, and its answers are of K. One law for each form of the language; a rule is walked by them
-- (Pieces, Expressions, Rules). A program that closes over its caller's mark is sound under that mark alone.
-- Assumes nothing.
use Prim.Native.Nat.{ℕ, zero, suc, ◌≤◌, ◌<◌}
use Rattle.std.specs.Prelude.{◌≡◌, ◌⊎◌, List, length, leb, ltb, eqb}
use Rattle.std.proofs.Math.Path.{refl}
use Rattle.std.proofs.Math.Bool.{Bool, true, false}
use Rattle.std.proofs.lemmas.Bool.{false≢true}
use Rattle.std.proofs.Common.{inl, inr}
use native.Mathlib.Omega.{arith}
use borrow.Author.Tests.{ltb-true, lt-ltb, leb-true, eqb-false}
use Rattle.definition.specs.Tape.{In, State, Out, ok, refused, fault, and_then, choose, guard, here_at, nth_at, glued_at, leaf_at, leaves_at, flush_at, bump_at, wrote_leaf, wrote_node, close_at}
use Rattle.definition.specs.Prog.{Prog, Mark, mark, done, seq, nth, glued, here, flush, bump, scope, close, stop, enter, test, repeat, Rule, Calls, stmt_rule, item_use_rule, pat_rule, path_rule, outer_rule, binary_rule, left, turn, turns, eval, call}
use Rattle.definition.specs.Grammar.{grammar, while, while_turn}
use Rattle.definition.specs.Parse.{run}
use Rattle.laws.specs.Kept.{After}
use Rattle.laws.specs.Looking.{skipped, skipped_le}
use Rattle.laws.specs.Progress.{Further, operator_at}
use Rattle.trees.specs.Forest.{Tok, kinds, in_of}
use Rattle.trees.specs.Planted.{Plants, plants_same, plants_on, plants_leaf, plants_node, plants_inside}
use Rattle.trees.specs.Root.{Post}

-- a node's kind
abbrev pub Named : ℕ → Type 0
Named k = leb 128 k ≡ true

-- the next token not yet written is one of l, or none is left
abbrev pub Within : List Tok → State → Type 0
Within l s = s.at ≤ length (kinds l)

-- a refusal of the parse, and its place
pub record Refusal (l : List Tok) (n pl : ℕ) : Type 0 where
  pub low : 6 ≤ n
  pub high : n ≤ 11
  pub place : pl ≤ length (kinds l)

-- An outcome from s under the mark m: whole trees of node kinds, with an answer and a state of K; or a refusal; and no fault
abbrev pub Fine : {A : Type 0} → List Tok → ℕ → State → (A → State → Type 0) → Out A → Type 0
Fine l m s K (ok a t) = Plants Named l m s t × Within l t × K a t
Fine l m s K (refused n pl) = Refusal l n pl
Fine l m s K (fault w) = ⊥

-- any answer, any state
abbrev pub Any : {A : Type 0} → A → State → Type 0
Any a t = Unit {0}

-- what a rule asks where it is entered: expr_binary, that its operator is the next one
unfoldable pub Asks : In → Rule → State → Type 0
Asks i stmt_rule s = Unit {0}
Asks i item_use_rule s = Unit {0}
Asks i pat_rule s = Unit {0}
Asks i path_rule s = Unit {0}
Asks i (outer_rule brace range binary cx) s = Unit {0}
Asks i (binary_rule op least brace cx) s = op ≡ operator_at i s

unfoldable pub Entries : List Tok → ℕ → ℕ → Type 0
Entries l n d = (r : Rule) (s : State) → Within l s → Asks (in_of l n) r s → Fine l (length s.out) s Any (call grammar (in_of l n) d r s)

pub record Sound {A : Type 0} (l : List Tok) (m : ℕ) (p : Prog A) (K : A → Type 0) : Type 0 where
  pub fine : (n d : ℕ) → Entries l n d → (s : State) → Within l s → Fine l m s (λ a t. K a) (run (in_of l n) d m p s)

-- sound under the mark c, whatever its answers are for
abbrev pub Under : {A : Type 0} → ℕ → Prog A → Type 1
Under {A} c p = (l : List Tok) (K : A → Type 0) → ((a : A) → K a) → Sound l c p K

-- under any mark
abbrev pub Safe : {A : Type 0} → Prog A → Type 1
Safe p = (c : ℕ) → Under c p

-- ## Outcomes

pub here_within : (l : List Tok) (n : ℕ) (s : State) → Within l s → here_at (in_of l n) s ≤ length (kinds l)
unfolding here_at in_of skipped
here_within l n s w = skipped_le (kinds l) s.at w

module _ (l : List Tok) (n m : ℕ) where
  fine_on : {A : Type 0} (s t : State) (K : A → State → Type 0) (o : Out A) → Plants Named l m s t → Fine l m t K o → Fine l m s K o
  fine_on s t K (ok a u) h g = (plants_on Named l n m s t u h g.0, g.1, g.2)
  fine_on s t K (refused k pl) h g = g
  fine_on s t K (fault w) h g = g

  pub fine_then : {A B : Type 0} (s : State) (J : A → State → Type 0) (K : B → State → Type 0) (o : Out A) (f : A → State → Out B) →
      Fine l m s J o → ((a : A) (t : State) → Within l t → J a t → Fine l m t K (f a t)) → Fine l m s K (and_then o f)
  unfolding and_then
  fine_then s J K (ok a t) f h g = fine_on s t K (f a t) h.0 (g a t h.1 h.2)
  fine_then s J K (refused k pl) f h g = h
  fine_then s J K (fault w) f h g = h

  -- the table is full
  fine_guard : {A : Type 0} (s : State) (K : A → State → Type 0) (b : Bool) (f : Unit {0} → Out A) → Within l s →
      Fine l m s K (f tt) → Fine l m s K (guard b 11 (here_at (in_of l n) s) f)
  unfolding guard
  fine_guard s K true f w h = h
  fine_guard s K false f w h = omega (arith, here_within l n s w)

  pub fine_choose : {A : Type 0} (s : State) (K : A → State → Type 0) (b : Bool) (f g : Unit {0} → Out A) →
      (b ≡ true → Fine l m s K (f tt)) → (b ≡ false → Fine l m s K (g tt)) → Fine l m s K (choose b f g)
  unfolding choose
  fine_choose s K true f g h k = h refl
  fine_choose s K false f g h k = k refl

  pub fine_stay : {A : Type 0} (s : State) (K : A → State → Type 0) (a : A) → Within l s → K a s → Fine l m s K (ok a s)
  fine_stay s K a w k = (plants_same Named l n m s, w, k)

  fine_leaf : (s : State) → Within l s → Fine l m s Any (leaf_at (in_of l n) s)
  unfolding leaf_at in_of wrote_leaf
  fine_leaf s w =
      fine_choose s Any (ltb s.at (length (kinds l))) _ _
      (λ e. let p = ltb-true _ _ e in fine_guard s Any _ _ w (plants_leaf Named l n m s p, omega arith, tt))
      (λ e. fine_stay s Any (tt {0}) w tt)

  fine_leaves : (k : ℕ) (s : State) → Within l s → Fine l m s Any (leaves_at (in_of l n) k s)
  unfolding leaves_at
  fine_leaves zero s w = fine_stay s Any (tt {0}) w tt
  fine_leaves (suc k) s w = fine_then s Any Any (leaf_at (in_of l n) s) _ (fine_leaf s w) (λ u t v z. fine_leaves k t v)

  fine_close : (k : ℕ) (s : State) → Within l s → Named k → Fine l m s Any (close_at (in_of l n) m k s)
  unfolding close_at wrote_node
  fine_close k s w c = fine_guard s Any _ _ w (plants_node Named l n m k s c, w, tt)

  -- what is done under a mark of its own
  pub fine_inside : {A : Type 0} (s : State) (K : A → State → Type 0) (o : Out A) → Fine l (length s.out) s K o → Fine l m s K o
  fine_inside s K (ok a t) h = (plants_inside Named l n m s t h.0, h.1, h.2)
  fine_inside s K (refused k pl) h = h
  fine_inside s K (fault w) h = h

  -- more answers
  fine_map : {A : Type 0} (s : State) (J K : A → State → Type 0) (o : Out A) → ((a : A) (t : State) → J a t → K a t) → Fine l m s J o → Fine l m s K o
  fine_map s J K (ok a t) f h = (h.0, h.1, f a t h.2)
  fine_map s J K (refused k pl) f h = h
  fine_map s J K (fault w) f h = h

  -- what is known besides
  fine_and : {A : Type 0} (s : State) (J K : A → State → Type 0) (o : Out A) → Fine l m s J o → Post K o → Fine l m s (λ a t. J a t × K a t) o
  fine_and s J K (ok a t) h g = (h.0, h.1, (h.2, g))
  fine_and s J K (refused k pl) h g = h
  fine_and s J K (fault w) h g = h

-- a checkpoint, whose mark is the program's
pub fine_scope : {A : Type 0} (l : List Tok) (n d m : ℕ) (K : A → State → Type 0) (f : Mark → Prog A) (s : State) → Within l s →
    ((t : State) → Within l t → Fine l (length t.out) t K (run (in_of l n) d (length t.out) (f (mark (length t.out))) t)) →
    Fine l m s K (run (in_of l n) d m (scope f) s)
unfolding run eval flush_at
fine_scope l n d m K f s w h =
    fine_then l n m s Any K (flush_at (in_of l n) s) _ (fine_leaves l n m _ s w)
    (λ u t v z. fine_inside l n m t K (run (in_of l n) d (length t.out) (f (mark (length t.out))) t) (h t v))

-- ## Programs

module _ {A : Type 0} {l : List Tok} {m : ℕ} {K : A → Type 0} where
  pub s_done : {a : A} → K a → Sound l m (done a) K
  unfolding run eval
  s_done {a} k = record { fine = λ n d E s w. fine_stay l n m s (λ a t. K a) a w k }

  pub s_scope : {f : Mark → Prog A} → ((c : ℕ) → Sound l c (f (mark c)) K) → Sound l m (scope f) K
  s_scope {f} h = record { fine = λ n d E s w. fine_scope l n d m (λ a t. K a) f s w (λ t v. (h (length t.out)).fine n d E t v) }

  pub s_stop : {k pl : ℕ} → leb 6 k ≡ true → leb k 11 ≡ true → pl ≤ length (kinds l) → Sound l m (stop k pl) K
  unfolding run eval
  s_stop {k} a b p = record { fine = λ n d E s w. record { low = leb-true 6 k a; high = leb-true k 11 b; place = p } }

  pub s_test : {b : Bool} {p q : Prog A} → Sound l m p K → Sound l m q K → Sound l m (test b p q) K
  unfolding run eval
  s_test {b} h g = record { fine = λ n d E s w. fine_choose l n m s (λ a t. K a) b _ _ (λ e. h.fine n d E s w) (λ e. g.fine n d E s w) }

  -- (of a test that is passed, the one way)
  pub s_true : {p q : Prog A} → Sound l m p K → Sound l m (test true p q) K
  unfolding run eval choose
  s_true h = record { fine = λ n d E s w. h.fine n d E s w }

pub s_seq : {A B : Type 0} {l : List Tok} {m : ℕ} {K : B → Type 0} {p : Prog A} {f : A → Prog B} → Sound l m p (λ a. Sound l m (f a) K) → Sound l m (seq p f) K
unfolding run eval
s_seq {l = l} {m = m} {K = K} {p = p} {f = f} h =
    record {
      fine = λ n d E s w.
          fine_then l n m s (λ a t. Sound l m (f a) K) (λ a t. K a) (run (in_of l n) d m p s) _ (h.fine n d E s w)
          (λ a t v g. g.fine n d E t v);
    }

-- a program that answers anything of A
said : {A : Type 0} {l : List Tok} {m : ℕ} {K : A → Type 0} {p : Prog A} →
    ((n d : ℕ) → Entries l n d → (s : State) → Within l s → Fine l m s Any (run (in_of l n) d m p s)) → ((a : A) → K a) → Sound l m p K
said {l = l} {m = m} {K = K} {p = p} h k =
    record { fine = λ n d E s w. fine_map l n m s Any (λ a t. K a) (run (in_of l n) d m p s) (λ a t z. k a) (h n d E s w) }

module _ {l : List Tok} {m : ℕ} {K : ℕ → Type 0} where
  pub s_nth : {j : ℕ} → ((k : ℕ) → K k) → Sound l m (nth j) K
  unfolding run eval
  s_nth {j} = said (λ n d E s w. fine_stay l n m s Any (nth_at (in_of l n) j s) w tt)

  pub s_glued : ((k : ℕ) → K k) → Sound l m glued K
  unfolding run eval
  s_glued = said (λ n d E s w. fine_stay l n m s Any (glued_at (in_of l n) s) w tt)

  pub s_here : ((pl : ℕ) → pl ≤ length (kinds l) → K pl) → Sound l m here K
  unfolding run eval
  s_here h = record { fine = λ n d E s w. fine_stay l n m s (λ a t. K a) (here_at (in_of l n) s) w (h _ (here_within l n s w)) }

module _ {l : List Tok} {m : ℕ} {K : Unit {0} → Type 0} where
  pub s_flush : K tt → Sound l m flush K
  unfolding run eval flush_at
  s_flush k = said (λ n d E s w. fine_leaves l n m _ s w) (λ u. k)

  pub s_bump : K tt → Sound l m bump K
  unfolding run eval bump_at
  s_bump k = said (λ n d E s w. fine_leaves l n m _ s w) (λ u. k)

  -- its own mark
  pub s_close : {j : ℕ} → Named j → K tt → Sound l m (close (mark m) j) K
  unfolding run eval
  s_close {j} c k =
      said (λ n d E s w. fine_choose l n m s Any (eqb m m) _ _ (λ e. fine_close l n m j s w c) (λ e. absurd (eqb-false m m e refl))) (λ u. k)

-- a rule that asks nothing
unfoldable pub free : Rule → Bool
free stmt_rule = true
free item_use_rule = true
free pat_rule = true
free path_rule = true
free (outer_rule brace range binary cx) = true
free (binary_rule op least brace cx) = false

free_asks : (i : In) (r : Rule) (s : State) → free r ≡ true → Asks i r s
unfolding free Asks
free_asks i stmt_rule s e = tt
free_asks i item_use_rule s e = tt
free_asks i pat_rule s e = tt
free_asks i path_rule s e = tt
free_asks i (outer_rule brace range binary cx) s e = tt
free_asks i (binary_rule op least brace cx) s e = absurd (false≢true e)

pub s_enter : {l : List Tok} {m : ℕ} {K : ℕ → Type 0} {r : Rule} → free r ≡ true → ((k : ℕ) → K k) → Sound l m (enter r) K
unfolding run eval Entries
s_enter {l} {m} {r = r} e = said (λ n d E s w. fine_inside l n m s Any (call grammar (in_of l n) d r s) (E r s w (free_asks (in_of l n) r s e)))

-- ## Loops

-- a turn from s that asks for another has come further
abbrev Came : {A B : Type 0} → State → A ⊎ B → State → Type 0
Came s (inl a) t = s.at < t.at
Came s (inr b) t = Unit {0}

abbrev pub Moved : {A B : Type 0} → State → Out (A ⊎ B) → Type 0
Moved s o = Post (Came s) o

pub moves_further : {A B : Type 0} (s : State) (o : Out (A ⊎ B)) → After Further s o → Moved s o
unfolding Further
moves_further s (ok (inl a) t) h = h
moves_further s (ok (inr b) t) h = tt
moves_further s (refused n pl) h = tt
moves_further s (fault w) h = tt

-- one that asks for another keeps I; one that leaves the loop answers K
abbrev pub Keeps : {A B : Type 0} → (A → State → Type 0) → (B → State → Type 0) → A ⊎ B → State → Type 0
Keeps I K (inl a) t = I a t
Keeps I K (inr b) t = K b t

module _ {A B : Type 0} (l : List Tok) (n d m : ℕ) (f : A → Prog (A ⊎ B)) (I : A → State → Type 0) (K : B → State → Type 0)
    (h : (a : A) (s : State) → Within l s → I a s → Fine l m s (Keeps I K) (run (in_of l n) d m (f a) s))
    (g : (a : A) (s : State) → I a s → Moved s (run (in_of l n) d m (f a) s)) where
  abbrev i : In
  i = in_of l n

  fine_turn : (s t : State) (x : A ⊎ B) (k : A → State → Out B) → Within l t → Keeps I K x t → Came s x t →
      ((a : A) → left i t < left i s → I a t → Fine l m t K (k a t)) → Fine l m t K (turn i s k x t)
  unfolding turn left choose in_of
  fine_turn s t (inl a) k w x z j =
      let p : left i t < left i s = omega arith in
      rw (lt-ltb (left i t) (left i s) p) (j a p x)
  fine_turn s t (inr b) k w x z j = fine_stay l n m t K b w x

  fine_turns : (j : ℕ) (a : A) (s : State) → Within l s → left i s < j → I a s → Fine l m s K (turns i j (λ b t. run i d m (f b) t) a s)
  unfolding turns
  fine_turns zero a s w p x = absurd (omega arith)
  fine_turns (suc j) a s w p x =
      fine_then l n m s (λ y t. Keeps I K y t × Came s y t) K (run i d m (f a) s) _
      (fine_and l n m s (Keeps I K) (Came s) (run i d m (f a) s) (h a s w x) (g a s x))
      (λ y t v z. fine_turn s t y _ v z.0 z.1 (λ b q k. fine_turns j b t v (omega arith) k))

  -- a loop whose turns keep I
  pub fine_loop : (a : A) (s : State) → Within l s → I a s → Fine l m s K (run i d m (repeat f a) s)
  unfolding run eval
  fine_loop a s w x = fine_turns (suc (left i s)) a s w (omega arith) x

-- what is asked of the answer of a loop's turn
abbrev pub Again : {A B : Type 0} → (B → Type 0) → A ⊎ B → Type 0
Again K (inl a) = Unit {0}
Again K (inr b) = K b

pub s_loop : {A B : Type 0} {l : List Tok} {m : ℕ} {K : B → Type 0} {f : A → Prog (A ⊎ B)} {a : A} → ((a : A) → Sound l m (f a) (Again K)) →
    ((i : In) (d m : ℕ) (a : A) (s : State) → Moved s (run i d m (f a) s)) → Sound l m (repeat f a) K
s_loop {A} {B} {l} {m} {K} {f} {a} h g =
    record {
      fine = λ n d E s w.
          fine_loop l n d m f Any (λ b t. K b)
          (λ b t v z. fine_map l n m t (λ x u. Again K x) _ (run (in_of l n) d m (f b) t) go ((h b).fine n d E t v)) (λ b t z. g (in_of l n) d m b t) a s w tt;
    }
  where
    go : (x : A ⊎ B) (t : State) → Again K x → Keeps Any (λ b t. K b) x t
    go (inl x) t z = tt
    go (inr x) t z = z

-- `while`: v is what its test sees
module _ (q : Prog Bool) (p : Prog (Unit {0})) (v : In → State → Bool) (e : (i : In) (e : Calls) (m : ℕ) (s : State) → eval i e m q s ≡ ok (v i s) s) where
  while_moves : ((i : In) (d m : ℕ) (s : State) → v i s ≡ true → After Further s (run i d m p s)) →
      (i : In) (d m : ℕ) (u : Unit {0}) (s : State) → Moved s (run i d m (while_turn q p u) s)
  unfolding while_turn run eval and_then choose Further
  while_moves g i d m u s = rw (e i (call grammar i d) m s) (go (v i s) (g i d m s))
    where
      more : (o : Out (Unit {0})) → After Further s o → Moved {B = Unit {0}} s (and_then o (λ a t. ok (inl (tt {0})) t))
      more (ok a t) h = h
      more (refused n pl) h = tt
      more (fault w) h = tt

      go : (b : Bool) → (b ≡ true → After Further s (run i d m p s)) →
          Moved {A = Unit {0}} {B = Unit {0}} s (choose b (λ w. and_then (run i d m p s) (λ a t. ok (inl tt) t)) (λ w. ok (inr tt) s))
      go true h = more (run i d m p s) (h refl)
      go false h = tt

  pub s_while : Safe p → ((i : In) (d m : ℕ) (s : State) → v i s ≡ true → After Further s (run i d m p s)) → Safe (while q p)
  unfolding while_turn run
  s_while h g c l K k =
      let sees : (J : Bool → Type 0) → ((b : Bool) → J b) → Sound l c q J =
      λ J j. said (λ n d E s w. rw (e (in_of l n) (call grammar (in_of l n) d) c s) (fine_stay l n c s Any (v (in_of l n) s) w tt)) j in
      s_loop (λ u. s_seq (sees _ (λ b. s_test (s_seq (h c l _ (λ x. s_done tt))) (s_done (k tt))))) (while_moves g)
