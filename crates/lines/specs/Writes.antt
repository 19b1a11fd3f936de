-- The programs of Prog where the state is `st f`: what the forest f has written is in front of what is still to come, `At`. `Runs` is a program's way from one
-- forest to another, with a law for each construct and each move; for any "these tokens give this tree". Nothing here is about lines.
-- Assumes nothing.
use Rattle.std.specs.Prelude.{ℕ, suc, ◌+◌, ◌*◌, ◌≤◌, ◌<◌, ◌≡◌, Bool, true, false, ◌⊎◌, length, get_or, drop}
use Rattle.std.proofs.Math.Path.{refl, ap}
use Rattle.std.proofs.Common.{subst, sym, ◌∙◌, inl, inr, arith, length-append, lt-ltb, eq-eqb}
use mathlib.Core.List.{List, [], ◌∷◌, ◌++◌, append-nil, append_assoc}
use Rattle.std.proofs.Math.Seq.{get_or-append_seam, drop-append_seam}
use Rattle.definition.specs.Kinds.{Eof}
use Rattle.definition.specs.Classes.{is_trivia, treated}
use Rattle.definition.specs.Tape.{In, Row, State, Out, ok, refused, and_then, choose, guard, triv, nth_kind, here_at, nth_at, glued_at, room, wrote_leaf, leaf_at, leaves_at, flush_at, bump_at, start_of, node_over, wrote_node, close_at, width, capacity}
use Rattle.definition.specs.Prog.{Prog, Mark, mark, done, seq, nth, glued, here, flush, bump, scope, close, stop, enter, test, repeat, Rule, Calls, left, turn, eval, call}
use Rattle.definition.specs.Grammar.{grammar}
use Rattle.laws.specs.Unroll.{unroll}
use Rattle.trees.specs.Forest.{Tok, Forest, none, leaf, node, ◌⊕◌, size, bytes, leaves, rows, st, kinds, lens, in_of, kinds_length, lens_length, leafs, leafs_leaves, app_none, app_assoc, size_app, bytes_app, leaves_app, rows_app, rows_length, rows_start, rows_leaves_len}
use Rattle.lines.specs.Line.{Head, Gap}

kinds_app : (x y : List Tok) → kinds (x ++ y) ≡ kinds x ++ kinds y
kinds_app [] y = refl
kinds_app (t ∷ x) y = rw (kinds_app x y)

lens_app : (x y : List Tok) → lens (x ++ y) ≡ lens x ++ lens y
lens_app [] y = refl
lens_app (t ∷ x) y = rw (lens_app x y)

-- ## What is to come

abbrev pub Solid : Tok → Type 0
Solid t = is_trivia t.kind ≡ false

-- a gap, and then no trivia
triv_gap : (g r : List Tok) → Gap g → Head Solid r → triv (kinds (g ++ r)) ≡ length g
unfolding triv
triv_gap [] [] h k = refl
triv_gap [] (t ∷ r) h k = rw (k, triv)
triv_gap (t ∷ g) r h k = rw (h.0, triv) (ap suc (triv_gap g r h.1 k))

-- the n-th kind to come
pub record Sees (n : ℕ) (rest : List Tok) (k : ℕ) : Type 0 where
  pub is : nth_kind n (kinds rest) ≡ k

pub sees_gap : {n k : ℕ} {r : List Tok} (g : List Tok) → Gap g → Sees n r k → Sees n (g ++ r) k
unfolding nth_kind
sees_gap [] h s = s
sees_gap (t ∷ g) h s = record { is = rw (h.0, nth_kind) (sees_gap g h.1 s).is }

pub sees_zero : {t : Tok} {r : List Tok} → Solid t → Sees 0 (t ∷ r) (treated t.kind)
unfolding nth_kind
sees_zero h = record { is = rw (h, nth_kind) }

pub sees_suc : {n k : ℕ} {t : Tok} {r : List Tok} → Solid t → Sees n r k → Sees (suc n) (t ∷ r) k
unfolding nth_kind
sees_suc h s = record { is = rw (h, nth_kind) s.is }

pub sees_end : {n : ℕ} → Sees n [] Eof
unfolding nth_kind
sees_end = record { is = refl }

pub sees_to : {n k j : ℕ} {r : List Tok} → Sees n r k → k ≡ j → Sees n r j
sees_to s e = record { is = s.is ∙ e }

pub sees_as : {n k : ℕ} {r r' : List Tok} → Sees n r k → r ≡ r' → Sees n r' k
sees_as {n} {k} s e = subst (λ (x : List Tok). Sees n x k) e s

-- ## A job, and programs step by step

-- the tokens, the table's elements, and a row count that fits
pub record Job : Type 0 where
  pub toks : List Tok
  pub elems : ℕ
  pub most : ℕ
  pub fit : most ≤ capacity elems

pub fits : (r n : ℕ) → width * r ≤ n → r ≤ 4294967295 → r ≤ capacity n
unfolding capacity
fits r n h k = omega arith

abbrev pub input : Job → In
input c = in_of c.toks c.elems

-- what f has written, and what is to come, are all the tokens
pub record At (c : Job) (f : Forest) (rest : List Tok) : Type 0 where
  pub is : leaves f ++ rest ≡ c.toks

-- an outcome, where every state is that of a forest
pub data Got (A : Type 0) : Type 0 where
  got : A → Forest → Got A
  halt : ℕ → ℕ → Got A

abbrev pub out : {A : Type 0} → Got A → Out A
out (got a f) = ok a (st f)
out (halt n pl) = refused n pl

abbrev pub calls : Job → ℕ → Calls
calls c d = call grammar (input c) d

-- A program with d entries of depth left, under the mark m, goes from a forest to an outcome; so does a rule that is entered. They are records so that
-- the program, the forest and the outcome need not be written where a law is used: antt infers no implicit argument that stands under a shut definition.
pub record Runs {A : Type 0} (c : Job) (d m : ℕ) (p : Prog A) (f : Forest) (o : Got A) : Type 0 where
  pub is : eval (input c) (calls c d) m p (st f) ≡ out o

pub record Enters (c : Job) (d : ℕ) (r : Rule) (f : Forest) (o : Got ℕ) : Type 0 where
  pub is : calls c d r (st f) ≡ out o

module _ {c : Job} {d m : ℕ} {f : Forest} where
  pub seq_ok : {A B : Type 0} {p : Prog A} {q : A → Prog B} {g : Forest} {a : A} {o : Got B} →
      Runs c d m p f (got a g) → Runs c d m (q a) g o → Runs c d m (seq p q) f o
  unfolding eval and_then
  seq_ok {q = q} x y = record { is = ap (λ (z : Out _). and_then z (λ b u. eval (input c) (calls c d) m (q b) u)) x.is ∙ y.is }

  pub seq_no : {A B : Type 0} {p : Prog A} {q : A → Prog B} {n pl : ℕ} → Runs c d m p f (halt n pl) → Runs c d m (seq p q) f (halt n pl)
  unfolding eval and_then
  seq_no {q = q} x = record { is = ap (λ (z : Out _). and_then z (λ b u. eval (input c) (calls c d) m (q b) u)) x.is }

  pub test_yes : {A : Type 0} {b : Bool} {p q : Prog A} {o : Got A} → b ≡ true → Runs c d m p f o → Runs c d m (test b p q) f o
  unfolding eval choose
  test_yes {p = p} {q = q} x y =
      record { is = ap (λ (z : Bool). choose z (λ u. eval (input c) (calls c d) m p (st f)) (λ u. eval (input c) (calls c d) m q (st f))) x ∙ y.is }

  pub test_no : {A : Type 0} {b : Bool} {p q : Prog A} {o : Got A} → b ≡ false → Runs c d m q f o → Runs c d m (test b p q) f o
  unfolding eval choose
  test_no {p = p} {q = q} x y =
      record { is = ap (λ (z : Bool). choose z (λ u. eval (input c) (calls c d) m p (st f)) (λ u. eval (input c) (calls c d) m q (st f))) x ∙ y.is }

  pub done_ok : {A : Type 0} {a : A} → Runs c d m (done a) f (got a f)
  unfolding eval
  done_ok = record { is = refl }

  pub stop_no : {A : Type 0} {n pl : ℕ} → Runs c d m (stop {A = A} n pl) f (halt n pl)
  unfolding eval
  stop_no = record { is = refl }

  pub loop_end : {A B : Type 0} {p : A → Prog (A ⊎ B)} {a : A} {b : B} {g : Forest} →
      Runs c d m (p a) f (got (inr b) g) → Runs c d m (repeat p a) f (got b g)
  unfolding and_then turn
  loop_end {p = p} {a = a} x = record { is = rw (unroll (input c) (calls c d) m p a (st f), x.is) }

  pub loop_no : {A B : Type 0} {p : A → Prog (A ⊎ B)} {a : A} {n pl : ℕ} → Runs c d m (p a) f (halt n pl) → Runs c d m (repeat p a) f (halt n pl)
  unfolding and_then
  loop_no {p = p} {a = a} x = record { is = rw (unroll (input c) (calls c d) m p a (st f), x.is) }

  pub enter_ok : {r : Rule} {o : Got ℕ} → Enters c d r f o → Runs c d m (enter r) f o
  unfolding eval
  enter_ok x = record { is = x.is }

  pub to : {A : Type 0} {p : Prog A} {a : A} {g g' : Forest} → Runs c d m p f (got a g) → g ≡ g' → Runs c d m p f (got a g')
  to {a = a} x y = record { is = x.is ∙ ap (λ (z : Forest). ok a (st z)) y }

  pub halt_to : {A : Type 0} {p : Prog A} {k n n' : ℕ} → Runs c d m p f (halt k n) → n ≡ n' → Runs c d m p f (halt k n')
  halt_to {k = k} x e = record { is = x.is ∙ ap (refused k) e }

st_rows : (f : Forest) → length (st f).out ≡ size f
unfolding st
st_rows f = rows_length 0 f

-- an entered rule's own mark is the row count
pub call_ok : {c : Job} {d : ℕ} {f : Forest} {r : Rule} {o : Got ℕ} → Runs c d (size f) (grammar r) f o → Enters c (suc d) r f o
unfolding call
call_ok {c} {d} {f} {r} x = record { is = ap (λ (n : ℕ). eval (input c) (calls c d) n (grammar r) (st f)) (st_rows f) ∙ x.is }

-- ## The moves

pub at_on : {c : Job} {f : Forest} (h : Forest) (rest : List Tok) → At c f (leaves h ++ rest) → At c (f ⊕ h) rest
at_on h rest a = record { is = rw (leaves_app, append_assoc) a.is }

pub at_leafs : {c : Job} {f : Forest} (x rest : List Tok) → At c f (x ++ rest) → At c (f ⊕ leafs x) rest
at_leafs {c} {f} x rest a = at_on {f = f} (leafs x) rest (subst (λ (z : List Tok). At c f (z ++ rest)) (sym (leafs_leaves x)) a)

-- the rest in another form
pub at_as : {c : Job} {f : Forest} {x y : List Tok} → At c f x → x ≡ y → At c f y
at_as {c} {f} a e = subst (λ (z : List Tok). At c f z) e a

ahead : {c : Job} {f : Forest} {rest : List Tok} → At c f rest → drop (st f).at (input c).kinds ≡ kinds rest
unfolding st in_of
ahead {f = f} {rest = rest} a = rw (← a.is, kinds_app, ← (kinds_length (leaves f))) (drop-append_seam (kinds (leaves f)) (kinds rest))

pub count : {c : Job} {f : Forest} {rest : List Tok} → At c f rest → length c.toks ≡ length (leaves f) + length rest
count {f = f} {rest = rest} a = rw (← a.is) (length-append (leaves f) rest)

state_path : {a a' b b' : ℕ} {o o' : List Row} → a ≡ a' → b ≡ b' → o ≡ o' →
    ◌≡◌ {A = State} (record { at = a; byte = b; out = o }) (record { at = a'; byte = b'; out = o' })
state_path p q o = λ j. record { at = p j; byte = q j; out = o j }

leaf_state : {c : Job} {f : Forest} {t : Tok} {rest : List Tok} → At c f (t ∷ rest) → wrote_leaf (input c) (st f) ≡ st (f ⊕ leaf t none)
unfolding st in_of wrote_leaf
leaf_state {c} {f} {t} {rest} a =
    state_path
    (rw (leaves_app, length-append) (omega arith))
    (rw (len, bytes_app) (omega arith))
    (rw (len, kind, rows_app) (ap (λ (x : ℕ). rows 0 f ++ (record { kind = t.kind; back = 0; start = x; len = t.len } ∷ [])) (omega arith)))
  where
    kind : get_or (kinds c.toks) (length (leaves f)) Eof ≡ t.kind
    kind = rw (← a.is, kinds_app, ← (kinds_length (leaves f))) (get_or-append_seam (kinds (leaves f)) t.kind (kinds rest) Eof)

    len : get_or (lens c.toks) (length (leaves f)) 0 ≡ t.len
    len = rw (← a.is, lens_app, ← (lens_length (leaves f))) (get_or-append_seam (lens (leaves f)) t.len (lens rest) 0)

room_is : (c : Job) (f : Forest) → size f < c.most → room (input c) (st f) ≡ true
unfolding room in_of
room_is c f r = lt-ltb (length (st f).out) (capacity c.elems) (omega (arith, c.fit, st_rows f))

some : {c : Job} {f : Forest} {t : Tok} {rest : List Tok} → At c f (t ∷ rest) → (st f).at < length (input c).kinds
unfolding st in_of
some a = rw kinds_length (omega (arith, count a))

leaf_sim : {c : Job} {f : Forest} {t : Tok} {rest : List Tok} → At c f (t ∷ rest) → size f < c.most →
    leaf_at (input c) (st f) ≡ ok tt (st (f ⊕ leaf t none))
unfolding leaf_at choose guard
leaf_sim {c} {f} a r = rw (lt-ltb (st f).at (length (input c).kinds) (some a), room_is c f r) (ap (ok tt) (leaf_state a))

leaves_sim : {c : Job} (f : Forest) (x rest : List Tok) → At c f (x ++ rest) → size f + length x ≤ c.most →
    leaves_at (input c) (length x) (st f) ≡ ok tt (st (f ⊕ leafs x))
unfolding leaves_at and_then
leaves_sim f [] rest a r = rw app_none
leaves_sim f (t ∷ x) rest a r =
    rw (leaf_sim a (omega arith))
    (leaves_sim (f ⊕ leaf t none) x rest (at_on (leaf t none) (x ++ rest) a) (rw size_app (omega arith))
    ∙ ap (λ (z : Forest). ok tt (st z)) (app_assoc f (leaf t none) (leafs x)))

flush_sim : {c : Job} {f : Forest} (g rest : List Tok) → At c f (g ++ rest) → Gap g → Head Solid rest → size f + length g ≤ c.most →
    flush_at (input c) (st f) ≡ ok tt (st (f ⊕ leafs g))
unfolding flush_at
flush_sim {f = f} g rest a h k r = rw (ahead a, triv_gap g rest h k) (leaves_sim f g rest a r)

bump_sim : {c : Job} {f : Forest} (g : List Tok) (t : Tok) (rest : List Tok) → At c f (g ++ (t ∷ rest)) → Gap g → Solid t → size f + length g < c.most →
    bump_at (input c) (st f) ≡ ok tt (st (f ⊕ leafs (g ++ (t ∷ []))))
unfolding bump_at
bump_sim {c} {f} g t rest a h k r =
    rw (ahead a, triv_gap g (t ∷ rest) h k)
    (subst (λ (n : ℕ). leaves_at (input c) n (st f) ≡ ok tt (st (f ⊕ leafs (g ++ (t ∷ []))))) long
    (leaves_sim f (g ++ (t ∷ [])) rest (at_as a (sym (append_assoc g (t ∷ []) rest))) (rw long (omega arith))))
  where
    long : length (g ++ (t ∷ [])) ≡ suc (length g)
    long = rw length-append (omega arith)

-- a node over h starts where f ends
start_in : (b : ℕ) (h : Forest) (y : ℕ) → y ≡ b + bytes h → start_of (rows b h) y ≡ b
unfolding start_of
start_in b none y e = omega (arith, e)
start_in b (leaf t h) y e = refl
start_in b (node k c h) y e = rows_start b c _ y refl

inside : (f h : Forest) → drop (size f) (st (f ⊕ h)).out ≡ rows (bytes f) h
unfolding st
inside f h = rw (rows_app, ← (rows_length 0 f), drop-append_seam) (ap (λ (x : ℕ). rows x h) (omega arith))

st_byte : (f h : Forest) → (st (f ⊕ h)).byte ≡ bytes f + bytes h
unfolding st
st_byte f h = bytes_app f h

node_row : (k : ℕ) (f h : Forest) → node_over (size f) k (st (f ⊕ h)) ≡ record { kind = k; back = size h; start = bytes f; len = bytes h }
unfolding node_over
node_row k f h = rw (inside f h, rows_length, rows_leaves_len, start_in (bytes f) h (st (f ⊕ h)).byte (st_byte f h))

close_sim : (c : Job) (k : ℕ) (f h : Forest) → size (f ⊕ h) < c.most → close_at (input c) (size f) k (st (f ⊕ h)) ≡ ok tt (st (f ⊕ node k h none))
unfolding close_at guard wrote_node st
close_sim c k f h r =
    rw (room_is c (f ⊕ h) r, node_row k f h)
    (ap (ok tt)
    (state_path
    (rw (leaves_app, leaves_app, append-nil))
    (rw (bytes_app, bytes_app) (omega arith))
    (rw (rows_app, rows_app, append_assoc) (ap (λ (x : ℕ). rows 0 f ++ (rows (0 + bytes f) h ++ (row x ∷ []))) (omega arith)))))
  where
    row : ℕ → Row
    row b = record { kind = k; back = size h; start = b; len = bytes h }

module _ {c : Job} {d m : ℕ} {f : Forest} where
  -- a checkpoint: its program runs after the pending trivia, with and under the mark of the rows so far
  pub scope_ok : {A : Type 0} {p : Mark → Prog A} {o : Got A} (g rest : List Tok) → At c f (g ++ rest) → Gap g → Head Solid rest → size f + length g ≤ c.most →
      Runs c d (size (f ⊕ leafs g)) (p (mark (size (f ⊕ leafs g)))) (f ⊕ leafs g) o → Runs c d m (scope p) f o
  unfolding eval and_then
  scope_ok {p = p} g rest a h k r x =
      record { is = rw (flush_sim g rest a h k r) (ap (λ (n : ℕ). eval (input c) (calls c d) n (p (mark n)) (st (f ⊕ leafs g))) (st_rows (f ⊕ leafs g)) ∙ x.is) }

  -- where no trivia is
  pub scope_here : {A : Type 0} {p : Mark → Prog A} {o : Got A} {rest : List Tok} → At c f rest → Head Solid rest → size f ≤ c.most →
      Runs c d (size f) (p (mark (size f))) f o → Runs c d m (scope p) f o
  scope_here {p = p} {o = o} {rest = rest} a k r x =
      scope_ok [] rest a tt k (omega arith) (subst (λ (z : Forest). Runs c d (size z) (p (mark (size z))) z o) (sym (app_none f)) x)

  pub flush_ok : (g rest : List Tok) → At c f (g ++ rest) → Gap g → Head Solid rest → size f + length g ≤ c.most → Runs c d m flush f (got tt (f ⊕ leafs g))
  unfolding eval
  flush_ok g rest a h k r = record { is = flush_sim g rest a h k r }

  pub flush_here : {rest : List Tok} → At c f rest → Head Solid rest → size f ≤ c.most → Runs c d m flush f (got tt f)
  flush_here {rest} a k r = to (flush_ok [] rest a tt k (omega arith)) (app_none f)

  pub bump_ok : (g : List Tok) (t : Tok) (rest : List Tok) → At c f (g ++ (t ∷ rest)) → Gap g → Solid t → size f + length g < c.most →
      Runs c d m bump f (got tt (f ⊕ leafs (g ++ (t ∷ []))))
  unfolding eval
  bump_ok g t rest a h k r = record { is = bump_sim g t rest a h k r }

  pub bump_here : {t : Tok} {rest : List Tok} → At c f (t ∷ rest) → Solid t → size f < c.most → Runs c d m bump f (got tt (f ⊕ leaf t none))
  bump_here {t} {rest} a k r = bump_ok [] t rest a tt k (omega arith)

  pub nth_ok : {rest : List Tok} {n k : ℕ} → At c f rest → Sees n rest k → Runs c d m (nth n) f (got k f)
  unfolding eval nth_at
  nth_ok a h = record { is = ap (λ (x : ℕ). ok x (st f)) (rw (ahead a) h.is) }

  pub here_ok : {rest : List Tok} → At c f rest → Head Solid rest → Runs c d m here f (got (length (leaves f)) f)
  unfolding eval here_at st
  here_ok {rest} a h = record { is = rw (ahead a, triv_gap [] rest tt h) (ap (λ (x : ℕ). ok x (st f)) (omega arith)) }

  -- whatever is glued to the next one
  pub glued_ok : Runs c d m glued f (got (glued_at (input c) (st f)) f)
  unfolding eval
  glued_ok = record { is = refl }

pub close_ok : {c : Job} {d : ℕ} (k : ℕ) (f h : Forest) → size (f ⊕ h) < c.most → Runs c d (size f) (close (mark (size f)) k) (f ⊕ h) (got tt (f ⊕ node k h none))
unfolding eval choose
close_ok {c} k f h r = record { is = rw (eq-eqb (size f) (size f) refl) (close_sim c k f h r) }

left_less : {c : Job} (f : Forest) {g : Forest} {rest : List Tok} → At c g rest → length (leaves f) < length (leaves g) →
    left (input c) (st g) < left (input c) (st f)
unfolding left st in_of
left_less f q h = rw kinds_length (omega (arith, count q))

-- a turn that wrote a token is followed by the next
pub loop_more : {c : Job} {d m : ℕ} {A B : Type 0} {p : A → Prog (A ⊎ B)} {a b : A} {o : Got B} {f g : Forest} {rest : List Tok} →
    At c g rest → length (leaves f) < length (leaves g) →
    Runs c d m (p a) f (got (inl b) g) → Runs c d m (repeat p b) g o → Runs c d m (repeat p a) f o
unfolding and_then turn choose
loop_more {c = c} {d = d} {m = m} {p = p} {a = a} {f = f} {g = g} q h x y =
    record { is = rw (unroll (input c) (calls c d) m p a (st f), x.is, lt-ltb (left (input c) (st g)) (left (input c) (st f)) (left_less f q h)) y.is }
