-- expr_binary on the operators of a shape, by induction over the shape: acceptance and refusal at once, and the depth that it takes.
-- Assumes nothing.
use Prim.Native.Nat.{ℕ, zero, suc, ◌+◌, ◌≤◌, ◌<◌}
use Rattle.std.specs.Prelude.{◌≡◌, Bool, true, false, cond, ◌&&◌, leb, ltb, eqb}
use Rattle.std.proofs.Math.Path.{refl, subst}
use Rattle.std.proofs.Common.{sym, inl, arith, length-append, lt-ltb, le-ltb, ltb-true, leb-true, ne_eqb}
use Rattle.std.proofs.Math.Bool.{not}
use mathlib.Core.List.{List, [], ◌∷◌, ◌++◌, append_assoc}
use Rattle.std.proofs.Math.ListN.{length}
use Rattle.definition.specs.Kinds.{ExprBinary, ExprOperator}
use Rattle.definition.specs.Classes.{among}
use Rattle.definition.specs.Modes.{Brace, ExprCx}
use Rattle.definition.specs.Operators.{Op, bindings, binding_in, associative, is_none, is_below, is_tighter, clashes}
use Rattle.definition.specs.Prog.{mark, loop}
use Rattle.definition.specs.Grammar.{grammar, operator, operand, nest, tighter_turn, binary_turn, expr_binary_text, expr_binary, outer_expr_with}
use Rattle.trees.specs.Forest.{Tok, Forest, ◌⊕◌, size, leaves, leafs, app_none, app_assoc, size_app, leaves_app, leafs_size, leafs_leaves}
use Rattle.lines.specs.Line.{Item, All, Head, Proper, sign_toks, rest_toks, bind, Links, end, link, flatten, Tighter}
use Rattle.lines.specs.LineKinds.{every, every_in}
use Rattle.lines.specs.LineTree.{sign_f, around, links_f, place}
use Rattle.lines.proofs.Grouping.{Verdict, fine, clash, past, or_else, neighbour, judge, Shape, Loose, all_map, all_back, head_map}
use Rattle.lines.specs.Writes.{Job, At, Got, got, halt, Runs, at_on, at_leafs, at_as, count, seq_ok, seq_no, test_yes, test_no, done_ok, stop_no, loop_end, loop_no, loop_more, enter_ok, call_ok, to, halt_to, scope_ok, scope_here, close_ok, here_ok}
use Rattle.lines.proofs.LineSizes.{operand_g, group_f, wrap, plain, rest_app, rest_length_app, rest_length, sign_f_leaves, group_leaves, group_is, operand_length, operand_size, group_around_size, link_size}
use Rattle.lines.proofs.LineRun.{bind_every, bind_pos, operand_solid, sign_solid, Comes, Stands, past_operand, op_of, next_op, look_ok, advance_ok, operand_ok}

-- what a verdict makes of an outcome, where n tokens stand before; and where f has been written before
abbrev pub result : {A : Type 0} → ℕ → Verdict → Got A → Got A
result n fine o = o
result n (clash p a) o = halt 7 (n + place p a)

abbrev pub judged : {A : Type 0} → Forest → Verdict → Got A → Got A
judged f u o = result (length (leaves f)) u o

-- whether a loop has found an operator
abbrev pub any_of : Links → Bool → Bool
any_of end any = any
any_of (link a g l) any = true

any_true : (l : Links) → any_of l true ≡ true
any_true end = refl
any_true (link a g l) = refl

-- ## Depth

-- how many lines of the table bind below x: a nested group costs one entry of depth, and is at least one line further up
unfoldable pub lower : ℕ → List (ℕ × List ℕ) → ℕ
lower x [] = 0
lower x (l ∷ ls) = cond (ltb l.0 x) 1 0 + lower x ls

unfoldable pub rank : ℕ → ℕ
rank x = lower x bindings

lower_mono : (x y : ℕ) (ls : List (ℕ × List ℕ)) → x ≤ y → lower x ls ≤ lower y ls
unfolding lower
lower_mono x y [] h = omega arith
lower_mono x y (l ∷ ls) h = go (ltb l.0 x) refl (lower_mono x y ls h)
  where
    go : (b : Bool) → ltb l.0 x ≡ b → lower x ls ≤ lower y ls → cond b 1 0 + lower x ls ≤ cond (ltb l.0 y) 1 0 + lower y ls
    go true e m = rw (lt-ltb l.0 y (omega (arith, ltb-true l.0 x e))) (omega arith)
    go false e m = omega arith

rank_mono : (x y : ℕ) → x ≤ y → rank x ≤ rank y
unfolding rank
rank_mono x y h = lower_mono x y bindings h

rank_most : (a : Item) → Proper a → (b : ℕ) → b ≤ bind a → rank b ≤ 10
unfolding rank lower every_in every bindings binding_in among
rank_most a p b h = omega (arith, rank_mono b (bind a) h, leb-true (rank (bind a)) 10 (bind_every (λ v. leb (rank v) 10) refl a p))

rank_next : (a : Item) → Proper a → (b : ℕ) → b ≤ bind a → rank b + 1 ≤ rank (bind a + 1)
unfolding rank lower every_in every bindings binding_in among
rank_next a p b h =
    let step = bind_every (λ v. leb (rank v + 1) (rank (v + 1))) refl a p in
    omega (arith, rank_mono b (bind a) h, leb-true (rank (bind a) + 1) (rank (bind a + 1)) step)

-- ## What is written in a turn

-- after an item's operator, after the trivia there, after its operand, and after the group that starts with it
abbrev signed : Forest → Item → Forest
signed f a = f ⊕ sign_f a.sign

abbrev spaced : Forest → Item → Forest
spaced f a = signed f a ⊕ leafs a.gap

abbrev taken : Forest → Item → Forest
taken f a = spaced f a ⊕ operand_g a.operand a.after

abbrev group_of : Item → Links → Forest
group_of a g = group_f a.operand a.after g

abbrev grouped : Forest → Item → Links → Forest
grouped f a g = spaced f a ⊕ around g (group_of a g)

-- its rows
signed_size : (f : Forest) (a : Item) → size (signed f a) ≡ size f + suc (length (sign_toks a.sign))
signed_size f a = simp (size_app, leafs_size) (omega arith)

spaced_size : (f : Forest) (a : Item) → size (spaced f a) ≡ size f + suc (length (sign_toks a.sign) + length a.gap)
spaced_size f a = omega (arith, signed_size f a, size_app (signed f a) (leafs a.gap), leafs_size a.gap)

taken_size : (f : Forest) (a : Item) → size (taken f a) ≡ size f + plain a
taken_size f a = omega (arith, spaced_size f a, operand_size (spaced f a) a.operand a.after)

grouped_size : (f : Forest) (a : Item) (g : Links) → size (grouped f a g) ≡ size f + (plain a + size (links_f g) + wrap g)
grouped_size f a g = omega (arith, spaced_size f a, group_around_size (spaced f a) a.operand a.after g)

-- its tokens; places are counted from the start of an item, of its nested group, and of what follows
spaced_length : (f : Forest) (a : Item) → length (leaves (spaced f a)) ≡ length (leaves f) + place [] a
unfolding place
spaced_length f a = simp (leaves_app, leafs_leaves, length-append) (omega arith)

taken_length : (f : Forest) (a : Item) → length (leaves (taken f a)) ≡ length (leaves f) + length (rest_toks (a ∷ []))
unfolding place
taken_length f a = omega (arith, operand_length (spaced f a) a.operand a.after, spaced_length f a, rest_length a [])

place_past : (p q : List Item) (b : Item) → place (p ++ q) b ≡ length (rest_toks p) + place q b
unfolding place
place_past p q b = omega (arith, rest_length_app p q)

-- what comes next
past_sign : {c : Job} {f : Forest} {a : Item} {x : List Item} → Comes c f (a ∷ x) → At c (signed f a) (a.gap ++ (a.operand ∷ (a.after ++ rest_toks x)))
past_sign {c} {f} {a} {x} k = at_on (sign_f a.sign) rest (subst (λ (z : List Tok). At c f (z ++ rest)) (sym (sign_f_leaves a.sign)) k.at)
  where
    rest : List Tok
    rest = a.gap ++ (a.operand ∷ (a.after ++ rest_toks x))

past_gap : {c : Job} {f : Forest} {a : Item} {x : List Item} → Comes c f (a ∷ x) → Stands c (spaced f a) a.operand a.after x
past_gap {a = a} k =
    record { at = at_leafs a.gap _ (past_sign k); operand = k.proper.0.operand; gap = k.proper.0.after; items = k.proper.1 }

past_group : {c : Job} {f : Forest} {a : Item} (g : Links) {y : List Item} → Comes c f (a ∷ (flatten g ++ y)) → Comes c (grouped f a g) y
past_group {f = f} {a = a} g {y = y} k =
    record { at = at_on (around g (group_of a g)) _ (at_as (past_gap k).at same); proper = all_back Proper (flatten g) y k.proper.1 }
  where
    same : a.operand ∷ (a.after ++ rest_toks (flatten g ++ y)) ≡ leaves (around g (group_of a g)) ++ rest_toks y
    same = simp (group_leaves, rest_app, append_assoc)

grouped_length : {c : Job} {f : Forest} {a : Item} (g : Links) (y : List Item) → Comes c f (a ∷ (flatten g ++ y)) →
    length (leaves (grouped f a g)) ≡ length (leaves f) + length (rest_toks (a ∷ flatten g))
grouped_length {a = a} g y k = omega (arith, count (past_group g k).at, count k.at, rest_length_app (a ∷ flatten g) y)

-- ## Tests on operators

some : (a : Item) → Proper a → is_none (op_of a) ≡ false
unfolding is_none
some a h = ne_eqb (bind a) 0 (omega (arith, bind_pos a h))

below : (a : Item) (least : ℕ) → bind a < least → is_below least (op_of a) ≡ true
unfolding is_below
below a least h = lt-ltb (bind a) least h

not_below : (a : Item) (least : ℕ) → least ≤ bind a → is_below least (op_of a) ≡ false
unfolding is_below
not_below a least h = le-ltb (bind a) least h

-- ## The loop, in either mode

abbrev Under : ℕ → Item → Type 0
Under least a = bind a < least

-- where it stands: the shape t comes next, of bindings from b on, and then r, which binds too loosely
pub record Ready (c : Job) (d least b : ℕ) (f : Forest) (t : Links) (r : List Item) : Type 0 where
  pub comes : Comes c f (flatten t ++ r)
  pub shape : Shape t
  pub high : All (λ (a : Item). b ≤ bind a) (flatten t)
  pub low : Head (Under least) r
  pub above : least ≤ b
  pub deep : 12 ≤ d + rank b
  pub room : size f + size (links_f t) ≤ c.most

-- where a turn of it stands: the item a comes next, its nested group g, then l in a's own group, and then r
record Turn (c : Job) (least : ℕ) (f : Forest) (a : Item) (g l : Links) (r : List Item) : Type 0 where
  comes : Comes c f (a ∷ (flatten g ++ (flatten l ++ r)))
  tight : All (Tighter a) (flatten g)
  next : Head (Loose a) (flatten l)
  low : Head (Under least) r
  high : least ≤ bind a
  room : size f + (plain a + size (links_f g) + wrap g) ≤ c.most

module _ (brace : Brace) (cx : ExprCx) where
  -- the loop, where the items x come next
  abbrev Loop : Job → ℕ → ℕ → ℕ → List Item → Bool → Forest → Got Bool → Type 0
  Loop c d m least x any f o = Runs c d m (loop (binary_turn least brace cx) (next_op x, any)) f o

  abbrev pub Sim : Links → Type 0
  Sim t = (c : Job) (any : Bool) (d m least b : ℕ) (f : Forest) (r : List Item) → Ready c d least b f t r →
      Loop c d m least (flatten t ++ r) any f (judged f (judge t) (got (any_of t any) (f ⊕ links_f t)))

  -- the loop behind a's operand, from a forest h on, where the items x come next; its mark is before the operand
  abbrev After : Job → ℕ → Forest → Item → Forest → List Item → Got Op → Type 0
  After c d f a h x o =
      let n = size (spaced f a) in
      Runs c d n (loop (tighter_turn (mark n) (op_of a) brace cx (length (leaves (spaced f a)))) (next_op x)) h o

  sim_end : Sim end
  unfolding judge binary_turn is_none
  sim_end c any d m least b f r q = to (go r q.comes.proper q.low) (sym (app_none f))
    where
      go : (r : List Item) → All Proper r → Head (Under least) r → Loop c d m least r any f (got any f)
      go [] p h = loop_end (test_yes refl done_ok)
      go (a ∷ r) p h = loop_end (test_no (some a p.0) (test_yes (below a least h) done_ok))

  -- ### One turn

  operator_ok : {c : Job} {d m : ℕ} {f : Forest} {a : Item} {x : List Item} → Comes c f (a ∷ x) → size f + plain a ≤ c.most →
      Runs c d m (operator (op_of a)) f (got tt (signed f a))
  unfolding operator
  operator_ok {f = f} {a = a} k room =
      scope_here k.at (sign_solid a.sign _ k.proper.0.sign) (omega arith)
      (seq_ok (advance_ok (bind a) a.sign _ k.at k.proper.0.sign (omega arith))
      (close_ok ExprOperator f (leafs (sign_toks a.sign)) (rw (size_app, leafs_size) (omega arith))))

  -- the operand, and then the loop behind it
  operand_then : {c : Job} {d m : ℕ} {f : Forest} {a : Item} {x : List Item} {o : Got Op} → Comes c f (a ∷ x) → size f + plain a ≤ c.most →
      After c (suc (suc d)) f a (taken f a) x o → Runs c (suc (suc d)) m (operand (op_of a) brace cx) (signed f a) o
  unfolding operand outer_expr_with
  operand_then {f = f} {a = a} k room rest =
      let s = operand_solid a.operand k.proper.0.operand in
      scope_ok a.gap _ (past_sign k) k.proper.0.gap s (omega (arith, signed_size f a))
      (seq_ok (here_ok (past_gap k).at s)
      (seq_ok (enter_ok (operand_ok brace cx (past_gap k) (omega (arith, spaced_size f a))))
      (seq_ok (look_ok (past_operand (past_gap k))) rest)))

  -- a turn, up to a refusal, and up to the operator that is left over
  module _ {c : Job} {d m least : ℕ} {f : Forest} {a : Item} {x : List Item} (any : Bool) (k : Comes c f (a ∷ x)) (high : least ≤ bind a)
      (room : size f + plain a ≤ c.most) where
    turn_no : {n pl : ℕ} → After c (suc (suc d)) f a (taken f a) x (halt n pl) → Runs c (suc (suc d)) m (binary_turn least brace cx (op_of a, any)) f (halt n pl)
    unfolding binary_turn
    turn_no rest =
        test_no (some a k.proper.0) (test_no (not_below a least high) (seq_ok (operator_ok k room) (seq_no (operand_then k room rest))))

    turn_on : {g : Forest} {ahead : Op} → After c (suc (suc d)) f a (taken f a) x (got ahead g) →
        Runs c (suc (suc d)) m (binary_turn least brace cx (op_of a, any)) f (got (inl (ahead, true)) g)
    unfolding binary_turn
    turn_on rest =
        test_no (some a k.proper.0) (test_no (not_below a least high) (seq_ok (operator_ok k room) (seq_ok (operand_then k room rest) done_ok)))

  -- what follows an operand and its group: the loop behind the operand ends, or the neighbour clashes
  tail : {c : Job} {d least : ℕ} {f : Forest} {a : Item} {g : Links} (l : Links) (r : List Item) → Turn c least f a g l r → (h : Forest) →
      After c d f a h (flatten l ++ r) (judged f (neighbour a l) (got (next_op (flatten l ++ r)) h))
  unfolding tighter_turn neighbour is_tighter clashes is_none
  tail end [] k h = loop_end (test_yes refl done_ok)
  tail {a = a} {g = g} end (b ∷ r) k h =
      let p = all_back Proper (flatten g) (b ∷ r) k.comes.proper.1 in
      let lower : bind b < bind a = omega (arith, k.low, k.high) in
      loop_end (test_no (some b p.0) (test_no (le-ltb (bind a) (bind b) (omega arith)) (test_no (rw (ne_eqb (bind a) (bind b) (omega arith))) done_ok)))
  tail {c} {d} {f = f} {a = a} {g = g} (link b g' l) r k h = go (eqb (bind a) (bind b) && not (associative (bind b))) refl
    where
      p : Proper b
      p = (all_back Proper (flatten g) (flatten (link b g' l) ++ r) k.comes.proper.1).0

      go : (z : Bool) → (eqb (bind a) (bind b) && not (associative (bind b))) ≡ z →
          After c d f a h (flatten (link b g' l) ++ r) (judged f (cond z (clash [] a) fine) (got (op_of b) h))
      go true w = halt_to (loop_no (test_no (some b p) (test_no (le-ltb (bind a) (bind b) k.next) (test_yes w stop_no)))) (spaced_length f a)
      go false w = loop_end (test_no (some b p) (test_no (le-ltb (bind a) (bind b) k.next) (test_no w done_ok)))

  -- where the next operator is tighter: the loop is entered again for the group, which is closed
  group : {c : Job} {d least : ℕ} {f : Forest} {a b : Item} {g m l : Links} {r : List Item} → Turn c least f a (link b g m) l r → (u : Verdict) →
      Loop c (suc d) (size (taken f a)) (bind a + 1) (flatten (link b g m) ++ (flatten l ++ r)) false (taken f a)
      (judged (taken f a) u (got true (taken f a ⊕ links_f (link b g m)))) →
      After c (suc (suc d)) f a (taken f a) (flatten (link b g m) ++ (flatten l ++ r))
      (judged (taken f a) u (judged f (neighbour a l) (got (next_op (flatten l ++ r)) (grouped f a (link b g m)))))
  unfolding tighter_turn nest expr_binary grammar expr_binary_text is_tighter
  group {f = f} {a = a} {b = b} {g = g} {m = m} {l = l} {r = r} k fine x =
      let t = link b g m in
      let inside = flatten g ++ flatten m in
      let rest = past_group t k.comes in
      let group-node : size (grouped f a t) ≡ suc (size (spaced f a ⊕ group_of a t)) = simp size_app (omega arith) in
      let more : length (leaves (taken f a)) < length (leaves (grouped f a t)) =
      omega (arith, taken_length f a, grouped_length t (flatten l ++ r) k.comes, rest_length_app (a ∷ []) (flatten t), rest_length b inside) in
      loop_more rest.at more
      (test_no (some b k.comes.proper.1.0)
      (test_yes (lt-ltb (bind a) (bind b) k.tight.0)
      (seq_ok
      (seq_ok (seq_ok (to (enter_ok (call_ok (seq_ok x done_ok))) (group_is (spaced f a) a.operand a.after t)) done_ok)
      (test_yes refl (close_ok ExprBinary (spaced f a) (group_of a t) (omega (arith, k.room, grouped_size f a t, group-node)))))
      (seq_ok (look_ok rest) done_ok))))
      (tail l r k (grouped f a t))
  group {a = a} {b = b} k (clash p e) x =
      loop_no (test_no (some b k.comes.proper.1.0) (test_yes (lt-ltb (bind a) (bind b) k.tight.0)
      (seq_no (seq_no (seq_no (enter_ok (call_ok (seq_no x))))))))

  -- the operators after an operand: a group of the tighter ones, if there are any, then the neighbour
  inner : {c : Job} {d least : ℕ} {f : Forest} {a : Item} (g l : Links) (r : List Item) → Turn c least f a g l r →
      Loop c (suc d) (size (taken f a)) (bind a + 1) (flatten g ++ (flatten l ++ r)) false (taken f a)
      (judged (taken f a) (judge g) (got (any_of g false) (taken f a ⊕ links_f g))) →
      After c (suc (suc d)) f a (taken f a) (flatten g ++ (flatten l ++ r))
      (judged (taken f a) (judge g) (judged f (neighbour a l) (got (next_op (flatten l ++ r)) (grouped f a g))))
  unfolding judge
  inner {c} {d} {f = f} {a = a} end l r k x =
      subst (λ (z : Forest). After c (suc (suc d)) f a (taken f a) (flatten l ++ r) (judged f (neighbour a l) (got (next_op (flatten l ++ r)) z))) plain_group
      (tail l r k (taken f a))
    where
      plain_group : taken f a ≡ grouped f a end
      plain_group = simp app_none
  inner (link b g m) l r k x = group k (judge (link b g m)) x

  -- ### The turns put together

  -- the first of the three verdicts that is a clash decides: that on the nested group, on the neighbour, on the rest
  join : {c : Job} {d m least : ℕ} {f : Forest} {a : Item} {g l : Links} {r : List Item} (any : Bool) → Turn c least f a g l r → (u v w : Verdict) →
      After c (suc (suc d)) f a (taken f a) (flatten g ++ (flatten l ++ r)) (judged (taken f a) u (judged f v (got (next_op (flatten l ++ r)) (grouped f a g)))) →
      Loop c (suc (suc d)) m least (flatten l ++ r) true (grouped f a g) (judged (grouped f a g) w (got (any_of l true) (grouped f a g ⊕ links_f l))) →
      Loop c (suc (suc d)) m least (a ∷ (flatten g ++ (flatten l ++ r))) any f
      (judged f (or_else (past (a ∷ []) u) (or_else v (past (a ∷ flatten g) w))) (got true (f ⊕ links_f (link a g l))))
  unfolding or_else past
  join {f = f} {a = a} any k (clash p e) v w x y =
      halt_to (loop_no (turn_no any k.comes k.high (omega (arith, k.room)) x)) (omega (arith, taken_length f a, place_past (a ∷ []) p e))
  join any k fine (clash p e) w x y = loop_no (turn_no any k.comes k.high (omega (arith, k.room)) x)
  join {c} {d} {m} {least} {f} {a} {g} {l} {r} any k fine fine w x y =
      loop_more (past_group g k.comes).at (omega (arith, long, rest_length a (flatten g)))
      (turn_on any k.comes k.high (omega (arith, k.room)) x) (go w y)
    where
      long : length (leaves (grouped f a g)) ≡ length (leaves f) + length (rest_toks (a ∷ flatten g))
      long = grouped_length g (flatten l ++ r) k.comes

      all : grouped f a g ⊕ links_f l ≡ f ⊕ links_f (link a g l)
      all = simp app_assoc

      go : (w : Verdict) →
          Loop c (suc (suc d)) m least (flatten l ++ r) true (grouped f a g) (judged (grouped f a g) w (got (any_of l true) (grouped f a g ⊕ links_f l))) →
          Loop c (suc (suc d)) m least (flatten l ++ r) true (grouped f a g) (judged f (past (a ∷ flatten g) w) (got true (f ⊕ links_f (link a g l))))
      go fine y = to (rw (any_true l) at y) all
      go (clash p e) y = halt_to y (omega (arith, long, place_past (a ∷ flatten g) p e))

  low_on : (a : Item) (least : ℕ) (y r : List Item) → Head (Loose a) y → Head (Under least) r → least ≤ bind a → Head (Under (bind a + 1)) (y ++ r)
  low_on a least [] r h k q = head_map (Under least) (Under (bind a + 1)) (λ b w. omega arith) r k
  low_on a least (b ∷ y) r h k q = omega arith

  module _ {c : Job} {d least b : ℕ} {f : Forest} {a : Item} {g l : Links} {r : List Item} (q : Ready c (suc (suc d)) least b f (link a g l) r) where
    -- what a turn asks, and what the loops for the nested group and for the rest ask
    turn_ready : Turn c least f a g l r
    turn_ready =
        record {
          comes = subst (λ (z : List Item). Comes c f (a ∷ z)) (append_assoc (flatten g) (flatten l) r) q.comes;
          tight = q.shape.0;
          next = q.shape.2;
          low = q.low;
          high = omega (arith, q.high.0, q.above);
          room = omega (arith, q.room, link_size a g l);
        }

    group_ready : Ready c (suc d) (bind a + 1) (bind a + 1) (taken f a) g (flatten l ++ r)
    group_ready =
        record {
          comes = past_operand (past_gap turn_ready.comes);
          shape = q.shape.1;
          high = all_map (Tighter a) (λ (x : Item). bind a + 1 ≤ bind x) (λ x h. omega arith) (flatten g) q.shape.0;
          low = low_on a least (flatten l) r q.shape.2 q.low turn_ready.high;
          above = omega arith;
          deep = omega (arith, q.deep, rank_next a turn_ready.comes.proper.0 b q.high.0);
          room = omega (arith, turn_ready.room, taken_size f a);
        }

    rest_ready : Ready c (suc (suc d)) least b (grouped f a g) l r
    rest_ready =
        record {
          comes = past_group g turn_ready.comes;
          shape = q.shape.3;
          high = all_back (λ (x : Item). b ≤ bind x) (flatten g) (flatten l) q.high.1;
          low = q.low;
          above = q.above;
          deep = q.deep;
          room = omega (arith, q.room, link_size a g l, grouped_size f a g);
        }

  step : (a : Item) (g l : Links) → Sim g → Sim l → Sim (link a g l)
  unfolding judge
  step a g l ig il c any d m least b f r q = go d q
    where
      few : {d : ℕ} → Ready c d least b f (link a g l) r → d < 2 → ⊥
      few q h = omega (arith, q.deep, rank_most a q.comes.proper.0 b q.high.0)

      go : (d : ℕ) → Ready c d least b f (link a g l) r →
          Loop c d m least (flatten (link a g l) ++ r) any f (judged f (judge (link a g l)) (got true (f ⊕ links_f (link a g l))))
      go zero q = absurd (few q (omega arith))
      go (suc zero) q = absurd (few q (omega arith))
      go (suc (suc d)) q =
          let x = ig c false (suc d) (size (taken f a)) (bind a + 1) (bind a + 1) (taken f a) (flatten l ++ r) (group_ready q) in
          let y = il c true (suc (suc d)) m least b (grouped f a g) r (rest_ready q) in
          join any (turn_ready q) (judge g) (neighbour a l) (judge l) (inner g l r (turn_ready q) x) y

  pub sim : (t : Links) → Sim t
  sim end = sim_end
  sim (link a g l) = step a g l (sim g) (sim l)
