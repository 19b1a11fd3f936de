-- What the grammar's rules do on the parts of an operator line: an operator's tokens, and an operand.
-- Assumes nothing.
use Rattle.std.specs.Prelude.{ℕ, suc, ◌+◌, ◌≤◌, ◌<◌, ◌≡◌, Bool, true, false, not, cond, ◌&&◌, ◌⊎◌, List, [], ◌∷◌, ◌++◌, length, leb}
use Rattle.std.proofs.Math.Path.{refl}
use Rattle.std.proofs.Common.{ap, subst, sym, ◌∙◌, inl, inr, append_assoc, arith, eqb-true, leb-true}
use Rattle.std.proofs.Math.ListN.{length-append}
use Rattle.std.proofs.Math.Dec.{eqb}
use Rattle.std.proofs.lemmas.Bool.{not-true}
use Rattle.definition.specs.Kinds.{Eof, K-ident, K-is, K-not, K-bracket, K-paren, K-brace, K-!, K-?, K-dot, K-=, tokens, Lit, Path}
use Rattle.definition.specs.Classes.{among, is_assigned, treated, is_trivia, is_lit, is_path_component, is_range, glues, braced_by, linked}
use Rattle.definition.specs.Modes.{Brace, Range, Binary, ExprCx, is_ranged, is_binary}
use Rattle.definition.specs.Operators.{Op, bindings, binding_in, from_slice}
use Rattle.definition.specs.Tape.{glued_at}
use Rattle.definition.specs.Prog.{Prog, Mark, mark, done, nth, ret, ◌>>=◌, if◌then◌otherwise◌, outer_rule}
use Rattle.definition.specs.Grammar.{grammar, lookahead, advance, path, path_text, path_segments, path_segment, while_turn, expr_primary, primary_path, expr_chain, chain_turn, chain_step, chain_link, outer_binary, expr_range, outer_expr_with_text}
use Rattle.trees.specs.Forest.{Tok, Forest, none, leaf, node, ◌⊕◌, size, st, leafs, app_assoc, size_app, leaves_app, leafs_leaves}
use Rattle.lines.specs.Line.{Sign, one, is_not, Item, All, Head, Gap, is_operand, is_operator, Operand, Operator, Proper, sign_toks, rest_toks, key, bind}
use Rattle.lines.specs.LineKinds.{every, operands, operand_every, every_in, operator_every}
use Rattle.lines.specs.LineTree.{operand_f}
use Rattle.lines.proofs.LineSizes.{operand_g}
use Rattle.lines.specs.Writes.{Solid, Job, input, At, Got, got, Runs, Enters, Sees, sees_gap, sees_zero, sees_suc, sees_end, sees_to, sees_as, at_on, at_leafs, at_as, seq_ok, test_yes, test_no, done_ok, loop_end, loop_more, enter_ok, call_ok, to, scope_ok, scope_here, bump_ok, bump_here, close_ok, nth_ok, glued_ok}

-- ## Kinds
-- Each test of the grammar is decided at an operand, or where one ends, by computing it at the names of 01.

-- no operand's kind passes the test
pub operand_never : (P : ℕ → Bool) → every (λ k. not (P k)) operands ≡ true → (t : Tok) → Operand t → P t.kind ≡ false
operand_never P e t h = not-true (P t.kind) (operand_every (λ k. not (P k)) e t.kind h)

-- an operand ends before an operator and at the end of the tokens
abbrev pub Ends : ℕ → Type 0
Ends k = (k ≡ Eof) ⊎ (is_operator k ≡ true)

pub ends_never : (P : ℕ → Bool) → P Eof ≡ false → every_in (λ k. not (P k)) bindings ≡ true → {k : ℕ} → Ends k → P k ≡ false
ends_never P z e (inl q) = ap P q ∙ z
ends_never P z e {k} (inr h) = not-true (P k) (operator_every (λ k. not (P k)) e k h)

pub operand_solid : (t : Tok) → Operand t → Solid t
unfolding every is_trivia among
operand_solid = operand_never is_trivia refl

operator_solid : (t : Tok) → is_operator t.kind ≡ true → Solid t
unfolding every_in every bindings is_trivia among
operator_solid t h = not-true _ (operator_every (λ k. not (is_trivia k)) refl t.kind h)

-- both are seen as they are
operand_treated : (t : Tok) → Operand t → treated t.kind ≡ t.kind
unfolding every treated is_assigned among tokens
operand_treated t h = eqb-true _ _ (operand_every (λ k. eqb (treated k) k) refl t.kind h)

operator_treated : (t : Tok) → is_operator t.kind ≡ true → treated t.kind ≡ t.kind
unfolding every_in every bindings treated is_assigned among tokens
operator_treated t h = eqb-true _ _ (operator_every (λ k. eqb (treated k) k) refl t.kind h)

pub operand_sees : {t : Tok} {r : List Tok} → Operand t → Sees 0 (t ∷ r) t.kind
operand_sees {t} h = sees_to (sees_zero (operand_solid t h)) (operand_treated t h)

operator_sees : {t : Tok} {r : List Tok} → is_operator t.kind ≡ true → Sees 0 (t ∷ r) t.kind
operator_sees {t} h = sees_to (sees_zero (operator_solid t h)) (operator_treated t h)

-- ## An operator's tokens

-- the first of them is a member of 01's table
pub key_operator : (s : Sign) → Operator s → is_operator (key s) ≡ true
unfolding is_operator binding_in bindings among
key_operator (one t) h = h
key_operator (is_not t g u) h = rw h.0

-- a property of every binding, by computing it at the names of the table
pub bind_every : (P : ℕ → Bool) → every_in (λ k. P (binding_in k bindings)) bindings ≡ true → (a : Item) → Proper a → P (bind a) ≡ true
unfolding bind
bind_every P e a h = operator_every (λ k. P (binding_in k bindings)) e (key a.sign) (key_operator a.sign h.sign)

pub bind_pos : (a : Item) → Proper a → 0 < bind a
unfolding every_in every bindings binding_in among
bind_pos a h = leb-true 1 (bind a) (bind_every (λ b. leb 1 b) refl a h)

pub bind_most : (a : Item) → Proper a → bind a ≤ 13
unfolding every_in every bindings binding_in among
bind_most a h = leb-true (bind a) 13 (bind_every (λ b. leb b 13) refl a h)

not_solid : (u : Tok) → u.kind ≡ K-not → Solid u
unfolding is_trivia among
not_solid u e = rw e

not_sees : {u : Tok} {r : List Tok} → u.kind ≡ K-not → Sees 0 (u ∷ r) K-not
unfolding treated is_assigned among tokens
not_sees {u} e = sees_to (sees_zero (not_solid u e)) (rw e)

pub sign_solid : (s : Sign) (x : List Tok) → Operator s → Head Solid (sign_toks s ++ x)
sign_solid (one t) x h = operator_solid t h
sign_solid (is_not t g u) x h = operator_solid t (key_operator (is_not t g u) h)

pub rest_solid : (l : List Item) → All Proper l → Head Solid (rest_toks l)
rest_solid [] h = tt
rest_solid (a ∷ l) h = sign_solid a.sign _ h.0.sign

sign_sees : (s : Sign) (x : List Tok) → Operator s → Sees 0 (sign_toks s ++ x) (key s)
sign_sees (one t) x h = operator_sees h
sign_sees (is_not t g u) x h = operator_sees (key_operator (is_not t g u) h)

-- ## What comes next

-- the items l
pub record Comes (c : Job) (f : Forest) (l : List Item) : Type 0 where
  pub at : At c f (rest_toks l)
  pub proper : All Proper l

-- an operand, trivia after it, and then the items l
pub record Stands (c : Job) (f : Forest) (t : Tok) (w : List Tok) (l : List Item) : Type 0 where
  pub at : At c f (t ∷ (w ++ rest_toks l))
  pub operand : Operand t
  pub gap : Gap w
  pub items : All Proper l

pub past_operand : {c : Job} {f : Forest} {t : Tok} {w : List Tok} {l : List Item} → Stands c f t w l → Comes c (f ⊕ operand_g t w) l
past_operand {c} {f} {t} {w} {l} k =
    record {
      at = at_on (operand_g t w) (rest_toks l) (subst (λ (z : List Tok). At c f (t ∷ (z ++ rest_toks l))) (sym (leafs_leaves w)) k.at);
      proper = k.items;
    }

-- the next kind in the items l: an operand before it ends there
record Next (l : List Item) : Type 0 where
  kind : ℕ
  sees : Sees 0 (rest_toks l) kind
  ends : Ends kind

next : (l : List Item) → All Proper l → Next l
next [] h = record { kind = Eof; sees = sees_end; ends = inl refl }
next (a ∷ l) h = record { kind = key a.sign; sees = sign_sees a.sign _ h.0.sign; ends = inr (key_operator a.sign h.0.sign) }

-- an item's operator, and that which comes next
abbrev pub tokens_of : Sign → ℕ
tokens_of (one t) = 1
tokens_of (is_not t g u) = 2

abbrev pub op_of : Item → Op
op_of a = record { binding = bind a; tokens = tokens_of a.sign }

abbrev pub next_op : List Item → Op
next_op [] = record { binding = 0; tokens = 1 }
next_op (a ∷ l) = op_of a

-- the second kind by which it is looked up
record Looked (s : Sign) (rest : List Tok) : Type 0 where
  second : ℕ
  sees : Sees 1 rest second
  found : from_slice (key s) second ≡ record { binding = binding_in (key s) bindings; tokens = tokens_of s }

looked : (s : Sign) (g : List Tok) (x : Tok) (r : List Tok) → Operator s → Gap g → Operand x → Looked s (sign_toks s ++ (g ++ (x ∷ r)))
unfolding from_slice every
looked (one t) g x r h w p =
    record { second = x.kind; sees = sees_suc (operator_solid t h) (sees_gap g w (operand_sees p)); found = ap op (go (eqb t.kind K-is)) }
  where
    op : ℕ → Op
    op n = record { binding = binding_in t.kind bindings; tokens = n }

    go : (b : Bool) → ◌≡◌ {A = ℕ} (cond (b && eqb x.kind K-not) 2 1) 1
    go true = rw (operand_never (λ k. eqb k K-not) refl x p)
    go false = refl
looked (is_not t m u) g x r h w p =
    record { second = K-not; sees = sees_suc (operator_solid t (key_operator (is_not t m u) h)) second; found = rw h.0 }
  where
    second : Sees 0 ((m ++ (u ∷ [])) ++ (g ++ (x ∷ r))) K-not
    second = sees_as (sees_gap m h.1 (not_sees h.2)) (sym (append_assoc m (u ∷ []) (g ++ (x ∷ r))))

-- ## The rules

module _ {c : Job} {d m : ℕ} {f : Forest} where
  pub look_ok : {l : List Item} → Comes c f l → Runs c d m lookahead f (got (next_op l) f)
  unfolding from_slice bindings binding_in among bind
  look_ok {l = []} k = seq_ok (nth_ok k.at sees_end) (seq_ok (nth_ok k.at sees_end) done_ok)
  look_ok {l = b ∷ l} k =
      let h = k.proper.0 in
      let w = looked b.sign b.gap b.operand (b.after ++ rest_toks l) h.sign h.gap h.operand in
      seq_ok (nth_ok k.at (sign_sees b.sign _ h.sign))
      (seq_ok (nth_ok k.at w.sees) (subst (λ (o : Op). Runs c d m (done (from_slice (key b.sign) w.second)) f (got o f)) w.found done_ok))

  pub advance_ok : (b : ℕ) (s : Sign) (rest : List Tok) → At c f (sign_toks s ++ rest) → Operator s → size f + length (sign_toks s) ≤ c.most →
      Runs c d m (advance (record { binding = b; tokens = tokens_of s })) f (got tt (f ⊕ leafs (sign_toks s)))
  unfolding advance
  advance_ok b (one t) rest a h r = test_no refl (bump_here a (sign_solid (one t) rest h) (omega arith))
  advance_ok b (is_not t g u) rest a h r =
      let a' = at_as (at_on (leaf t none) _ a) (append_assoc g (u ∷ []) rest) in
      test_yes refl (seq_ok (bump_here a (sign_solid (is_not t g u) rest h) (omega arith))
      (to (bump_ok g u rest a' h.1 (not_solid u h.2) (rw size_app (omega (arith, length-append g (u ∷ [])))))
      (app_assoc f (leaf t none) (leafs (g ++ (u ∷ []))))))

  -- a path of one identifier
  path_ok : {t : Tok} {w : List Tok} {l : List Item} → Stands c f t w l → t.kind ≡ K-ident → size f + 2 ≤ c.most →
      Runs c (suc d) m path f (got tt (f ⊕ node Path (leaf t none) none))
  unfolding grammar path path_text path_segments path_segment while_turn is_path_component among every every_in bindings
  path_ok {t} {w} {l} k e r =
      seq_ok (enter_ok (call_ok (seq_ok
      (scope_here k.at s (omega arith)
      (seq_ok
      (loop_more b (rw (leaves_app, length-append) (omega arith))
      (seq_ok peeked (test_yes (rw e refl) (seq_ok (seq_ok peeked (seq_ok (bump_here k.at s (omega arith)) (test_no (rw e refl) done_ok))) done_ok)))
      (loop_end (seq_ok (seq_ok (nth_ok b (sees_gap w k.gap n.sees)) done_ok) (test_no (ends_never is_path_component refl refl n.ends) done_ok))))
      (close_ok Path f (leaf t none) (rw size_app (omega arith)))))
      done_ok))) done_ok
    where
      n : Next l
      n = next l k.items

      s : Solid t
      s = operand_solid t k.operand

      b : At c (f ⊕ leaf t none) (w ++ rest_toks l)
      b = at_on (leaf t none) (w ++ rest_toks l) k.at

      -- what a test of the identifier answers
      peeked : {A : Type 0} {m : ℕ} {p : ℕ → A} → Runs c d m (nth 0 >>= λ j. ret (p j)) f (got (p t.kind) f)
      peeked = seq_ok (nth_ok k.at (operand_sees k.operand)) done_ok

-- the node that an operand gets, which is no range
unfoldable pub kind_of : Tok → ℕ
kind_of t = cond (is_lit t.kind) Lit Path

kind_plain : (t : Tok) → is_range (kind_of t) ≡ false
unfolding kind_of is_range among
kind_plain t = go (is_lit t.kind)
  where
    go : (b : Bool) → is_range (cond b Lit Path) ≡ false
    go true = refl
    go false = refl

module _ {c : Job} {d m : ℕ} {f : Forest} {t : Tok} {w : List Tok} {l : List Item} where
  primary_ok : (brace : Brace) (range : Range) (cx : ExprCx) → Stands c f t w l → size f + 2 ≤ c.most →
      Runs c (suc d) m (expr_primary brace range cx) f (got (kind_of t) (f ⊕ operand_f t))
  unfolding expr_primary primary_path kind_of is_path_component is_operand among braced_by glues every every_in bindings
  primary_ok brace range cx k r = go (is_lit t.kind) refl
    where
      n : Next l
      n = next l k.items

      s : Solid t
      s = operand_solid t k.operand

      sees : Sees 0 (t ∷ (w ++ rest_toks l)) t.kind
      sees = operand_sees k.operand

      go : (b : Bool) → is_lit t.kind ≡ b → Runs c (suc d) m (expr_primary brace range cx) f (got (kind_of t) (f ⊕ operand_f t))
      go true e =
          rw e
          (scope_here k.at s (omega arith) (seq_ok (nth_ok k.at sees) (seq_ok glued_ok
          (test_yes e (seq_ok (bump_here k.at s (omega arith)) (seq_ok (close_ok Lit f (leaf t none) (rw size_app (omega arith))) done_ok))))))
      go false e =
          let ident : t.kind ≡ K-ident = eqb-true t.kind K-ident (rw e at k.operand) in
          let b = at_on (node Path (leaf t none) none) (w ++ rest_toks l) k.at in
          let j = glued_at (input c) (st (f ⊕ node Path (leaf t none) none)) in
          rw e
          (scope_here k.at s (omega arith) (seq_ok (nth_ok k.at sees) (seq_ok glued_ok
          (test_no e (test_yes (ap is_path_component ident) (seq_ok (path_ok k ident r) (seq_ok (nth_ok b (sees_gap w k.gap n.sees)) (seq_ok glued_ok
          (test_no (ends_never (λ k. braced_by brace k) refl refl n.ends)
          (test_no (ends_never (λ k. glues K-! K-paren k j) refl refl n.ends)
          (test_no (ends_never (λ k. glues K-! K-brace k j) refl refl n.ends) done_ok)))))))))))

  -- no link follows; the trivia after an operand is written by looking for one
  chain_ok : (b : Mark) (kind : ℕ) → Stands c f t w l → size f + (2 + length w) ≤ c.most →
      Runs c d m (expr_chain b kind) (f ⊕ operand_f t) (got kind (f ⊕ operand_g t w))
  unfolding expr_chain chain_turn chain_step chain_link linked every every_in bindings
  chain_ok b kind k r =
      to (seq_ok (loop_end (seq_ok
      (scope_ok w (rest_toks l) a k.gap (rest_solid l k.items) (rw size_app (omega arith))
      (seq_ok (nth_ok (at_leafs w (rest_toks l) a) n.sees)
      (seq_ok
      (test_no (ends_never (λ k. linked kind K-bracket k) refl refl n.ends) (test_no (ends_never (λ k. linked kind K-paren k) refl refl n.ends)
      (test_no (ends_never (λ k. eqb k K-?) refl refl n.ends) (test_no (ends_never (λ k. eqb k K-dot) refl refl n.ends) done_ok))))
      (test_yes refl done_ok))))
      (test_yes refl done_ok)))
      (seq_ok (test_no refl done_ok) done_ok)) (app_assoc f (operand_f t) (leafs w))
    where
      n : Next l
      n = next l k.items

      a : At c (f ⊕ operand_f t) (w ++ rest_toks l)
      a = at_on (operand_f t) (w ++ rest_toks l) k.at

-- what outer_expr_with does behind its chain where no `=` follows, as its text has it
unfoldable pub outer_rest : Mark → ℕ → Brace → Range → Binary → ExprCx → Prog ℕ
outer_rest c kind brace range binary cx = do
  kind' ← if is_binary binary then outer_binary c kind brace cx otherwise ret kind
  if is_ranged range then expr_range c kind' brace otherwise ret kind'

module _ {c : Job} {d : ℕ} {f : Forest} {t : Tok} {w : List Tok} {l : List Item} where
  -- an operand in outer_expr_with, and then what follows it there
  pub outer_ok : {o : Got ℕ} (brace : Brace) (range : Range) (binary : Binary) (cx : ExprCx) → Stands c f t w l → size f + (2 + length w) ≤ c.most →
      Runs c (suc d) (size f) (outer_rest (mark (size f)) (kind_of t) brace range binary cx) (f ⊕ operand_g t w) o →
      Enters c (suc (suc d)) (outer_rule brace range binary cx) f o
  unfolding grammar outer_expr_with_text outer_rest every every_in bindings
  outer_ok brace range binary cx k r rest =
      let n = next l k.items in
      call_ok (scope_here k.at (operand_solid t k.operand) (omega arith)
      (seq_ok (primary_ok brace range cx k (omega arith))
      (test_no (kind_plain t)
      (seq_ok (chain_ok (mark (size f)) (kind_of t) k r)
      (seq_ok (seq_ok (nth_ok (past_operand k).at n.sees) done_ok) (test_no (ends_never (λ k. eqb k K-=) refl refl n.ends) rest))))))

  -- an operand alone, as it is read after an operator
  pub operand_ok : (brace : Brace) (cx : ExprCx) → Stands c f t w l → size f + (2 + length w) ≤ c.most →
      Enters c (suc (suc d)) (outer_rule brace Range.No Binary.No cx) f (got (kind_of t) (f ⊕ operand_g t w))
  unfolding outer_rest is_ranged is_binary
  operand_ok brace cx k r = outer_ok brace Range.No Binary.No cx k r (seq_ok (test_no refl done_ok) (test_no refl done_ok))
