-- The rules round expr_binary on an operator line: outer_expr_with, expr, exprs.
-- Assumes nothing.
use Rattle.std.specs.Prelude.{ℕ, suc, ◌+◌, ◌≤◌, ◌<◌, ◌≡◌, true, false, not, List, [], ◌∷◌, ◌++◌, length, eqb}
use Rattle.std.proofs.Math.Path.{refl}
use Rattle.std.proofs.Common.{ap, sym, ◌∙◌, append-nil, arith, ne_eqb}
use Rattle.std.proofs.Math.ListN.{length-append}
use Rattle.definition.specs.Kinds.{K-#, K-bracket, K-label, K-pub, K-const, K-async, K-move, Root, Expr, ExprBinary}
use Rattle.definition.specs.Classes.{is_some, treated, glues}
use Rattle.definition.specs.Modes.{Brace, Range, Binary, ErrorCx, is_ranged, is_binary}
use Rattle.definition.specs.Tape.{glued_at}
use Rattle.definition.specs.Prog.{mark, nth, enter, close, ret, ◌>>=◌, ◌>>◌, if◌then◌otherwise◌, Rule, outer_rule}
use Rattle.definition.specs.Grammar.{grammar, exprs, expr, expr_with, attributes, modifiers, modifiers_turn, labels, while_turn, outer_expr_with, outer_binary, finish, expr_binary, expr_binary_text, expr_range, separated, bump_while, bump_while_turn}
use Rattle.trees.specs.Forest.{Tok, Forest, none, node, ◌⊕◌, size, leaves, st, leafs, size_app, leaves_app, leafs_size, leafs_leaves}
use Rattle.lines.specs.Line.{Item, Line, Proper, ProperLine, rest_toks, spell, bind, Links, end, link, flatten}
use Rattle.lines.specs.LineKinds.{every, operands, operand_every}
use Rattle.lines.specs.LineTree.{around, links_f, line_f}
use Rattle.lines.proofs.Grouping.{Verdict, fine, clash, judge, Shape, all_map}
use Rattle.lines.specs.Writes.{Solid, Job, input, At, got, Runs, Enters, Sees, sees_end, sees_gap, at_on, at_leafs, at_as, seq_ok, seq_no, test_yes, test_no, done_ok, loop_end, loop_no, loop_more, enter_ok, call_ok, to, halt_to, scope_ok, scope_here, flush_here, close_ok, nth_ok, glued_ok}
use Rattle.lines.proofs.LineSizes.{operand_g, group_f, group_is, wrap, group_leaves, operand_length, operand_size, around_size, group_size, group_around_size}
use Rattle.lines.proofs.LineRun.{operand_never, bind_pos, operand_solid, operand_sees, Comes, Stands, past_operand, next_op, look_ok, kind_of, outer_rest, outer_ok}
use Rattle.lines.proofs.LineSim.{result, judged, any_of, Ready, sim}

-- ## outer_expr_with

-- the loop, entered after the first operand with the least binding 0
abbrev Entered : Job → ℕ → ℕ → Links → Forest → Verdict → Type 0
Entered c d m t f u = Runs c d m (expr_binary (next_op (flatten t)) 0 Brace.Yes ErrorCx) f (judged f u (got (any_of t false) (f ⊕ links_f t)))

first_loop : {c : Job} {d m : ℕ} {f : Forest} (t : Links) → Shape t → Comes c f (flatten t) → 12 ≤ d → size f + size (links_f t) ≤ c.most →
    Entered c (suc d) m t f (judge t)
unfolding expr_binary grammar expr_binary_text
first_loop {c} {d} {m} {f} t s k h r = go t (judge t) (rw (append-nil (flatten t)) at (sim Brace.Yes ErrorCx t c false d (size f) 0 1 f [] ready))
  where
    ready : Ready c d 0 1 f t []
    ready =
        record {
          comes = rw (append-nil (flatten t)) k;
          shape = s;
          high = all_map Proper (λ (b : Item). 1 ≤ bind b) bind_pos (flatten t) k.proper;
          low = tt;
          above = omega arith;
          deep = omega arith;
          room = r;
        }

    go : (t : Links) (u : Verdict) →
        Runs c d (size f) (expr_binary_text (next_op (flatten t)) 0 Brace.Yes ErrorCx) f (judged f u (got (any_of t false) (f ⊕ links_f t))) →
        Entered c (suc d) m t f u
    go t (clash p a) x = seq_no (enter_ok (call_ok (seq_no x)))
    go end fine x = seq_ok (enter_ok (call_ok (seq_ok x done_ok))) done_ok
    go (link a g l) fine x = seq_ok (enter_ok (call_ok (seq_ok x done_ok))) done_ok

-- the kind that is answered
abbrev kind_for : Tok → Links → ℕ
kind_for x end = kind_of x
kind_for x (link a g l) = ExprBinary

-- what follows the operand: the loop, and a group where it found an operator; no range at the end
rest_ok : {c : Job} {d : ℕ} {f : Forest} {x : Tok} {w : List Tok} (t : Links) (u : Verdict) → Stands c f x w (flatten t) →
    size f + (2 + length w + size (links_f t) + wrap t) ≤ c.most → Entered c d (size f) t (f ⊕ operand_g x w) u →
    Runs c d (size f) (outer_rest (mark (size f)) (kind_of x) Brace.Yes Range.Yes Binary.Yes ErrorCx) (f ⊕ operand_g x w)
    (judged (f ⊕ operand_g x w) u (got (kind_for x t) (f ⊕ around t (group_f x w t))))
unfolding outer_rest outer_binary expr_range is_ranged is_binary
rest_ok t (clash q b) k r loop = seq_no (test_yes refl (seq_ok (look_ok (past_operand k)) (seq_no loop)))
rest_ok {c} {d} {f} {x} {w} t fine k r loop =
    seq_ok (test_yes refl (seq_ok (look_ok (past_operand k)) (go t r (to loop (group_is f x w t)))))
    (test_yes refl (seq_ok (nth_ok at_end sees_end) (test_no refl (test_no refl done_ok))))
  where
    at_end : At c (f ⊕ around t (group_f x w t)) []
    at_end = at_on (around t (group_f x w t)) [] (at_as k.at (sym (append-nil _ ∙ group_leaves x w t)))

    go : (t : Links) → size f + (2 + length w + size (links_f t) + wrap t) ≤ c.most →
        Runs c d (size f) (expr_binary (next_op (flatten t)) 0 Brace.Yes ErrorCx) (f ⊕ operand_g x w) (got (any_of t false) (f ⊕ group_f x w t)) →
        Runs c d (size f)
        (expr_binary (next_op (flatten t)) 0 Brace.Yes ErrorCx >>= λ any. if any then finish (mark (size f)) ExprBinary otherwise ret (kind_of x))
        (f ⊕ operand_g x w) (got (kind_for x t) (f ⊕ around t (group_f x w t)))
    go end r y = seq_ok y (test_no refl done_ok)
    go (link b g l) r y =
        seq_ok y (test_yes refl (seq_ok (close_ok ExprBinary f (group_f x w (link b g l)) (omega (arith, group_size f x w (link b g l)))) done_ok))

-- as `expr` enters it
abbrev first_rule : Rule
first_rule = outer_rule Brace.Yes Range.Yes Binary.Yes ErrorCx

first_ok : {c : Job} {d : ℕ} {f : Forest} {x : Tok} {w : List Tok} (t : Links) → Shape t → Stands c f x w (flatten t) → 12 ≤ d →
    size f + (2 + length w + size (links_f t) + wrap t) ≤ c.most →
    Enters c (suc (suc d)) first_rule f (judged (f ⊕ operand_g x w) (judge t) (got (kind_for x t) (f ⊕ around t (group_f x w t))))
first_ok {f = f} {x = x} {w = w} t s k h r =
    outer_ok Brace.Yes Range.Yes Binary.Yes ErrorCx k (omega arith)
    (rest_ok t (judge t) k r (first_loop t s (past_operand k) h (omega (arith, operand_size f x w))))

-- ## expr

-- the line's operands and operators; an Expr over them, after the leading trivia
abbrev whole_f : Line → Links → Forest
whole_f l t = around t (group_f l.first l.after t)

abbrev pub expr_f : Line → Links → Forest
expr_f l t = leafs l.lead ⊕ node Expr (whole_f l t) none

pub expr_size : (l : Line) (t : Links) → size (expr_f l t) ≡ length l.lead + (length l.after + size (links_f t) + wrap t + 3)
expr_size l t = simp (size_app, leafs_size, around_size) (omega arith)

expr_leaves : (l : Line) (t : Links) → flatten t ≡ l.rest → leaves (expr_f l t) ≡ spell l
unfolding spell
expr_leaves l t e = rw (leaves_app (leafs l.lead) (node Expr (whole_f l t) none), leafs_leaves l.lead, append-nil, group_leaves l.first l.after t, e)

-- how many tokens stand before a line's first operator
abbrev pub begin : Line → ℕ
begin l = suc (length l.lead + length l.after)

module _ (l : Line) (t : Links) (e : flatten t ≡ l.rest) (s : Shape t) (p : ProperLine l) {c : Job} {d : ℕ} (a : At c none (spell l)) (h : 12 ≤ d)
    (r : size (expr_f l t) < c.most) where
  first : Stands c (leafs l.lead) l.first l.after (flatten t)
  unfolding spell
  first = record { at = rw e (at_leafs l.lead _ a); operand = p.first; gap = p.after; items = rw e p.rest }

  solid : Solid l.first
  solid = operand_solid l.first p.first

  peek_ok : {m : ℕ} → Runs c (suc (suc d)) m (nth 0) (leafs l.lead) (got l.first.kind (leafs l.lead))
  peek_ok = nth_ok first.at (operand_sees p.first)

  not_a : (j : ℕ) → every (λ k. not (eqb k j)) operands ≡ true → eqb l.first.kind j ≡ false
  not_a j q = operand_never (λ k. eqb k j) q l.first p.first

  -- no attribute, no modifier, no label begins with an operand
  attributes_ok : {m : ℕ} → Runs c (suc (suc d)) m attributes (leafs l.lead) (got tt (leafs l.lead))
  unfolding attributes while_turn glues every
  attributes_ok =
      let j = glued_at (input c) (st (leafs l.lead)) in
      let no-attribute = operand_never (λ k. glues K-# K-bracket k j) refl l.first p.first in
      loop_end (seq_ok (seq_ok peek_ok (seq_ok glued_ok done_ok)) (test_no no-attribute done_ok))

  modifiers_ok : {m : ℕ} → Runs c (suc (suc d)) m modifiers (leafs l.lead) (got false (leafs l.lead))
  unfolding modifiers modifiers_turn every
  modifiers_ok =
      scope_here first.at solid (omega (arith, expr_size l t, leafs_size l.lead))
      (seq_ok
      (loop_end (seq_ok peek_ok
      (test_no (not_a K-pub refl) (test_no (not_a K-const refl) (test_no (not_a K-async refl) (test_no (not_a K-move refl) done_ok))))))
      (seq_ok (test_no refl done_ok) done_ok))

  labels_ok : {m : ℕ} → Runs c (suc (suc d)) m labels (leafs l.lead) (got tt (leafs l.lead))
  unfolding labels while_turn every
  labels_ok = loop_end (seq_ok (seq_ok peek_ok done_ok) (test_no (not_a K-label refl) done_ok))

  expr_ok : {m : ℕ} → Runs c (suc (suc d)) m expr none (result (begin l) (judge t) (got tt (expr_f l t)))
  unfolding expr_with outer_expr_with spell
  expr_ok =
      scope_ok l.lead _ a p.lead solid (omega (arith, expr_size l t))
      (seq_ok attributes_ok (seq_ok modifiers_ok (seq_ok labels_ok (go (judge t) (first_ok t s first h (omega (arith, expr_size l t, leafs_size l.lead)))))))
    where
      last : size (leafs l.lead ⊕ whole_f l t) < c.most
      last = omega (arith, expr_size l t, group_around_size (leafs l.lead) l.first l.after t, leafs_size l.lead)

      before : length (leaves (leafs l.lead ⊕ operand_g l.first l.after)) ≡ begin l
      before = omega (arith, operand_length (leafs l.lead) l.first l.after, ap length (leafs_leaves l.lead))

      go : (u : Verdict) →
          Enters c (suc (suc d)) first_rule (leafs l.lead)
          (judged (leafs l.lead ⊕ operand_g l.first l.after) u (got (kind_for l.first t) (leafs l.lead ⊕ whole_f l t))) →
          Runs c (suc (suc d)) (size (leafs l.lead))
          (enter first_rule >> close (mark (size (leafs l.lead))) Expr) (leafs l.lead) (result (begin l) u (got tt (expr_f l t)))
      go fine k = seq_ok (enter_ok k) (close_ok Expr (leafs l.lead) (whole_f l t) last)
      go (clash q b) k = halt_to (seq_no (enter_ok k)) (omega (arith, before))

  -- ## exprs

  at_end : At c (expr_f l t) []
  at_end = at_on (expr_f l t) [] (at_as a (sym (append-nil (leaves (expr_f l t)) ∙ expr_leaves l t e)))

  long : 0 < length (leaves (expr_f l t))
  unfolding spell
  long = rw (expr_leaves l t e, length-append l.lead (l.first ∷ (l.after ++ rest_toks l.rest))) (omega arith)

  -- one expression, no separator after it, and the end
  pub exprs_ok : (sep : ℕ) → 0 < treated sep → Runs c (suc (suc d)) 0 (exprs sep) none (result (begin l) (judge t) (got tt (line_f l t)))
  unfolding exprs while_turn separated bump_while bump_while_turn line_f spell is_some every
  exprs_ok sep q = go (judge t) expr_ok
    where
      begins : Sees 0 (spell l) l.first.kind
      begins = sees_gap l.lead p.lead (operand_sees p.first)

      more : is_some l.first.kind ≡ true
      more = operand_every is_some refl l.first.kind p.first

      -- what a test answers at the end
      ended : {A : Type 0} {b : ℕ → A} → Runs c (suc (suc d)) 0 (nth 0 >>= λ k. ret (b k)) (expr_f l t) (got (b 0) (expr_f l t))
      ended = seq_ok (nth_ok at_end sees_end) done_ok

      go : (u : Verdict) → Runs c (suc (suc d)) 0 expr none (result (begin l) u (got tt (expr_f l t))) →
          Runs c (suc (suc d)) 0 (exprs sep) none (result (begin l) u (got tt (line_f l t)))
      go fine k =
          let no_separator = loop_end (seq_ok ended (test_no (ne_eqb 0 (treated sep) (omega arith)) done_ok)) in
          seq_ok
          (loop_more at_end long
          (seq_ok (seq_ok (nth_ok a begins) done_ok) (test_yes more (seq_ok (seq_ok k (seq_ok no_separator done_ok)) done_ok)))
          (loop_end (seq_ok ended (test_no refl done_ok))))
          (seq_ok (flush_here at_end tt (omega arith)) (close_ok Root none (expr_f l t) r))
      go (clash w b) k = seq_no (loop_no (seq_ok (seq_ok (nth_ok a begins) done_ok) (test_yes more (seq_no (seq_no k)))))
