-- Where no operator is next, expr_binary leaves everything as it is: outer_expr_with need not ask it, unless no entry is left for it.
-- Assumes nothing.
use Rattle.std.specs.Prelude.{ℕ, suc, ◌-◌, ◌≡◌, Bool, not, ◌&&◌, ◌||◌, drop, eqb, Option, Some, None, is_some, Ok}
use Rattle.std.proofs.Math.Path.{refl}
use Rattle.std.proofs.Common.{sym, ap, subst, ◌∙◌, arith, eq-eqb}
use Rattle.std.proofs.Math.Bool.{true, false, true≢false}
use Rattle.std.proofs.lemmas.Bool.{false≢true}
use Rattle.definition.specs.Tape.{In, State, ok, and_then, choose, nth_kind, nth_at}
use Rattle.definition.specs.Modes.{Brace, Binary, ExprCx, is_binary}
use Rattle.definition.specs.Operators.{from_slice, is_none}
use Rattle.definition.specs.Prog.{Mark, eval, call, turns, turn}
use Rattle.definition.specs.Grammar.{binary_turn, expr_binary, expr_binary_text, outer_binary, grammar}
use Rattle.definition.specs.Parse.{run}
use Rattle.laws.specs.Bools.{and_first}
use Rattle.kinds.specs.Ops.{next_of}
use Rattle.kinds.specs.declared.operators.Op.{Op}
use Rattle.tape.specs.View.{given, state_of, Step}
use Rattle.tape.specs.Steps.{kept_self, nothing, if_yes, if_no}
use Rattle.tape.specs.declared.Tape.{Tape}
use Rattle.grammar.specs.Looked.{ahead_of, some_op}
use Rattle.grammar.specs.Cuts.{outer_op}

-- whether operators are looked for, and expr_binary has something to do
unfoldable pub operators_next : Binary → Tape → Bool
operators_next binary t = is_binary binary && (not (is_none (ahead_of t)) || eqb t.left 0)

-- whether there is an operator is said by the first kind alone
pub first_alone : (k i j : ℕ) → is_none (from_slice k i) ≡ is_none (from_slice k j)
unfolding is_none from_slice
first_alone k i j = refl

some_is : (op : Option Op) → is_some op ≡ not (is_none (next_of op))
unfolding is_none
some_is None = refl
some_is (Some op) = rw (some_op op) refl

-- so the code looks no second kind up
module _ (t : Tape) (op : Option Op) {k : ℕ} {n : Bool} (e : k ≡ nth_kind 0 (drop t.at t.kinds.now)) (f : next_of op ≡ from_slice k 0) (h : n ≡ is_some op) where
  once : n ≡ not (is_none (ahead_of t))
  once = h ∙ (some_is op ∙ ap not (ap is_none f ∙ (ap (λ (x : ℕ). is_none (from_slice x 0)) e ∙ first_alone (nth_kind 0 (drop t.at t.kinds.now)) 0 (nth_kind 1 (drop t.at t.kinds.now)))))

  pub looks_yes : n ≡ true → n ≡ operators_next Binary.Yes t
  unfolding operators_next is_binary
  looks_yes y = rw (sym once ∙ y) y

  pub looks_left : {z : Bool} → n ≡ false → z ≡ eqb t.left 0 → z ≡ operators_next Binary.Yes t
  unfolding operators_next is_binary
  looks_left y g = rw (sym once ∙ y) g

pub looks_no : (t : Tape) → false ≡ operators_next Binary.No t
unfolding operators_next is_binary
looks_no t = refl

pub looked_for : (binary : Binary) (t : Tape) → operators_next binary t ≡ true → is_binary binary ≡ true
unfolding operators_next
looked_for binary t h = and_first (is_binary binary) (not (is_none (ahead_of t)) || eqb t.left 0) h

none_next : (a n z : Bool) → (a && (not n || z)) ≡ false → a ≡ true → (n ≡ true) × (z ≡ false)
none_next true true false h e = (refl, refl)
none_next true true true h e = absurd (true≢false h)
none_next true false z h e = absurd (true≢false h)
none_next false n z h e = absurd (false≢true e)

module _ {kind : ℕ} (c : Mark) (brace : Brace) (cx : ExprCx) where
  -- an entry of expr_binary that ends in its first turn
  idle_run : (i : In) (d m : ℕ) (s : State) → is_none (from_slice (nth_at i 0 s) (nth_at i 1 s)) ≡ true → run i (suc d) m (outer_binary c kind brace cx) s ≡ ok kind s
  unfolding run eval call turns turn and_then choose outer_binary expr_binary expr_binary_text binary_turn grammar
  idle_run i d m s h = rw h refl

  idle : {m : ℕ} {t : Tape} → is_none (ahead_of t) ≡ true → (t.left ≡ 0 → ⊥) → Step m (outer_binary c kind brace cx) (Ok kind) t t
  unfolding nth_at
  idle {m} {t} e h =
      let n : t.left ≡ suc (t.left - 1) = omega (arith, h) in
      record {
        is = sym (subst (λ (n : ℕ). run (given t) n m (outer_binary c kind brace cx) (state_of t) ≡ ok kind (state_of t)) (sym n) (idle_run (given t) (t.left - 1) m (state_of t) e));
        kept = kept_self;
      }

  -- with none next, the answer is there, and nothing is done
  pub idle_op : {m : ℕ} {t : Tape} (binary : Binary) → operators_next binary t ≡ false → Step m (outer_op c kind brace binary cx) (Ok kind) t t
  unfolding operators_next outer_op
  idle_op {m} {t} binary h = go (is_binary binary) refl
    where
      go : (b : Bool) → is_binary binary ≡ b → Step m (outer_op c kind brace binary cx) (Ok kind) t t
      go true e =
          let n = none_next (is_binary binary) (is_none (ahead_of t)) (eqb t.left 0) h e in
          if_yes e (idle n.0 (λ z. true≢false (sym (eq-eqb _ _ z) ∙ n.1)))
      go false e = if_no e nothing
