-- The loops of the cycle that carry more than the tape: where they stand, and that their turns come further.
-- Assumes nothing.
use Rattle.std.specs.Prelude.{ℕ, ◌≡◌, Bool, true, false, eqb, Option, Some, Ok}
use Rattle.std.proofs.Common.{sym, ap, ◌∙◌}
use Rattle.definition.specs.Tape.{nth_at}
use Rattle.definition.specs.Modes.{Brace, ExprCx}
use Rattle.definition.specs.Operators.{is_tighter}
use Rattle.definition.specs.Prog.{Prog, Mark, mark, repeat}
use Rattle.definition.specs.Grammar.{binary_turn, tighter_turn, operator, nest, chain_step}
use Rattle.laws.specs.Progress.{Further, operator_some, operator_further, nest_further, chain_step_further}
use Rattle.kinds.specs.Ops.{op_of, next_of}
use Rattle.kinds.specs.declared.operators.Op.{Op}
use Rattle.tape.specs.View.{given, state_of, Step}
use Rattle.tape.specs.Steps.{Loop, Inv, Onward}
use Rattle.tape.specs.Counted.{goes}
use Rattle.tape.specs.declared.Tape.{Tape}
use Rattle.grammar.specs.Looked.{Next, some_op, ahead_of}

pub record Binding (least : ℕ) (brace : Brace) (cx : ExprCx) (from ahead : Option Op) (any : Bool) (t₀ t : Tape) : Type 0 where
  pub loop : Loop (repeat (binary_turn least brace cx) (next_of ahead, any)) (repeat (binary_turn least brace cx) (next_of from, false)) t₀ t
  pub next : Next ahead t

-- a loop whose turns close over the mark c
pub record LoopAt {A : Type 0} (c : ℕ) (p q : Prog A) (t₀ t : Tape) : Type 0 where
  pub at : Inv c p q t₀ t

pub record Tightening (c : ℕ) (op : Op) (brace : Brace) (cx : ExprCx) (place : ℕ) (from ahead : Option Op) (t₀ t : Tape) : Type 0 where
  pub loop : LoopAt c (repeat (tighter_turn (mark c) (op_of op) brace cx place) (next_of ahead)) (repeat (tighter_turn (mark c) (op_of op) brace cx place) (next_of from)) t₀ t
  pub next : Next ahead t

next_is : {ahead : Option Op} {op : Op} {t : Tape} → ahead ≡ Some op → Next ahead t → op_of op ≡ ahead_of t
next_is e n = sym (ap next_of e) ∙ n.is

module _ {m : ℕ} {t r : Tape} where
  pub operator_goes : {ahead : Option Op} {op : Op} → ahead ≡ Some op → Step m (operator (op_of op)) (Ok tt) t r → Next ahead t → Onward t r
  unfolding nth_at
  operator_goes {op = op} e w n =
      goes w (operator_further (given t) t.left m (state_of t) (operator_some (given t) (state_of t) (op_of op) (next_is e n) (some_op op)) (op_of op))

  pub nest_goes : {ahead : Option Op} {next : Op} (c : Mark) (op : Op) (brace : Brace) (cx : ExprCx) → ahead ≡ Some next →
      Step m (nest c (op_of op) (op_of next) brace cx) (Ok tt) t r → Next ahead t → is_tighter (op_of op) (op_of next) ≡ true → Onward t r
  unfolding nth_at
  nest_goes {next = next} c op brace cx e w n h = goes w (nest_further (given t) t.left m (state_of t) (op_of op) brace cx c (op_of next) (next_is e n) h)

  pub chain_goes : {a : ℕ} (kind : ℕ) → Step m (chain_step kind) (Ok a) t r → eqb a 0 ≡ false → Onward t r
  unfolding Further
  chain_goes {a} kind w h = record { goes = chain_step_further (given t) t.left m kind (state_of t) (state_of r) a (sym w.is) h }
