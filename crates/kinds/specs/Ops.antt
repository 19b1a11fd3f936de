-- The code's operator as the definition's, and what a lookup ensures. (Laws has what it says of None and Some.)
-- Assumes nothing.
use Rattle.std.specs.Prelude.{ℕ, ◌<◌, ◌≡◌, Option, Some, None, IfSome, unwrap_or}
use Rattle.definition.specs.Operators.{Op as Operator, bindings, binding_in}
use Rattle.kinds.specs.declared.operators.Op.{Op}

abbrev pub op_of : Op → Operator
op_of op = record { binding = op.binding; tokens = op.tokens }

-- what a lookup found as the definition has it: no operator has the binding 0
abbrev pub next_of : Option Op → Operator
next_of None = record { binding = 0; tokens = 1 }
next_of (Some op) = op_of op

-- b is the binding of k, None where the definition has 0
pub record Binds (k : ℕ) (b : Option ℕ) : Type 0 where
  pub is : unwrap_or b 0 ≡ binding_in k bindings
  pub fits : IfSome b (λ n. (0 < n) × (n < 14))
