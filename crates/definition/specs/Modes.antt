-- The modes that the rules take: the Rust's enums `Brace`, `Range` and `Binary`, its two contexts for `dyn ExprCx`, and what `parenthesized` takes where the Rust has
-- two function pointers. Each is a type of its own, so that no two of them can be mixed up.
-- Assumes nothing.
use Rattle.std.specs.Prelude.{Bool, true, false}

pub data Brace : Type 0 where
  Yes : Brace
  No : Brace

pub data Range : Type 0 where
  Yes : Range
  No : Range

pub data Binary : Type 0 where
  Yes : Binary
  No : Binary

-- ErrorCx (13) refuses, StmtCx (117) looks for the end of the statement
pub data ExprCx : Type 0 where
  ErrorCx : ExprCx
  StmtCx : ExprCx

-- the lists that `parenthesized` reads: `is_expr` and `expr`, or `is_pat` and `pat`
pub data Listed : Type 0 where
  Exprs : Listed
  Pats : Listed

-- matches!(brace, Brace::Yes), and so on
unfoldable pub is_brace : Brace → Bool
is_brace Brace.Yes = true
is_brace Brace.No = false

unfoldable pub is_ranged : Range → Bool
is_ranged Range.Yes = true
is_ranged Range.No = false

unfoldable pub is_binary : Binary → Bool
is_binary Binary.Yes = true
is_binary Binary.No = false

unfoldable pub recovers : ExprCx → Bool
recovers ErrorCx = false
recovers StmtCx = true

unfoldable pub are_exprs : Listed → Bool
are_exprs Exprs = true
are_exprs Pats = false
