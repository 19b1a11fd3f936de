-- The code's modes as the definition's.
-- Assumes nothing.
use Rattle.definition.specs.Modes as definition
use Rattle.kinds.specs.declared.modes.Brace.{Brace}
use Rattle.kinds.specs.declared.modes.Range.{Range}
use Rattle.kinds.specs.declared.modes.Binary.{Binary}
use Rattle.kinds.specs.declared.modes.ExprCx.{ExprCx}
use Rattle.kinds.specs.declared.modes.Listed.{Listed}

abbrev pub brace_of : Brace → definition.Brace
brace_of Brace.Yes = definition.Brace.Yes
brace_of Brace.No = definition.Brace.No

abbrev pub range_of : Range → definition.Range
range_of Range.Yes = definition.Range.Yes
range_of Range.No = definition.Range.No

abbrev pub binary_of : Binary → definition.Binary
binary_of Binary.Yes = definition.Binary.Yes
binary_of Binary.No = definition.Binary.No

abbrev pub cx_of : ExprCx → definition.ExprCx
cx_of ExprCx.ErrorCx = definition.ErrorCx
cx_of ExprCx.StmtCx = definition.StmtCx

abbrev pub listed_of : Listed → definition.Listed
listed_of Listed.Exprs = definition.Exprs
listed_of Listed.Pats = definition.Pats
