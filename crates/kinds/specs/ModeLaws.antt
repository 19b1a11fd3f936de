-- What `==` and a `match` of the code say of a mode, in the definition's tests: for the proofs of whoever makes them.
-- Assumes nothing.
use Rattle.std.specs.Prelude.{◌≡◌, Bool, true, false}
use Rattle.std.proofs.Common.{ap}
use denote.Enum.Bare.{sameb}
use Rattle.definition.specs.Modes.{is_brace, is_ranged, is_binary, recovers, are_exprs}
use Rattle.kinds.specs.declared.modes.Brace.{Brace}
use Rattle.kinds.specs.declared.modes.Range.{Range}
use Rattle.kinds.specs.declared.modes.Binary.{Binary}
use Rattle.kinds.specs.declared.modes.ExprCx.{ExprCx}
use Rattle.kinds.specs.declared.modes.Listed.{Listed}
use Rattle.kinds.specs.contracts.modes.Brace as brace
use Rattle.kinds.specs.contracts.modes.Range as range
use Rattle.kinds.specs.contracts.modes.Binary as binary
use Rattle.kinds.specs.contracts.modes.ExprCx as cx
use Rattle.kinds.specs.contracts.modes.Listed as listed
use Rattle.kinds.specs.Modes.{brace_of, range_of, binary_of, cx_of, listed_of}

-- ## `==`: what its contract says of its answer b

pub brace_eq : (x : Brace) {b : Bool} → b ≡ sameb brace.the_type x Brace.Yes → b ≡ is_brace (brace_of x)
unfolding is_brace
brace_eq Brace.Yes h = h
brace_eq Brace.No h = h

pub range_eq : (x : Range) {b : Bool} → b ≡ sameb range.the_type x Range.Yes → b ≡ is_ranged (range_of x)
unfolding is_ranged
range_eq Range.Yes h = h
range_eq Range.No h = h

pub binary_eq : (x : Binary) {b : Bool} → b ≡ sameb binary.the_type x Binary.Yes → b ≡ is_binary (binary_of x)
unfolding is_binary
binary_eq Binary.Yes h = h
binary_eq Binary.No h = h

pub cx_eq : (x : ExprCx) {b : Bool} → b ≡ sameb cx.the_type x ExprCx.StmtCx → b ≡ recovers (cx_of x)
unfolding recovers
cx_eq ExprCx.StmtCx h = h
cx_eq ExprCx.ErrorCx h = h

pub listed_eq : (x : Listed) {b : Bool} → b ≡ sameb listed.the_type x Listed.Exprs → b ≡ are_exprs (listed_of x)
unfolding are_exprs
listed_eq Listed.Exprs h = h
listed_eq Listed.Pats h = h

-- ## `match`: which mode it is in an arm

pub brace_yes : {x : Brace} → x ≡ Brace.Yes → is_brace (brace_of x) ≡ true
unfolding is_brace
brace_yes e = ap (λ (x : Brace). is_brace (brace_of x)) e

pub brace_no : {x : Brace} → x ≡ Brace.No → is_brace (brace_of x) ≡ false
unfolding is_brace
brace_no e = ap (λ (x : Brace). is_brace (brace_of x)) e

pub range_yes : {x : Range} → x ≡ Range.Yes → is_ranged (range_of x) ≡ true
unfolding is_ranged
range_yes e = ap (λ (x : Range). is_ranged (range_of x)) e

pub range_no : {x : Range} → x ≡ Range.No → is_ranged (range_of x) ≡ false
unfolding is_ranged
range_no e = ap (λ (x : Range). is_ranged (range_of x)) e

pub binary_yes : {x : Binary} → x ≡ Binary.Yes → is_binary (binary_of x) ≡ true
unfolding is_binary
binary_yes e = ap (λ (x : Binary). is_binary (binary_of x)) e

pub binary_no : {x : Binary} → x ≡ Binary.No → is_binary (binary_of x) ≡ false
unfolding is_binary
binary_no e = ap (λ (x : Binary). is_binary (binary_of x)) e

pub cx_stmt : {x : ExprCx} → x ≡ ExprCx.StmtCx → recovers (cx_of x) ≡ true
unfolding recovers
cx_stmt e = ap (λ (x : ExprCx). recovers (cx_of x)) e

pub cx_error : {x : ExprCx} → x ≡ ExprCx.ErrorCx → recovers (cx_of x) ≡ false
unfolding recovers
cx_error e = ap (λ (x : ExprCx). recovers (cx_of x)) e

pub listed_exprs : {x : Listed} → x ≡ Listed.Exprs → are_exprs (listed_of x) ≡ true
unfolding are_exprs
listed_exprs e = ap (λ (x : Listed). are_exprs (listed_of x)) e

pub listed_pats : {x : Listed} → x ≡ Listed.Pats → are_exprs (listed_of x) ≡ false
unfolding are_exprs
listed_pats e = ap (λ (x : Listed). are_exprs (listed_of x)) e
