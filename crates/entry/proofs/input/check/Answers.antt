use Rattle.std.proofs.Common.{ap, not, arith}
use Rattle.entry.specs.Input.{refuse_entry, refuse_pair, refuse_many, refuse_kind, refuse_total, admit}
use Rattle.entry.proofs.input.check.Goals as goal

pub returns-then-not-valid : goal.returns-then-not-valid
returns-then-not-valid c = refuse_entry _ _ _ (ap not c.if-not-valid.true)

pub returns-then-n-lens : goal.returns-then-n-lens
returns-then-n-lens c = refuse_pair _ _ _ (ap not c.if-not-valid.false) c.if-n-lens.true

pub returns-then-n-gt65535 : goal.returns-then-n-gt65535
returns-then-n-gt65535 c = refuse_many _ _ _ (ap not c.if-not-valid.false) c.if-n-lens.false (omega arith)

pub overflow_cast-result : goal.overflow_cast-result
overflow_cast-result c = omega (arith, c.in-Some.ensures.inside, c.if-n-gt65535.false)

pub returns-in-Some : goal.returns-in-Some
returns-in-Some c = refuse_kind _ _ _ (ap not c.if-not-valid.false) c.if-n-lens.false c.if-n-gt65535.false c.in-Some.ensures.inside c.in-Some.ensures.is

pub overflow_cast-result-in-Some-first_over : goal.overflow_cast-result-in-Some-first_over
overflow_cast-result-in-Some-first_over c = omega (arith, c.in-Some-first_over.ensures.inside, c.if-n-lens.false, c.if-n-gt65535.false)

pub returns-in-Some-first_over : goal.returns-in-Some-first_over
returns-in-Some-first_over c =
    refuse_total _ _ _ (ap not c.if-not-valid.false) c.if-n-lens.false c.if-n-gt65535.false c.in_default.ensures.is c.in-Some-first_over.ensures.inside c.in-Some-first_over.ensures.is

pub returns : goal.returns
returns c = admit _ _ _ (ap not c.if-not-valid.false) c.if-n-lens.false c.if-n-gt65535.false c.in_default.ensures.is c.in_default-first_over.ensures.is
