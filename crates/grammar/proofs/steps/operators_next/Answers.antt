use Rattle.grammar.specs.Idle.{looks_yes, looks_left, looks_no}
use Rattle.grammar.proofs.steps.operators_next.Goals as goal

pub returns-then-is_next : goal.returns-then-is_next
returns-then-is_next c = rw c.in-Yes.is (looks_yes _ c.from_slice.result c.peek.ensures c.from_slice.ensures c.is_some-is_next.ensures c.if-is_next.true)

pub returns-else-is_next : goal.returns-else-is_next
returns-else-is_next c = rw c.in-Yes.is (looks_left _ c.from_slice.result c.peek.ensures c.from_slice.ensures c.is_some-is_next.ensures c.if-is_next.false c.is_spent.ensures)

pub returns-in-No : goal.returns-in-No
returns-in-No c = rw c.in-No.is (looks_no _)
