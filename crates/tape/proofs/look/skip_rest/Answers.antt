use Rattle.std.proofs.Common.{sym, ◌∙◌, arith}
use Rattle.laws.specs.Looking.{skipped_go, skipped_stop, skipped_end}
use Rattle.tape.proofs.look.skip_rest.Goals as goal

pub loop-at-preserved : goal.loop-at-preserved
loop-at-preserved c = skipped_go c.args.kinds.now c.loop-at.at (omega arith) (sym c.is_trivia.ensures ∙ c.if-is_trivia.true) ∙ c.loop-at.invariant

pub returns-else-is_trivia : goal.returns-else-is_trivia
returns-else-is_trivia c = sym (skipped_stop c.args.kinds.now c.loop-at.at (omega arith) (sym c.is_trivia.ensures ∙ c.if-is_trivia.false)) ∙ c.loop-at.invariant

pub returns-after-loop-at : goal.returns-after-loop-at
returns-after-loop-at c = sym (skipped_end c.args.kinds.now c.loop-at.at (omega arith)) ∙ c.loop-at.invariant
