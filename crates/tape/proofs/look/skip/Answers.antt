use Rattle.std.proofs.Common.{sym, ◌∙◌, arith}
use Rattle.laws.specs.Looking.{skipped_go, skipped_stop, skipped_end}
use Rattle.tape.proofs.look.skip.Goals.{else-at-kinds-via-then-at-kinds+else-is_trivia, else-at-kinds-via-else-at-kinds}
use Rattle.tape.proofs.look.skip.Goals as goal

pub returns-then-is_trivia : goal.returns-then-is_trivia
returns-then-is_trivia c = c.skip_rest.ensures ∙ skipped_go c.args.kinds.now c.args.at (omega arith) (sym c.is_trivia.ensures ∙ c.if-is_trivia.true)

pub returns : goal.returns
returns c =
    elim c.else-at-kinds.branch [
      | else-at-kinds-via-then-at-kinds+else-is_trivia w ↦ sym (skipped_stop c.args.kinds.now c.args.at (omega (arith, w.if-at-kinds.true)) (sym w.is_trivia.ensures ∙ w.if-is_trivia.false))
      | else-at-kinds-via-else-at-kinds w ↦ sym (skipped_end c.args.kinds.now c.args.at (omega (arith, w.if-at-kinds.false)))
    ]
