use Rattle.std.proofs.Common.{sym, ◌∙◌, arith}
use Rattle.text.specs.Copy.{copying_go, copying_end, too_long, no_bytes, all_fit, byte_at}
use Rattle.text.proofs.narrow.Goals as goal
use Rattle.text.proofs.narrow.Goals.{then-from-to-via-then-from-to, then-from-to-via-else-from-to+then-not-are_bytes}

pub returns-then-from-to : goal.returns-then-from-to
returns-then-from-to c =
    elim c.then-from-to.branch [
      | then-from-to-via-then-from-to w ↦ too_long c.args.from.now c.args.to.now (omega arith)
      | then-from-to-via-else-from-to+then-not-are_bytes w ↦ no_bytes c.args.from.now c.args.to.now (omega arith) (sym w.are_bytes.ensures ∙ w.if-not-are_bytes.true)
    ]

pub overflow_cast-to : goal.overflow_cast-to
overflow_cast-to c =
    omega (arith, byte_at c.args.from.now c.loop-at.at (sym c.are_bytes.ensures ∙ c.if-not-are_bytes.false) (omega arith))

pub loop-at-preserved : goal.loop-at-preserved
loop-at-preserved c = copying_go c.loop-at.invariant (omega arith) (omega arith)

pub returns : goal.returns
returns c =
    let e = all_fit c.args.from.now c.args.to.now (omega arith) (sym c.are_bytes.ensures ∙ c.if-not-are_bytes.false) in
    (e.0, copying_end c.loop-at.invariant (omega arith) ∙ e.1)
