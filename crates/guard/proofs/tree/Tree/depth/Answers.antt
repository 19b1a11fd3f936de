use Rattle.std.proofs.Common.{sym, arith}
use Rattle.guard.specs.Tree.{depth_none, depth_in, depth_out}
use Rattle.guard.proofs.tree.Tree.depth.Goals as goal
use Rattle.guard.proofs.tree.Tree.depth.Goals.{then-first-row, else-first-row}

pub loop-q-init : goal.loop-q-init
loop-q-init c = (omega arith, sym (depth_none c.args.self.now.table.now c.args.row))

pub loop-q-preserved : goal.loop-q-preserved
loop-q-preserved c =
    let tab = c.args.self.now.table.now in
    let row = c.args.row in
    let q = c.loop-q.q in
    elim c.if-first-row.branch [
      | then-first-row w ↦ omega (arith, depth_in tab row q (omega arith) (omega arith))
      | else-first-row w ↦ omega (arith, depth_out tab row q (omega arith) (omega arith))
    ]
