-- The nodes that hold the row are counted up to `q`.
use Rattle.std.proofs.Common.{◌≡◌, ◌+◌, ◌-◌, ◌<◌}
use Rattle.guard.specs.Tree.{depth_of}
use Rattle.guard.proofs.tree.Tree.depth.Given as goal

abbrev pub invariant-loop-q : goal.invariant-loop-q
invariant-loop-q l = (l.deep < l.q) × (l.deep ≡ depth_of l.self.table.now l.row (l.q - (l.row + 1)))
