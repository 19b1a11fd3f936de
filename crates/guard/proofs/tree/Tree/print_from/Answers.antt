use Rattle.std.proofs.Common.{rules}
use Rattle.text.specs.Written.{grows_trans}
use Rattle.guard.proofs.tree.Tree.print_from.Goals as goal

pub returns-in_err-print_row : goal.returns-in_err-print_row
returns-in_err-print_row g c = search (rules, grows_trans)

pub loop-row-preserved-in-Continue-1 : goal.loop-row-preserved-in-Continue-1
loop-row-preserved-in-Continue-1 g c = search (rules, grows_trans)
