use Rattle.std.proofs.Common.{rules}
use Rattle.text.specs.Written.{grows_trans}
use Rattle.guard.proofs.tree.Tree.print.Goals as goal

pub returns-in_err-print_from : goal.returns-in_err-print_from
returns-in_err-print_from g c = search (rules, grows_trans)

pub loop-first-preserved : goal.loop-first-preserved
loop-first-preserved g c = search (rules, grows_trans)
