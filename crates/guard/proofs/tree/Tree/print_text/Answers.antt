use Rattle.std.proofs.Common.{rules}
use Rattle.text.specs.Written.{grows_trans}
use Rattle.guard.proofs.tree.Tree.print_text.Goals as goal

pub returns-in_err-put-2 : goal.returns-in_err-put-2
returns-in_err-put-2 g c = search (rules, grows_trans)

pub returns : goal.returns
returns g c = search (rules, grows_trans)
