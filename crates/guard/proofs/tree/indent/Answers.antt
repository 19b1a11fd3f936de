use Rattle.std.proofs.Common.{rules}
use Rattle.text.specs.Written.{grows_trans}
use Rattle.guard.proofs.tree.indent.Goals as goal

pub returns-in_err-put : goal.returns-in_err-put
returns-in_err-put g c = search (rules, grows_trans)

pub loop-preserved : goal.loop-preserved
loop-preserved g c = search (rules, grows_trans)
