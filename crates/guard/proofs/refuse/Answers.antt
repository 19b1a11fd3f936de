use Rattle.std.proofs.Common.{rules}
use Rattle.text.specs.Written.{grows_trans}
use Rattle.guard.proofs.refuse.Goals as goal

pub returns-in_err-put_number-in-Parser : goal.returns-in_err-put_number-in-Parser
returns-in_err-put_number-in-Parser g c = search (rules, grows_trans)

pub returns-in_err-put-in-Parser-2 : goal.returns-in_err-put-in-Parser-2
returns-in_err-put-in-Parser-2 g c = search (rules, grows_trans)

pub returns-in_err-put_number-in-Parser-2 : goal.returns-in_err-put_number-in-Parser-2
returns-in_err-put_number-in-Parser-2 g c = search (rules, grows_trans)

pub returns-in_ok-put_number-in-Parser-2 : goal.returns-in_ok-put_number-in-Parser-2
returns-in_ok-put_number-in-Parser-2 g c = search (rules, grows_trans)
