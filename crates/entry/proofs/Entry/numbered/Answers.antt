use Rattle.std.proofs.Common.{sym, arith}
use Rattle.entry.specs.Numbered.{asks_root, asks_exprs, asks_format}
use Rattle.entry.proofs.Entry.numbered.Goals as goal

pub returns-in-0 : goal.returns-in-0
returns-in-0 c = (omega arith, sym (asks_root c.args.number c.args.separator c.in-0.is))

pub returns-in-1 : goal.returns-in-1
returns-in-1 c = (omega arith, sym (asks_exprs c.args.number c.args.separator c.in-1.is))

pub returns-in-2 : goal.returns-in-2
returns-in-2 c = (omega arith, sym (asks_format c.args.number c.args.separator (λ x. omega arith) (λ x. omega arith)))
