use Rattle.std.proofs.Common.{ap, sym, arith}
use Rattle.std.proofs.Math.ListN.{get_or-eq_default}
use Rattle.definition.specs.Classes.{treated, is_assigned, among}
use Rattle.tape.proofs.Tape.kind_at.Goals as goal

pub returns : goal.returns
unfolding treated is_assigned among
returns c = ap treated (sym (get_or-eq_default c.args.self.now.kinds.now 0 {n = c.args.at} (omega arith)))
