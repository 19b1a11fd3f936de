use Rattle.std.proofs.Common.{arith}
use Rattle.text.specs.Line.{end_count}
use Rattle.replay.proofs.Room.line.Goals as goal

pub shared_ref_as_front-judge : goal.shared_ref_as_front-judge
shared_ref_as_front-judge c =
    let k = (end_count c.args.reading c.args.self.now.numbers c.end.ensures c.in-Some.is).0 in
    omega (arith, k)
