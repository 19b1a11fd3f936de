use Rattle.std.proofs.Common.{sym, arith, take}
use Rattle.text.specs.Copy.{copied_front}
use Rattle.text.specs.Line.{numbers_count}
use Rattle.guard.proofs.Room.parse.Goals as goal

pub shared_ref_as_front-narrow : goal.shared_ref_as_front-narrow
shared_ref_as_front-narrow c =
    let k = (numbers_count c.args.kind_line.now c.args.self.now.lens c.numbers.ensures c.in_ok-n.ensures.ok_part).0 in
    omega (arith, k)

pub shared_ref_as_front-krosstavel_exprs : goal.shared_ref_as_front-krosstavel_exprs
shared_ref_as_front-krosstavel_exprs c =
    let k = numbers_count c.args.kind_line.now c.args.self.now.lens c.numbers.ensures c.in_ok-n.ensures.ok_part in
    let f = copied_front (take c.in_ok-n.n c.numbers.new.out) c.args.self.now.kinds c.narrow.ensures (sym c.in_ok-ok_or.ensures.variant) in
    omega (arith, k.1, f.0)

pub shared_ref_as_front-krosstavel_exprs-2 : goal.shared_ref_as_front-krosstavel_exprs-2
shared_ref_as_front-krosstavel_exprs-2 c =
    let k = (numbers_count c.args.length_line.now c.numbers.new.out c.numbers-2.ensures c.in_ok-m.ensures.ok_part).0 in
    omega (arith, k)
