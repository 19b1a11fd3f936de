use Rattle.std.proofs.Common.{◌≡◌, None, true, rules, arith}
use Rattle.std.specs.Option.{is_some}
use Rattle.text.specs.Copy.{copied_front}
use Rattle.replay.specs.Case.{parts_said, not_copied, judged}
use Rattle.replay.proofs.case.Scratch.compare.Goals as goal

pub returns-in_err-narrow : goal.returns-in_err-narrow
returns-in_err-narrow c =
    let none : c.from_residual-in_err-narrow.result ≡ None = search rules in
    let room = c.args.self.now in
    rw none (not_copied c.args.list.now room.kinds room.table room.wanted c.in_ok-parts.ensures (rw c.in_err-narrow.was at c.narrow.ensures.0))

pub shared_ref_as_front-kinds : goal.shared_ref_as_front-kinds
shared_ref_as_front-kinds c =
    let is : is_some c.narrow.result ≡ true = rw c.in_ok-narrow.was in
    let fits = (copied_front c.in_ok-parts.parts.kinds.now c.args.self.now.kinds c.narrow.ensures is).0 in
    omega (arith, fits)

pub agrees-requires-clause-said : goal.agrees-requires-clause-said
agrees-requires-clause-said c =
    let room = c.args.self.now in
    parts_said c.args.list.now room.kinds room.table room.wanted c.in_ok-parts.ensures

pub returns : goal.returns
returns c =
    let is : is_some c.narrow.result ≡ true = rw c.in_ok-narrow.was in
    let room = c.args.self.now in
    judged c.args.list.now room.kinds room.table room.wanted c.in_ok-parts.ensures (omega arith) (omega arith) c.narrow.ensures is c.agrees.ensures
