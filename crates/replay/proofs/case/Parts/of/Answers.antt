use Rattle.std.proofs.Common.{◌≡◌, None, rules, arith}
use Rattle.replay.specs.Case.{rest_of, parts_of, short_lens, short_said}
use Rattle.replay.proofs.case.Parts.of.Goals as goal

pub returns-in_err-lens : goal.returns-in_err-lens
returns-in_err-lens c =
    let none : c.from_residual-in_err-lens.result ≡ None = search rules in
    rw none (short_lens c.args.list.now (rest_of 4 c.args.list.now) c.in_ok-kinds.ensures c.in_err-lens.ensures)

pub returns-then-said-lt3 : goal.returns-then-said-lt3
returns-then-said-lt3 c =
    short_said c.args.list.now (rest_of 4 c.args.list.now) c.in_ok-kinds.ensures c.in_ok-lens.ensures c.if-said-lt3.true

pub returns : goal.returns
returns c =
    parts_of c.args.list.now (rest_of 4 c.args.list.now) c.in_ok-kinds.ensures c.in_ok-lens.ensures (omega arith) c.in_ok-numbered.ensures
