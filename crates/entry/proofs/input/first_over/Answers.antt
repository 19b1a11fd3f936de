use Rattle.std.proofs.Common.{◌≡◌, length, sym, ◌∙◌, arith}
use Rattle.entry.specs.Input.{over_go, over_stop, over_end}
use Rattle.entry.proofs.input.first_over.Goals as goal

pub loop-at-init : goal.loop-at-init
loop-at-init c = omega arith

pub returns-then-len-left : goal.returns-then-len-left
returns-then-len-left c =
    record { is = sym (over_stop c.loop-at.left c.args.lens.now c.loop-at.at c.loop-at-test.true c.if-len-left.true) ∙ c.loop-at.invariant; inside = c.loop-at-test.true }

pub loop-at-preserved : goal.loop-at-preserved
loop-at-preserved c = over_go c.loop-at.left c.args.lens.now c.loop-at.at c.loop-at-test.true c.if-len-left.false ∙ c.loop-at.invariant

pub returns : goal.returns
returns c =
    let e : c.loop-at.at ≡ length c.args.lens.now = omega arith in
    record { is = sym e ∙ (sym (over_end c.loop-at.left c.args.lens.now c.loop-at.at (omega arith)) ∙ c.loop-at.invariant); inside = tt }
