use Rattle.std.proofs.Common.{◌≡◌, length, sym, ◌∙◌, arith}
use Rattle.definition.specs.Classes.{is_token}
use Rattle.entry.specs.Input.{not_go, not_stop, not_end}
use Rattle.entry.proofs.input.first_not_token.Goals as goal

pub loop-at-init : goal.loop-at-init
loop-at-init c = omega arith

pub loop-at-preserved : goal.loop-at-preserved
loop-at-preserved c = not_go is_token c.args.kinds.now c.loop-at.at c.loop-at-test.true (sym c.is_token.ensures ∙ c.if-not-is_token.false) ∙ c.loop-at.invariant

pub returns-then-not-is_token : goal.returns-then-not-is_token
returns-then-not-is_token c =
    record { is = sym (not_stop is_token c.args.kinds.now c.loop-at.at c.loop-at-test.true (sym c.is_token.ensures ∙ c.if-not-is_token.true)) ∙ c.loop-at.invariant; inside = c.loop-at-test.true }

pub returns : goal.returns
returns c =
    let e : c.loop-at.at ≡ length c.args.kinds.now = omega arith in
    record { is = sym e ∙ (sym (not_end is_token c.args.kinds.now c.loop-at.at (omega arith)) ∙ c.loop-at.invariant); inside = tt }
