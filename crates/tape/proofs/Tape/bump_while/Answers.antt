use Rattle.std.proofs.Common.{arith}
use borrow.Author.Tests.{eq-eqb, ne_eqb}
use Rattle.definition.specs.Grammar.{bump_while, bump_while_turn}
use Rattle.tape.specs.Steps.{ask, both, bumped, burns, cut, if_no, if_yes, inv_again, inv_end, inv_start, last, last_cut, nothing, thrown}
use Rattle.tape.proofs.Tape.bump_while.Goals as goal

pub loop-self-init : goal.loop-self-init
unfolding bump_while
loop-self-init c = record { under = λ m. inv_start }

pub returns-in_err-bump : goal.returns-in_err-bump
unfolding bump_while_turn
returns-in_err-bump c =
    record {
      under = λ m.
          thrown c.from_residual.ensures
          (inv_end (c.loop-self.invariant.under m) (last_cut (ask c.peek.ensures (if_yes (eq-eqb _ _ c.loop-self-test.true) (cut (c.in_err-bump.ensures.under _))))));
    }

pub loop-self-smaller : goal.loop-self-smaller
loop-self-smaller c =
    let w = c.in_ok-bump.ensures.under 0 in
    burns w.kept (bumped w (λ z. omega (arith, c.peek.ensures, c.loop-self-test.true, c.requires)))

pub loop-self-preserved : goal.loop-self-preserved
unfolding bump_while_turn
loop-self-preserved c =
    record {
      under = λ m.
          inv_again (c.loop-self.invariant.under m) (ask c.peek.ensures (if_yes (eq-eqb _ _ c.loop-self-test.true) (both (c.in_ok-bump.ensures.under _) nothing)))
          (bumped (c.in_ok-bump.ensures.under 0) (λ z. omega (arith, c.peek.ensures, c.loop-self-test.true, c.requires)));
    }

pub returns : goal.returns
unfolding bump_while_turn
returns c =
    record { under = λ m. inv_end (c.loop-self.invariant.under m) (last (ask c.peek.ensures (if_no (ne_eqb _ _ c.loop-self-test.false) nothing))) }
