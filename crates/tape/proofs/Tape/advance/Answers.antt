use borrow.Author.Tests.{eq-eqb, ne_eqb}
use Rattle.definition.specs.Grammar.{advance}
use Rattle.tape.specs.Steps.{both, cut, if_no, if_yes, thrown}
use Rattle.tape.proofs.Tape.advance.Goals as goal

pub returns-in_err-bump : goal.returns-in_err-bump
unfolding advance
returns-in_err-bump c = record { under = λ m. thrown c.from_residual.ensures (if_yes (eq-eqb _ _ c.if-op-eq2.true) (cut (c.in_err-bump.ensures.under _))) }

pub returns-then-op-eq2 : goal.returns-then-op-eq2
unfolding advance
returns-then-op-eq2 c = record { under = λ m. if_yes (eq-eqb _ _ c.if-op-eq2.true) (both (c.in_ok-bump.ensures.under _) (c.bump-then-op-eq2.ensures.under _)) }

pub returns : goal.returns
unfolding advance
returns c = record { under = λ m. if_no (ne_eqb _ _ c.if-op-eq2.false) (c.bump-2.ensures.under _) }
