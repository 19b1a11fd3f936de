-- Written by tools/walk.py from the code and its program; docs/CONTRIBUTING.md says how.
-- Assumes nothing.
use borrow.Author.Tests.{eq-eqb, ne_eqb}
use Rattle.definition.specs.Grammar.{modifier_pub}
use Rattle.tape.specs.Steps.{both, cut, thrown, if_yes, if_no, ask, nothing}
use Rattle.pieces.proofs.paths.modifier_pub.Goals as goal

pub returns-in_err-bump : goal.returns-in_err-bump
unfolding modifier_pub
returns-in_err-bump c =
    record { under = λ m. thrown c.from_residual.ensures (cut (c.in_err-bump.ensures.under _)) }

pub returns-in_err-modifier_paren : goal.returns-in_err-modifier_paren
unfolding modifier_pub
returns-in_err-modifier_paren c =
    record { under = λ m. thrown c.from_residual-in_err-modifier_paren.ensures (both (c.in_ok-bump.ensures.under _) (ask c.peek.ensures (if_yes (eq-eqb _ _ c.if-peek-eq-PAREN.true) (c.in_err-modifier_paren.ensures.under _)))) }

pub returns-in_ok-modifier_paren : goal.returns-in_ok-modifier_paren
unfolding modifier_pub
returns-in_ok-modifier_paren c =
    record { under = λ m. both (c.in_ok-bump.ensures.under _) (ask c.peek.ensures (if_yes (eq-eqb _ _ c.if-peek-eq-PAREN.true) (c.in_ok-modifier_paren.ensures.under _))) }

pub returns-else-peek-eq-PAREN : goal.returns-else-peek-eq-PAREN
unfolding modifier_pub
returns-else-peek-eq-PAREN c =
    record { under = λ m. both (c.in_ok-bump.ensures.under _) (ask c.peek.ensures (if_no (ne_eqb _ _ c.if-peek-eq-PAREN.false) nothing)) }
