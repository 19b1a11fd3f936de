-- Written by tools/walk.py from the code and its program; docs/CONTRIBUTING.md says how.
-- Assumes nothing.
use Rattle.std.proofs.Math.Path.{refl}
use Rattle.std.proofs.Common.{arith}
use borrow.Author.Tests.{eq-eqb, ne_eqb}
use Rattle.definition.specs.Grammar.{modifier_kind}
use Rattle.tape.specs.Steps.{not_key, both, cut, thrown, ends, if_yes, if_no, look, nothing}
use Rattle.pieces.proofs.paths.modifier_kind.Goals as goal

pub returns-in_err-bump-in-3 : goal.returns-in_err-bump-in-3
unfolding modifier_kind
returns-in_err-bump-in-3 c =
    record { under = λ m. thrown c.from_residual.ensures (look c.peek.ensures (if_yes (eq-eqb _ _ c.in-3.is) (cut (c.in_err-bump-in-3.ensures.under _)))) }

pub returns-in_err-bump-in-5 : goal.returns-in_err-bump-in-5
unfolding modifier_kind
returns-in_err-bump-in-5 c =
    record { under = λ m. thrown c.from_residual-in_err-bump-in-5.ensures (look c.peek.ensures (if_no (not_key 3 c.in-5.is refl) (if_yes (eq-eqb _ _ c.in-5.is) (cut (c.in_err-bump-in-5.ensures.under _))))) }

pub returns-in_err-bump-in-4 : goal.returns-in_err-bump-in-4
unfolding modifier_kind
returns-in_err-bump-in-4 c =
    record { under = λ m. thrown c.from_residual-in_err-bump-in-4.ensures (look c.peek.ensures (if_no (not_key 3 c.in-4.is refl) (if_no (not_key 5 c.in-4.is refl) (if_yes (eq-eqb _ _ c.in-4.is) (cut (c.in_err-bump-in-4.ensures.under _)))))) }

pub returns-in_err-bump-in-83 : goal.returns-in_err-bump-in-83
unfolding modifier_kind
returns-in_err-bump-in-83 c =
    record { under = λ m. thrown c.from_residual-in_err-bump-in-83.ensures (look c.peek.ensures (if_no (not_key 3 c.in-83.is refl) (if_no (not_key 5 c.in-83.is refl) (if_no (not_key 4 c.in-83.is refl) (if_yes (eq-eqb _ _ c.in-83.is) (cut (c.in_err-bump-in-83.ensures.under _))))))) }

pub returns-in_err-path-in-83 : goal.returns-in_err-path-in-83
unfolding modifier_kind
returns-in_err-path-in-83 c =
    record { under = λ m. thrown c.from_residual-in_err-path-in-83.ensures (look c.peek.ensures (if_no (not_key 3 c.in-83.is refl) (if_no (not_key 5 c.in-83.is refl) (if_no (not_key 4 c.in-83.is refl) (if_yes (eq-eqb _ _ c.in-83.is) (both (c.in_ok-bump-in-83.ensures.under _) (cut (c.in_err-path-in-83.ensures.under _)))))))) }

pub returns-in_ok-bump-in-3 : goal.returns-in_ok-bump-in-3
unfolding modifier_kind
returns-in_ok-bump-in-3 c =
    record { under = λ m. look c.peek.ensures (if_yes (eq-eqb _ _ c.in-3.is) (ends (c.in_ok-bump-in-3.ensures.under _))) }

pub returns-in_ok-bump-in-5 : goal.returns-in_ok-bump-in-5
unfolding modifier_kind
returns-in_ok-bump-in-5 c =
    record { under = λ m. look c.peek.ensures (if_no (not_key 3 c.in-5.is refl) (if_yes (eq-eqb _ _ c.in-5.is) (ends (c.in_ok-bump-in-5.ensures.under _)))) }

pub returns-in_ok-bump-in-4 : goal.returns-in_ok-bump-in-4
unfolding modifier_kind
returns-in_ok-bump-in-4 c =
    record { under = λ m. look c.peek.ensures (if_no (not_key 3 c.in-4.is refl) (if_no (not_key 5 c.in-4.is refl) (if_yes (eq-eqb _ _ c.in-4.is) (ends (c.in_ok-bump-in-4.ensures.under _))))) }

pub returns-in_ok-path-in-83 : goal.returns-in_ok-path-in-83
unfolding modifier_kind
returns-in_ok-path-in-83 c =
    record { under = λ m. look c.peek.ensures (if_no (not_key 3 c.in-83.is refl) (if_no (not_key 5 c.in-83.is refl) (if_no (not_key 4 c.in-83.is refl) (if_yes (eq-eqb _ _ c.in-83.is) (both (c.in_ok-bump-in-83.ensures.under _) (ends (c.in_ok-path-in-83.ensures.under _))))))) }

pub returns-in_default : goal.returns-in_default
unfolding modifier_kind
returns-in_default c =
    record { under = λ m. look c.peek.ensures (if_no (ne_eqb _ _ (omega arith)) (if_no (ne_eqb _ _ (omega arith)) (if_no (ne_eqb _ _ (omega arith)) (if_no (ne_eqb _ _ (omega arith)) nothing)))) }
