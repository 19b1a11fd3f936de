-- Written by tools/walk.py from the code and its program; docs/CONTRIBUTING.md says how.
-- Assumes nothing.
use Rattle.std.proofs.Math.Path.{refl, sym, ap}
use Rattle.std.proofs.Common.{◌∙◌, arith}
use borrow.Author.Tests.{eq-eqb, ne_eqb}
use Rattle.definition.specs.Classes.{among, is_path_component}
use Rattle.definition.specs.Grammar.{field_link}
use Rattle.tape.specs.Steps.{not_key, both, cut, thrown, ends, if_yes, if_no, look, nothing}
use Rattle.grammar.proofs.steps.field_link.Goals as goal

pub returns-in_err-bump-clause-ran : goal.returns-in_err-bump-clause-ran
unfolding field_link
returns-in_err-bump-clause-ran c =
    record { under = λ m. thrown c.from_residual.ensures (cut (c.in_err-bump.ensures.under _)) }

pub returns-in_err-bump-in-72-clause-ran : goal.returns-in_err-bump-in-72-clause-ran
unfolding field_link
returns-in_err-bump-in-72-clause-ran c =
    record { under = λ m. thrown c.from_residual-in_err-bump-in-72.ensures (both (c.in_ok-bump.ensures.under _) (look c.peek.ensures (if_yes (eq-eqb _ _ c.in-72.is) (cut (c.in_err-bump-in-72.ensures.under _))))) }

pub returns-in_err-bump-in-9-clause-ran : goal.returns-in_err-bump-in-9-clause-ran
unfolding field_link among is_path_component
returns-in_err-bump-in-9-clause-ran c =
    record { under = λ m. thrown c.from_residual-in_err-bump-in-9.ensures (both (c.in_ok-bump.ensures.under _) (look c.peek.ensures (if_no (not_key 72 c.in-9.is refl) (if_no (ap is_path_component c.in-9.is) (if_yes (eq-eqb _ _ c.in-9.is) (cut (c.in_err-bump-in-9.ensures.under _))))))) }

pub returns-in_err-path-in_default-clause-ran : goal.returns-in_err-path-in_default-clause-ran
unfolding field_link
returns-in_err-path-in_default-clause-ran c =
    record { under = λ m. thrown c.from_residual-in_err-path-in_default.ensures (both (c.in_ok-bump.ensures.under _) (look c.peek.ensures (if_no (ne_eqb _ _ (omega arith)) (if_yes (sym c.is_path_component.ensures ∙ c.if-is_path_component.true) (cut (c.in_err-path-in_default.ensures.under _)))))) }

pub returns-in_ok-bump-in-72-clause-ran : goal.returns-in_ok-bump-in-72-clause-ran
unfolding field_link
returns-in_ok-bump-in-72-clause-ran c =
    record { under = λ m. both (c.in_ok-bump.ensures.under _) (look c.peek.ensures (if_yes (eq-eqb _ _ c.in-72.is) (ends (c.in_ok-bump-in-72.ensures.under _)))) }

pub returns-in_ok-bump-in-9-clause-ran : goal.returns-in_ok-bump-in-9-clause-ran
unfolding field_link among is_path_component
returns-in_ok-bump-in-9-clause-ran c =
    record { under = λ m. both (c.in_ok-bump.ensures.under _) (look c.peek.ensures (if_no (not_key 72 c.in-9.is refl) (if_no (ap is_path_component c.in-9.is) (if_yes (eq-eqb _ _ c.in-9.is) (ends (c.in_ok-bump-in-9.ensures.under _)))))) }

pub returns-in_ok-path-in_default-clause-ran : goal.returns-in_ok-path-in_default-clause-ran
unfolding field_link
returns-in_ok-path-in_default-clause-ran c =
    record { under = λ m. both (c.in_ok-bump.ensures.under _) (look c.peek.ensures (if_no (ne_eqb _ _ (omega arith)) (if_yes (sym c.is_path_component.ensures ∙ c.if-is_path_component.true) (ends (c.in_ok-path-in_default.ensures.under _))))) }

pub returns-in_default-2-clause-ran : goal.returns-in_default-2-clause-ran
unfolding field_link
returns-in_default-2-clause-ran c =
    record { under = λ m. both (c.in_ok-bump.ensures.under _) (look c.peek.ensures (if_no (ne_eqb _ _ (omega arith)) (if_no (sym c.is_path_component.ensures ∙ c.if-is_path_component.false) (if_no (ne_eqb _ _ (omega arith)) nothing)))) }
