-- Written by tools/walk.py from the code and its program; docs/CONTRIBUTING.md says how.
-- Assumes nothing.
use Rattle.std.proofs.Math.Path.{sym}
use Rattle.std.proofs.Common.{◌∙◌}
use Rattle.definition.specs.Grammar.{impl_path}
use Rattle.tape.specs.Steps.{thrown, if_yes, if_no, ask, nothing}
use Rattle.pieces.proofs.items.impl_path.Goals as goal

pub returns-in_err-path : goal.returns-in_err-path
unfolding impl_path
returns-in_err-path c =
    record { under = λ m. thrown c.from_residual.ensures (ask c.peek.ensures (if_yes (sym c.is_path_component.ensures ∙ c.if-is_path_component.true) (c.in_err-path.ensures.under _))) }

pub returns-in_ok-path : goal.returns-in_ok-path
unfolding impl_path
returns-in_ok-path c =
    record { under = λ m. ask c.peek.ensures (if_yes (sym c.is_path_component.ensures ∙ c.if-is_path_component.true) (c.in_ok-path.ensures.under _)) }

pub returns-else-is_path_component : goal.returns-else-is_path_component
unfolding impl_path
returns-else-is_path_component c =
    record { under = λ m. ask c.peek.ensures (if_no (sym c.is_path_component.ensures ∙ c.if-is_path_component.false) nothing) }
