-- Written by tools/walk.py from the code and its program; docs/CONTRIBUTING.md says how.
-- Assumes nothing.
use borrow.Author.Tests.{eq-eqb, ne_eqb}
use Rattle.definition.specs.Grammar.{fn_args}
use Rattle.tape.specs.Steps.{thrown, if_yes, if_no, ask, nothing}
use Rattle.pieces.proofs.items.fn_args.Goals as goal

pub returns-in_err-fn_arg_list : goal.returns-in_err-fn_arg_list
unfolding fn_args
returns-in_err-fn_arg_list c =
    record { under = λ m. thrown c.from_residual.ensures (ask c.peek.ensures (if_yes (eq-eqb _ _ c.if-peek-eq-PAREN.true) (c.in_err-fn_arg_list.ensures.under _))) }

pub returns-in_ok-fn_arg_list : goal.returns-in_ok-fn_arg_list
unfolding fn_args
returns-in_ok-fn_arg_list c =
    record { under = λ m. ask c.peek.ensures (if_yes (eq-eqb _ _ c.if-peek-eq-PAREN.true) (c.in_ok-fn_arg_list.ensures.under _)) }

pub returns-else-peek-eq-PAREN : goal.returns-else-peek-eq-PAREN
unfolding fn_args
returns-else-peek-eq-PAREN c =
    record { under = λ m. ask c.peek.ensures (if_no (ne_eqb _ _ c.if-peek-eq-PAREN.false) nothing) }
