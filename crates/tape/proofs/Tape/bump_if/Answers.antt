use borrow.Author.Tests.{eq-eqb, ne_eqb}
use Rattle.definition.specs.Grammar.{bump_if}
use Rattle.tape.specs.Steps.{ask, both, cut, if_no, if_yes, nothing, thrown}
use Rattle.tape.proofs.Tape.bump_if.Goals as goal

pub returns-in_err-bump : goal.returns-in_err-bump
unfolding bump_if
returns-in_err-bump c =
    record { under = λ m. thrown c.from_residual.ensures (ask c.peek.ensures (if_yes (eq-eqb _ _ c.if-peek-k.true) (cut (c.in_err-bump.ensures.under _)))) }

pub returns-then-peek-k : goal.returns-then-peek-k
unfolding bump_if
returns-then-peek-k c =
    record { under = λ m. ask c.peek.ensures (if_yes (eq-eqb _ _ c.if-peek-k.true) (both (c.in_ok-bump.ensures.under _) nothing)) }

pub returns : goal.returns
unfolding bump_if
returns c = record { under = λ m. ask c.peek.ensures (if_no (ne_eqb _ _ c.if-peek-k.false) nothing) }
