use Rattle.definition.specs.Grammar.{push}
use Rattle.tape.specs.Steps.{both, cut, marked_now, scoped, step_marked, thrown, thrown_ran, unscoped}
use Rattle.tape.proofs.Tape.push.Goals as goal

pub returns-in_err-c : goal.returns-in_err-c
unfolding push
returns-in_err-c c = thrown_ran c.from_residual.ensures (unscoped c.in_err-c.ensures)

pub returns-in_err-bump : goal.returns-in_err-bump
unfolding push
returns-in_err-bump c = scoped c.in_ok-c.ensures (thrown c.from_residual-in_err-bump.ensures (cut (c.in_err-bump.ensures.under _)))

pub close_at-requires : goal.close_at-requires
close_at-requires c = step_marked (c.in_ok-bump.ensures.under _) (marked_now c.in_ok-c.ensures)

pub returns : goal.returns
unfolding push
returns c = scoped c.in_ok-c.ensures (both (c.in_ok-bump.ensures.under _) c.close_at.ensures)
