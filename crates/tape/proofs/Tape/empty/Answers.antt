use Rattle.definition.specs.Grammar.{empty}
use Rattle.tape.specs.Steps.{marked_now, scoped, thrown_ran, unscoped}
use Rattle.tape.proofs.Tape.empty.Goals as goal

pub returns-in_err-c : goal.returns-in_err-c
unfolding empty
returns-in_err-c c = thrown_ran c.from_residual.ensures (unscoped c.in_err-c.ensures)

pub close_at-requires : goal.close_at-requires
close_at-requires c = marked_now c.in_ok-c.ensures

pub returns : goal.returns
unfolding empty
returns c = scoped c.in_ok-c.ensures c.close_at.ensures
