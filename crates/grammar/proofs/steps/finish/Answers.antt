-- Written by tools/walk.py from the code and its program; docs/CONTRIBUTING.md says how.
-- Assumes nothing.
use Rattle.tape.specs.Steps.{cut, thrown, ends}
use Rattle.grammar.proofs.steps.finish.Goals as goal

pub close_at-requires : goal.close_at-requires
close_at-requires c =
    c.requires

pub returns-in_err-close_at : goal.returns-in_err-close_at
returns-in_err-close_at c =
    thrown c.from_residual.ensures (cut c.in_err-close_at.ensures)

pub returns : goal.returns
returns c =
    ends c.in_ok-close_at.ensures
