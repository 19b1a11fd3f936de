-- Written by tools/walk.py from the code and its program; docs/CONTRIBUTING.md says how.
-- Assumes nothing.
use Rattle.tape.specs.Steps.{step_marked, both, cut, thrown}
use Rattle.krosstavel.proofs.rules.close_root.Goals as goal

pub returns-in_err-flush_ws : goal.returns-in_err-flush_ws
returns-in_err-flush_ws c =
    thrown c.from_residual.ensures (cut (c.in_err-flush_ws.ensures.under _))

pub close_at-requires : goal.close_at-requires
close_at-requires c =
    step_marked (c.in_ok-flush_ws.ensures.under _) c.requires

pub returns : goal.returns
returns c =
    both (c.in_ok-flush_ws.ensures.under _) c.close_at.ensures
