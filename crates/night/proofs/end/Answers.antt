-- `night::end` meets its contract: `zero_from` clears what is behind the rows, and `counted` says how many there are.
-- Assumes nothing.
use Rattle.night.proofs.end.Goals as goal

pub returns : goal.returns
returns c = record { is = rw c.counted.ensures; zeroed = c.zero_from.ensures }
