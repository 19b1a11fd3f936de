-- There are no more cases than bytes read, and the input has lost what was read.
use Rattle.std.proofs.Common.{◌*◌, ◌≤◌}
use Rattle.text.specs.Written.{Shrinks}
use Rattle.replay.proofs.replay.Given as goal

abbrev pub invariant-loop : goal.invariant-loop
invariant-loop g l =
    record {
      counted : l.place.tally.cases ≤ 4096 * l.counter;
      shrinks : Shrinks (g.R.Read.remaining l.initial.input) (g.R.Read.remaining l.input);
    }
