-- Before a turn so many jobs are run, as `Round` says.
-- Assumes nothing.
use Rattle.night.specs.Rounds.{Round}
use Rattle.night.proofs.night.Given as goal

abbrev pub invariant-loop-job : goal.invariant-loop-job
invariant-loop-job l = Round l.kinds l.lens l.initial.jobs l.initial.table l.job-index l.rows l.jobs l.table
