-- `night::night` meets its contract: a refused call by `stops`, the others by `ends`.
-- Assumes nothing.
use Rattle.night.specs.Rounds.{stops, ends}
use Rattle.night.proofs.night.Goals as goal

pub returns-in-Err : goal.returns-in-Err
returns-in-Err c = stops c.args.jobs.now c.args.table.now c.in-Err.reason c.in-Err.ensures c.from.ensures c.end.ensures

pub returns : goal.returns
returns c = ends c.in_default.ensures c.loop-job.invariant c.loop-job-test.false c.end-2.ensures
