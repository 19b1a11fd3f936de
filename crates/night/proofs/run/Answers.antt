-- `night::run` meets its contract: the job's rows stand behind those taken, and its record has its answer.
-- Assumes nothing.
use Rattle.std.specs.Prelude.{◌*◌}
use Rattle.night.specs.Steps.{free_length, done}
use Rattle.night.proofs.run.Goals as goal

pub returns : goal.returns
returns c = done c.args.job c.requires (free_length (4 * c.args.rows) c.args.table.now) c.job_rows-outcome.ensures c.from.ensures
