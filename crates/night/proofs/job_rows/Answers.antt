-- `night::job_rows` meets its contract: refusal 12, or the entry's rows on the job's parts of the lists.
-- Assumes nothing.
use Rattle.std.proofs.Common.{ap}
use mathlib.Core.Bool.{not}
use Rattle.night.specs.Steps.{outside, parsed}
use Rattle.night.proofs.job_rows.Goals as goal

pub returns-then-not-is_inside : goal.returns-then-not-is_inside
returns-then-not-is_inside c = outside c.args.job c.args.kinds.now c.args.lens.now c.args.free.now c.is_inside.ensures (ap not c.if-not-is_inside.true)

pub returns : goal.returns
returns c = parsed c.args.job c.asked.result c.args.kinds.now c.args.lens.now c.args.free.now c.is_inside.ensures (ap not c.if-not-is_inside.false) c.asked.ensures c.rows.ensures
