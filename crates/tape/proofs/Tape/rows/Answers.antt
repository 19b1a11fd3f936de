use Rattle.std.proofs.Common.{arith, sym, length}
use Rattle.tape.specs.Rows.{length_rows}
use Rattle.tape.proofs.Writes.{rows_fit, cap_few}
use Rattle.tape.proofs.Tape.rows.Goals as goal

pub overflow_cast-result : goal.overflow_cast-result
overflow_cast-result c = omega (arith, rows_fit c.args.self.now, cap_few (length c.args.self.now.table.now))

pub returns : goal.returns
returns c = sym (length_rows c.args.self.now.rows c.args.self.now.table.now)
