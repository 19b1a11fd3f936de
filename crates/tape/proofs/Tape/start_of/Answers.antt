use Rattle.std.proofs.Common.{arith, sym, length}
use Rattle.tape.specs.Rows.{start_in, start_out}
use Rattle.tape.proofs.Writes.{rows_in_table, rows_fit, cap_few}
use Rattle.tape.proofs.Tape.start_of.Goals as goal

pub overflow_mul-result : goal.overflow_mul-result
overflow_mul-result c = omega (arith, rows_fit c.args.self.now, cap_few (length c.args.self.now.table.now))

pub overflow_add-result : goal.overflow_add-result
overflow_add-result c = omega (arith, rows_fit c.args.self.now, cap_few (length c.args.self.now.table.now))

pub offset_bounds-self-c : goal.offset_bounds-self-c
offset_bounds-self-c c = omega (arith, rows_fit c.args.self.now, cap_few (length c.args.self.now.table.now))

pub bounds-self-c : goal.bounds-self-c
bounds-self-c c = omega (arith, rows_in_table c.args.self.now)

pub returns-then-c-self : goal.returns-then-c-self
returns-then-c-self c = let t = c.args.self.now in sym (start_in c.args.c t.rows t.table.now t.byte (omega arith))

pub returns : goal.returns
returns c = let t = c.args.self.now in sym (start_out c.args.c t.rows t.table.now t.byte (omega arith))
