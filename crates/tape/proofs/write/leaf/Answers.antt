use Rattle.std.proofs.Common.{arith, refl, length}
use Rattle.tape.proofs.Writes.{cap_few, in_table}
use Rattle.tape.proofs.write.leaf.Goals as goal

pub write_row-requires : goal.write_row-requires
write_row-requires c = in_table c.args.from.rows c.args.table.now c.requires.row

pub overflow_add-result-2 : goal.overflow_add-result-2
overflow_add-result-2 c = omega (arith, c.requires.row, cap_few (length c.args.table.now))

pub returns : goal.returns
returns c = record { place = refl; table = c.write_row.ensures }
