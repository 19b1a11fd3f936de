use Rattle.std.proofs.Common.{arith, refl, length, ◌<◌}
use Rattle.definition.specs.Tape.{capacity}
use Rattle.tape.proofs.Writes.{cap_few, in_table, rows_fit, mark_low, node_len, node_is, node_ready, node_full}
use Rattle.tape.proofs.Tape.close_at.Goals as goal

pub returns-then-rows-self : goal.returns-then-rows-self
returns-then-rows-self c = node_full c.args.self.now c.requires c.args.kind _ (omega (arith, c.args.self.now.holds)) c.refusal.ensures

pub overflow_sub-rows : goal.overflow_sub-rows
overflow_sub-rows c = omega (arith, mark_low c.args.self.now c.requires)

pub overflow_cast-rows : goal.overflow_cast-rows
overflow_cast-rows c = omega (arith, rows_fit c.args.self.now, cap_few (length c.args.self.now.table.now))

pub overflow_sub-len : goal.overflow_sub-len
overflow_sub-len c = omega (arith, c.start_of-start.ensures, c.requires.based.sum)

pub write_row-requires : goal.write_row-requires
write_row-requires c = let t = c.args.self.now in in_table t.rows t.table.now (omega (arith, c.args.self.now.holds))

pub returns : goal.returns
returns c =
    let t = c.args.self.now in
    let r : t.rows < capacity (length t.table.now) = omega (arith, c.args.self.now.holds) in
    record {
      is = node_is t c.requires c.args.kind _ c.start_of-start.ensures r c.write_row.ensures;
      kept = record {
        same = record { kinds = refl; lens = refl; len = node_len t c.requires c.args.kind _ c.start_of-start.ensures r c.write_row.ensures; name = refl };
        left = refl;
      };
    }

pub invariant_of-self : goal.invariant_of-self
invariant_of-self c =
    let t = c.args.self.now in
    let r : t.rows < capacity (length t.table.now) = omega (arith, c.args.self.now.holds) in
    record {
      ready = node_ready t c.requires c.args.kind _ c.start_of-start.ensures r c.write_row.ensures;
      holds = rw (node_len t c.requires c.args.kind _ c.start_of-start.ensures r c.write_row.ensures) t.holds;
    }
