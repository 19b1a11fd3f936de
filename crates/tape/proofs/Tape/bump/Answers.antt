use Rattle.std.proofs.Common.{arith, refl, ◌+◌, ◌<◌, length}
use Rattle.definition.specs.Tape.{capacity}
use Rattle.laws.specs.Looking.{skipped_le}
use Rattle.tape.specs.Steps.{thrown_ran}
use Rattle.tape.proofs.Writes.{bump_cut, bump_leaf, bump_none, token_room, token_full, token_ready, token_len, token_at, token_is}
use Rattle.tape.proofs.Tape.bump.Goals as goal

pub returns-in_err-flush_ws : goal.returns-in_err-flush_ws
returns-in_err-flush_ws c = thrown_ran c.from_residual.ensures (bump_cut c.in_err-flush_ws.ensures)

pub returns-then-next-kinds : goal.returns-then-next-kinds
returns-then-next-kinds c = bump_none c.in_ok-flush_ws.ensures c.if-next-kinds.true

pub returns-then-from-self : goal.returns-then-from-self
returns-then-from-self c =
    token_full c.in_ok-flush_ws.ensures (omega (arith, c.if-next-kinds.false)) (omega (arith, c.if-from-self.true, c.flush_ws.new.self.holds)) c.refusal-full.ensures

pub overflow_add-second : goal.overflow_add-second
overflow_add-second c =
    let t = c.args.self.now in
    omega (arith, t.ready.second, skipped_le t.kinds.now (t.next + 1) (omega (arith, c.if-next-kinds.false)), t.ready.sized.few)

pub leaf-to-requires : goal.leaf-to-requires
leaf-to-requires c = token_room c.in_ok-flush_ws.ensures (omega (arith, c.if-next-kinds.false)) (omega (arith, c.if-from-self.false, c.flush_ws.new.self.holds))

pub invariant_of-self : goal.invariant_of-self
invariant_of-self c =
    record {
      ready = token_ready c.in_ok-flush_ws.ensures (omega (arith, c.if-next-kinds.false)) (omega (arith, c.if-from-self.false, c.flush_ws.new.self.holds)) c.leaf-to.ensures
          c.skip-after.ensures;
      holds = rw (token_len c.in_ok-flush_ws.ensures (omega (arith, c.if-next-kinds.false)) (omega (arith, c.if-from-self.false, c.flush_ws.new.self.holds)) c.leaf-to.ensures)
          c.flush_ws.new.self.holds;
    }

pub returns : goal.returns
returns c =
    let r = c.flush_ws.new.self in
    let h : c.args.self.now.next < length c.args.self.now.kinds.now = omega (arith, c.if-next-kinds.false) in
    let f : r.rows < capacity (length r.table.now) = omega (arith, c.if-from-self.false, c.flush_ws.new.self.holds) in
    let w = c.in_ok-flush_ws.ensures in
    bump_leaf w (record {
      is = token_is w h f c.leaf-to.ensures;
      at = token_at w h f c.leaf-to.ensures;
      kept = record { same = record { kinds = refl; lens = refl; len = token_len w h f c.leaf-to.ensures; name = refl }; left = refl };
    })
