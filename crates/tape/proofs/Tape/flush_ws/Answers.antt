use Rattle.std.proofs.Common.{refl}
use Rattle.tape.proofs.Writes.{pending, flush_none, flush_ready, flush_all, flush_full}
use Rattle.tape.proofs.Tape.flush_ws.Goals as goal

pub returns-then-self-next : goal.returns-then-self-next
returns-then-self-next c = flush_none c.args.self.now c.if-self-next.true

pub leaves-to-requires : goal.leaves-to-requires
leaves-to-requires c = (pending c.args.self.now, c.args.self.now.holds)

pub invariant_of-self : goal.invariant_of-self
invariant_of-self c = record { ready = flush_ready c.args.self.now c.leaves-to.ensures; holds = rw c.leaves-to.ensures.writes.len c.args.self.now.holds }

pub returns-then-to-next : goal.returns-then-to-next
returns-then-to-next c =
    record {
      under = λ m.
          record {
            is = flush_all c.args.self.now c.leaves-to.ensures c.if-to-next.true m;
            kept = record { same = record { kinds = refl; lens = refl; len = c.leaves-to.ensures.writes.len; name = refl }; left = refl };
          };
    }

pub returns : goal.returns
returns c =
    record {
      under = λ m.
          record {
            is = flush_full c.args.self.now c.leaves-to.ensures c.if-to-next.false c.refusal.ensures.reason c.refusal.ensures.place m;
            kept = record { same = record { kinds = refl; lens = refl; len = c.leaves-to.ensures.writes.len; name = refl }; left = refl };
          };
    }
