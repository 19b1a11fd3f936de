use Rattle.std.proofs.Common.{ℕ, get_or, ap, sym, ◌∙◌}
use Rattle.definition.specs.Classes.{treated}
use Rattle.laws.specs.Looking.{next_at}
use Rattle.tape.proofs.Tape.peek.Goals as goal

pub returns : goal.returns
returns c =
    let t = c.args.self.now in
    c.kind_at.ensures ∙ (ap (λ (n : ℕ). treated (get_or t.kinds.now n 0)) t.ready.next ∙ sym (next_at t.kinds.now t.at))
