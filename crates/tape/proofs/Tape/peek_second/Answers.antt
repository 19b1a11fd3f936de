use Rattle.std.proofs.Common.{ℕ, ◌+◌, get_or, drop, ap, sym, ◌∙◌}
use Rattle.definition.specs.Classes.{treated}
use Rattle.definition.specs.Tape.{nth_kind}
use Rattle.laws.specs.Looking.{next_at, later_at}
use Rattle.tape.proofs.Tape.peek_second.Goals as goal

pub returns : goal.returns
returns c =
    let t = c.args.self.now in
    let ks = t.kinds.now in
    c.kind_at.ensures ∙ (ap (λ (n : ℕ). treated (get_or ks n 0)) t.ready.second ∙
    (sym (next_at ks (t.next + 1)) ∙ (ap (λ (n : ℕ). nth_kind 0 (drop (n + 1) ks)) t.ready.next ∙ sym (later_at ks 0 t.at))))
