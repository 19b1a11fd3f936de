use Rattle.std.proofs.Common.{ℕ, ◌+◌, ◌≡◌, get_or, ap, sym, ◌∙◌, arith}
use Rattle.definition.specs.Classes.{treated}
use Rattle.definition.specs.Tape.{glued_kind}
use Rattle.laws.specs.Looking.{skipped, skipped_le, glued_apart}
use Rattle.tape.proofs.Glued.{glued_same}
use Rattle.tape.proofs.Tape.glued.Goals as goal

pub overflow_add-self : goal.overflow_add-self
overflow_add-self c =
    let t = c.args.self.now in
    omega (arith, t.ready.next, skipped_le t.kinds.now t.at t.ready.fits.end, t.ready.sized.few)

pub returns-then-self : goal.returns-then-self
returns-then-self c =
    let t = c.args.self.now in
    let e : t.next + 1 ≡ skipped t.at t.kinds.now + 1 = omega (arith, t.ready.next) in
    sym (glued_apart t.kinds.now (t.next + 1) (λ x. c.if-self.true (t.ready.second ∙ x))) ∙ ap (λ (n : ℕ). glued_kind (get_or t.kinds.now n 0)) e

pub returns : goal.returns
returns c =
    let t = c.args.self.now in
    let e : t.next + 1 ≡ skipped t.at t.kinds.now + 1 = omega (arith, t.ready.next) in
    (c.kind_at.ensures ∙ ap (λ (n : ℕ). treated (get_or t.kinds.now n 0)) c.if-self.false) ∙
    (sym (glued_same t.kinds.now (t.next + 1) (sym t.ready.second ∙ c.if-self.false)) ∙ ap (λ (n : ℕ). glued_kind (get_or t.kinds.now n 0)) e)
