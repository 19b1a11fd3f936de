use Rattle.std.proofs.Math.Path.{refl}
use Rattle.std.proofs.Common.{◌∙◌, arith}
use borrow.Author.Tests.{eq-eqb, ne_eqb}
use Rattle.definition.specs.Grammar.{stream, stream_turn, stream_step}
use Rattle.tape.specs.Steps.{burns, bumped, both, cut, thrown, if_yes, if_no, look, nothing, refuses, inv_start, inv_again, inv_end, last, last_cut}
use Rattle.pieces.specs.Streaming.{stepped}
use Rattle.pieces.proofs.streams.stream.Goals as goal

pub loop-m-init : goal.loop-m-init
unfolding stream stream_turn stream_step
loop-m-init c = record { loop = record { under = λ m. inv_start }; some = omega arith; few = omega arith }

pub returns-then-k-eq-EOF : goal.returns-then-k-eq-EOF
unfolding stream stream_turn stream_step
returns-then-k-eq-EOF c =
    record { under = λ m. inv_end (c.loop-m.invariant.loop.under m) (last_cut (look c.peek-k.ensures (if_yes (eq-eqb _ _ c.if-k-eq-EOF.true) (refuses c.refusal.ensures refl)))) }

pub level_after-level-requires : goal.level_after-level-requires
level_after-level-requires c =
    (c.loop-m.invariant.some, omega (arith, c.loop-m.invariant.few, c.loop-m.p.ready.fits.end, c.loop-m.p.ready.sized.few))

pub returns-then-level-eq0 : goal.returns-then-level-eq0
unfolding stream stream_turn stream_step
returns-then-level-eq0 c =
    record { under = λ m. inv_end (c.loop-m.invariant.loop.under m) (last (look c.peek-k.ensures (if_no (ne_eqb _ _ c.if-k-eq-EOF.false) (stepped c.level_after-level.ensures.is (if_yes (eq-eqb _ _ c.if-level-eq0.true) nothing))))) }

pub returns-in_err-bump : goal.returns-in_err-bump
unfolding stream stream_turn stream_step
returns-in_err-bump c =
    record {
      under = λ m.
          thrown c.from_residual.ensures
          (inv_end (c.loop-m.invariant.loop.under m)
          (last_cut (look c.peek-k.ensures (if_no (ne_eqb _ _ c.if-k-eq-EOF.false) (stepped c.level_after-level.ensures.is (if_no (ne_eqb _ _ c.if-level-eq0.false) (cut (c.in_err-bump.ensures.under _))))))));
    }

pub loop-m-smaller : goal.loop-m-smaller
loop-m-smaller c =
    burns (c.in_ok-bump.ensures.under 0).kept (bumped (c.in_ok-bump.ensures.under 0) (λ z. c.if-k-eq-EOF.false (c.peek-k.ensures ∙ z)))

pub loop-m-preserved : goal.loop-m-preserved
unfolding stream stream_turn stream_step
loop-m-preserved c =
    let on = bumped (c.in_ok-bump.ensures.under 0) (λ z. c.if-k-eq-EOF.false (c.peek-k.ensures ∙ z)) in
    record {
      loop = record {
        under = λ m.
            inv_again (c.loop-m.invariant.loop.under m)
            (look c.peek-k.ensures
            (if_no (ne_eqb _ _ c.if-k-eq-EOF.false) (stepped c.level_after-level.ensures.is (if_no (ne_eqb _ _ c.if-level-eq0.false) (both (c.in_ok-bump.ensures.under _) nothing)))))
            on;
      };
      some = omega (arith, c.if-level-eq0.false);
      few = omega (arith, c.level_after-level.ensures.small, c.loop-m.invariant.few, on.goes);
    }
