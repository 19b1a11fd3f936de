use Rattle.std.proofs.Common.{◌∙◌, arith}
use Rattle.text.specs.Line.{upto_go, upto_end}
use Rattle.text.proofs.numbers.Goals as goal

pub loop-byte-preserved : goal.loop-byte-preserved
loop-byte-preserved c =
    rw (c.step-reading.ensures.0, c.step-reading.ensures.1) (upto_go c.loop-byte.invariant (omega arith))

pub returns : goal.returns
returns c =
    let e = upto_end c.loop-byte.invariant (omega arith) in
    (c.end.ensures.0 ∙ e.0, c.end.ensures.1 ∙ e.1)
