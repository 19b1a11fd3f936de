use Rattle.std.proofs.Common.{◌≡◌, None, rules, arith}
use Rattle.replay.specs.Wanted.{upto_end, full, lacks_kind, lacks_length, too_long, upto_leaf, lacks_back, too_far, upto_node}
use Rattle.replay.proofs.wanted.rows.Goals as goal
use Rattle.replay.proofs.wanted.rows.Goals.{then-kind-eq0+in_ok-token+in_ok-len+in_ok-end, else-kind-eq0+in_ok-back+else-back-row}

pub returns-then-row-out : goal.returns-then-row-out
returns-then-row-out c = full c.loop-kind.invariant c.in-Some.ensures.cases.0 c.if-row-out.true

pub returns-in_err-token : goal.returns-in_err-token
returns-in_err-token c =
    let none : c.from_residual.result ≡ None = search rules in
    rw none (lacks_kind c.loop-kind.invariant c.in-Some.ensures.cases.0 c.if-kind-eq0.true c.in_err-token.ensures.cases)

pub returns-in_err-len : goal.returns-in_err-len
returns-in_err-len c =
    let none : c.from_residual-in_err-len.result ≡ None = search rules in
    rw none (lacks_length c.loop-kind.invariant c.in-Some.ensures.cases.0 c.if-kind-eq0.true c.in_err-len.ensures.cases)

pub returns-in_err-end : goal.returns-in_err-end
returns-in_err-end c =
    let none : c.from_residual-in_err-end.result ≡ None = search rules in
    rw none (too_long c.loop-kind.invariant c.in-Some.ensures.cases.0 c.if-kind-eq0.true c.in_ok-token.ensures.cases.0 c.in_ok-len.ensures.cases.0 (omega arith) c.in_err-end.ensures)

pub returns-in_err-back : goal.returns-in_err-back
returns-in_err-back c =
    let none : c.from_residual-in_err-back.result ≡ None = search rules in
    rw none (lacks_back c.loop-kind.invariant c.in-Some.ensures.cases.0 c.if-kind-eq0.false c.in_err-back.ensures.cases)

pub returns-then-back-row : goal.returns-then-back-row
returns-then-back-row c =
    too_far c.loop-kind.invariant c.in-Some.ensures.cases.0 c.if-kind-eq0.false c.in_ok-back.ensures.cases.0 (omega arith) c.if-back-row.true

pub loop-kind-preserved : goal.loop-kind-preserved
loop-kind-preserved c =
    let is = c.in-Some.ensures.cases.0 in
    elim c.if-kind-eq0.branch [
      | then-kind-eq0+in_ok-token+in_ok-len+in_ok-end w ↦
          let wide : w.from.result ≡ w.in_ok-token.token.now = search rules in
          rw (w.out-is, w.shape-is, w.kinds-is, w.lens-is, w.byte-is, w.put.ensures, wide, w.in_ok-end.ensures.1) (upto_leaf c.loop-kind.invariant is w.if-kind-eq0.true w.in_ok-token.ensures.cases.0 w.in_ok-len.ensures.cases.0 (omega arith) w.in_ok-end.ensures.0)
      | else-kind-eq0+in_ok-back+else-back-row w ↦
          rw (w.out-is, w.shape-is, w.kinds-is, w.lens-is, w.byte-is, w.node.ensures) (upto_node c.loop-kind.invariant is w.if-kind-eq0.false w.in_ok-back.ensures.cases.0 (omega arith) w.if-back-row.false)
    ]

pub returns : goal.returns
returns c = upto_end c.loop-kind.invariant c.in_default.ensures.cases
