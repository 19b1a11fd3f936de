use Rattle.std.proofs.Common.{rules}
use Rattle.tape.specs.Steps.{thrown_is}
use Rattle.entry.specs.Whole.{entry_refused, entry_stopped, entry_parsed}
use Rattle.krosstavel.specs.Starting.{marked_start, limit_few, entry_valid}
use Rattle.krosstavel.proofs.rows.Goals as goal

pub returns-in_err-check : goal.returns-in_err-check
returns-in_err-check c = rw (thrown_is _ c.from_residual.ensures) (entry_refused _ _ c.is_valid.ensures _ _ _ c.in_err-check.ensures)

pub begin-tape-requires : goal.begin-tape-requires
begin-tape-requires c = (limit_few _ _ c.is_valid.ensures c.in_ok-check.ensures, c.in_ok-check.ensures.sized)

pub rule-requires : goal.rule-requires
rule-requires c = (marked_start c.begin-tape.ensures.begins, entry_valid _ _ c.is_valid.ensures c.in_ok-check.ensures)

pub returns-in_err-rule : goal.returns-in_err-rule
returns-in_err-rule c =
    rw (thrown_is _ c.from_residual-in_err-rule.ensures)
    (entry_stopped _ _ c.is_valid.ensures _ _ _ c.in_ok-check.ensures c.begin-tape.ensures.begins c.in_err-rule.ensures (search rules))

pub returns : goal.returns
returns c = entry_parsed _ _ c.is_valid.ensures _ _ _ c.in_ok-check.ensures c.begin-tape.ensures.begins c.in_ok-rule.ensures c.rows.ensures (search rules)
