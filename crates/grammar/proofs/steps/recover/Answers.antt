-- Written by tools/walk.py from the code and its program; docs/CONTRIBUTING.md says how.
-- Assumes nothing.
use Rattle.std.proofs.Math.Path.{refl, ap}
use Rattle.definition.specs.Modes.{recovers}
use Rattle.kinds.specs.Modes.{cx_of}
use Rattle.definition.specs.Grammar.{recover}
use Rattle.tape.specs.Steps.{if_yes, if_no, refuses}
use Rattle.grammar.proofs.steps.recover.Goals as goal

pub returns-in-StmtCx : goal.returns-in-StmtCx
unfolding recover recovers
returns-in-StmtCx c =
    record { under = λ m. if_yes (ap recovers (ap cx_of c.in-StmtCx.is)) (c.recovery.ensures.under _) }

pub returns-in-ErrorCx : goal.returns-in-ErrorCx
unfolding recover recovers
returns-in-ErrorCx c =
    record { under = λ m. if_no (ap recovers (ap cx_of c.in-ErrorCx.is)) (refuses c.refusal.ensures refl) }
