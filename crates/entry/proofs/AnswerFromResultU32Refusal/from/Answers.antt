use Rattle.entry.proofs.AnswerFromResultU32Refusal.from.Goals as goal

pub returns-in-Err : goal.returns-in-Err
returns-in-Err c = rw (c.from.ensures, c.in-Err.is)
