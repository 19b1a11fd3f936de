-- Written by tools/walk.py from the code and its program; docs/CONTRIBUTING.md says how.
-- Assumes nothing.
use Rattle.definition.specs.Grammar.{macro_call}
use Rattle.tape.specs.Steps.{step_marked, both, cut, thrown}
use Rattle.grammar.proofs.steps.macro_call.Goals as goal

pub returns-in_err-bump : goal.returns-in_err-bump
unfolding macro_call
returns-in_err-bump c =
    thrown c.from_residual.ensures (cut (c.in_err-bump.ensures.under _))

pub returns-in_err-bump-2 : goal.returns-in_err-bump-2
unfolding macro_call
returns-in_err-bump-2 c =
    thrown c.from_residual-in_err-bump-2.ensures (both (c.in_ok-bump.ensures.under _) (cut (c.in_err-bump-2.ensures.under _)))

pub returns-in_err-token_stream : goal.returns-in_err-token_stream
unfolding macro_call
returns-in_err-token_stream c =
    thrown c.from_residual-in_err-token_stream.ensures (both (c.in_ok-bump.ensures.under _) (both (c.in_ok-bump-2.ensures.under _) (cut (c.in_err-token_stream.ensures.under _))))

pub returns-in_err-bump-3 : goal.returns-in_err-bump-3
unfolding macro_call
returns-in_err-bump-3 c =
    thrown c.from_residual-in_err-bump-3.ensures (both (c.in_ok-bump.ensures.under _) (both (c.in_ok-bump-2.ensures.under _) (both (c.in_ok-token_stream.ensures.under _) (cut (c.in_err-bump-3.ensures.under _)))))

pub finish-requires : goal.finish-requires
finish-requires c =
    step_marked (c.in_ok-bump-3.ensures.under _) (step_marked (c.in_ok-token_stream.ensures.under _) (step_marked (c.in_ok-bump-2.ensures.under _) (step_marked (c.in_ok-bump.ensures.under _) c.requires)))

pub returns : goal.returns
unfolding macro_call
returns c =
    both (c.in_ok-bump.ensures.under _) (both (c.in_ok-bump-2.ensures.under _) (both (c.in_ok-token_stream.ensures.under _) (both (c.in_ok-bump-3.ensures.under _) c.finish.ensures)))
