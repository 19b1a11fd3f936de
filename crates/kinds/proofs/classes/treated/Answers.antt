-- `kinds::classes::treated` meets its contract: one computed test of the kinds on each side of its own.
-- Assumes nothing.
use borrow.Author.Rules.{rules}
use Rattle.definition.specs.Kinds.{tokens}
use Rattle.definition.specs.Classes.{among, is_assigned, treated}
use Rattle.kinds.specs.Every.{each_number}
use Rattle.kinds.proofs.classes.treated.Goals as goal

pub returns-then-k-le-YIELD : goal.returns-then-k-le-YIELD
unfolding among tokens is_assigned treated
returns-then-k-le-YIELD c = each_number 0 96 c.args.k (search rules) (λ m e h. rw e h) tt

pub returns-else-k-le-YIELD : goal.returns-else-k-le-YIELD
unfolding among tokens is_assigned treated
returns-else-k-le-YIELD c = each_number 96 160 c.args.k (search rules) (λ m e h. rw e h) tt
