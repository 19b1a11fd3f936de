-- `kinds::operators::lookup::binding_of` meets its contract: a computed test of the kinds that the table has, and of those on each side.
-- Assumes nothing.
use mathlib.Core.Bool.{true}
use borrow.Author.Tests.{ltb-true}
use borrow.Author.Rules.{rules}
use Rattle.definition.specs.Classes.{among}
use Rattle.definition.specs.Operators.{bindings, binding_in}
use Rattle.kinds.specs.Every.{each, each_number}
use Rattle.kinds.proofs.operators.lookup.binding_of.Goals as goal

pub returns-then-k-lt-DASH : goal.returns-then-k-lt-DASH
unfolding among bindings binding_in
returns-then-k-lt-DASH c =
    elim c.then-k-lt-DASH.branch [
      | goal.then-k-lt-DASH-via-then-k-lt-DASH w ↦ record {
        is = each_number 0 30 c.args.k (search rules) (λ m e h. rw e h) tt;
        fits = tt;
      }
      | goal.then-k-lt-DASH-via-else-k-lt-DASH+then-k-gt-GT_GT_EQ w ↦ record {
        is = each_number 64 192 c.args.k (search rules) (λ m e h. rw e h) tt;
        fits = tt;
      }
    ]

pub returns-in-0 : goal.returns-in-0
unfolding among bindings binding_in
returns-in-0 c =
    record {
      is = rw (← c.in-0.is) (each_number 30 34 c.args.k (search rules) (λ m e h. rw (c.from.ensures, e) h) tt);
      fits = tt;
    }

pub returns-in_default : goal.returns-in_default
unfolding among bindings binding_in
returns-in_default c =
    record {
      is = each_number 30 34 c.args.k (search rules) (λ m e h. rw (c.from.ensures, e) h) tt;
      fits = (search rules, ltb-true _ 14 (each 30 34 c.args.k {g = λ m. true} (search rules) (λ m e h. rw (c.from.ensures, e) h) tt));
    }
