use Rattle.std.specs.Prelude.{◌&&◌}
use Rattle.std.proofs.Math.Path.{refl}
use Rattle.definition.specs.Parse.{root, format, is_entry}
use Rattle.krosstavel.specs.Starting.{valid_alone}
use Rattle.krosstavel.proofs.rules.is_valid.Goals as goal

pub returns-in-Root : goal.returns-in-Root
unfolding is_entry
returns-in-Root c = rw c.in-Root.is (valid_alone root _ refl c.is_limit.ensures)

pub returns-in-Exprs : goal.returns-in-Exprs
returns-in-Exprs c = rw c.in-Exprs.is (λ i. c.is_limit-in-Exprs.ensures i && c.is_separator.ensures i)

pub returns-in-Format : goal.returns-in-Format
unfolding is_entry
returns-in-Format c = rw c.in-Format.is (valid_alone format _ refl c.is_limit-in-Format.ensures)
