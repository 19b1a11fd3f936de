use Rattle.std.proofs.Common.{arith}
use Rattle.definition.specs.Parse.{program}
use Rattle.krosstavel.specs.Starting.{treated_some, asked_for}
use Rattle.krosstavel.proofs.rules.rule.Goals as goal

pub overflow_cast-separator : goal.overflow_cast-separator
overflow_cast-separator c = omega (arith, (asked_for c.in-Exprs.is c.requires.1).small)

pub exprs_rule-requires : goal.exprs_rule-requires
exprs_rule-requires c = (c.requires.0, treated_some (asked_for c.in-Exprs.is c.requires.1))

pub returns-in-Root : goal.returns-in-Root
unfolding program
returns-in-Root c = rw c.in-Root.is c.root_rule.ensures

pub returns-in-Exprs : goal.returns-in-Exprs
unfolding program
returns-in-Exprs c = rw c.in-Exprs.is c.exprs_rule.ensures

pub returns-in-Format : goal.returns-in-Format
unfolding program
returns-in-Format c = rw c.in-Format.is c.format_rule.ensures
