use Rattle.std.proofs.Math.Path.{sym}
use Rattle.definition.specs.Parse.{is_entry}
use Rattle.entry.specs.Input.{no_separator}
use Rattle.entry.proofs.input.is_separator.Goals as goal

pub returns-then-separator-gt127 : goal.returns-then-separator-gt127
returns-then-separator-gt127 c = sym (no_separator c.args.separator c.if-separator-gt127.true)

pub returns : goal.returns
unfolding is_entry
returns c = rw (c.is_token.ensures, c.is_trivia.ensures)
