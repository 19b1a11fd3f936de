use Rattle.replay.specs.Input.{byte_on, line_on}
use Rattle.replay.proofs.Room.byte.Goals as goal

pub returns-then-byte-ne10 : goal.returns-then-byte-ne10
returns-then-byte-ne10 c =
    byte_on c.args.place c.args.self.now.numbers c.if-byte-ne10.true c.step-reading.ensures

pub returns : goal.returns
returns c =
    line_on c.args.place c.args.self.now.numbers c.counted-tally.result c.line-holds.ensures c.counted-tally.ensures c.if-byte-ne10.false
