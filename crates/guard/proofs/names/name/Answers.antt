use Rattle.std.proofs.Common.{◌≡◌, ◌+◌, ◌-◌, length, drop, ap, ◌∙◌}
use Rattle.std.specs.Slice.Iter.{split_rest, split_done}
use Rattle.guard.specs.Names.{whole, taken, dropped, line_cut}
use Rattle.guard.proofs.names.name.Goals as goal

pub loop-line-init : goal.loop-line-init
loop-line-init c =
    let all : split_rest c.into_iter-line-iterator.result ≡ c.args.names.now = ap split_rest c.into_iter-line-iterator.ensures.into_iter_gives ∙ c.split-line-items.ensures.rest in
    λ _. rw all (whole c.args.names.now)

pub returns-in-loop-line : goal.returns-in-loop-line
returns-in-loop-line c =
    let s = c.in-Some.ensures.steps in
    let line = c.in-Some.line.now in
    let from = c.in-Some-space.space + 1 in
    let part = (line_cut (split_done c.next.new.self) s.1 (c.loop-line.invariant s.0)).0 in
    taken (length line - from) (drop from line) (dropped from line part)

pub loop-line-preserved : goal.loop-line-preserved
loop-line-preserved c =
    let s = c.in-Some.ensures.steps in
    (line_cut (split_done c.next.new.self) s.1 (c.loop-line.invariant s.0)).1
