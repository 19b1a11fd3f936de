use Rattle.std.specs.Prelude.{ℕ, ◌-◌, ◌≤◌, ◌≡◌, List, length, take, drop, replicate}
use Rattle.std.proofs.Common.{ap, ◌∙◌, append-nil, arith, length-drop, length-take-le, drop_of_length-le}
use borrow.Rule.Slice.PartMut.{put_mid}
use Rattle.entry.specs.Round.{Zeroed}
use Rattle.entry.proofs.zero_from.Goals as goal

-- the part from `from` to the end, filled with 0
filled : (from : ℕ) (tab zeros : List ℕ) → zeros ≡ replicate (length (take (length tab - from) (drop from tab))) 0 → Zeroed from tab (put_mid from (length tab - from) tab zeros)
filled from tab zeros e =
    let short : length (drop from tab) ≤ length tab - from = omega (arith, length-drop from tab) in
    let all : length (take (length tab - from) (drop from tab)) ≡ length tab - from = length-take-le (length tab - from) (drop from tab) (omega (arith, length-drop from tab)) in
    let z : zeros ≡ replicate (length tab - from) 0 = e ∙ ap (λ (k : ℕ). replicate k 0) all in
    record { is = rw (drop_of_length-le (drop from tab) short, z, append-nil) }

pub returns : goal.returns
returns c = filled c.args.from c.args.table.now c.fill.new.self (c.fill.ensures.after (λ y e. e))
