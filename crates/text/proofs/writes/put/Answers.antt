-- What was written stands at the writer's end, and one write more behind it.
-- Assumes nothing.
use Rattle.std.proofs.Common.{ℕ, ◌≡◌, ◌-◌, ◌+◌, ◌≤◌, List, ◌++◌, arith, length, take, drop, length-take, subst, sym, ap, ◌∙◌}
use Rattle.std.proofs.lemmas.List.{take-take}
use Rattle.std.proofs.Math.Seq.{take-add}
use Rattle.std.specs.Io.KnownBytes.{Appends}
use Rattle.std.proofs.KnownBytes.{Appends-trans}
use Rattle.text.proofs.writes.put.Goals as goal

-- the front, and what was taken of the rest behind it
joined : (done n : ℕ) (xs : List ℕ) → n ≤ length xs - done → take done xs ++ take n (take (length xs - done) (drop done xs)) ≡ take (done + n) xs
joined done n xs h = ap (λ (l : List ℕ). take done xs ++ l) (take-take n (length xs - done) (drop done xs) h) ∙ sym (take-add done n xs)

-- a part is no longer than it was asked to be
taken : (n m : ℕ) (xs : List ℕ) → n ≤ length (take m xs) → n ≤ m
taken n m xs h = omega (arith, h, length-take m xs)

pub loop-done-preserved : goal.loop-done-preserved
loop-done-preserved g c =
    let within : c.in_ok-n.n ≤ length c.args.bytes.now - c.loop-done.done = taken _ _ _ c.in_ok-n.ensures.bound in
    let test : c.loop-done.done + 1 ≤ length c.args.bytes.now = omega arith in
    (omega (arith, within, test), subst (Appends _ _) (joined _ _ _ within) (Appends-trans _ _ _ _ _ c.loop-done.invariant.1 c.in_ok-n.ensures.bytes))
