-- How far the tape's steps come: n leaves write n tokens, a flush comes to the next token that is no trivia, and a bump one past it.
-- Assumes nothing.
use Rattle.std.specs.Prelude.{ℕ, zero, suc, ◌+◌, ◌≤◌, ◌<◌, ◌≡◌, refl, Bool, true, false, length, drop}
use Rattle.std.proofs.Common.{subst, sym, ◌∙◌, arith, lt-ltb}
use Rattle.definition.specs.Tape.{In, State, Out, ok, refused, fault, and_then, choose, guard, room, here_at, wrote_leaf, leaf_at, leaves_at, flush_at, bump_at, triv}
use Rattle.laws.specs.Kept.{After}
use Rattle.laws.specs.Unroll.{then_cong, then_assoc}
use Rattle.laws.specs.Looking.{skipped, skipped_le}

By : ℕ → State → State → Type 0
By n s t = t.at ≡ s.at + n

leaf_by : (i : In) (n : ℕ) (s : State) (b : Bool) → After (By n) (wrote_leaf i s) (leaves_at i n (wrote_leaf i s)) →
    After (By (suc n)) s (and_then (guard b 11 (here_at i s) (λ v. ok (tt {0}) (wrote_leaf i s))) (λ v t. leaves_at i n t))
unfolding and_then guard By wrote_leaf
leaf_by i n s true h = further (leaves_at i n (wrote_leaf i s)) h
  where
    further : (o : Out (Unit {0})) → After (By n) (wrote_leaf i s) o → After (By (suc n)) s o
    further (ok a t) e = omega arith
    further (refused k pl) e = tt
    further (fault w) e = tt
leaf_by i n s false h = tt

leaves_by : (i : In) (n : ℕ) (s : State) → s.at + n ≤ length i.kinds → After (By n) s (leaves_at i n s)
unfolding leaves_at leaf_at choose By wrote_leaf
leaves_by i zero s h = omega arith
leaves_by i (suc n) s h =
    let g : (wrote_leaf i s).at + n ≤ length i.kinds = omega arith in
    rw (lt-ltb s.at (length i.kinds) (omega arith)) (leaf_by i n s (room i s) (leaves_by i n (wrote_leaf i s) g))

pub leaves_end : (i : In) (n : ℕ) (s t : State) (u : Unit {0}) → s.at + n ≤ length i.kinds → leaves_at i n s ≡ ok u t → t.at ≡ s.at + n
unfolding By
leaves_end i n s t u h e = subst (λ (o : Out _). After (By n) s o) e (leaves_by i n s h)

pub flush_end : (i : In) (s t : State) (u : Unit {0}) → s.at ≤ length i.kinds → flush_at i s ≡ ok u t → t.at ≡ skipped s.at i.kinds
unfolding flush_at skipped
flush_end i s t u h e = leaves_end i (triv (drop s.at i.kinds)) s t u (skipped_le i.kinds s.at h) e

pub bump_end : (i : In) (s t : State) (u : Unit {0}) → skipped s.at i.kinds < length i.kinds → bump_at i s ≡ ok u t → t.at ≡ skipped s.at i.kinds + 1
unfolding bump_at skipped
bump_end i s t u h e = omega (arith, leaves_end i (suc (triv (drop s.at i.kinds))) s t u (omega arith) e)

-- one leaf more is written last
pub leaves_last : (i : In) (n : ℕ) (s : State) → leaves_at i (suc n) s ≡ and_then (leaves_at i n s) (λ u t. leaf_at i t)
unfolding leaves_at and_then
leaves_last i zero s = only (leaf_at i s)
  where
    only : (o : Out (Unit {0})) → and_then o (λ u t. ok tt t) ≡ o
    only (ok a t) = refl
    only (refused n pl) = refl
    only (fault w) = refl
leaves_last i (suc n) s = then_cong (leaf_at i s) _ _ (λ u t. leaves_last i n t) ∙ sym (then_assoc (leaf_at i s) (λ u t. leaves_at i n t) (λ u t. leaf_at i t))
