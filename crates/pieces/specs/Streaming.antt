-- The loop of `stream`: where it stands. Its level is above 0, and at most one more than the tokens that were written.
-- Assumes nothing.
use Rattle.std.specs.Prelude.{ℕ, ◌+◌, ◌≤◌, ◌<◌, ◌≡◌, ◌⊎◌, eqb, Result}
use Rattle.std.proofs.Common.{inl, inr}
use Rattle.definition.specs.Prog.{done, seq, bump, test, repeat}
use Rattle.definition.specs.Grammar.{Matcher, stream, stream_turn}
use Rattle.tape.specs.View.{Step}
use Rattle.tape.specs.Steps.{Loop}
use Rattle.tape.specs.declared.Tape.{Tape}
use Rattle.tape.specs.declared.refusal.Refusal.{Refusal}

pub record Streaming (m : Matcher) (level : ℕ) (t₀ t : Tape) : Type 0 where
  pub loop : Loop (repeat (stream_turn m) level) (stream m) t₀ t
  pub some : 0 < level
  pub few : level ≤ t.at + 1

-- the step at a level that the code computed
pub stepped : {m r l : ℕ} {o : Result (ℕ ⊎ Unit {0}) Refusal} {t x : Tape} → r ≡ l →
    Step m (test (eqb r 0) (done (inr tt)) (seq bump (λ u. done (inl r)))) o t x →
    Step m (test (eqb l 0) (done (inr tt)) (seq bump (λ u. done (inl l)))) o t x
stepped e w = rw e at w
