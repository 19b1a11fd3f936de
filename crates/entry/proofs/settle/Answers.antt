use Rattle.std.specs.Prelude.{ℕ, ◌*◌, ◌≡◌, refl, Result, Ok, Err}
use Rattle.std.specs.Result.{result_unwrap_or}
use Rattle.std.proofs.Common.{subst, ◌∙◌}
use Rattle.tape.specs.declared.refusal.Refusal.{Refusal}
use Rattle.entry.specs.Promise.{rows}
use Rattle.entry.specs.Round.{Zeroed}
use Rattle.entry.proofs.settle.Goals as goal

counted : (r : Result ℕ Refusal) → result_unwrap_or r 0 ≡ rows r
counted (Ok n) = refl
counted (Err e) = refl

pub returns : goal.returns
returns c = (refl, subst (λ (n : ℕ). Zeroed (4 * n) c.args.table.now c.zero_from.new.table) (c.unwrap_or-rows.ensures ∙ counted c.args.outcome) c.zero_from.ensures)
