-- The entry of a number, case by case.
-- Assumes nothing.
use Rattle.std.specs.Prelude.{ℕ, ◌≡◌}
use Rattle.std.proofs.Common.{ap, ne_eqb}
use Rattle.definition.specs.Parse.{root, exprs, format}
use Rattle.definition.specs.Night.{entry_of}

module _ (e separator : ℕ) where
  pub asks_root : e ≡ 0 → entry_of e separator ≡ root
  unfolding entry_of
  asks_root h = ap (λ (k : ℕ). entry_of k separator) h

  pub asks_exprs : e ≡ 1 → entry_of e separator ≡ exprs separator
  unfolding entry_of
  asks_exprs h = ap (λ (k : ℕ). entry_of k separator) h

  pub asks_format : (e ≡ 0 → ⊥) → (e ≡ 1 → ⊥) → entry_of e separator ≡ format
  unfolding entry_of
  asks_format h k = rw (ne_eqb _ _ h, ne_eqb _ _ k)
