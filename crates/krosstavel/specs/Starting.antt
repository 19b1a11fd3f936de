-- How an entry begins: at row 0, with its limit and separator valid, and the separator as it is treated.
-- Assumes nothing.
use Rattle.std.specs.Prelude.{ℕ, ◌≤◌, ◌<◌, ◌≡◌, refl, Bool, true, false, cond, not, ◌&&◌, List, leb, Result, Ok}
use Rattle.std.proofs.Common.{subst, sym, ap, ◌∙◌, arith, leb-true}
use Rattle.definition.specs.Kinds.{K-Other}
use Rattle.definition.specs.Classes.{is_assigned, treated, is_token, is_trivia, is_some}
use Rattle.definition.specs.Tape.{State, ok, guard, start_of, leaves_len}
use Rattle.definition.specs.Prog.{Prog}
use Rattle.definition.specs.Parse.{Entry, start, admitted, exprs, is_limit, is_entry}
use Rattle.laws.specs.Bools.{and_first, and_second}
use Rattle.laws.specs.Progress.{not_eof}
use Rattle.laws.specs.Sizes.{Based}
use Rattle.tape.specs.View.{Marked, Begins, Step}
use Rattle.tape.specs.declared.refusal.Refusal.{Refusal}
use Rattle.tape.specs.declared.Tape.{Tape}
use Rattle.entry.specs.Round.{entry_of, Checked}
use Rattle.entry.specs.declared.Entry.{Entry as Asking}
use Rattle.entry.specs.Whole.{begins_state}

-- a separator is compared as a kind that is no Eof
pub record Treated (separator : ℕ) : Type 0 where
  pub some : 0 < treated separator

-- row 0 is a mark
pub marked_start : {limit : ℕ} {t : Tape} {ks ls tab : List ℕ} → Begins limit t ks ls tab → Marked 0 t
unfolding start start_of leaves_len
marked_start b =
    let s : Based 0 start = record { low = omega arith; sum = refl } in
    record { based = subst (λ (x : State). Based 0 x) (sym (begins_state b)) s }

-- a step of the same program under another name
pub same_step : {A : Type 0} {m : ℕ} {p q : Prog A} {o : Result A Refusal} {t r : Tape} → p ≡ q → Step m p o t r → Step m q o t r
same_step {m = m} {o = o} {t = t} {r = r} e w = subst (λ (x : Prog _). Step m x o t r) e w

-- a kind that is some is no Eof
pub some_is_some : (k : ℕ) → is_some k ≡ true → k ≡ 0 → ⊥
unfolding is_some
some_is_some k h = not_eof is_some k refl h

-- ## What the code found of limit and entry

with_true : (b : Bool) → b ≡ (b && true)
with_true true = refl
with_true false = refl

-- where an entry brings no separator, the limit alone is to be valid
pub valid_alone : (e : Entry) (limit : ℕ) {b : Bool} → is_entry e ≡ true → b ≡ is_limit limit → b ≡ (is_limit limit && is_entry e)
valid_alone e limit h f = rw h (f ∙ with_true (is_limit limit))

-- an input that passes the five tests has a valid limit and entry
pub checked_valid : (valid : Bool) {ks ls : List ℕ} → Checked valid ks ls (Ok tt) → valid ≡ true
unfolding admitted guard
checked_valid valid {ks} {ls} c = go valid (c.on (λ u. ok tt start))
  where
    go : (b : Bool) → admitted b ks ls (λ u. ok (tt {0}) start) ≡ ok tt start → b ≡ true
    go true e = refl
    go false e = absurd (let x : ◌≡◌ {A = ℕ} 0 1 = cc in omega arith)

module _ (e : Entry) (limit : ℕ) {valid : Bool} (v : valid ≡ (is_limit limit && is_entry e)) {ks ls : List ℕ} (c : Checked valid ks ls (Ok tt)) where
  both_valid : (is_limit limit && is_entry e) ≡ true
  both_valid = sym v ∙ checked_valid valid c

  -- a limit that is let pass fits the tape's count of entries
  pub limit_few : limit ≤ 65535
  unfolding is_limit
  limit_few =
      let h : (leb 1 limit && leb limit 256) ≡ true = and_first (leb 1 limit && leb limit 256) (is_entry e) both_valid in
      omega (arith, leb-true limit 256 (and_second (leb 1 limit) (leb limit 256) h))

  pub entry_valid : is_entry e ≡ true
  entry_valid = and_second (is_limit limit) (is_entry e) both_valid

pub record Fine (separator : ℕ) : Type 0 where
  pub some : 1 ≤ separator
  pub small : separator ≤ 127

pub fine : (separator : ℕ) → is_entry (exprs separator) ≡ true → Fine separator
unfolding is_entry is_token
fine separator h =
    let e : (leb 1 separator && leb separator 127) ≡ true = and_first (leb 1 separator && leb separator 127) (not (is_trivia separator)) h in
    record { some = leb-true 1 separator (and_first (leb 1 separator) (leb separator 127) e); small = leb-true separator 127 (and_second (leb 1 separator) (leb separator 127) e) }

-- of an entry that brings one
pub asked_for : {e : Asking} {separator : ℕ} → e ≡ Asking.Exprs separator → is_entry (entry_of e) ≡ true → Fine separator
asked_for {separator = separator} e h = fine separator (sym (ap (λ (x : Asking). is_entry (entry_of x)) e) ∙ h)

pub treated_some : {separator : ℕ} → Fine separator → Treated separator
unfolding treated
treated_some {separator} f = record { some = go (is_assigned separator) }
  where
    go : (b : Bool) → 0 < cond b separator K-Other
    go true = omega (arith, f.some)
    go false = omega arith
