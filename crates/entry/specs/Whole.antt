-- A call put together: `valid` is what the code found of limit and entry, and tab the table that was lent.
-- Assumes nothing.
use Rattle.std.specs.Prelude.{ℕ, ◌≡◌, refl, Bool, ◌&&◌, List, length, Result, Ok, Err}
use Rattle.std.proofs.Common.{sym, subst, ◌∙◌}
use Rattle.definition.specs.Tape.{ok}
use Rattle.definition.specs.Parse.{Entry, program, is_limit, parse, is_entry, admitted, run, start}
use Rattle.tape.specs.Ready.{in_of, rows_in}
use Rattle.tape.specs.View.{given, state_of, out_of, Begins, Step}
use Rattle.tape.specs.declared.refusal.Refusal.{Refusal}
use Rattle.tape.specs.declared.Tape.{Tape}
use Rattle.entry.specs.Promise.{Leaves, Wrote}
use Rattle.entry.specs.Round.{Checked}
use Rattle.entry.specs.Table.{refused_leaves, tree_leaves}

pub begins_state : {limit : ℕ} {t : Tape} {ks ls tab : List ℕ} → Begins limit t ks ls tab → state_of t ≡ start
unfolding start rows_in
begins_state b = rw (b.at, b.byte, b.rows)

begins_given : {limit : ℕ} {t : Tape} {ks ls tab : List ℕ} → Begins limit t ks ls tab → given t ≡ in_of ks ls tab
begins_given b = rw (b.kinds, b.lens, b.table)

module _ (e : Entry) (limit : ℕ) {valid : Bool} (v : valid ≡ is_limit limit && is_entry e) (ks ls tab : List ℕ) where
  parse_is : parse e ks ls (length tab) limit ≡ admitted valid ks ls (λ u. run (in_of ks ls tab) limit 0 (program e) start)
  unfolding parse
  parse_is = rw v

  -- refused before the parse
  pub entry_refused : {f : Refusal} → Checked valid ks ls (Err f) → Wrote e ks ls (length tab) limit (Err f) tab
  entry_refused {f} c = rw (parse_is, c (λ u. run (in_of ks ls tab) limit 0 (program e) start)) (refused_leaves f tab refl)

  module _ (c : Checked valid ks ls (Ok tt)) {t u : Tape} (b : Begins limit t ks ls tab) where
    -- what the tape comes to by the entry's program, from `begin`'s tape
    comes_to : {o : Result (Unit {0}) Refusal} → Step 0 (program e) o t u → out_of o (state_of u) ≡ parse e ks ls (length tab) limit
    comes_to w =
        w.is ∙ ((rw (begins_given b, b.left, begins_state b)) ∙
        sym (parse_is ∙ c.on (λ u. run (in_of ks ls tab) limit 0 (program e) start)))

    pub entry_stopped : {f : Refusal} {tab' : List ℕ} → Step 0 (program e) (Err f) t u → length tab' ≡ length tab → Wrote e ks ls (length tab) limit (Err f) tab'
    entry_stopped {f} {tab'} w h = subst (λ (o : _). Leaves o (length tab) (Err f) tab') (comes_to w) (refused_leaves f tab' h)

    pub entry_parsed : {n : ℕ} {tab' : List ℕ} → Step 0 (program e) (Ok tt) t u → n ≡ length (state_of u).out → tab' ≡ u.table.now → Wrote e ks ls (length tab) limit (Ok n) tab'
    entry_parsed w h g =
        let l : length u.table.now ≡ length tab = w.kept.same.len ∙ (rw b.table) in
        rw (h, g) (subst (λ (o : _). Leaves o (length tab) (Ok (length (state_of u).out)) u.table.now) (comes_to w)
        (subst (λ (n : ℕ). Leaves (ok tt (state_of u)) n (Ok (length (state_of u).out)) u.table.now) l (tree_leaves u)))
