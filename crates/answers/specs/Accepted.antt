-- What a caller of any entry gets, for every input: with number 0 a tree that loses no token, with another number a refusal of 01's, with its place, and zeros alone.
-- Assumes nothing.
use Rattle.std.specs.Prelude.{ℕ, ◌≤◌, ◌≡◌, List, map}
use Rattle.std.proofs.Math.Path.{refl}
use Rattle.std.proofs.Common.{subst, sym, ◌∙◌}
use Rattle.std.proofs.Math.ListN.{length, replicate}
use Rattle.definition.specs.Kinds.{Root}
use Rattle.definition.specs.Tape.{Row, Out, ok, refused, fault}
use Rattle.definition.specs.Parse.{Entry, parse, number_of, place_of}
use Rattle.trees.specs.Forest.{Forest, none, node, leaves, rows}
use Rattle.trees.specs.Planted.{Nodes}
use Rattle.trees.specs.Input.{tokens}
use Rattle.trees.specs.Sound.{Named}
use Rattle.trees.proofs.Nested.{nested}
use Rattle.trees.specs.Lossless.{leaf_rows}
use Rattle.trees.proofs.Lossless.{lossless_lists}
use Rattle.trees.proofs.Ends.{never_faults, refusals, zero_accepted}
use Rattle.entry.specs.Promise.{Answers, Answered}
use Rattle.answers.specs.Left.{Tree, tree, refusal}

-- the kinds and the lengths of the rows that are leaves
abbrev pub leaf_kinds : List Row → List ℕ
leaf_kinds l = map (λ r. r.kind) (leaf_rows l)

abbrev pub leaf_lens : List Row → List ℕ
leaf_lens l = map (λ r. r.len) (leaf_rows l)

-- one tree with Root on top, whose leaves are the input's tokens in order, and whose nodes have kinds from 128 on
pub record Accepted (ks ls : List ℕ) (n number place count : ℕ) (table : List ℕ) : Type 0 where
  pub inside : Forest
  pub lossless : leaves inside ≡ tokens ks ls
  pub nodes : Nodes Named inside
  pub lists : (leaf_kinds (rows 0 (node Root inside none)) ≡ ks) × (leaf_lens (rows 0 (node Root inside none)) ≡ ls)
  pub tree : Tree (node Root inside none) n number place count table

module _ (e : Entry) (ks ls : List ℕ) (n limit : ℕ) {number place count : ℕ} {table : List ℕ} (a : Answered e ks ls n limit number place count table) where
  pub accepted : number ≡ 0 → Accepted ks ls n number place count table
  accepted z =
      let s = zero_accepted e ks ls n limit (sym a.number_is ∙ z) in
      let t = nested e ks ls n limit s.0 s.1 in
      record {
        inside = t.inside;
        lossless = t.leaves;
        nodes = t.nodes;
        lists = subst (λ (x : List Row). (leaf_kinds x ≡ ks) × (leaf_lens x ≡ ls)) t.out (lossless_lists e ks ls n limit s.0 s.1);
        tree = tree a (node Root t.inside none) s.0 s.1 t.out;
      }

  pub refused_zeros : (number ≡ 0 → ⊥) → (count ≡ 0) × (table ≡ replicate n 0)
  unfolding number_of
  refused_zeros z = go (parse e ks ls n limit) refl a
    where
      go : (o : Out (Unit {0})) → parse e ks ls n limit ≡ o → Answers o n number place count table → (count ≡ 0) × (table ≡ replicate n 0)
      go (ok u s) q b = absurd (z b.number_is)
      go (refused why pl) q b = let r = refusal b why pl refl in (r.rows_are, r.table_is)
      go (fault w) q b = absurd (never_faults e ks ls n limit w q)

  -- **Demand 1 without the grammar**: another number is one of 01's, 1 to 11, and the place is a token's or the token count
  pub refused_within : (number ≡ 0 → ⊥) → (1 ≤ number) × (number ≤ 11) × (place ≤ length ks)
  unfolding number_of place_of
  refused_within z = go (parse e ks ls n limit) refl a
    where
      go : (o : Out (Unit {0})) → parse e ks ls n limit ≡ o → Answers o n number place count table → (1 ≤ number) × (number ≤ 11) × (place ≤ length ks)
      go (ok u s) q b = absurd (z b.number_is)
      go (refused why pl) q b = rw (b.number_is, b.place_is) (refusals e ks ls n limit why pl q)
      go (fault w) q b = absurd (never_faults e ks ls n limit w q)
