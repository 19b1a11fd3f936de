-- How every call ends: with a tree, or with a refusal of document 01 at a place in the list or at its end. No fault comes out, and number 0 is acceptance's alone.
-- Assumes nothing.
use Rattle.std.specs.Prelude.{ℕ, ◌≤◌, ◌≡◌, refl, List, length}
use Rattle.std.proofs.Common.{subst, arith}
use Rattle.definition.specs.Tape.{State, Fault, Out, ok, refused, fault}
use Rattle.definition.specs.Parse.{Entry, parse, number_of}
use Rattle.trees.specs.Input.{tokens, tokens_length}
use Rattle.trees.specs.Nested.{Whole}
use Rattle.trees.proofs.Nested.{parse_whole}

-- **No call ends in a fault**: every loop of the grammar ends, and every close is over the mark of the checkpoint that it stands in.
pub never_faults : (e : Entry) (ks ls : List ℕ) (n limit : ℕ) (w : Fault) → parse e ks ls n limit ≡ fault w → ⊥
never_faults e ks ls n limit w h = subst (Whole (tokens ks ls)) h (parse_whole e ks ls n limit)

-- **Every refusal has a number of document 01's, and a place in the list or at its end.**
pub refusals : (e : Entry) (ks ls : List ℕ) (n limit k pl : ℕ) → parse e ks ls n limit ≡ refused k pl → (1 ≤ k) × (k ≤ 11) × (pl ≤ length ks)
refusals e ks ls n limit k pl h = omega (arith, subst (Whole (tokens ks ls)) h (parse_whole e ks ls n limit), tokens_length ks ls)

-- **Where the number is 0, the input is accepted.**
pub zero_accepted : (e : Entry) (ks ls : List ℕ) (n limit : ℕ) → number_of (parse e ks ls n limit) ≡ 0 → (s : State) × (parse e ks ls n limit ≡ ok tt s)
unfolding number_of
zero_accepted e ks ls n limit h = go (parse e ks ls n limit) h (parse_whole e ks ls n limit)
  where
    go : (o : Out (Unit {0})) → number_of o ≡ 0 → Whole (tokens ks ls) o → (s : State) × (o ≡ ok tt s)
    go (ok u s) z w = (s, refl)
    go (refused k pl) z w = absurd (omega arith)
    go (fault x) z w = absurd w
