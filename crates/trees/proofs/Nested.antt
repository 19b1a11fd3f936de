-- An accepted table is one tree: Root on top, every node over whole trees, and the tokens of the input, in their order, as its leaves.
-- Assumes nothing.
use Rattle.std.specs.Prelude.{ℕ, ◌≤◌, ◌≡◌, Bool, List, length}
use Rattle.std.proofs.Math.Path.{refl, ap}
use Rattle.std.proofs.Common.{subst, ◌∙◌}
use Rattle.std.proofs.Math.Bool.{true, false}
use native.Mathlib.Omega.{arith}
use Rattle.std.proofs.Math.Seq.{take_all}
use Rattle.definition.specs.Kinds.{Root}
use Rattle.definition.specs.Tape.{State, Out, ok, refused, fault, and_then, guard, wrote_node, close_at}
use Rattle.definition.specs.Prog.{call}
use Rattle.definition.specs.Grammar.{grammar}
use Rattle.definition.specs.Parse.{Entry, is_limit, is_entry, program, run, start, parse}
use Rattle.laws.specs.Bools.{and_second}
use Rattle.trees.specs.Forest.{Tok, none, st, kinds, in_of, kinds_length}
use Rattle.trees.specs.Planted.{Wider, Plants, node_wrote}
use Rattle.trees.specs.Input.{tokens, Kinds, let_in}
use Rattle.trees.specs.Root.{before, closed_last, Post, AtEnd, before_at_end}
use Rattle.trees.specs.Sound.{Named, Fine, here_within}
use Rattle.trees.proofs.Rules.{entries, before_sound}
use Rattle.trees.specs.Nested.{Tree, Whole}

module _ (l : List Tok) (n : ℕ) where
  begins : Wider Named l none start
  unfolding start st
  begins = record { more = none; wrote = record { is = refl; next = refl; nodes = tt } }

  -- Root is closed over all rows
  root_tree : (s : State) → AtEnd l tt s → Wider Named l none s → Tree l (wrote_node 0 Root s)
  unfolding st
  root_tree s h w =
      record {
        inside = w.more;
        out = ap (λ (t : State). t.out) (node_wrote Named l n 0 Root none w.more s refl refl w.wrote).is;
        leaves = w.wrote.next ∙ take_all s.at l (omega (arith, kinds_length l));
        nodes = w.wrote.nodes;
      }

  root_whole : (b : Bool) (pl : ℕ) (s : State) → pl ≤ length (kinds l) → Tree l s → Whole l (guard b 11 pl (λ u. ok tt s))
  unfolding guard
  root_whole true pl s p h = h
  root_whole false pl s p h = (omega arith, omega arith, p)

  close_whole : (o : Out (Unit {0})) → Fine l 0 start (λ u t. Unit {0}) o → Post (AtEnd l) o → Whole l (and_then o (λ u t. close_at (in_of l n) 0 Root t))
  unfolding and_then close_at Plants
  close_whole (ok u t) h z = root_whole _ _ _ (here_within l n t h.1) (root_tree t z (h.0 none refl begins))
  close_whole (refused k pl) h z = (omega arith, omega arith, h.place)
  close_whole (fault w) h z = h

  pub whole : (d : ℕ) (x : Entry) → is_entry x ≡ true → Kinds (kinds l) → Whole l (run (in_of l n) d 0 (program x) start)
  unfolding run start
  whole d x e all =
      rw (closed_last (in_of l n) (call grammar (in_of l n) d) x start)
      (close_whole (run (in_of l n) d 0 (before x) start) ((before_sound l 0 x e).fine n d (entries l n d) start (omega arith))
      (before_at_end l n (call grammar (in_of l n) d) all x start))

-- how every call ends
pub parse_whole : (e : Entry) (ks ls : List ℕ) (n limit : ℕ) → Whole (tokens ks ls) (parse e ks ls n limit)
parse_whole e ks ls n limit =
    let_in e ks ls n limit (Whole (tokens ks ls)) (λ k pl a b p. (a, omega arith, p))
    (λ x. whole (tokens ks ls) n limit e (and_second (is_limit limit) _ x.entry) x.all)

-- **Every accepted table is properly nested, with Root as its one top row.**
pub nested : (e : Entry) (ks ls : List ℕ) (n limit : ℕ) (s : State) → parse e ks ls n limit ≡ ok tt s → Tree (tokens ks ls) s
nested e ks ls n limit s h = subst (Whole (tokens ks ls)) h (parse_whole e ks ls n limit)
