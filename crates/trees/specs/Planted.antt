-- What every program writes is a forest: its leaves are the input's tokens in their order, and a node covers whole trees. An instance of `kept`.
-- Assumes nothing.
use Rattle.std.specs.Prelude.{ℕ, zero, suc, ◌+◌, ◌<◌, ◌≡◌, refl, take, get_or}
use Rattle.std.proofs.Math.Path.{sym}
use Rattle.std.proofs.Common.{◌∙◌, arith}
use mathlib.Core.List.{List, [], ◌∷◌, append_assoc, append-nil}
use Rattle.std.proofs.Math.Numerals.{add-one}
use Rattle.std.proofs.Math.Nat.{zero-add, add-zero}
use Rattle.std.proofs.Math.ListN.{length, drop, length-append}
use Rattle.std.proofs.Math.Seq.{take-suc, drop_at}
use Rattle.definition.specs.Tape.{State, wrote_leaf, start_of, node_over, wrote_node}
use Rattle.definition.specs.Prog.{Prog, Rule, eval, call}
use Rattle.laws.specs.Kept.{After, Kept, kept}
use Rattle.trees.specs.Forest.{Tok, Forest, none, leaf, node, ◌⊕◌, size, bytes, leaves, rows, st, kinds, lens, in_of, app_none, app_assoc, bytes_app, leaves_app, rows_app, rows_length, rows_start, rows_leaves_len, kinds_length}

-- every node's kind is one of C
abbrev pub Nodes : (ℕ → Type 0) → Forest → Type 0
Nodes C none = Unit {0}
Nodes C (leaf t f) = Nodes C f
Nodes C (node k c f) = C k × Nodes C c × Nodes C f

-- s is the state once f is written, and f's leaves are the first tokens of l
pub record Wrote (C : ℕ → Type 0) (l : List Tok) (f : Forest) (s : State) : Type 0 where
  pub is : s ≡ st f
  pub next : leaves f ≡ take s.at l
  pub nodes : Nodes C f

-- that, with f and then more trees
pub record Wider (C : ℕ → Type 0) (l : List Tok) (f : Forest) (s : State) : Type 0 where
  pub more : Forest
  pub wrote : Wrote C l (f ⊕ more) s

-- Under the mark m: what stood before the mark stays as it is, and what stands behind it is whole trees again
unfoldable pub Plants : (ℕ → Type 0) → List Tok → ℕ → State → State → Type 0
Plants C l m s t = (f : Forest) → size f ≡ m → Wider C l f s → Wider C l f t

-- ## The moves

nodes_app : (C : ℕ → Type 0) (f g : Forest) → Nodes C f → Nodes C g → Nodes C (f ⊕ g)
nodes_app C none g a b = b
nodes_app C (leaf t f) g a b = nodes_app C f g a b
nodes_app C (node k c f) g a b = (a.0, a.1, nodes_app C f g a.2 b)

nodes_first : (C : ℕ → Type 0) (f g : Forest) → Nodes C (f ⊕ g) → Nodes C f
nodes_first C none g a = tt
nodes_first C (leaf t f) g a = nodes_first C f g a
nodes_first C (node k c f) g a = (a.0, a.1, nodes_first C f g a.2)

nodes_second : (C : ℕ → Type 0) (f g : Forest) → Nodes C (f ⊕ g) → Nodes C g
nodes_second C none g a = a
nodes_second C (leaf t f) g a = nodes_second C f g a
nodes_second C (node k c f) g a = nodes_second C f g a.2

abbrev end : Tok
end = record { kind = 0; len = 0 }

kinds_at : (l : List Tok) (n : ℕ) → get_or (kinds l) n 0 ≡ (get_or l n end).kind
kinds_at [] n = refl
kinds_at (t ∷ l) zero = refl
kinds_at (t ∷ l) (suc n) = kinds_at l n

lens_at : (l : List Tok) (n : ℕ) → get_or (lens l) n 0 ≡ (get_or l n end).len
lens_at [] n = refl
lens_at (t ∷ l) zero = refl
lens_at (t ∷ l) (suc n) = lens_at l n

-- trees begin where their first row does, and where none stand, at the next byte
begins : (b : ℕ) (g : Forest) → start_of (rows b g) (b + bytes g) ≡ b
unfolding start_of
begins b none = omega arith
begins b (leaf t f) = refl
begins b (node k c f) = rows_start b c _ _ refl

module _ (C : ℕ → Type 0) (l : List Tok) (n : ℕ) where
  -- one leaf more
  st_leaf : (f : Forest) → let s = st f in wrote_leaf (in_of l n) s ≡ st (f ⊕ leaf (get_or l s.at end) none)
  unfolding st wrote_leaf in_of
  st_leaf f =
      rw (leaves_app f, bytes_app f, rows_app 0 f, length-append (leaves f), kinds_at, lens_at, zero-add, add-zero)

  leaf_wrote : (f : Forest) (s : State) → s.at < length (kinds l) → Wrote C l f s → Wrote C l (f ⊕ leaf (get_or l s.at end) none) (wrote_leaf (in_of l n) s)
  unfolding wrote_leaf in_of
  leaf_wrote f s h w =
      let b : s.at < length l = omega (arith, kinds_length l) in
      record {
        is = rw w.is (st_leaf f);
        next = rw (leaves_app f, w.next, add-one, take-suc l s.at end b);
        nodes = nodes_app C f _ w.nodes tt;
      }

  -- a node over the trees behind the mark
  st_node : (m k : ℕ) (f g : Forest) → size f ≡ m → wrote_node m k (st (f ⊕ g)) ≡ st (f ⊕ node k g none)
  unfolding st wrote_node node_over start_of
  st_node m k f g e =
      let inside : drop m (rows 0 (f ⊕ g)) ≡ rows (bytes f) g = rw (rows_app 0 f g, zero-add, drop_at (rows 0 f) (rows (bytes f) g) m (rows_length 0 f ∙ e)) in
      rw (
        inside,
        rows_length (bytes f) g,
        rows_leaves_len (bytes f) g,
        bytes_app f g,
        begins (bytes f) g,
        rows_app 0 f g,
        leaves_app f g,
        rows_app 0 f (node k g none),
        bytes_app f (node k g none),
        leaves_app f (node k g none),
        zero-add,
        append-nil (leaves g),
        append_assoc (rows 0 f),
        add-zero,
      )

  pub node_wrote : (m k : ℕ) (f g : Forest) (s : State) → size f ≡ m → C k → Wrote C l (f ⊕ g) s → Wrote C l (f ⊕ node k g none) (wrote_node m k s)
  unfolding wrote_node
  node_wrote m k f g s e c w =
      record {
        is = rw w.is (st_node m k f g e);
        next = rw (leaves_app f (node k g none), append-nil (leaves g), sym (leaves_app f g)) w.next;
        nodes = nodes_app C f (node k g none) (nodes_first C f g w.nodes) (c, nodes_second C f g w.nodes, tt);
      }

  pub plants_same : (m : ℕ) (s : State) → Plants C l m s s
  unfolding Plants
  plants_same m s f e w = w

  pub plants_on : (m : ℕ) (s t u : State) → Plants C l m s t → Plants C l m t u → Plants C l m s u
  unfolding Plants
  plants_on m s t u a b f e w = b f e (a f e w)

  pub plants_leaf : (m : ℕ) (s : State) → s.at < length (kinds l) → Plants C l m s (wrote_leaf (in_of l n) s)
  unfolding Plants
  plants_leaf m s h f e w =
      let x = leaf (get_or l s.at end) none in
      record { more = w.more ⊕ x; wrote = rw (app_assoc f w.more x) at (leaf_wrote (f ⊕ w.more) s h w.wrote) }

  pub plants_node : (m k : ℕ) (s : State) → C k → Plants C l m s (wrote_node m k s)
  unfolding Plants
  plants_node m k s c f e w = record { more = node k w.more none; wrote = node_wrote m k f w.more s e c w.wrote }

  -- what is done under a mark of its own is done behind any other
  pub plants_inside : (m : ℕ) (s t : State) → Plants C l (length s.out) s t → Plants C l m s t
  unfolding Plants st
  plants_inside m s t h f e w =
      let g = f ⊕ w.more in
      let z : size g ≡ length s.out = rw (w.wrote.is, rows_length 0 g) in
      let x = h g z (record { more = none; wrote = rw (app_none g) w.wrote }) in
      record { more = w.more ⊕ x.more; wrote = rw (app_assoc f w.more x.more) at x.wrote }

-- any kind
abbrev pub Any : ℕ → Type 0
Any k = Unit {0}

plants_kept : (l : List Tok) (n : ℕ) → Kept (in_of l n) (Plants Any l)
unfolding in_of
plants_kept l n =
    record {
      same = plants_same Any l n;
      trans = plants_on Any l n;
      leaf = λ m s h r. plants_leaf Any l n m s h;
      node = λ m s k r. plants_node Any l n m k s tt;
      inside = plants_inside Any l n;
    }

-- every program of any grammar, at any depth and under any mark
pub plants : {A : Type 0} (g : Rule → Prog ℕ) (l : List Tok) (n d m : ℕ) (p : Prog A) (s : State) →
    After (Plants Any l m) s (eval (in_of l n) (call g (in_of l n) d) m p s)
plants g l n d m p s = kept (in_of l n) (Plants Any l) (plants_kept l n) g d m p s
