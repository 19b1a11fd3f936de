-- An accepted table's leaves are the input's tokens: none is lost, made up, moved or changed.
-- Assumes nothing.
use Rattle.std.specs.Prelude.{ℕ, ◌+◌, ◌<◌, ◌≡◌, refl, Bool, true, false, List, [], ◌∷◌, ◌++◌, map, ltb, leb}
use Rattle.std.proofs.Common.{ap, ◌∙◌, append-nil, arith, leb-true, lt-ltb, le-ltb}
use Rattle.definition.specs.Kinds.{Root}
use Rattle.definition.specs.Classes.{is_token}
use Rattle.definition.specs.Tape.{Row, State, ok}
use Rattle.definition.specs.Parse.{Entry, parse, number_of}
use Rattle.laws.specs.Bools.{and_second}
use Rattle.trees.specs.Forest.{Tok, Forest, none, leaf, node, ◌⊕◌, size, bytes, leaves, rows, leafs, kinds, lens, bytes_app, rows_app}
use Rattle.trees.specs.Planted.{Nodes}
use Rattle.trees.specs.Input.{tokens, Kinds, tokens_kinds, tokens_lens, kinds_first, parsed}
use Rattle.trees.specs.Sound.{Named}
use Rattle.trees.proofs.Nested.{nested}
use Rattle.trees.specs.Lossless.{leaf_rows}

leaf_rows_none : leaf_rows [] ≡ []
unfolding leaf_rows
leaf_rows_none = refl

leaf_rows_leaf : (r : Row) (l : List Row) → r.kind < 128 → leaf_rows (r ∷ l) ≡ r ∷ leaf_rows l
unfolding leaf_rows
leaf_rows_leaf r l h = rw (lt-ltb r.kind 128 h, leaf_rows)

leaf_rows_node : (r : Row) (l : List Row) → Named r.kind → leaf_rows (r ∷ l) ≡ leaf_rows l
unfolding leaf_rows
leaf_rows_node r l h = rw (le-ltb r.kind 128 (leb-true 128 r.kind h), leaf_rows)

leaf_rows_app : (l m : List Row) → leaf_rows (l ++ m) ≡ leaf_rows l ++ leaf_rows m
unfolding leaf_rows
leaf_rows_app [] m = refl
leaf_rows_app (r ∷ l) m = go (ltb r.kind 128) refl (leaf_rows_app l m)
  where
    go : (b : Bool) → ltb r.kind 128 ≡ b → leaf_rows (l ++ m) ≡ leaf_rows l ++ leaf_rows m → leaf_rows (r ∷ (l ++ m)) ≡ leaf_rows (r ∷ l) ++ leaf_rows m
    go true e h = rw (e, leaf_rows) (ap (λ (x : List Row). r ∷ x) h)
    go false e h = rw (e, leaf_rows) h

-- of a forest whose nodes have node kinds and whose leaves have token kinds
abbrev Below : List Tok → Type 0
Below [] = Unit {0}
Below (t ∷ l) = (t.kind < 128) × Below l

below_app : (x y : List Tok) → Below (x ++ y) → Below x × Below y
below_app [] y h = (tt, h)
below_app (t ∷ x) y h = ((h.0, (below_app x y h.1).0), (below_app x y h.1).1)

below_tokens : (l : List Tok) → Kinds (kinds l) → Below l
unfolding is_token
below_tokens [] h = tt
below_tokens (t ∷ l) h =
    let x = kinds_first t.kind (kinds l) h in
    (omega (arith, leb-true t.kind 127 (and_second (leb 1 t.kind) _ x.0)), below_tokens l x.1)

leafs_app : (x y : List Tok) → leafs (x ++ y) ≡ leafs x ⊕ leafs y
leafs_app [] y = refl
leafs_app (t ∷ x) y = rw (leafs_app x y)

leafs_bytes : (f : Forest) → bytes (leafs (leaves f)) ≡ bytes f
leafs_bytes none = refl
leafs_bytes (leaf t f) = rw (leafs_bytes f)
leafs_bytes (node k c f) = rw (leafs_app (leaves c) (leaves f), bytes_app, leafs_bytes c, leafs_bytes f)

forest_leaf_rows : (b : ℕ) (f : Forest) → Nodes Named f → Below (leaves f) → leaf_rows (rows b f) ≡ rows b (leafs (leaves f))
forest_leaf_rows b none n h = rw (leaf_rows_none)
forest_leaf_rows b (leaf t f) n h =
    let r : Row = record { kind = t.kind; back = 0; start = b; len = t.len } in
    rw (leaf_rows_leaf r (rows (b + t.len) f) h.0, forest_leaf_rows (b + t.len) f n h.1)
forest_leaf_rows b (node k c f) n h =
    let g = below_app (leaves c) (leaves f) h in
    let r : Row = record { kind = k; back = size c; start = b; len = bytes c } in
    rw (
      leafs_app (leaves c) (leaves f),
      rows_app b (leafs (leaves c)) (leafs (leaves f)),
      leafs_bytes c,
      leaf_rows_app (rows b c) (r ∷ rows (b + bytes c) f),
      forest_leaf_rows b c n.1 g.0,
      leaf_rows_node r (rows (b + bytes c) f) n.0,
      forest_leaf_rows (b + bytes c) f n.2 g.1,
    )

-- **Every accepted table's leaf rows are the input's tokens in order**: kind and length as they came, each start the sum of the lengths before it.
pub lossless : (e : Entry) (ks ls : List ℕ) (n limit : ℕ) (s : State) → parse e ks ls n limit ≡ ok tt s → leaf_rows s.out ≡ rows 0 (leafs (tokens ks ls))
unfolding number_of
lossless e ks ls n limit s h =
    let t = nested e ks ls n limit s h in
    let all = below_tokens (tokens ks ls) (parsed e ks ls n limit (ap number_of h)).all in
    let same : leaves (node Root t.inside none) ≡ tokens ks ls = append-nil (leaves t.inside) ∙ t.leaves in
    rw (t.out, forest_leaf_rows 0 (node Root t.inside none) (refl, t.nodes, tt) (rw same all), same)

-- The same of the two lists: the leaf rows' kinds and lengths are those that came in.
row_kinds : (b : ℕ) (l : List Tok) → map (λ r. r.kind) (rows b (leafs l)) ≡ kinds l
row_kinds b [] = refl
row_kinds b (t ∷ l) = ap (λ (x : List ℕ). t.kind ∷ x) (row_kinds (b + t.len) l)

row_lens : (b : ℕ) (l : List Tok) → map (λ r. r.len) (rows b (leafs l)) ≡ lens l
row_lens b [] = refl
row_lens b (t ∷ l) = ap (λ (x : List ℕ). t.len ∷ x) (row_lens (b + t.len) l)

pub lossless_lists : (e : Entry) (ks ls : List ℕ) (n limit : ℕ) (s : State) → parse e ks ls n limit ≡ ok tt s →
    (map (λ r. r.kind) (leaf_rows s.out) ≡ ks) × (map (λ r. r.len) (leaf_rows s.out) ≡ ls)
unfolding number_of
lossless_lists e ks ls n limit s h =
    let pair = (parsed e ks ls n limit (ap number_of h)).pair in
    rw (lossless e ks ls n limit s h)
    (row_kinds 0 (tokens ks ls) ∙ tokens_kinds ks ls pair, row_lens 0 (tokens ks ls) ∙ tokens_lens ks ls pair)
