-- A table as a forest: leaves and nodes, and the rows, bytes and tokens that they stand for. `st f` is the tape's state once f is written.
-- Assumes nothing.
use Rattle.std.specs.Prelude.{ℕ, suc, ◌+◌, ◌≡◌, refl, cond, List, [], ◌∷◌, ◌++◌, length, eqb}
use Rattle.std.proofs.Common.{ap, sym, ◌∙◌, append_assoc, arith, length-append, ne_eqb}
use Rattle.definition.specs.Tape.{In, Row, State, start_of, leaves_len, capacity}

-- a token: its kind and its length in bytes
pub record Tok : Type 0 where
  pub kind : ℕ
  pub len : ℕ

-- `leaf t f`: a leaf, then f; `node k c f`: a node of kind k over c, then f
pub data Forest : Type 0 where
  none : Forest
  leaf : Tok → Forest → Forest
  node : ℕ → Forest → Forest → Forest

infixr 40 ◌⊕◌
abbrev pub ◌⊕◌ : Forest → Forest → Forest
none ⊕ g = g
leaf t f ⊕ g = leaf t (f ⊕ g)
node k c f ⊕ g = node k c (f ⊕ g)

-- how many rows, how many bytes, which tokens
abbrev pub size : Forest → ℕ
size none = 0
size (leaf t f) = suc (size f)
size (node k c f) = suc (size c + size f)

abbrev pub bytes : Forest → ℕ
bytes none = 0
bytes (leaf t f) = t.len + bytes f
bytes (node k c f) = bytes c + bytes f

abbrev pub leaves : Forest → List Tok
leaves none = []
leaves (leaf t f) = t ∷ leaves f
leaves (node k c f) = leaves c ++ leaves f

-- its rows, where the first one starts at byte b: a node's row stands after those that it covers
abbrev pub rows : ℕ → Forest → List Row
rows b none = []
rows b (leaf t f) = record { kind = t.kind; back = 0; start = b; len = t.len } ∷ rows (b + t.len) f
rows b (node k c f) = rows b c ++ (record { kind = k; back = size c; start = b; len = bytes c } ∷ rows (b + bytes c) f)

unfoldable pub st : Forest → State
st f = record { at = length (leaves f); byte = bytes f; out = rows 0 f }

abbrev pub kinds : List Tok → List ℕ
kinds [] = []
kinds (t ∷ l) = t.kind ∷ kinds l

abbrev pub lens : List Tok → List ℕ
lens [] = []
lens (t ∷ l) = t.len ∷ lens l

-- tokens with a table of n elements
unfoldable pub in_of : List Tok → ℕ → In
in_of l n = record { kinds = kinds l; lens = lens l; cap = capacity n }

-- tokens as leaves
abbrev pub leafs : List Tok → Forest
leafs [] = none
leafs (t ∷ l) = leaf t (leafs l)

-- ## Laws

pub app_none : (f : Forest) → f ⊕ none ≡ f
app_none none = refl
app_none (leaf t f) = rw (app_none f)
app_none (node k c f) = rw (app_none f)

pub app_assoc : (f g h : Forest) → (f ⊕ g) ⊕ h ≡ f ⊕ (g ⊕ h)
app_assoc none g h = refl
app_assoc (leaf t f) g h = rw (app_assoc f g h)
app_assoc (node k c f) g h = rw (app_assoc f g h)

pub size_app : (f g : Forest) → size (f ⊕ g) ≡ size f + size g
size_app none g = omega arith
size_app (leaf t f) g = omega (arith, size_app f g)
size_app (node k c f) g = omega (arith, size_app f g)

pub bytes_app : (f g : Forest) → bytes (f ⊕ g) ≡ bytes f + bytes g
bytes_app none g = omega arith
bytes_app (leaf t f) g = omega (arith, bytes_app f g)
bytes_app (node k c f) g = omega (arith, bytes_app f g)

pub leaves_app : (f g : Forest) → leaves (f ⊕ g) ≡ leaves f ++ leaves g
leaves_app none g = refl
leaves_app (leaf t f) g = rw (leaves_app f g)
leaves_app (node k c f) g = rw (leaves_app f g) (sym (append_assoc (leaves c) (leaves f) (leaves g)))

pub rows_app : (b : ℕ) (f g : Forest) → rows b (f ⊕ g) ≡ rows b f ++ rows (b + bytes f) g
rows_app b none g = ap (λ (x : ℕ). rows x g) (omega arith)
rows_app b (leaf t f) g =
    ap (λ (x : List Row). record { kind = t.kind; back = 0; start = b; len = t.len } ∷ x)
    (rows_app (b + t.len) f g ∙ ap (λ (x : ℕ). rows (b + t.len) f ++ rows x g) (omega arith))
rows_app b (node k c f) g =
    ap (λ (x : List Row). rows b c ++ (record { kind = k; back = size c; start = b; len = bytes c } ∷ x))
    (rows_app (b + bytes c) f g ∙ ap (λ (x : ℕ). rows (b + bytes c) f ++ rows x g) (omega arith))
    ∙ sym (append_assoc (rows b c) _ _)

pub rows_length : (b : ℕ) (f : Forest) → length (rows b f) ≡ size f
rows_length b none = refl
rows_length b (leaf t f) = rw (rows_length (b + t.len) f)
rows_length b (node k c f) =
    rw length-append
    (omega (arith, rows_length b c, rows_length (b + bytes c) f))

-- where the first row starts; with none, the byte that is next
pub rows_start : (b : ℕ) (f : Forest) (l : List Row) (y : ℕ) → start_of l y ≡ b → start_of (rows b f ++ l) y ≡ b
unfolding start_of
rows_start b none l y h = h
rows_start b (leaf t f) l y h = refl
rows_start b (node k c f) l y h =
    ap (λ (x : List Row). start_of x y) (append_assoc (rows b c) _ l)
    ∙ rows_start b c (record { kind = k; back = size c; start = b; len = bytes c } ∷ (rows (b + bytes c) f ++ l)) y refl

leaves_len_app : (l m : List Row) → leaves_len (l ++ m) ≡ leaves_len l + leaves_len m
unfolding leaves_len
leaves_len_app [] m = omega arith
leaves_len_app (r ∷ l) m = omega (arith, leaves_len_app l m)

empty_bytes : (c : Forest) → cond (eqb (size c) 0) (bytes c) 0 ≡ 0
empty_bytes none = refl
empty_bytes (leaf t f) = rw (ne_eqb (suc (size f)) 0 (λ e. omega (arith, e)))
empty_bytes (node k c f) = rw (ne_eqb (suc (size c + size f)) 0 (λ e. omega (arith, e)))

-- the leaves' lengths
pub rows_leaves_len : (b : ℕ) (f : Forest) → leaves_len (rows b f) ≡ bytes f
unfolding leaves_len
rows_leaves_len b none = refl
rows_leaves_len b (leaf t f) = rw (rows_leaves_len (b + t.len) f)
rows_leaves_len b (node k c f) =
    leaves_len_app (rows b c) _ ∙ omega (arith, rows_leaves_len b c, rows_leaves_len (b + bytes c) f, empty_bytes c)

pub leafs_size : (x : List Tok) → size (leafs x) ≡ length x
leafs_size [] = refl
leafs_size (t ∷ x) = rw (leafs_size x)

pub leafs_leaves : (x : List Tok) → leaves (leafs x) ≡ x
leafs_leaves [] = refl
leafs_leaves (t ∷ x) = rw (leafs_leaves x)

pub kinds_length : (x : List Tok) → length (kinds x) ≡ length x
kinds_length [] = refl
kinds_length (t ∷ x) = rw (kinds_length x)

pub lens_length : (x : List Tok) → length (lens x) ≡ length x
lens_length [] = refl
lens_length (t ∷ x) = rw (lens_length x)
