-- The programs that document 01 wants shut out, each by a theorem about every outcome that the promises allow: whatever a call does, this it does not answer.
-- `Answered` is what the calls for C ensure. What the calls for Rust ensure has it as a part: `Parsed .. .answers`.
-- Assumes nothing.
use Rattle.std.specs.Prelude.{ℕ, ◌-◌, ◌*◌, ◌<◌, ◌≡◌, refl, List, [], ◌∷◌, ◌++◌, length, get_or, take, drop, replicate}
use Rattle.std.proofs.Common.{ap, sym, ◌∙◌, arith, take_at}
use Rattle.definition.specs.Kinds.{K-comma, K-ident, K-+, K-==, K-semi, Path, ExprOperator, ExprBinary, Expr, Root}
use Rattle.definition.specs.Tape.{Row, width, elements}
use Rattle.definition.specs.Parse.{Entry, root, exprs, format, flat}
use Rattle.laws.specs.Known.{Case, answered, promised}
use Rattle.trees.specs.Forest.{Tok, Forest, none, leaf, node, size, rows, rows_length, kinds, lens}
use Rattle.trees.specs.Lossless.{leaf_rows}
use Rattle.trees.specs.Two.{two, two_result}
use Rattle.lines.specs.Line.{Line, spell, Links, Reads}
use Rattle.lines.specs.LineDemand.{Call}
use Rattle.laws.specs.Flat.{flat_length}
use Rattle.entry.specs.Promise.{Answered, only_answer}
use Rattle.answers.specs.Left.{Tree}
use Rattle.answers.specs.Accepted.{Accepted, accepted, leaf_kinds, leaf_lens}
use Rattle.answers.specs.Count.{Ends, one_count, zeros, row_count}
use Rattle.answers.specs.OnLine.{gets}

-- ## Two inputs, and what every entry answers to them

-- the three entries, `exprs` with the separator `,`
pub data Asked : Entry → Type 0 where
  in_root : Asked root
  in_exprs : Asked (exprs K-comma)
  in_format : Asked format

-- a call with a table of 40 elements and the depth limit 256: number, place, and the elements that the rows fill
abbrev gives : Entry → List ℕ → List ℕ → ℕ → ℕ → List ℕ → Case
gives e ks ls number place rows = record { entry = e; kinds = ks; lens = ls; size = 40; limit = 256; number = number; place = place; rows = rows }

-- `a`
abbrev pub name : Entry → Case
name e =
    gives e (K-ident ∷ []) (1 ∷ []) 0 0
    (K-ident ∷ 0 ∷ 0 ∷ 1 ∷ Path ∷ 1 ∷ 0 ∷ 1 ∷ Expr ∷ 2 ∷ 0 ∷ 1 ∷ Root ∷ 3 ∷ 0 ∷ 1 ∷ [])

-- `a+b`
abbrev pub sum : Entry → Case
sum e =
    gives e (K-ident ∷ K-+ ∷ K-ident ∷ []) (1 ∷ 1 ∷ 1 ∷ []) 0 0
    (K-ident ∷ 0 ∷ 0 ∷ 1 ∷ Path ∷ 1 ∷ 0 ∷ 1 ∷ K-+ ∷ 0 ∷ 1 ∷ 1 ∷ ExprOperator ∷ 1 ∷ 1 ∷ 1 ∷ K-ident ∷ 0 ∷ 2 ∷ 1 ∷ Path ∷ 1 ∷ 2 ∷ 1 ∷
    ExprBinary ∷ 6 ∷ 0 ∷ 3 ∷ Expr ∷ 7 ∷ 0 ∷ 3 ∷ Root ∷ 8 ∷ 0 ∷ 3 ∷ [])

-- what the promise allows of a case
abbrev pub Allowed : Case → ℕ → ℕ → ℕ → List ℕ → Type 0
Allowed c number place count table = Answered c.entry c.kinds c.lens c.size c.limit number place count table

-- of a case with a known result it is that: number, place, row count, and then the table's elements
pub known : (c : Case) {number place count : ℕ} {table : List ℕ} → answered c ≡ promised c → Allowed c number place count table →
    ◌≡◌ {A = List ℕ} (number ∷ place ∷ count ∷ table) (promised c)
unfolding answered
known c e p = rw (p.number_is, p.place_is, p.rows_is, p.table_is) e

abbrev pub element : ℕ → List ℕ → ℕ
element i l = get_or l i 0

-- ## Refusing everything

-- `exprs` refuses no operator line that reads as a grouping, with any separator, any table with room and any limit from 14 on. (Nor does any entry refuse `a+b`: proofs/ShutOut.)
pub no_refusing_lines : {l : Line} {separator n limit number place count : ℕ} {table : List ℕ} → Call l separator n limit → (g : Links) → Reads l.rest g →
    Answered (exprs separator) (kinds (spell l)) (lens (spell l)) n limit number place count table → number ≡ 0
no_refusing_lines c g r p = ((gets c refl refl p).accepts g r).number_is

-- ## One fixed tree. (`a` and `a+b` are answered with different ones: proofs/ShutOut)

-- a row count and a table fix the rows
flat_same : (l m : List Row) → length l ≡ length m → flat l ≡ flat m → l ≡ m
unfolding flat elements
flat_same [] [] n e = refl
flat_same [] (r ∷ m) n e = absurd (omega arith)
flat_same (r ∷ l) [] n e = absurd (omega arith)
flat_same (r ∷ l) (x ∷ m) n e =
    let first : (y : List ℕ) → Row = λ y. record { kind = get_or y 0 0; back = get_or y 1 0; start = get_or y 2 0; len = get_or y 3 0 } in
    let head : r ≡ x = ap first e in
    let tail : l ≡ m = flat_same l m (omega arith) (ap (drop 4) e) in
    rw (head, tail)

tree_elements : {f : Forest} {n number place count : ℕ} {table : List ℕ} → Tree f n number place count table → take (width * count) table ≡ flat (rows 0 f)
tree_elements {f} {n} {count = count} t =
    rw t.table_is
    (take_at (flat (rows 0 f)) (replicate (n - width * size f) 0) (width * count)
    (flat_length (rows 0 f) ∙ ap (λ (x : ℕ). width * x) (rows_length 0 f ∙ sym t.rows_are)))

same_rows : {f g : Forest} {n n' number number' place place' count : ℕ} {table : List ℕ} →
    Tree f n number place count table → Tree g n' number' place' count table → rows 0 f ≡ rows 0 g
same_rows {f} {g} t u =
    flat_same (rows 0 f) (rows 0 g) (rows_length 0 f ∙ sym t.rows_are ∙ u.rows_are ∙ sym (rows_length 0 g)) (sym (tree_elements t) ∙ tree_elements u)

-- Of all entries and inputs: one tree is the answer to one input alone, since its leaves are that input's tokens.
pub one_tree_one_input : (e e' : Entry) (ks ks' ls ls' : List ℕ) (n n' limit limit' : ℕ) {number number' place place' count : ℕ} {table : List ℕ} →
    Answered e ks ls n limit number place count table → Answered e' ks' ls' n' limit' number' place' count table →
    number ≡ 0 → number' ≡ 0 → (ks ≡ ks') × (ls ≡ ls')
one_tree_one_input e e' ks ks' ls ls' n n' limit limit' p q z z' =
    let f = accepted e ks ls n limit p z in
    let g = accepted e' ks' ls' n' limit' q z' in
    let same = same_rows f.tree g.tree in
    (sym f.lists.0 ∙ ap leaf_kinds same ∙ g.lists.0, sym f.lists.1 ∙ ap leaf_lens same ∙ g.lists.1)

-- ## For every entry and input: an unwritten table, a made-up row count

module _ (e : Entry) (ks ls : List ℕ) (n limit : ℕ) {number place count : ℕ} {table : List ℕ} (p : Answered e ks ls n limit number place count table) where
  -- With number 0 there is a row, and the table is not zeros alone.
  pub no_unwritten_table : number ≡ 0 → (0 < count) × ((m : ℕ) → table ≡ replicate m 0 → ⊥)
  no_unwritten_table z =
      let t = (row_count e ks ls n limit p z).ends in
      let root = width * (count - 1) in
      (t.some, λ m same. omega (arith, t.last, ap (element root) same, zeros m root))

  -- No two row counts are allowed for one input,
  pub no_made_up_count : {number' place' count' : ℕ} {table' : List ℕ} → Answered e ks ls n limit number' place' count' table' → count ≡ count'
  no_made_up_count q = (only_answer e ks ls n limit p q).rows_same

  -- and with number 0 no other fits the table, which shows its own: Root's row, and then zeros.
  pub no_other_count_fits : number ≡ 0 → {count' : ℕ} → Ends count' table → count ≡ count'
  no_other_count_fits z r = one_count (row_count e ks ls n limit p z).ends r

-- ## Parsing the first statement and bumping the rest as loose leaves: `a;b` in `root`

abbrev token : ℕ → Tok
token k = record { kind = k; len = 1 }

abbrev pub loose : Forest
loose = node Expr (node Path (leaf (token K-ident) none) none) (leaf (token K-semi) (leaf (token K-ident) none))

-- its six rows in a table of 40 elements
abbrev pub loose_table : List ℕ
loose_table = flat (rows 0 (node Root loose none)) ++ replicate 16 0

-- It is one tree with Root on top and loses no token,
pub loose_looks_right : Accepted (K-ident ∷ K-semi ∷ K-ident ∷ []) (1 ∷ 1 ∷ 1 ∷ []) 40 0 0 6 loose_table
unfolding leaf_rows
loose_looks_right =
    record {
      inside = loose;
      lossless = refl;
      nodes = (refl, (refl, tt, tt), tt);
      lists = (refl, refl);
      tree = record { number_is = refl; place_is = refl; rows_are = refl; table_is = refl };
    }

-- and it is not what `root` answers.
pub no_loose_leaves : {number place count : ℕ} {table : List ℕ} →
    Answered root (K-ident ∷ K-semi ∷ K-ident ∷ []) (1 ∷ 1 ∷ 1 ∷ []) 40 256 number place count table → (count ≡ 6 → ⊥) × (table ≡ loose_table → ⊥)
unfolding flat elements
no_loose_leaves p =
    let f = known two two_result p in
    -- the sixth row is a Path's, or Root's
    (λ same. omega (arith, ap (element 2) f), λ same. omega (arith, ap (element 23) f, ap (element 20) same))

-- ## A refusal with another number or place: `a==b==c` in `exprs`

abbrev clash : Case
clash = gives (exprs K-comma) (K-ident ∷ K-== ∷ K-ident ∷ K-== ∷ K-ident ∷ []) (1 ∷ 2 ∷ 1 ∷ 2 ∷ 1 ∷ []) 7 2 []

clash_result : answered clash ≡ promised clash
unfolding answered
clash_result = refl

-- It is refused with 7 at `b`, and what the table held is gone.
pub no_other_refusal : {number place count : ℕ} {table : List ℕ} →
    Answered (exprs K-comma) (K-ident ∷ K-== ∷ K-ident ∷ K-== ∷ K-ident ∷ []) (1 ∷ 2 ∷ 1 ∷ 2 ∷ 1 ∷ []) 40 256 number place count table →
    (number ≡ 7) × (place ≡ 2) × (count ≡ 0) × (table ≡ replicate 40 0)
no_other_refusal p =
    let f = known clash clash_result p in
    (ap (element 0) f, ap (element 1) f, ap (element 2) f, ap (drop 3) f)
