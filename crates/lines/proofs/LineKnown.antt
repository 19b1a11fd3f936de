-- Examples' lines: their first clashes, the definition's answers to them, and the theorem at two of them.
-- Assumes nothing.
use Rattle.std.specs.Prelude.{ℕ, ◌*◌, ◌≡◌, refl, List, [], ◌∷◌, ◌++◌, map, length}
use Rattle.std.proofs.Common.{arith}
use Rattle.definition.specs.Kinds.{Root, Expr, Path, ExprBinary, ExprOperator, K-comma, K-ident, K-Whitespace, K-*, K-<, K-+, K-==, K-as}
use Rattle.definition.specs.Classes.{among, is_trivia, is_lit, is_token}
use Rattle.definition.specs.Operators.{bindings, binding_in, associative}
use Rattle.definition.specs.Parse.{exprs, is_entry, flat}
use Rattle.definition.specs.Tape.{ok, refused, elements, width}
use Rattle.laws.specs.Known.{Case, answered, promised}
use Rattle.laws.specs.Sizes.{total}
use Rattle.trees.specs.Forest.{rows, st, kinds, lens}
use Rattle.lines.specs.Line.{All, Item, Line, Links, end, link, Tighter, FirstClash, spell, bind, is_operand, is_operator}
use Rattle.lines.specs.LineTree.{line_f, line_place, place}
use Rattle.lines.specs.LineDemand.{parse, Call, enough}
use Rattle.lines.proofs.Grouping.{own, never_both}
use Rattle.lines.specs.Examples.{op, of, sp, spaced, sum, sum_tree, single, falling, falling_tree, rising, rising_tree, rising_spaced, rising_spaced_tree, hill, hill_tree, both, both_tree, guard, guard_tree, guard_reads, negated, negated_tree, equal, equal_tree, twice, twice_clashes, far, far_clashes, far_spaced, two, two_clashes, climb, tower}
use Rattle.lines.proofs.LineTheorem.{line}

-- ## The first clashes: what stands before the right operator reads as a grouping

pub twice_clash : FirstClash twice.rest [] (op K-==)
unfolding twice_clashes bind bindings binding_in among associative
twice_clash =
    record {
      clash = twice_clashes;
      first = λ p a c. never_both (op K-== ∷ []) (link (op K-==) end end) p a (record { whole = refl; valid = (tt, tt, tt, tt) }) c;
    }

pub far_clash : FirstClash far.rest [] (op K-==)
unfolding far_clashes bind bindings binding_in among associative
far_clash =
    record {
      clash = far_clashes;
      first =
          λ p a c.
          never_both (op K-== ∷ op K-+ ∷ []) (link (op K-==) (link (op K-+) end end) end) p a
          (record { whole = refl; valid = ((omega arith, tt), (tt, tt, tt, tt), tt, tt) }) c;
    }

pub two_clash : FirstClash two.rest (op K-+ ∷ op K-< ∷ []) (op K-as)
unfolding two_clashes bind bindings binding_in among associative
two_clash =
    record {
      clash = two_clashes;
      first =
          λ p a c.
          never_both (op K-+ ∷ op K-< ∷ op K-as ∷ []) (link (op K-+) end (link (op K-<) (link (op K-as) end end) end)) p a
          (record { whole = refl; valid = (tt, tt, (omega arith, λ e. absurd (omega arith)), ((omega arith, tt), (tt, tt, tt, tt), tt, tt)) }) c;
    }

-- in `a*b+c*d` a nested group is not tighter than all of its parent
pub hill_not_tighter : All (λ (a : Item). Tighter a (op K-*)) (own hill_tree) → ⊥
hill_not_tighter h = omega (arith, h.0)

-- ## The definition's answers to these lines, computed: number, place, row count and every element of a table with four rows a token

abbrev asked : Line → ℕ → ℕ → ℕ → List ℕ → Case
asked l limit number place rows =
    record {
      entry = exprs K-comma;
      kinds = kinds (spell l);
      lens = lens (spell l);
      size = width * (4 * length (spell l));
      limit = limit;
      number = number;
      place = place;
      rows = rows;
    }

-- accepted with the tree of a grouping; refused with 7 at the place of a clash
abbrev tree : Line → Links → Case
tree l g = asked l enough 0 0 (flat (rows 0 (line_f l g)))

abbrev clash : Line → List Item → Item → Case
clash l before left = asked l enough 7 (line_place l before left) []

unfoldable pub cases : List Case
cases =
    tree sum sum_tree ∷
    tree single end ∷
    tree falling falling_tree ∷
    tree rising rising_tree ∷
    tree rising_spaced rising_spaced_tree ∷
    tree hill hill_tree ∷
    tree both both_tree ∷
    tree guard guard_tree ∷
    tree negated negated_tree ∷
    tree equal equal_tree ∷
    tree (of (map op climb)) (tower climb) ∷
    -- one depth less: 10 at the last operand
    asked (of (map op climb)) 13 10 22 [] ∷
    clash twice [] (op K-==) ∷
    clash far [] (op K-==) ∷
    clash far_spaced [] (spaced K-== 2 K-ident 1 sp) ∷
    clash two (op K-+ ∷ op K-< ∷ []) (op K-as) ∷ []

pub answers : map answered cases ≡ map promised cases
unfolding answered cases spell flat elements line_f line_place place is_lit among
answers = refl

-- the places, as numbers
pub places :
    line_place twice [] (op K-==) ∷
    line_place far [] (op K-==) ∷
    line_place far_spaced [] (spaced K-== 2 K-ident 1 sp) ∷
    line_place two (op K-+ ∷ op K-< ∷ []) (op K-as) ∷
    [] ≡ 2 ∷ 2 ∷ 5 ∷ 6 ∷ []
unfolding line_place place
places = refl

-- 01's rows of `a + b`, as kind back start length
abbrev row : ℕ → ℕ → ℕ → ℕ → List ℕ
row kind back start len = kind ∷ back ∷ start ∷ len ∷ []

pub sum_rows :
    flat (rows 0 (line_f sum sum_tree)) ≡
    row K-ident 0 0 1 ++ row Path 1 0 1 ++ row K-Whitespace 0 1 1 ++ row K-+ 0 2 1 ++ row ExprOperator 1 2 1 ++ row K-Whitespace 0 3 1 ++ row K-ident 0 4 1 ++
    row Path 1 4 1 ++ row ExprBinary 8 0 5 ++ row Expr 9 0 5 ++ row Root 10 0 5
unfolding flat elements line_f is_lit among
sum_rows = refl

-- what is asked of the caller can be met: `a + b` with 20 rows
pub sum_call : Call sum K-comma 80 enough
unfolding spell bindings binding_in among is_lit is_operand is_operator is_trivia is_token is_entry total
sum_call =
    record {
      proper = record { lead = tt; first = refl; after = (refl, tt); rest = (record { sign = refl; gap = (refl, tt); operand = refl; after = tt }, tt) };
      few = omega arith;
      small = omega arith;
      room = omega arith;
      deep = omega arith;
      shallow = omega arith;
      separates = refl;
    }

-- ## The theorem at two of them: any separator, table and limit that the demand names

pub guard_accepted : (separator n limit : ℕ) → Call guard separator n limit → parse guard separator n limit ≡ ok tt (st (line_f guard guard_tree))
guard_accepted separator n limit c = (line guard separator n limit c).accepts guard_tree guard_reads

pub far_refused : (separator n limit : ℕ) → Call far separator n limit → parse far separator n limit ≡ refused 7 2
unfolding line_place place
far_refused separator n limit c = (line far separator n limit c).refuses [] (op K-==) far_clash
