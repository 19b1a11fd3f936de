-- 01's example lines: how each reads or where it clashes, and the errors that look right in 01 shown wrong. Of this crate only the words of Line stand here, and no
-- theorem about them, so that a wrong word fails at an example.
-- Assumes nothing.
use Rattle.std.specs.Prelude.{ℕ, ◌≡◌, refl, List, [], ◌∷◌}
use Rattle.std.proofs.lemmas.Bool.{false≢true}
use Rattle.std.proofs.Common.{arith}
use Rattle.definition.specs.Kinds.{K-ident, K-number, K-Whitespace, K-Comment, K-&, K-*, K-<, K-+, K-dash, K-==, K-&&, K-||, K-<<, K-^, K-|, K-as, K-is, K-not, K-+=}
use Rattle.definition.specs.Classes.{among}
use Rattle.definition.specs.Operators.{bindings, binding_in, associative}
use Rattle.trees.specs.Forest.{Tok}
use Rattle.lines.specs.Line.{Item, Line, one, is_not, Links, end, link, Tighter, Valid, Reads, Clash, bind}

-- ## Lines. Operands are a, b, c .. where nothing else is written

abbrev pub tok : ℕ → ℕ → Tok
tok k n = record { kind = k; len = n }

-- an operator and an operand without trivia
abbrev pub op : ℕ → Item
op k = record { sign = one (tok k 1); gap = []; operand = tok K-ident 1; after = [] }

abbrev pub of : List Item → Line
of l = record { lead = []; first = tok K-ident 1; after = []; rest = l }

-- a space; an operator of n bytes, a space, and an operand of kind o and m bytes with w after it
abbrev pub sp : List Tok
sp = tok K-Whitespace 1 ∷ []

abbrev pub spaced : ℕ → ℕ → ℕ → ℕ → List Tok → Item
spaced k n o m w = record { sign = one (tok k n); gap = sp; operand = tok o m; after = w }

-- `a + b`
abbrev pub sum : Line
sum = record { lead = []; first = tok K-ident 1; after = sp; rest = spaced K-+ 1 K-ident 1 [] ∷ [] }

abbrev pub sum_tree : Links
sum_tree = link (spaced K-+ 1 K-ident 1 []) end end

pub sum_reads : Reads sum.rest sum_tree
sum_reads = record { whole = refl; valid = (tt, tt, tt, tt) }

-- `1`, with a comment before it: no group
abbrev pub single : Line
single = record { lead = tok K-Comment 3 ∷ []; first = tok K-number 1; after = []; rest = [] }

pub single_reads : Reads single.rest end
single_reads = record { whole = refl; valid = tt }

-- `a*b+c`: one flat group, never nested to the left (a group starts with a plain operand) nor to the right
abbrev pub falling : Line
falling = of (op K-* ∷ op K-+ ∷ [])

abbrev pub falling_tree : Links
falling_tree = link (op K-*) end (link (op K-+) end end)

pub falling_reads : Reads falling.rest falling_tree
unfolding bind bindings binding_in among
falling_reads = record { whole = refl; valid = (tt, tt, (omega arith, λ e. absurd (omega arith)), (tt, tt, tt, tt)) }

pub falling_not_nested : Valid (link (op K-*) (link (op K-+) end end) end) → ⊥
unfolding bind bindings binding_in among
falling_not_nested v = let h : Tighter (op K-*) (op K-+) = v.0.0 in omega arith

-- `a+b*c`: a group nested after `+`
abbrev pub rising : Line
rising = of (op K-+ ∷ op K-* ∷ [])

abbrev pub rising_tree : Links
rising_tree = link (op K-+) (link (op K-*) end end) end

pub rising_reads : Reads rising.rest rising_tree
unfolding bind bindings binding_in among
rising_reads = record { whole = refl; valid = ((omega arith, tt), (tt, tt, tt, tt), tt, tt) }

pub rising_not_flat : Valid (link (op K-+) end (link (op K-*) end end)) → ⊥
unfolding bind bindings binding_in among
rising_not_flat v = omega (arith, v.2.0)

-- `a + b * c`: the space after b is in the nested group, that after a in the other
abbrev pub rising_spaced : Line
rising_spaced = record { lead = []; first = tok K-ident 1; after = sp; rest = spaced K-+ 1 K-ident 1 sp ∷ spaced K-* 1 K-ident 1 sp ∷ [] }

abbrev pub rising_spaced_tree : Links
rising_spaced_tree = link (spaced K-+ 1 K-ident 1 sp) (link (spaced K-* 1 K-ident 1 sp) end end) end

-- `a*b+c*d`: the nested group is tighter than the operator before it, and not than all of its parent
abbrev pub hill : Line
hill = of (op K-* ∷ op K-+ ∷ op K-* ∷ [])

abbrev pub hill_tree : Links
hill_tree = link (op K-*) end (link (op K-+) (link (op K-*) end end) end)

pub hill_reads : Reads hill.rest hill_tree
unfolding bind bindings binding_in among
hill_reads = record { whole = refl; valid = (tt, tt, (omega arith, λ e. absurd (omega arith)), ((omega arith, tt), (tt, tt, tt, tt), tt, tt)) }

-- `a==b&&c==d`: the second `==` is nested, the first isn't
abbrev pub both : Line
both = of (op K-== ∷ op K-&& ∷ op K-== ∷ [])

abbrev pub both_tree : Links
both_tree = link (op K-==) end (link (op K-&&) (link (op K-==) end end) end)

pub both_reads : Reads both.rest both_tree
unfolding bind bindings binding_in among
both_reads = record { whole = refl; valid = (tt, tt, (omega arith, λ e. absurd (omega arith)), ((omega arith, tt), (tt, tt, tt, tt), tt, tt)) }

-- `dirty & mask == 0 && acked`: one flat group
abbrev pub guard : Line
guard =
    record {
      lead = [];
      first = tok K-ident 5;
      after = sp;
      rest = spaced K-& 1 K-ident 4 sp ∷ spaced K-== 2 K-number 1 sp ∷ spaced K-&& 2 K-ident 5 [] ∷ [];
    }

abbrev pub guard_tree : Links
guard_tree = link (spaced K-& 1 K-ident 4 sp) end (link (spaced K-== 2 K-number 1 sp) end (link (spaced K-&& 2 K-ident 5 []) end end))

pub guard_reads : Reads guard.rest guard_tree
unfolding bind bindings binding_in among
guard_reads = record { whole = refl; valid = (tt, tt, (omega arith, λ e. absurd (omega arith)), (tt, tt, (omega arith, λ e. absurd (omega arith)), (tt, tt, tt, tt))) }

-- `a is not b`, a comment inside: one operator
abbrev pub negated : Line
negated = of (record { sign = is_not (tok K-is 2) (tok K-Comment 7 ∷ []) (tok K-not 3); gap = sp; operand = tok K-ident 1; after = sp } ∷ [])

abbrev pub negated_tree : Links
negated_tree = link (record { sign = is_not (tok K-is 2) (tok K-Comment 7 ∷ []) (tok K-not 3); gap = sp; operand = tok K-ident 1; after = sp }) end end

pub negated_reads : Reads negated.rest negated_tree
negated_reads = record { whole = refl; valid = (tt, tt, tt, tt) }

-- `a-b-c`: equal and associative, one flat group
abbrev pub equal : Line
equal = of (op K-dash ∷ op K-dash ∷ [])

abbrev pub equal_tree : Links
equal_tree = link (op K-dash) end (link (op K-dash) end end)

pub equal_reads : Reads equal.rest equal_tree
unfolding bind bindings binding_in among associative
equal_reads = record { whole = refl; valid = (tt, tt, (omega arith, λ e. refl), (tt, tt, tt, tt)) }

pub equal_not_nested : Valid (link (op K-dash) (link (op K-dash) end end) end) → ⊥
equal_not_nested v = let h : Tighter (op K-dash) (op K-dash) = v.0.0 in omega arith

-- `a==b==c`: refused at b, the left operator's operand
abbrev pub twice : Line
twice = of (op K-== ∷ op K-== ∷ [])

unfoldable pub twice_clashes : Clash twice.rest [] (op K-==)
unfolding bind bindings binding_in among associative
twice_clashes = record { between = []; right = op K-==; later = []; whole = refl; equal = refl; loose = refl; tight = tt }

pub twice_not_flat : Valid (link (op K-==) end (link (op K-==) end end)) → ⊥
unfolding bind bindings binding_in among associative
twice_not_flat v = false≢true (v.2.1 refl)

-- `a==b+c==d`: refused too, at b, though no two neighbours bind equally
abbrev pub far : Line
far = of (op K-== ∷ op K-+ ∷ op K-== ∷ [])

unfoldable pub far_clashes : Clash far.rest [] (op K-==)
unfolding bind bindings binding_in among associative
far_clashes = record { between = op K-+ ∷ []; right = op K-==; later = []; whole = refl; equal = refl; loose = refl; tight = (omega arith, tt) }

-- the same with a comment before it and spaces: b is token 5
abbrev pub far_spaced : Line
far_spaced =
    record {
      lead = tok K-Comment 7 ∷ [];
      first = tok K-ident 1;
      after = sp;
      rest = spaced K-== 2 K-ident 1 sp ∷ spaced K-+ 1 K-ident 1 sp ∷ spaced K-== 2 K-ident 1 [] ∷ [];
    }

pub far_not_neighbours : (bind (op K-==) ≡ bind (op K-+)) → ⊥
unfolding bind bindings binding_in among
far_not_neighbours e = omega (arith, e)

-- `a+b<c as d as e<f`: two clashes. That of `as` has the earlier right operator, so the place is d
abbrev pub two : Line
two = of (op K-+ ∷ op K-< ∷ op K-as ∷ op K-as ∷ op K-< ∷ [])

unfoldable pub two_clashes : Clash two.rest (op K-+ ∷ op K-< ∷ []) (op K-as)
unfolding bind bindings binding_in among associative
two_clashes = record { between = []; right = op K-as; later = op K-< ∷ []; whole = refl; equal = refl; loose = refl; tight = tt }

-- Every binding, each tighter than the last: needs all of the depth that is enough
abbrev pub climb : List ℕ
climb = K-+= ∷ K-|| ∷ K-&& ∷ K-== ∷ K-| ∷ K-^ ∷ K-& ∷ K-<< ∷ K-+ ∷ K-* ∷ K-as ∷ []

abbrev pub tower : List ℕ → Links
tower [] = end
tower (k ∷ l) = link (op k) (tower l) end
