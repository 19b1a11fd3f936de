-- Demand 3: the demand of LineDemand holds of the expression entry.
-- Assumes nothing.
use Rattle.std.specs.Prelude.{ℕ, zero, suc, ◌+◌, ◌-◌, ◌*◌, ◌≤◌, ◌<◌, ◌≡◌, refl, Bool, true, false, not, cond, ◌&&◌, List, [], ◌∷◌, ◌++◌, length, leb}
use Rattle.std.proofs.Common.{ap, subst₂, sym, ◌∙◌, arith, length-append, le-leb, leb-true, eq-eqb}
use Rattle.std.proofs.lemmas.Bool.{false≢true}
use Rattle.definition.specs.Kinds.{K-yield, K-Other}
use Rattle.definition.specs.Classes.{is_token, is_trivia, is_assigned, treated}
use Rattle.definition.specs.Tape.{Out, refused, guard, width}
use Rattle.definition.specs.Grammar as Grammar
use Rattle.definition.specs.Parse.{exprs, program, is_entry, is_limit, first_not, first_over, admitted, run, start}
use Rattle.definition.specs.Parse as Parse
use Rattle.laws.specs.Sizes.{total}
use Rattle.trees.specs.Forest.{Tok, none, size, st, kinds, lens, in_of, kinds_length, lens_length}
use Rattle.lines.specs.Line.{Sign, one, is_not, Item, Line, All, Gap, Operand, Operator, Proper, sign_toks, ProperLine, rest_toks, spell, Links, end, link, flatten, FirstClash}
use Rattle.lines.specs.LineKinds.{operand_token, operator_token, trivia_token}
use Rattle.lines.specs.LineTree.{links_f, line_place, line_f}
use Rattle.lines.specs.LineDemand.{parse, enough, Call, Answers}
use Rattle.lines.proofs.Grouping.{Verdict, fine, clash, judge, Shape, shape, tells, Tells, only, first_only, never_both, valid_shape, all_map, all_append, reads_fine, reads_or_clashes}
use Rattle.lines.specs.Writes.{Job, got, out, fits}
use Rattle.lines.proofs.LineSizes.{wrap, rest_length_app, rest_length, link_size}
use Rattle.lines.proofs.LineRun.{key_operator}
use Rattle.lines.proofs.LineSim.{result}
use Rattle.lines.proofs.LineEntry.{expr_f, expr_size, begin, exprs_ok}

-- ## Four rows a token are enough

links_rows : (t : Links) → size (links_f t) + wrap t ≤ 4 * length (rest_toks (flatten t))
links_rows end = omega arith
links_rows (link a g l) =
    omega (arith, links_rows g, links_rows l, link_size a g l, rest_length a (flatten g ++ flatten l), rest_length_app (flatten g) (flatten l))

line_size : (l : Line) (t : Links) → size (line_f l t) ≡ suc (size (expr_f l t))
unfolding line_f
line_size l t = omega arith

spell_length : (l : Line) → length (spell l) ≡ length l.lead + suc (length l.after + length (rest_toks l.rest))
unfolding spell
spell_length l = simp length-append

pub line_rows : (l : Line) (t : Links) → flatten t ≡ l.rest → size (line_f l t) ≤ 4 * length (spell l)
line_rows l t e = omega (arith, links_rows t, line_size l t, expr_size l t, spell_length l, ap (λ (x : List Item). length (rest_toks x)) e)

-- ## The tests in front

abbrev Kind : Tok → Type 0
Kind t = is_token t.kind ≡ true

tokens_ok : (x : List Tok) → All Kind x → first_not is_token (kinds x) ≡ length (kinds x)
unfolding first_not
tokens_ok [] h = refl
tokens_ok (t ∷ x) h = rw (h.0, first_not) (ap suc (tokens_ok x h.1))

total_ok : (n : ℕ) (x : List ℕ) → total x ≤ n → first_over n x ≡ length x
unfolding first_over total
total_ok n [] h = refl
total_ok n (y ∷ x) h = rw (le-leb y n (omega arith), first_over) (ap suc (total_ok (n - y) x (omega arith)))

assigned_is_token : (k : ℕ) → (1 ≤ k) × (k ≤ K-yield) → is_token k ≡ true
unfolding is_token
assigned_is_token k h = rw (le-leb 1 k h.0, le-leb k 127 (omega arith))

gap_tokens : (g : List Tok) → Gap g → All Kind g
gap_tokens g h = all_map (λ (t : Tok). is_trivia t.kind ≡ true) Kind (λ t q. assigned_is_token t.kind (trivia_token t.kind q)) g h

sign_tokens : (s : Sign) → Operator s → All Kind (sign_toks s)
sign_tokens (one t) h = (assigned_is_token t.kind (operator_token t.kind h), tt)
sign_tokens (is_not t g u) h =
    let not-kind = assigned_is_token u.kind (omega (arith, h.2), omega (arith, h.2)) in
    (assigned_is_token t.kind (operator_token t.kind (key_operator (is_not t g u) h)), all_append Kind g (u ∷ []) (gap_tokens g h.1) (not-kind, tt))

operand_tokens : (t : Tok) (w x : List Tok) → Operand t → Gap w → All Kind x → All Kind (t ∷ (w ++ x))
operand_tokens t w x o h k = (assigned_is_token t.kind (operand_token t.kind o), all_append Kind w x (gap_tokens w h) k)

rest_tokens : (l : List Item) → All Proper l → All Kind (rest_toks l)
rest_tokens [] h = tt
rest_tokens (a ∷ l) h =
    all_append Kind (sign_toks a.sign) _ (sign_tokens a.sign h.0.sign) (all_append Kind a.gap _ (gap_tokens a.gap h.0.gap)
    (operand_tokens a.operand a.after _ h.0.operand h.0.after (rest_tokens l h.1)))

line_tokens : (l : Line) → ProperLine l → All Kind (spell l)
unfolding spell
line_tokens l p =
    all_append Kind l.lead _ (gap_tokens l.lead p.lead) (operand_tokens l.first l.after _ p.first p.after (rest_tokens l.rest p.rest))

-- ## The theorem

-- a separator is no Eof, treated as Other or not
separator_some : (k : ℕ) → is_entry (exprs k) ≡ true → 0 < treated k
unfolding is_entry is_token treated
separator_some k h = go (leb 1 k) refl (is_assigned k) h
  where
    go : (x : Bool) → leb 1 k ≡ x → (y : Bool) → ((x && leb k 127) && not (is_trivia k)) ≡ true → 0 < cond y k K-Other
    go true p true e = leb-true 1 k p
    go true p false e = omega arith
    go false p y e = absurd (false≢true e)

-- the answer to a line of the shape t with the verdict u
abbrev told : Line → Links → Verdict → Out (Unit {0})
told l t u = out (result (begin l) u (got tt (line_f l t)))

-- the parse behind the tests, where depth and room are enough
runs : (l : Line) (sep n limit : ℕ) (t : Links) → Call l sep n limit → flatten t ≡ l.rest → Shape t →
    run (in_of (spell l) n) limit 0 (Grammar.exprs sep) (st none) ≡ told l t (judge t)
unfolding run
runs l sep n zero t k e s = absurd (omega (arith, k.deep))
runs l sep n (suc zero) t k e s = absurd (omega (arith, k.deep))
runs l sep n (suc (suc d)) t k e s =
    (exprs_ok l t e s k.proper {c = job} {d = d} (record { is = refl }) (omega (arith, k.deep)) (omega (arith, line_rows l t e, line_size l t))
    sep (separator_some sep k.separates)).is
  where
    job : Job
    job = record { toks = spell l; elems = n; most = 4 * length (spell l); fit = fits (4 * length (spell l)) n k.room (omega (arith, k.few)) }

answer : (l : Line) (sep n limit : ℕ) (t : Links) → Call l sep n limit → flatten t ≡ l.rest → Shape t → parse l sep n limit ≡ told l t (judge t)
unfolding parse Parse.parse admitted is_limit guard program in_of start st
answer l sep n limit t k e s =
    rw (
      le-leb 1 limit (omega (arith, k.deep)),
      le-leb limit 256 k.shallow,
      k.separates,
      eq-eqb (length (kinds (spell l))) (length (lens (spell l))) same,
      le-leb (length (kinds (spell l))) 65535 (omega (arith, kinds_length (spell l), k.few)),
      eq-eqb (first_not is_token (kinds (spell l))) (length (kinds (spell l))) (tokens_ok (spell l) (line_tokens l k.proper)),
      eq-eqb (first_over 16777216 (lens (spell l))) (length (lens (spell l))) (total_ok 16777216 (lens (spell l)) k.small),
    )
    (runs l sep n limit t k e s)
  where
    same : length (kinds (spell l)) ≡ length (lens (spell l))
    same = kinds_length (spell l) ∙ sym (lens_length (spell l))

-- `enough` depth is enough, and so are four rows a token: neither more depth nor more room changes the answer.
pub depth_enough : (l : Line) (sep n limit : ℕ) → Call l sep n limit → parse l sep n limit ≡ parse l sep n enough
depth_enough l sep n limit k =
    let s = shape l.rest in
    answer l sep n limit s.0 k s.1 s.2 ∙ sym (answer l sep n enough s.0 least s.1 s.2)
  where
    least : Call l sep n enough
    least = record { proper = k.proper; few = k.few; small = k.small; room = k.room; deep = omega arith; shallow = omega arith; separates = k.separates }

pub rows_enough : (l : Line) (sep n limit : ℕ) → Call l sep n limit → parse l sep n limit ≡ parse l sep (width * (4 * length (spell l))) limit
rows_enough l sep n limit k =
    let s = shape l.rest in
    answer l sep n limit s.0 k s.1 s.2 ∙ sym (answer l sep (width * (4 * length (spell l))) limit s.0 least s.1 s.2)
  where
    least : Call l sep (width * (4 * length (spell l))) limit
    least = record { proper = k.proper; few = k.few; small = k.small; room = omega arith; deep = k.deep; shallow = k.shallow; separates = k.separates }

pub line : (l : Line) (sep n limit : ℕ) → Call l sep n limit → Answers l (parse l sep n limit)
unfolding line_place
line l sep n limit k =
    let s = shape l.rest in
    record {
      accepts = λ g r. rw (reads_fine l.rest g r) at (answer l sep n limit g k r.whole (valid_shape g r.valid));
      only = only l.rest;
      either = reads_or_clashes l.rest;
      refuses = λ p a f. go p a f s.0 (judge s.0) (tells l.rest s.0 s.1 s.2) (answer l sep n limit s.0 k s.1 s.2);
    }
  where
    go : (p : List Item) (a : Item) → FirstClash l.rest p a → (t : Links) (u : Verdict) → Tells l.rest t u →
        parse l sep n limit ≡ told l t u → parse l sep n limit ≡ refused 7 (line_place l p a)
    go p a f t fine h q = absurd (never_both l.rest t p a h f.clash)
    go p a f t (clash p' a') h q =
        let w = first_only l.rest p' p a' a h f in
        subst₂ (λ (x : List Item) (y : Item). parse l sep n limit ≡ refused 7 (line_place l x y)) w.0 w.1 q
