-- Tokens are the spelling of one line at most, so that what is said of a line is said of its tokens.
-- Assumes nothing.
use Rattle.std.specs.Prelude.{ℕ, ◌≡◌, refl, true, List, [], ◌∷◌, ◌++◌}
use Rattle.std.proofs.Common.{ap, sym, ◌∙◌, append_assoc, arith}
use Rattle.std.proofs.lemmas.Bool.{false≢true}
use Rattle.definition.specs.Kinds.{K-not}
use Rattle.definition.specs.Classes.{among, is_trivia, is_lit}
use Rattle.trees.specs.Forest.{Tok}
use Rattle.lines.specs.Line.{Sign, one, is_not, Item, Line, All, Head, Gap, Operand, Operator, Proper, ProperLine, is_operand, sign_toks, rest_toks, spell}
use Rattle.lines.proofs.Grouping.{apart}
use Rattle.lines.specs.Writes.{Solid}
use Rattle.lines.proofs.LineRun.{operand_solid, rest_solid}

-- ## What is no trivia

not_solid : (t : Tok) → t.kind ≡ K-not → Solid t
unfolding is_trivia among
not_solid t e = rw e refl

-- trivia, and then what is none
gap_once : (x x' y y' : List Tok) → Gap x → Gap x' → Head Solid y → Head Solid y' → x ++ y ≡ x' ++ y' → (x ≡ x') × (y ≡ y')
gap_once = apart (λ (t : Tok). is_trivia t.kind ≡ true) Solid (λ t h k. false≢true (sym k ∙ h))

-- ## An operator, trivia and an operand

-- `not` is no operand
no_operand : (t u : Tok) → t ≡ u → Operand t → u.kind ≡ K-not → ⊥
unfolding is_operand is_lit among
no_operand t u e h k = let q : is_operand K-not ≡ true = ap is_operand (sym (ap (λ (x : Tok). x.kind) e ∙ k)) ∙ h in false≢true q

-- one token, and then an operand; against `is not`
not_one : (g : List Tok) (o : Tok) (y w : List Tok) (u : Tok) (z : List Tok) → Gap g → Operand o → Gap w → u.kind ≡ K-not → g ++ (o ∷ y) ≡ (w ++ (u ∷ [])) ++ z → ⊥
not_one g o y w u z kg ko kw ku e =
    let r = gap_once g w (o ∷ y) (u ∷ z) kg kw (operand_solid o ko) (not_solid u ku) (e ∙ append_assoc w (u ∷ []) z) in
    let q = r.1 in
    no_operand o u (cc) ko ku

record Same (s s' : Sign) (x x' : List Tok) : Type 0 where
  sign : s ≡ s'
  rest : x ≡ x'

module _ (g g' : List Tok) (o o' : Tok) (y y' : List Tok) (kg : Gap g) (kg' : Gap g') (ko : Operand o) (ko' : Operand o') where
  sign_once : (s s' : Sign) → Operator s → Operator s' → sign_toks s ++ (g ++ (o ∷ y)) ≡ sign_toks s' ++ (g' ++ (o' ∷ y')) → Same s s' (g ++ (o ∷ y)) (g' ++ (o' ∷ y'))
  sign_once (one t) (one t') h h' e = let p : t ≡ t' = cc in record { sign = cc; rest = cc }
  sign_once (one t) (is_not t' w u) h h' e = absurd (not_one g o y w u (g' ++ (o' ∷ y')) kg ko h'.1 h'.2 (cc))
  sign_once (is_not t w u) (one t') h h' e = absurd (not_one g' o' y' w u (g ++ (o ∷ y)) kg' ko' h.1 h.2 (cc))
  sign_once (is_not t w u) (is_not t' w' u') h h' e =
      let p : t ≡ t' = cc in
      let q : (w ++ (u ∷ [])) ++ (g ++ (o ∷ y)) ≡ (w' ++ (u' ∷ [])) ++ (g' ++ (o' ∷ y')) = cc in
      let r =
      gap_once w w' (u ∷ (g ++ (o ∷ y))) (u' ∷ (g' ++ (o' ∷ y'))) h.1 h'.1 (not_solid u h.2) (not_solid u' h'.2)
      (sym (append_assoc w (u ∷ []) (g ++ (o ∷ y))) ∙ q ∙ append_assoc w' (u' ∷ []) (g' ++ (o' ∷ y'))) in
      let a = r.0 in
      let b = r.1 in
      let c : u ≡ u' = cc in
      record { sign = cc; rest = cc }

-- an operand, and the trivia after it
operand_once : (g g' : List Tok) (o o' : Tok) (w w' y y' : List Tok) → Gap g → Gap g' → Operand o → Operand o' → Gap w → Gap w' → Head Solid y → Head Solid y' →
    g ++ (o ∷ (w ++ y)) ≡ g' ++ (o' ∷ (w' ++ y')) → (g ≡ g') × (o ≡ o') × (w ≡ w') × (y ≡ y')
operand_once g g' o o' w w' y y' kg kg' ko ko' kw kw' ky ky' e =
    let r = gap_once g g' (o ∷ (w ++ y)) (o' ∷ (w' ++ y')) kg kg' (operand_solid o ko) (operand_solid o' ko') e in
    let q = r.1 in
    let p : o ≡ o' = cc in
    let s = gap_once w w' y y' kw kw' ky ky' (cc) in
    (r.0, p, s.0, s.1)

-- ## The whole

item_same : (a b : Item) → a.sign ≡ b.sign → a.gap ≡ b.gap → a.operand ≡ b.operand → a.after ≡ b.after → a ≡ b
item_same a b p q r s =
    let e : ◌≡◌ {A = Item}
    (record { sign = a.sign; gap = a.gap; operand = a.operand; after = a.after })
    (record { sign = b.sign; gap = b.gap; operand = b.operand; after = b.after }) = cc in e

line_same : (l m : Line) → l.lead ≡ m.lead → l.first ≡ m.first → l.after ≡ m.after → l.rest ≡ m.rest → l ≡ m
line_same l m p q r s =
    let e : ◌≡◌ {A = Line}
    (record { lead = l.lead; first = l.first; after = l.after; rest = l.rest })
    (record { lead = m.lead; first = m.first; after = m.after; rest = m.rest }) = cc in e

some_sign : (s : Sign) (x : List Tok) → sign_toks s ++ x ≡ [] → ⊥
some_sign (one t) x e = let z : ◌≡◌ {A = ℕ} 0 1 = cc in omega arith
some_sign (is_not t w u) x e = let z : ◌≡◌ {A = ℕ} 0 1 = cc in omega arith

rest_once : (l m : List Item) → All Proper l → All Proper m → rest_toks l ≡ rest_toks m → l ≡ m
rest_once [] [] h k e = refl
rest_once [] (b ∷ m) h k e = absurd (some_sign b.sign _ (sym e))
rest_once (a ∷ l) [] h k e = absurd (some_sign a.sign _ e)
rest_once (a ∷ l) (b ∷ m) h k e =
    let s =
    sign_once a.gap b.gap a.operand b.operand (a.after ++ rest_toks l) (b.after ++ rest_toks m)
    h.0.gap k.0.gap h.0.operand k.0.operand a.sign b.sign h.0.sign k.0.sign e in
    let r =
    operand_once a.gap b.gap a.operand b.operand a.after b.after (rest_toks l) (rest_toks m)
    h.0.gap k.0.gap h.0.operand k.0.operand h.0.after k.0.after (rest_solid l h.1) (rest_solid m k.1) s.rest in
    let q = rest_once l m h.1 k.1 r.3 in
    let p : a ≡ b = item_same a b s.sign r.0 r.1 r.2 in
    cc

pub spelt_once : (l m : Line) → ProperLine l → ProperLine m → spell l ≡ spell m → l ≡ m
unfolding spell
spelt_once l m h k e =
    let r =
    operand_once l.lead m.lead l.first m.first l.after m.after (rest_toks l.rest) (rest_toks m.rest)
    h.lead k.lead h.first k.first h.after k.after (rest_solid l.rest h.rest) (rest_solid m.rest k.rest) e in
    line_same l m r.0 r.1 r.2 (rest_once l.rest m.rest h.rest k.rest r.3)
