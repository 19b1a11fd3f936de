-- Theorem A: every list of operators has exactly one of a valid grouping and a first clash, and the grouping is the only one.
-- Assumes nothing.
use Rattle.std.specs.Prelude.{ℕ, ◌≤◌, ◌<◌, ◌≡◌, refl, Bool, true, false, not, cond, ◌&&◌, ◌⊎◌, List, [], ◌∷◌, ◌++◌, eqb}
use Rattle.std.proofs.Common.{ap, subst, sym, ◌∙◌, inl, inr, append_assoc, arith, eqb-true}
use Rattle.std.proofs.lemmas.Bool.{false≢true, eqb-false}
use Rattle.std.proofs.Math.Decide.{dec_lt}
use Rattle.definition.specs.Operators.{associative}
use Rattle.lines.specs.Line.{Item, All, Head, bind, Links, end, link, flatten, Tighter, Follows, Valid, Reads, Clash, FirstClash}

-- ## The shape: as `Valid`, but for equal neighbours

abbrev pub Loose : Item → Item → Type 0
Loose a b = bind b ≤ bind a

abbrev pub Shape : Links → Type 0
Shape end = Unit {0}
Shape (link a g l) = All (Tighter a) (flatten g) × Shape g × Head (Loose a) (flatten l) × Shape l

pub all_append : {A : Type 0} (P : A → Type 0) (x y : List A) → All P x → All P y → All P (x ++ y)
all_append P [] y h k = k
all_append P (a ∷ x) y h k = (h.0, all_append P x y h.1 k)

pub all_front : {A : Type 0} (P : A → Type 0) (x y : List A) → All P (x ++ y) → All P x
all_front P [] y h = tt
all_front P (a ∷ x) y h = (h.0, all_front P x y h.1)

pub all_back : {A : Type 0} (P : A → Type 0) (x y : List A) → All P (x ++ y) → All P y
all_back P [] y h = h
all_back P (a ∷ x) y h = all_back P x y h.1

pub all_map : {A : Type 0} (P Q : A → Type 0) → ((a : A) → P a → Q a) → (l : List A) → All P l → All Q l
all_map P Q f [] h = tt
all_map P Q f (a ∷ l) h = (f a h.0, all_map P Q f l h.1)

pub head_front : {A : Type 0} (P : A → Type 0) (x y : List A) → Head P (x ++ y) → Head P x
head_front P [] y h = tt
head_front P (a ∷ x) y h = h

pub head_map : {A : Type 0} (P Q : A → Type 0) → ((a : A) → P a → Q a) → (l : List A) → Head P l → Head Q l
head_map P Q f [] h = tt
head_map P Q f (a ∷ l) h = f a h

-- a shape, cut where it stops being tighter than a
record Cut (a : Item) (t : Links) : Type 0 where
  inner : Links
  outer : Links
  whole : flatten t ≡ flatten inner ++ flatten outer
  tight : All (Tighter a) (flatten inner)
  shapes : Shape inner × Shape outer
  next : Head (Loose a) (flatten outer)

cut : (a : Item) (t : Links) → Shape t → Cut a t
cut a end h = record { inner = end; outer = end; whole = refl; tight = tt; shapes = (tt, tt); next = tt }
cut a (link b g l) h = go (cut a l h.3) (dec_lt (bind a) (bind b))
  where
    go : Cut a l → Dec (bind a < bind b) → Cut a (link b g l)
    go c (yes p) =
        record {
          inner = link b g c.inner;
          outer = c.outer;
          whole = ap (λ (x : List Item). b ∷ x) (ap (λ (x : List Item). flatten g ++ x) c.whole ∙ sym (append_assoc (flatten g) (flatten c.inner) (flatten c.outer)));
          tight = (p, all_append (Tighter a) (flatten g) (flatten c.inner) (all_map (Tighter b) (Tighter a) (λ x q. omega arith) (flatten g) h.0) c.tight);
          shapes =
              let n = head_front (Loose b) (flatten c.inner) (flatten c.outer) (subst (λ (x : List Item). Head (Loose b) x) c.whole h.2) in
              ((h.0, h.1, n, c.shapes.0), c.shapes.1);
          next = c.next;
        }
    go c (no p) = record { inner = end; outer = link b g l; whole = refl; tight = tt; shapes = (tt, h); next = omega arith }

-- every list has a shape
pub shape : (l : List Item) → (t : Links) × (flatten t ≡ l) × Shape t
shape [] = (end, refl, tt)
shape (a ∷ l) =
    let s = shape l in
    let c = cut a s.0 s.2 in
    (link a c.inner c.outer, ap (λ (x : List Item). a ∷ x) (sym c.whole ∙ s.1), (c.tight, c.shapes.0, c.next, c.shapes.1))

-- where two lists part into what has P and what follows without it, they part alike
pub apart : {A : Type 0} (P Q : A → Type 0) → ((a : A) → P a → Q a → ⊥) → (x x' y y' : List A) → All P x → All P x' → Head Q y → Head Q y' →
    x ++ y ≡ x' ++ y' → (x ≡ x') × (y ≡ y')
apart P Q f [] [] y y' h h' k k' e = (refl, e)
apart P Q f [] (b ∷ x') y y' h h' k k' e = absurd (f b h'.0 (subst (λ (z : List _). Head Q z) e k))
apart P Q f (b ∷ x) [] y y' h h' k k' e = absurd (f b h.0 (subst (λ (z : List _). Head Q z) (sym e) k'))
apart P Q f (b ∷ x) (c ∷ x') y y' h h' k k' e =
    let r = apart P Q f x x' y y' h.1 h'.1 k k' (cc) in
    let q = r.0 in
    let p : b ≡ c = cc in
    (cc, r.1)

-- and only one
pub unique : (g h : Links) → Shape g → Shape h → flatten g ≡ flatten h → g ≡ h
unique end end s t e = refl
unique end (link b g l) s t e = absurd (let z : ◌≡◌ {A = ℕ} 0 1 = cc in omega arith)
unique (link a g l) end s t e = absurd (let z : ◌≡◌ {A = ℕ} 0 1 = cc in omega arith)
unique (link a g l) (link b g' l') s t e =
    let tight = subst (λ (x : Item). All (Tighter x) (flatten g')) (sym p) t.0 in
    let next = subst (λ (x : Item). Head (Loose x) (flatten l')) (sym p) t.2 in
    go p (apart (Tighter a) (Loose a) (λ b t l. omega arith) (flatten g) (flatten g') (flatten l) (flatten l') s.0 tight s.2 next q) (unique g g' s.1 t.1) (unique l l' s.3 t.3)
  where
    p : a ≡ b
    p = cc

    q : flatten g ++ flatten l ≡ flatten g' ++ flatten l'
    q = cc

    go : a ≡ b → (flatten g ≡ flatten g') × (flatten l ≡ flatten l') → (flatten g ≡ flatten g' → g ≡ g') → (flatten l ≡ flatten l' → l ≡ l') → link a g l ≡ link b g' l'
    go p r u v = let x = u r.0 in let y = v r.1 in cc

pub valid_shape : (g : Links) → Valid g → Shape g
valid_shape end v = tt
valid_shape (link a g l) v = (v.0, valid_shape g v.1, head_map (Follows a) (Loose a) (λ b h. h.0) (flatten l) v.2, valid_shape l v.3)

-- A nested group binds tighter than the operator before it and its group's own operators after that (and not than all of its parent: LineKnown).
abbrev pub own : Links → List Item
own end = []
own (link a g l) = a ∷ own l

own_loose : (a : Item) (l : Links) → Shape l → Head (Loose a) (flatten l) → All (Loose a) (own l)
own_loose a end s h = tt
own_loose a (link b g l) s h = (h, own_loose a l s.3 (head_map (Loose b) (Loose a) (λ c k. omega arith) (flatten l) s.2))

pub tighter_after : (a : Item) (g l : Links) → Valid (link a g l) → All (λ (b : Item). All (Tighter b) (flatten g)) (a ∷ own l)
tighter_after a g l v =
    let s = valid_shape (link a g l) v in
    (v.0, all_map (Loose a) (λ (b : Item). All (Tighter b) (flatten g)) (λ b k. all_map (Tighter a) (Tighter b) (λ c m. omega arith) (flatten g) v.0) (own l) (own_loose a l s.3 s.2))

-- ## Clashes, read along the list

-- among the operators after a's, the first that is not tighter is equal and not associative
abbrev Hits : Item → List Item → Type 0
Hits a [] = ⊥
Hits a (b ∷ l) = (Tighter a b × Hits a l) ⊎ ((bind b ≡ bind a) × (associative (bind a) ≡ false))

abbrev Clashes : List Item → Type 0
Clashes [] = ⊥
Clashes (a ∷ l) = Hits a l ⊎ Clashes l

hits_from : (a : Item) (x : List Item) (b : Item) (y : List Item) → All (Tighter a) x → bind b ≡ bind a → associative (bind a) ≡ false → Hits a (x ++ (b ∷ y))
hits_from a [] b y h e n = inr (e, n)
hits_from a (c ∷ x) b y h e n = inl (h.0, hits_from a x b y h.1 e n)

clashes_later : (x y : List Item) → Clashes y → Clashes (x ++ y)
clashes_later [] y h = h
clashes_later (a ∷ x) y h = inr (clashes_later x y h)

clashes_from : {l p : List Item} {a : Item} → Clash l p a → Clashes l
clashes_from {p = p} {a = a} c =
    subst Clashes (sym c.whole) (clashes_later p _ (inl (hits_from a c.between c.right c.later c.tight c.equal c.loose)))

-- past tighter ones
hits_past : (a : Item) (x y : List Item) → All (Tighter a) x → Hits a (x ++ y) → Hits a y
hits_past a [] y h k = k
hits_past a (b ∷ x) y h (inl k) = hits_past a x y h.1 k.1
hits_past a (b ∷ x) y h (inr k) = absurd (omega arith)

no_hits : (a : Item) (x : List Item) → All (Tighter a) x → Hits a x → ⊥
no_hits a [] h k = k
no_hits a (b ∷ x) h (inl k) = no_hits a x h.1 k.1
no_hits a (b ∷ x) h (inr k) = omega arith

-- none where the next may follow
hits_not : (a : Item) (y : List Item) → Head (Follows a) y → Hits a y → ⊥
hits_not a [] h k = k
hits_not a (b ∷ y) h (inl k) = omega arith
hits_not a (b ∷ y) h (inr k) = false≢true (sym k.1 ∙ h.1 k.0)

-- none reaches out of a group
hits_in : (a b : Item) (x y : List Item) → Tighter a b → Head (Loose a) y → Hits b (x ++ y) → Hits b x
hits_in a b [] [] p h k = k
hits_in a b [] (c ∷ y) p h (inl k) = absurd (omega arith)
hits_in a b [] (c ∷ y) p h (inr k) = absurd (omega arith)
hits_in a b (c ∷ x) y p h (inl k) = inl (k.0, hits_in a b x y p h k.1)
hits_in a b (c ∷ x) y p h (inr k) = inr k

clashes_apart : (a : Item) (x y : List Item) → All (Tighter a) x → Head (Loose a) y → Clashes (x ++ y) → Clashes x ⊎ Clashes y
clashes_apart a [] y h k c = inr c
clashes_apart a (b ∷ x) y h k (inl c) = inl (inl (hits_in a b x y h.0 k c))
clashes_apart a (b ∷ x) y h k (inr c) = go (clashes_apart a x y h.1 k c)
  where
    go : Clashes x ⊎ Clashes y → Clashes (b ∷ x) ⊎ Clashes y
    go (inl d) = inl (inr d)
    go (inr d) = inr d

-- an operator, a group without a clash, and what may follow
clash_free : (a : Item) (x y : List Item) → All (Tighter a) x → Head (Follows a) y → (Clashes x → ⊥) → (Clashes y → ⊥) → Clashes (a ∷ (x ++ y)) → ⊥
clash_free a x y h k m n (inl c) = hits_not a y k (hits_past a x y h c)
clash_free a x y h k m n (inr c) = go (clashes_apart a x y h (head_map (Follows a) (Loose a) (λ b q. q.0) y k) c)
  where
    go : Clashes x ⊎ Clashes y → ⊥
    go (inl d) = m d
    go (inr d) = n d

valid_free : (g : Links) → Valid g → Clashes (flatten g) → ⊥
valid_free end v c = c
valid_free (link a g l) v c = clash_free a (flatten g) (flatten l) v.0 v.2 (valid_free g v.1) (valid_free l v.3) c

-- ## What a shape comes to

pub data Verdict : Type 0 where
  fine : Verdict
  clash : List Item → Item → Verdict

-- the items before, and the left operator's
unfoldable pub past : List Item → Verdict → Verdict
past p fine = fine
past p (clash q a) = clash (p ++ q) a

unfoldable pub or_else : Verdict → Verdict → Verdict
or_else fine v = v
or_else (clash p a) v = clash p a

unfoldable pub neighbour : Item → Links → Verdict
neighbour a end = fine
neighbour a (link b g l) = cond (eqb (bind a) (bind b) && not (associative (bind b))) (clash [] a) fine

unfoldable pub judge : Links → Verdict
judge end = fine
judge (link a g l) = or_else (past (a ∷ []) (judge g)) (or_else (neighbour a l) (past (a ∷ flatten g) (judge l)))

-- a first clash, with the absence of an earlier one read along the list
record FirstAt (l p : List Item) (a : Item) : Type 0 where
  clash : Clash l p a
  free : Clashes (p ++ (a ∷ clash.between)) → ⊥

abbrev Says : Links → Verdict → Type 0
Says t fine = Valid t
Says t (clash p a) = FirstAt (flatten t) p a

-- an operator's right neighbour in its group
data Beside (a : Item) (l : Links) : Verdict → Type 0 where
  calm : Head (Follows a) (flatten l) → Beside a l fine
  hit : (b : Item) (y : List Item) → flatten l ≡ b ∷ y → bind b ≡ bind a → associative (bind a) ≡ false → Beside a l (clash [] a)

beside : (a : Item) (l : Links) → Head (Loose a) (flatten l) → Beside a l (neighbour a l)
unfolding neighbour
beside a end h = calm tt
beside a (link b g l) h = go (eqb (bind a) (bind b)) refl (associative (bind b)) refl
  where
    go : (x : Bool) → eqb (bind a) (bind b) ≡ x → (y : Bool) → associative (bind b) ≡ y → Beside a (link b g l) (cond (x && not y) (clash [] a) fine)
    go true e true f = calm (h, λ q. ap associative (sym q) ∙ f)
    go true e false f = hit b (flatten g ++ flatten l) refl (sym (eqb-true (bind a) (bind b) e)) (ap associative (eqb-true (bind a) (bind b) e) ∙ f)
    go false e y f = calm (h, λ q. absurd (eqb-false (bind a) (bind b) e (sym q)))

module _ (a : Item) (g l : Links) (s : Shape (link a g l)) where
  -- the clash is in the nested group
  says_in : (p : List Item) (b : Item) → FirstAt (flatten g) p b → FirstAt (a ∷ (flatten g ++ flatten l)) (a ∷ p) b
  says_in p b c =
      record {
        clash =
            record {
              between = c.clash.between;
              right = c.clash.right;
              later = c.clash.later ++ flatten l;
              whole = ap (λ (x : List Item). a ∷ x) (ap (λ (x : List Item). x ++ flatten l) c.clash.whole ∙ simp append_assoc);
              equal = c.clash.equal;
              loose = c.clash.loose;
              tight = c.clash.tight;
            };
        free = go;
      }
    where
      front : All (Tighter a) (p ++ (b ∷ c.clash.between))
      front = all_front (Tighter a) (p ++ (b ∷ c.clash.between)) (c.clash.right ∷ c.clash.later) (rw append_assoc (rw c.clash.whole at s.0))

      go : Clashes (a ∷ (p ++ (b ∷ c.clash.between))) → ⊥
      go (inl h) = no_hits a (p ++ (b ∷ c.clash.between)) front h
      go (inr h) = c.free h

  says_here : (b : Item) (y : List Item) → flatten l ≡ b ∷ y → bind b ≡ bind a → associative (bind a) ≡ false → Valid g → FirstAt (a ∷ (flatten g ++ flatten l)) [] a
  says_here b y e q f v =
      record {
        clash = record { between = flatten g; right = b; later = y; whole = ap (λ (x : List Item). a ∷ (flatten g ++ x)) e; equal = q; loose = f; tight = s.0 };
        free = go;
      }
    where
      go : Clashes (a ∷ flatten g) → ⊥
      go (inl h) = no_hits a (flatten g) s.0 h
      go (inr h) = valid_free g v h

  says_on : (p : List Item) (b : Item) → Valid g → Head (Follows a) (flatten l) → FirstAt (flatten l) p b → FirstAt (a ∷ (flatten g ++ flatten l)) (a ∷ (flatten g ++ p)) b
  says_on p b v h c =
      record {
        clash =
            record {
              between = c.clash.between;
              right = c.clash.right;
              later = c.clash.later;
              whole = ap (λ (x : List Item). a ∷ x) (ap (λ (x : List Item). flatten g ++ x) c.clash.whole ∙ simp append_assoc);
              equal = c.clash.equal;
              loose = c.clash.loose;
              tight = c.clash.tight;
            };
        free = rw append_assoc (clash_free a (flatten g) (p ++ (b ∷ c.clash.between)) s.0 front (valid_free g v) c.free);
      }
    where
      front : Head (Follows a) (p ++ (b ∷ c.clash.between))
      front = head_front (Follows a) (p ++ (b ∷ c.clash.between)) (c.clash.right ∷ c.clash.later) (rw append_assoc (rw c.clash.whole at h))

  says : (u v w : Verdict) → Says g u → Beside a l v → Says l w → Says (link a g l) (or_else (past (a ∷ []) u) (or_else v (past (a ∷ flatten g) w)))
  unfolding or_else past
  says fine fine fine x (calm y) z = (s.0, x, y, z)
  says fine fine (clash p b) x (calm y) z = says_on p b x y z
  says fine (clash p b) w x (hit c r e q f) z = says_here c r e q f x
  says (clash p b) v w x y z = says_in p b x

judge_says : (t : Links) → Shape t → Says t (judge t)
unfolding judge
judge_says end s = tt
judge_says (link a g l) s = says a g l s (judge g) (neighbour a l) (judge l) (judge_says g s.1) (beside a l s.2) (judge_says l s.3)

-- ## Theorem A

pub never_both : (l : List Item) (g : Links) (p : List Item) (a : Item) → Reads l g → Clash l p a → ⊥
never_both l g p a r c = valid_free g r.valid (subst Clashes (sym r.whole) (clashes_from c))

pub only : (l : List Item) (g h : Links) → Reads l g → Reads l h → g ≡ h
only l g h r s = unique g h (valid_shape g r.valid) (valid_shape h s.valid) (r.whole ∙ sym s.whole)

-- the verdict on a shape, for its list
abbrev pub Tells : List Item → Links → Verdict → Type 0
Tells l t fine = Reads l t
Tells l t (clash p a) = FirstClash l p a

pub tells : (l : List Item) (t : Links) → flatten t ≡ l → Shape t → Tells l t (judge t)
tells l t e s = go (judge t) (judge_says t s)
  where
    go : (v : Verdict) → Says t v → Tells l t v
    go fine h = record { whole = e; valid = h }
    go (clash p a) h = subst (λ (x : List Item). FirstClash x p a) e (record { clash = h.clash; first = λ q b c. h.free (clashes_from c) })

-- what reads has no clash
pub reads_fine : (l : List Item) (g : Links) → Reads l g → judge g ≡ fine
reads_fine l g r = go (judge g) (tells l g r.whole (valid_shape g r.valid))
  where
    go : (v : Verdict) → Tells l g v → v ≡ fine
    go fine h = refl
    go (clash p a) h = absurd (never_both l g p a r h.clash)

pub reads_or_clashes : (l : List Item) → ((g : Links) × Reads l g) ⊎ ((p : List Item) × (a : Item) × FirstClash l p a)
reads_or_clashes l = let s = shape l in go s.0 (judge s.0) (tells l s.0 s.1 s.2)
  where
    go : (t : Links) (v : Verdict) → Tells l t v → ((g : Links) × Reads l g) ⊎ ((p : List Item) × (a : Item) × FirstClash l p a)
    go t fine h = inl (t, h)
    go t (clash p a) h = inr (p, a, h)

-- two items of one list
data Aligned (x : List Item) (a : Item) (y x' : List Item) (b : Item) (y' : List Item) : Type 0 where
  same : x ≡ x' → a ≡ b → y ≡ y' → Aligned x a y x' b y'
  earlier : (w : List Item) → x' ≡ x ++ (a ∷ w) → y ≡ w ++ (b ∷ y') → Aligned x a y x' b y'
  later : (w : List Item) → x ≡ x' ++ (b ∷ w) → y' ≡ w ++ (a ∷ y) → Aligned x a y x' b y'

align : (x : List Item) (a : Item) (y x' : List Item) (b : Item) (y' : List Item) → x ++ (a ∷ y) ≡ x' ++ (b ∷ y') → Aligned x a y x' b y'
align [] a y [] b y' e = same refl (cc) (cc)
align [] a y (c ∷ x') b y' e = earlier x' (cc) (cc)
align (c ∷ x) a y [] b y' e = later x (cc) (cc)
align (c ∷ x) a y (d ∷ x') b y' e = go (align x a y x' b y' (cc))
  where
    q : c ≡ d
    q = cc

    go : Aligned x a y x' b y' → Aligned (c ∷ x) a y (d ∷ x') b y'
    go (same f g h) = same (let p = q in cc) g h
    go (earlier w f g) = earlier w (let p = q in cc) g
    go (later w f g) = later w (let p = q in cc) g

-- with one right operator there is one left
left_only : (p m q n : List Item) (a b : Item) → bind a ≡ bind b → All (Tighter a) m → All (Tighter b) n → p ++ (a ∷ m) ≡ q ++ (b ∷ n) → (p ≡ q) × (a ≡ b)
left_only p m q n a b e h k f = go (align p a m q b n f)
  where
    in_middle : (c d : Item) (w z : List Item) → All (Tighter c) (w ++ (d ∷ z)) → Tighter c d
    in_middle c d [] z h = h.0
    in_middle c d (x ∷ w) z h = in_middle c d w z h.1

    go : Aligned p a m q b n → (p ≡ q) × (a ≡ b)
    go (same x y z) = (x, y)
    go (earlier w x y) = absurd (let t = in_middle a b w n (subst (λ (z : List Item). All (Tighter a) z) y h) in omega arith)
    go (later w x y) = absurd (let t = in_middle b a w m (subst (λ (z : List Item). All (Tighter b) z) y k) in omega arith)

-- a clash, where its list goes on differently
shorter : {l p : List Item} {a : Item} (c : Clash l p a) (m w : List Item) → m ≡ (p ++ (a ∷ c.between)) ++ (c.right ∷ w) → Clash m p a
shorter c m w e =
    record {
      between = c.between;
      right = c.right;
      later = w;
      whole = e ∙ simp append_assoc;
      equal = c.equal;
      loose = c.loose;
      tight = c.tight;
    }

pub first_only : (l p q : List Item) (a b : Item) → FirstClash l p a → FirstClash l q b → (p ≡ q) × (a ≡ b)
first_only l p q a b f g =
    go (align (p ++ (a ∷ f.clash.between)) f.clash.right f.clash.later (q ++ (b ∷ g.clash.between)) g.clash.right g.clash.later
    (simp append_assoc (sym f.clash.whole ∙ g.clash.whole)))
  where
    go : Aligned (p ++ (a ∷ f.clash.between)) f.clash.right f.clash.later (q ++ (b ∷ g.clash.between)) g.clash.right g.clash.later → (p ≡ q) × (a ≡ b)
    go (same x y z) = left_only p f.clash.between q g.clash.between a b (sym f.clash.equal ∙ ap bind y ∙ g.clash.equal) f.clash.tight g.clash.tight x
    go (earlier w x y) = absurd (g.first p a (shorter f.clash _ w x))
    go (later w x y) = absurd (f.first q b (shorter g.clash _ w x))
