-- A fact of every kind, from one test that antt computes at each number of a range.
-- Assumes nothing.
use Rattle.std.specs.Prelude.{ℕ, zero, suc, ◌+◌, ◌≤◌, ◌<◌, ◌≡◌, refl, Bool, true, false, ◌&&◌, T, eqb}
use Rattle.std.proofs.Common.{subst, ⊎_elim, arith, eq-or-lt_of_le, eqb→eq}

-- ## Tests
-- They compute; what a passed test says is a lemma below each.

and_left : (a b : Bool) → T (a && b) → T a
and_left true b t = tt
and_left false b t = t

and_right : (a b : Bool) → T (a && b) → T b
and_right true b t = t
and_right false b t = absurd t

abbrev pub same : Bool → Bool → Bool
same true true = true
same true false = false
same false true = false
same false false = true

same_is : (a b : Bool) → T (same a b) → a ≡ b
same_is true true t = refl
same_is true false t = absurd t
same_is false true t = absurd t
same_is false false t = refl

-- the test passes at both answers
abbrev pub both : (Bool → Bool) → Bool
both P = P true && P false

both_at : (P : Bool → Bool) → T (both P) → (b : Bool) → T (P b)
both_at P t true = and_left (P true) (P false) t
both_at P t false = and_right (P true) (P false) t

-- the test passes at the n numbers from lo
abbrev pub range : ℕ → ℕ → (ℕ → Bool) → Bool
range lo zero P = true
range lo (suc n) P = P lo && range (suc lo) n P

range_at : (lo n : ℕ) (P : ℕ → Bool) → T (range lo n P) → (k : ℕ) → lo ≤ k → k < lo + n → T (P k)
range_at lo zero P t k l h = absurd (omega arith)
range_at lo (suc n) P t k l h =
    ⊎_elim
    (λ e. subst (λ (m : ℕ). T (P m)) e (and_left (P lo) (range (suc lo) n P) t))
    (λ m. range_at (suc lo) n P (and_right (P lo) (range (suc lo) n P) t) k m (omega arith))
    (eq-or-lt_of_le l)

-- ## Laws
-- Each is cited as `each 0 256 k (search needs) (λ m e h. rw e h) tt`: the goal, said of the variable m, tells antt what f and g are,
-- and `tt` is the computed test. So a citation repeats nothing of the goal.

pub each : (lo n k : ℕ) {f g : ℕ → Bool} {G : Type 0} → (lo ≤ k) × (k < lo + n) → ((m : ℕ) → k ≡ m → f m ≡ g m → G) → T (range lo n (λ m. same (f m) (g m))) → G
each lo n k {f} {g} h then t = then k refl (same_is (f k) (g k) (range_at lo n (λ m. same (f m) (g m)) t k h.0 h.1))

-- of two numbers
pub each_number : (lo n k : ℕ) {f g : ℕ → ℕ} {G : Type 0} → (lo ≤ k) × (k < lo + n) → ((m : ℕ) → k ≡ m → f m ≡ g m → G) → T (range lo n (λ m. eqb (f m) (g m))) → G
each_number lo n k {f} {g} h then t = then k refl (eqb→eq (f k) (g k) (range_at lo n (λ m. eqb (f m) (g m)) t k h.0 h.1))

-- of a kind and the answers a, b, c of three other tests
pub each_with : (lo n k : ℕ) (a b c : Bool) {f g : ℕ → Bool → Bool → Bool → Bool} {G : Type 0} → (lo ≤ k) × (k < lo + n) → ((m : ℕ) → k ≡ m → (x : Bool) → a ≡ x → (y : Bool) → b ≡ y → (z : Bool) → c ≡ z → f m x y z ≡ g m x y z → G) → T (range lo n (λ m. both (λ x. both (λ y. both (λ z. same (f m x y z) (g m x y z)))))) → G
each_with lo n k a b c {f} {g} h then t =
    then k refl a refl b refl c refl
    (same_is (f k a b c) (g k a b c)
    (both_at (λ z. same (f k a b z) (g k a b z))
    (both_at (λ y. both (λ z. same (f k a y z) (g k a y z)))
    (both_at (λ x. both (λ y. both (λ z. same (f k x y z) (g k x y z))))
    (range_at lo n (λ m. both (λ x. both (λ y. both (λ z. same (f m x y z) (g m x y z))))) t k h.0 h.1) a) b) c))
