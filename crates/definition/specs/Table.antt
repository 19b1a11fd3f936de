-- 01's table of operators, line by line, and that the lookup is the table: each operator is found as it stands there, and no other number below 128 is one.
-- So a binding in Operators that is wrong, left out or added fails here.
-- Assumes nothing.
use Rattle.std.specs.Prelude.{ℕ, zero, suc, ◌≡◌, refl, Bool, true, false, List, [], ◌∷◌, map, eqb}
use Rattle.definition.specs.Kinds.{K-&, K-*, K-<, K->, K-+, K-dash, K-/, K-%, K-==, K-!=, K-<=, K->=, K-&&, K-||, K-<<, K->>, K-^, K-|, K-as, K-is, K-not, K-+=, K-dash=, K-*=, K-/=, K-%=, K-&=, K-^=, K-|=, K-<<=, K->>=}
use Rattle.definition.specs.Classes.{among}
use Rattle.definition.specs.Operators.{bindings, binding_in, associative, from_slice}

-- an operator's kind, its binding, whether it is associative
pub record Listing : Type 0 where
  pub operator : ℕ
  pub binding : ℕ
  pub assoc : Bool

abbrev listing : ℕ → Bool → List ℕ → List Listing → List Listing
listing b x [] t = t
listing b x (k ∷ l) t = record { operator = k; binding = b; assoc = x } ∷ listing b x l t

unfoldable pub table : List Listing
table =
    listing 13 false (K-as ∷ K-is ∷ [])
    (listing 11 true (K-* ∷ K-/ ∷ K-% ∷ [])
    (listing 10 true (K-+ ∷ K-dash ∷ [])
    (listing 9 true (K-<< ∷ K->> ∷ [])
    (listing 8 true (K-& ∷ [])
    (listing 7 true (K-^ ∷ [])
    (listing 6 true (K-| ∷ [])
    (listing 5 false (K-== ∷ K-!= ∷ K-< ∷ K-> ∷ K-<= ∷ K->= ∷ [])
    (listing 4 true (K-&& ∷ [])
    (listing 3 true (K-|| ∷ [])
    (listing 1 false (K-+= ∷ K-dash= ∷ K-*= ∷ K-/= ∷ K-%= ∷ K-&= ∷ K-^= ∷ K-|= ∷ K-<<= ∷ K->>= ∷ [])
    []))))))))))

abbrev pub found : Listing → Listing
found e = record { operator = e.operator; binding = binding_in e.operator bindings; assoc = associative (binding_in e.operator bindings) }

-- each operator is found in the definition as the table has it
pub table_is : map found table ≡ table
unfolding table bindings binding_in associative among
table_is = refl

-- the binding that the table gives to a kind, 0 where it is not listed
unfoldable pub listed : ℕ → List Listing → ℕ
listed k [] = 0
listed k (e ∷ l) = elim (eqb k e.operator) [ true ↦ e.binding | false ↦ listed k l ]

-- n, n + 1 and so on, m numbers
abbrev up_from : ℕ → ℕ → List ℕ
up_from n zero = []
up_from n (suc m) = n ∷ up_from (suc n) m

-- every number below 128 is looked up as the table has it, so that what does not stand in the table is no operator
pub table_whole : map (λ (k : ℕ). binding_in k bindings) (up_from 0 128) ≡ map (λ (k : ℕ). listed k table) (up_from 0 128)
unfolding table listed bindings binding_in among
table_whole = refl

-- `is not` is two tokens, and binds as `is` does
pub is_not_tokens : from_slice K-is K-not ≡ record { binding = 13; tokens = 2 }
unfolding from_slice bindings binding_in among
is_not_tokens = refl
