-- The reasons' numbers, as the definition has them.
-- Assumes nothing.
use Rattle.std.specs.Prelude.{ℕ, ◌-◌, ◌≡◌, List, [], ◌∷◌, get_or}
use Rattle.std.proofs.Math.Path.{refl, ap, sym}
use Rattle.std.proofs.Common.{◌∙◌}
use Rattle.tape.specs.declared.refusal.Reason.{Reason}

abbrev pub number_of : Reason → ℕ
number_of Reason.Asked = 1
number_of Reason.Unequal = 2
number_of Reason.Long = 3
number_of Reason.NoToken = 4
number_of Reason.Bytes = 5
number_of Reason.NoExpr = 6
number_of Reason.Clash = 7
number_of Reason.Unclosed = 8
number_of Reason.Standstill = 9
number_of Reason.Deep = 10
number_of Reason.Full = 11
number_of Reason.Job = 12

-- the reasons in the order of their numbers
reasons : List Reason
reasons =
    Reason.Asked ∷ Reason.Unequal ∷ Reason.Long ∷ Reason.NoToken ∷ Reason.Bytes ∷ Reason.NoExpr ∷
    Reason.Clash ∷ Reason.Unclosed ∷ Reason.Standstill ∷ Reason.Deep ∷ Reason.Full ∷ Reason.Job ∷ []

numbered : ℕ → Reason
numbered n = get_or reasons (n - 1) Reason.Job

numbered_is : (a : Reason) → numbered (number_of a) ≡ a
unfolding numbered reasons
numbered_is Reason.Asked = refl
numbered_is Reason.Unequal = refl
numbered_is Reason.Long = refl
numbered_is Reason.NoToken = refl
numbered_is Reason.Bytes = refl
numbered_is Reason.NoExpr = refl
numbered_is Reason.Clash = refl
numbered_is Reason.Unclosed = refl
numbered_is Reason.Standstill = refl
numbered_is Reason.Deep = refl
numbered_is Reason.Full = refl
numbered_is Reason.Job = refl

-- no two reasons have one number
pub same_reason : (a b : Reason) → number_of a ≡ number_of b → a ≡ b
same_reason a b e = sym (numbered_is a) ∙ (ap numbered e ∙ numbered_is b)
