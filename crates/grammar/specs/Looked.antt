-- What the binary rules and the links of a chain look at and answer: the operator that the next two kinds make, and a link's kind.
-- Assumes nothing.
use Rattle.std.specs.Prelude.{ℕ, ◌<◌, ◌≡◌, refl, true, false, eqb, drop, Option, Some, None, IfSome, unwrap_or, Result, Ok, Err, IfOk, IsErr, IsErrAnd}
use Rattle.std.proofs.Common.{ap, subst, arith, ne_eqb}
use Rattle.std.proofs.lemmas.Result.{err_from_is_err_and}
use Rattle.definition.specs.Tape.{State, nth_kind}
use Rattle.definition.specs.Operators.{Op as Operator, from_slice, is_none}
use Rattle.definition.specs.Prog.{Prog, done, seq, nth}
use Rattle.kinds.specs.Ops.{op_of, next_of}
use Rattle.tape.specs.View.{Step, Enters}
use Rattle.tape.specs.Steps.{ask_second}
use Rattle.kinds.specs.declared.operators.Op.{Op}
use Rattle.tape.specs.declared.refusal.Refusal.{Refusal}
use Rattle.tape.specs.declared.Tape.{Tape}

-- the operator that the next two kinds make
abbrev pub ahead_of : Tape → Operator
ahead_of t = from_slice (nth_kind 0 (drop t.at t.kinds.now)) (nth_kind 1 (drop t.at t.kinds.now))

pub record Next (op : Option Op) (t : Tape) : Type 0 where
  pub is : next_of op ≡ ahead_of t

-- an operand's answer as the definition has it
abbrev pub ahead : Result (Option Op) Refusal → Result Operator Refusal
ahead (Ok op) = Ok (next_of op)
ahead (Err e) = Err e

-- a link's kind as the definition has it: 0 where there is no link
abbrev pub link_of : Result (Option ℕ) Refusal → Result ℕ Refusal
link_of (Ok link) = Ok (unwrap_or link 0)
link_of (Err e) = Err e

-- so no link has the kind 0
pub record IsLink (o : Result ℕ Refusal) : Type 0 where
  pub some : IfOk o (λ k. 0 < k)

pub record Links (o : Result (Option ℕ) Refusal) : Type 0 where
  pub some : IfOk o (λ link. IfSome link (λ k. 0 < k))

-- what an operand leaves over is the next operator
pub record Found (o : Result (Option Op) Refusal) (t : Tape) : Type 0 where
  pub is : IfOk o (λ op. Next op t)

-- an operator that was found is one
pub some_op : (op : Op) → is_none (op_of op) ≡ false
unfolding is_none
some_op op = ne_eqb _ _ (λ z. omega (arith, op.binds))

-- what a `match` on a link or an operator says as the definition has it
pub link_is : {link : Option ℕ} {k : ℕ} → link ≡ Some k → Links (Ok link) → eqb (unwrap_or link 0) 0 ≡ false
link_is {k = k} e h = rw e (ne_eqb k 0 (λ z. omega (arith, subst (λ (l : Option ℕ). IfSome l (λ k. 0 < k)) e h.some)))

pub no_link : {link : Option ℕ} → link ≡ None → eqb (unwrap_or link 0) 0 ≡ true
no_link e = rw e refl

pub op_is : {op : Option Op} {x : Op} → op ≡ Some x → is_none (next_of op) ≡ false
op_is {x = x} e = rw e (some_op x)

pub no_op : {op : Option Op} → op ≡ None → is_none (next_of op) ≡ true
unfolding is_none
no_op e = rw e refl

module _ {m : ℕ} {t r : Tape} where
  -- a look at the next operator, as the code's function for it has it
  pub ask_ahead : {A : Type 0} {op : Option Op} {f : Operator → Prog A} {o : Result A Refusal} → Next op t →
      Step m (f (next_of op)) o t r → Step m (seq (seq (nth 0) (λ k. seq (nth 1) (λ j. done (from_slice k j)))) f) o t r
  ask_ahead {f = f} {o = o} h w = ask_second refl refl (subst (λ (x : Operator). Step m (f x) o t r) h.is w)

-- an entry looks at the same operator
pub next_in : {op : Option Op} {o : Result ℕ Refusal} {t u : Tape} → Enters o t u → Next op t → Next op u
next_in h n = record { is = rw (h.same.kinds, ap (λ (s : State). s.at) h.state) n.is }

-- what `?` hands on, where the code answers an Option and the definition a number or an operator
module _ {A B : Type 0} {m : ℕ} {p : Prog B} {t r : Tape} (f : Result A Refusal → Result B Refusal) where
  pub thrown_as : {o : Result A Refusal} {e : Refusal} → IsErr o × IsErrAnd o (λ d. d ≡ e) → Step m p (f (Err e)) t r → Step m p (f o) t r
  thrown_as {o} h w =
      let q = err_from_is_err_and o h.1 in
      rw (q.1, q.2) w
