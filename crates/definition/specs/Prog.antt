-- The language of tape programs, in which Grammar.antt writes the rules, and what a program means.
-- Assumes nothing.
use Rattle.std.specs.Prelude.{ℕ, zero, suc, ◌-◌, Bool, ◌⊎◌, length, ltb, eqb}
use Rattle.std.proofs.Common.{inl, inr}
use Rattle.definition.specs.Modes.{Brace, Range, Binary, ExprCx}
use Rattle.definition.specs.Operators.{Op}
use Rattle.definition.specs.Tape.{In, State, Out, ok, refused, fault, never_ends, wrong_mark, and_then, choose, here_at, nth_at, glued_at, flush_at, bump_at, close_at}

-- The six rules whose entry counts as depth, with their modes; of expr_binary the operator and the least binding too
pub data Rule : Type 0 where
  stmt_rule : Rule
  item_use_rule : Rule
  pat_rule : Rule
  path_rule : Rule
  outer_rule : Brace → Range → Binary → ExprCx → Rule
  binary_rule : Op → ℕ → Brace → ExprCx → Rule

-- a mark: how many rows stood when it was taken
pub record Mark : Type 0 where
  pub row : ℕ

abbrev pub mark : ℕ → Mark
mark n = record { row = n }

-- `scope f` is a checkpoint: it writes pending trivia, marks the row count, and goes on with that mark as f says. `close c k` closes over all rows since the mark c,
-- which must be that of the checkpoint it stands in: a checkpoint put in between does not move the close, but is a fault, as soon as a row stands between the two.
pub data Prog : Type 0 → Type 1 where
  done : {A : Type 0} → A → Prog A
  seq : {A B : Type 0} → Prog A → (A → Prog B) → Prog B
  nth : ℕ → Prog ℕ
  glued : Prog ℕ
  here : Prog ℕ
  flush : Prog (Unit {0})
  bump : Prog (Unit {0})
  scope : {A : Type 0} → (Mark → Prog A) → Prog A
  close : Mark → ℕ → Prog (Unit {0})
  stop : {A : Type 0} → ℕ → ℕ → Prog A
  enter : Rule → Prog ℕ
  test : {A : Type 0} → Bool → Prog A → Prog A → Prog A
  repeat : {A B : Type 0} → (A → Prog (A ⊎ B)) → A → Prog B

-- ## What a program means

-- what the six rules do where a program enters them
abbrev pub Calls : Type 0
Calls = Rule → State → Out ℕ

-- tokens not yet written
unfoldable pub left : In → State → ℕ
left i s = length i.kinds - s.at

-- What follows a turn that began at s: the next turn, if this one wrote a token; otherwise the loop would never end
unfoldable pub turn : {A B : Type 0} → In → State → (A → State → Out B) → A ⊎ B → State → Out B
turn i s k (inl a) t = choose (ltb (left i t) (left i s)) (λ u. k a t) (λ u. fault never_ends)
turn i s k (inr b) t = ok b t

-- at most n turns of f
unfoldable pub turns : {A B : Type 0} → In → ℕ → (A → State → Out (A ⊎ B)) → A → State → Out B
turns i zero f a s = fault never_ends
turns i (suc n) f a s = and_then (f a s) (turn i s (λ b t. turns i n f b t))

-- the program's outcome from s, with m the mark of the checkpoint that it stands in
unfoldable pub eval : {A : Type 0} → In → Calls → ℕ → Prog A → State → Out A
eval i e m (done a) s = ok a s
eval i e m (seq p f) s = and_then (eval i e m p s) (λ a t. eval i e m (f a) t)
eval i e m (nth n) s = ok (nth_at i n s) s
eval i e m glued s = ok (glued_at i s) s
eval i e m here s = ok (here_at i s) s
eval i e m flush s = flush_at i s
eval i e m bump s = bump_at i s
eval i e m (scope f) s = and_then (flush_at i s) (λ u t. eval i e (length t.out) (f (mark (length t.out))) t)
eval i e m (close c k) s = choose (eqb c.row m) (λ u. close_at i m k s) (λ u. fault wrong_mark)
eval i e m (stop n pl) s = refused n pl
eval i e m (enter r) s = e r s
eval i e m (test b p q) s = choose b (λ u. eval i e m p s) (λ u. eval i e m q s)
eval i e m (repeat f a) s = turns i (suc (left i s)) (λ b t. eval i e m (f b) t) a s

-- The rules of a grammar g where d entries are left: with none, refusal 10 before anything else in the rule. A rule closes no mark of its caller's.
unfoldable pub call : (Rule → Prog ℕ) → In → ℕ → Calls
call g i zero r s = refused 10 (here_at i s)
call g i (suc d) r s = eval i (call g i d) (length s.out) (g r) s

-- ## How programs are written. (Functions over the constructors, since only of a function's call is the expected type read first.)

infixr 15 if◌then◌otherwise◌
infixr 20 ◌>>=◌
infixr 20 ◌>>◌
abbrev pub ret : {A : Type 0} → A → Prog A
ret a = done a

abbrev pub ◌>>=◌ : {A B : Type 0} → Prog A → (A → Prog B) → Prog B
◌>>=◌ p f = seq p f

abbrev pub ◌>>◌ : {A B : Type 0} → Prog A → Prog B → Prog B
◌>>◌ p q = seq p (λ a. q)

abbrev pub if◌then◌otherwise◌ : {A : Type 0} → Bool → Prog A → Prog A → Prog A
if◌then◌otherwise◌ b p q = test b p q

abbrev pub checkpoint : {A : Type 0} → (Mark → Prog A) → Prog A
checkpoint f = scope f

abbrev pub loop : {A B : Type 0} → (A → Prog (A ⊎ B)) → A → Prog B
loop f a = repeat f a

abbrev pub skip : Prog (Unit {0})
skip = ret tt

-- a refusal at the next token
abbrev pub refuse : {A : Type 0} → ℕ → Prog A
refuse n = here >>= λ pl. stop n pl
