-- Expressions are sound. expr_binary is, where its operator is the next one: its loops hand on the operator that follows.
-- Assumes nothing.
use Rattle.std.specs.Prelude.{ℕ, ◌+◌, ◌≤◌, ◌≡◌, Bool, true, false, ◌||◌, ◌⊎◌, List, length, eqb}
use Rattle.std.proofs.Math.Path.{refl}
use Rattle.std.proofs.Common.{inl, inr, arith}
use Rattle.definition.specs.Kinds
use Rattle.definition.specs.Classes
use Rattle.definition.specs.Modes.{Brace, Range, Binary, ExprCx, Listed}
use Rattle.definition.specs.Tape.{In, State, Out, ok, refused, fault, and_then, here_at, nth_at, glued_at}
use Rattle.definition.specs.Operators.{Op, is_none, is_below, is_tighter, clashes}
use Rattle.definition.specs.Prog.{Prog, mark, seq, here, bump, close, binary_rule, ret, ◌>>=◌, ◌>>◌, loop, if◌then◌otherwise◌, eval, call}
use Rattle.definition.specs.Grammar as g
use Rattle.definition.specs.Parse.{run}
use Rattle.laws.specs.Progress as far
use Rattle.trees.specs.Forest.{Tok, kinds, in_of}
use Rattle.trees.specs.Root.{post_choose}
use Rattle.trees.specs.Sound.{Named, Within, Fine, Any, Asks, Entries, Under, Safe, Keeps, here_within, fine_then, fine_choose, fine_stay, fine_inside, fine_scope, fine_loop, Moved, moves_further, free, s_true, s_seq, s_bump, s_loop, s_while}
use Rattle.trees.specs.Pieces.{while_next, while_token, while_glued}
use Rattle.trees.proofs.Pieces.{steps, tokens, pats, modifiers_safe, pat_list_safe}

-- ## Expressions

pub stmt_safe : Safe g.stmt
unfolding g.stmt free
stmt_safe c l K h = search steps depth 12

pub outer_safe : (brace : Brace) (range : Range) (binary : Binary) (cx : ExprCx) → Safe (g.outer_expr_with brace range binary cx)
unfolding g.outer_expr_with free
outer_safe brace range binary cx c l K h = search steps depth 12

pub expr_with_safe : (brace : Brace) (range : Range) (binary : Binary) (cx : ExprCx) → Safe (g.expr_with brace range binary cx)
unfolding g.expr_with
expr_with_safe brace range binary cx c l K h = search (tokens, modifiers_safe, outer_safe) depth 30

pub expr_list_safe : Safe g.expr_list
unfolding g.expr_list
expr_list_safe =
    while_glued (Classes.kind_is_expr_with Brace.Yes Range.Yes) _ (λ c l K h. search (tokens, expr_with_safe) depth 20)
    (λ i d m s z. far.first_further i d m g.expr _ s (far.expr_further i d m s))

pub parenthesized_safe : (of : Listed) (end : ℕ) → Safe (g.parenthesized of end)
unfolding g.parenthesized g.items
parenthesized_safe of end c l K h = search (tokens, expr_list_safe, pat_list_safe) depth 20

pub block_stmts_safe : Safe g.block_stmts
unfolding g.block_stmts
block_stmts_safe = while_next Classes.in_block g.stmt stmt_safe (λ i d m s z. far.stmt_further i d m s)

pub block_with_safe : Safe g.block_with
unfolding g.block_with g.block_open g.block_body
block_with_safe c l K h = search (tokens, block_stmts_safe) depth 30

pub block_safe : Safe g.block
unfolding g.block
block_safe c l K h = search (tokens, block_with_safe) depth 20

pub ruleset values = (pats, modifiers_safe, outer_safe, expr_with_safe, parenthesized_safe, block_safe, block_with_safe)

pub condition_safe : Safe g.condition
unfolding g.condition g.condition_let g.condition_init
condition_safe c l K h = search values depth 30

pub else_branches_safe : Safe g.else_branches
unfolding g.else_branches g.else_branch g.else_if
else_branches_safe = while_token (λ j. eqb j Kinds.K-else) g.else_branch (λ c l K h. search (values, condition_safe) depth 30) refl far.else_branch_further

pub expr_after_safe : (k : ℕ) → Safe (g.expr_after k)
unfolding g.expr_after
expr_after_safe k c l K h = search values depth 20

pub match_list_safe : Safe g.match_list
unfolding g.match_list g.match_arm g.match_case
match_list_safe = while_glued Classes.kind_is_pat g.match_arm (λ c l K h. search (values, expr_after_safe) depth 30) far.match_arm_further

pub select_list_safe : Safe g.select_list
unfolding g.select_list g.select_arm g.select_case g.select_pat
select_list_safe = while_glued Classes.is_select_arm g.select_arm (λ c l K h. search (values, expr_after_safe) depth 30) far.select_arm_further

expr_moves : {A B : Type 0} (i : In) (d m : ℕ) (rest : Unit {0} → Prog (A ⊎ B)) (s : State) → Moved s (run i d m (seq g.expr rest) s)
expr_moves i d m rest s = moves_further s (run i d m (seq g.expr rest) s) (far.first_further i d m g.expr rest s (far.expr_further i d m s))

tuple_moves : (i : In) (d m : ℕ) (b : Bool) (s : State) → Moved s (run i d m (g.tuple_turn b) s)
unfolding g.tuple_turn run eval and_then
tuple_moves i d m b s =
    post_choose _ (Classes.kind_is_expr_with Brace.Yes Range.Yes (nth_at i 0 s) (glued_at i s)) _ _
    (λ z. expr_moves i d m (λ u. g.bump_while Kinds.K-comma >>= λ c. ret (inl (b || c))) s) (λ z. tt)

pub tuple_items_safe : Safe g.tuple_items
unfolding g.tuple_items g.tuple_turn
tuple_items_safe c l K h = s_loop (λ b. search values depth 30) tuple_moves

pub object_fields_safe : Safe g.object_fields
unfolding g.object_fields g.object_field
object_fields_safe =
    while_next Classes.is_object_key g.object_field (λ c l K h. search (values, expr_after_safe) depth 30)
    (λ i d m s z. far.object_field_further i d m s (far.object_key_some _ z))

pub recovery_safe : Safe g.recovery
unfolding g.recovery eval and_then
recovery_safe =
    s_while g.is_stmt_recovering bump (λ i s. Classes.kind_is_stmt_recovering (nth_at i 0 s) (nth_at i 1 s)) (λ i e m s. refl) (λ c l K h. s_bump (h tt))
    (λ i d m s z. far.bump_further i d m s (far.recovering_some _ _ z))

pub ruleset groups = (values, condition_safe, else_branches_safe, expr_after_safe, match_list_safe, select_list_safe, tuple_items_safe, object_fields_safe, recovery_safe)

pub expr_primary_safe : (brace : Brace) (range : Range) (cx : ExprCx) → Safe (g.expr_primary brace range cx)
unfolding g.expr_primary g.primary_path g.macro_call g.expr_object g.expr_tuple_or_group g.empty_group g.closure_arguments g.push g.expr_if g.expr_while g.expr_loop g.expr_if_any g.expr_for g.for_in g.expr_match g.match_arms g.expr_select g.select_arms g.range_to g.recover
expr_primary_safe brace range cx c l K h = search groups depth 80 fits 20000

-- ## Chains, ranges, operators

-- (0, no link, is not closed)
pub chain_step_safe : (kind : ℕ) → Safe (g.chain_step kind)
unfolding g.chain_step g.chain_link g.field_link
chain_step_safe kind c l K h = search (s_true, values) depth 40

chain_moves : (i : In) (d m : ℕ) (c : ℕ × Bool) (s : State) → Moved s (run i d m (g.chain_turn c) s)
unfolding g.chain_turn run eval and_then far.Further
chain_moves i d m c s = go (run i d m (g.chain_step c.0) s) refl
  where
    go : (o : Out ℕ) → run i d m (g.chain_step c.0) s ≡ o →
        Moved {A = ℕ × Bool} {B = ℕ × Bool} s (and_then o (λ k t. run i d m (if eqb k 0 then ret (inr c) otherwise ret (inl (k, true))) t))
    go (ok k t) e = post_choose _ (eqb k 0) _ _ (λ z. tt) (far.chain_step_further i d m c.0 s t k e)
    go (refused n pl) e = tt
    go (fault w) e = tt

pub expr_chain_safe : (c kind : ℕ) → Under c (g.expr_chain (mark c) kind)
unfolding g.expr_chain g.chain_turn
expr_chain_safe c kind l K h = s_seq (s_loop (λ b. search (steps, chain_step_safe) depth 20) chain_moves)

pub expr_range_safe : (c kind : ℕ) (brace : Brace) → Under c (g.expr_range (mark c) kind brace)
unfolding g.expr_range g.range_rest
expr_range_safe c kind brace l K h = search values depth 20

pub operator_safe : (op : Op) → Safe (g.operator op)
unfolding g.operator g.advance
operator_safe op c l K h = search steps depth 20

close_if_safe : (c k : ℕ) → Named k → (b : Bool) → Under c (g.when b (close (mark c) k))
close_if_safe c k e b l K h = search steps depth 12

-- the operator is the next one
abbrev pub At : In → Op → State → Type 0
At i op s = op ≡ far.operator_at i s

module _ (l : List Tok) (n d : ℕ) (E : Entries l n d) (brace : Brace) (cx : ExprCx) where
  abbrev i : In
  i = in_of l n

  pub binary_fine : (m : ℕ) (op : Op) (least : ℕ) (s : State) → Within l s → At i op s → Fine l m s Any (run i d m (g.expr_binary op least brace cx) s)
  unfolding g.expr_binary run eval Entries Asks
  binary_fine m op least s w e =
      fine_then l n m s Any Any (call g.grammar i d (binary_rule op least brace cx) s) _
      (fine_inside l n m s Any (call g.grammar i d (binary_rule op least brace cx) s) (E (binary_rule op least brace cx) s w e))
      (λ k t v z. fine_stay l n m t Any (eqb k 1) v tt)

  -- the inner loop: the next operator goes round, and is left over
  abbrev Tighter : Op ⊎ Op → State → Type 0
  Tighter = Keeps (At i) (At i)

  nest_fine : (c : ℕ) (op ahead : Op) (s : State) → Within l s → At i ahead s → Fine l c s Any (run i d c (g.nest (mark c) op ahead brace cx) s)
  unfolding g.nest run eval
  nest_fine c op ahead s w e =
      fine_then l n c s Any Any (run i d c (g.expr_binary ahead (op.binding + 1) brace cx) s) _ (binary_fine c ahead (op.binding + 1) s w e)
      (λ any t v z. (close_if_safe c Kinds.ExprBinary refl any l _ (λ u. tt)).fine n d E t v)

  module _ (c : ℕ) (op : Op) (place : ℕ) where
    tighter_fine : place ≤ length (kinds l) → (ahead : Op) (s : State) → Within l s → At i ahead s →
        Fine l c s Tighter (run i d c (g.tighter_turn (mark c) op brace cx place ahead) s)
    unfolding g.tighter_turn run eval and_then
    tighter_fine p ahead s w e =
        fine_choose l n c s Tighter (is_none ahead) _ _ (λ z. fine_stay l n c s Tighter (inr ahead) w e) (λ z.
        fine_choose l n c s Tighter (is_tighter op ahead) _ _
        (λ y.
        fine_then l n c s Any Tighter (run i d c (g.nest (mark c) op ahead brace cx) s) _ (nest_fine c op ahead s w e)
        (λ u t v x. fine_stay l n c t Tighter (inl (far.operator_at i t)) v refl))
        (λ y.
        fine_choose l n c s Tighter (clashes op ahead) _ _ (λ x. omega arith)
        (λ x. fine_stay l n c s Tighter (inr ahead) w e)))

    tighter_moves : (ahead : Op) (s : State) → At i ahead s → Moved s (run i d c (g.tighter_turn (mark c) op brace cx place ahead) s)
    unfolding g.tighter_turn run eval
    tighter_moves ahead s e =
        post_choose _ (is_none ahead) _ _ (λ z. tt) (λ z.
        post_choose _ (is_tighter op ahead) _ _
        (λ y.
        let p = g.nest (mark c) op ahead brace cx in
        let rest : Unit {0} → Prog (Op ⊎ Op) = λ u. g.lookahead >>= λ o. ret (inl o) in
        moves_further s (run i d c (p >>= rest) s) (far.first_further i d c p rest s (far.nest_further i d c s op brace cx (mark c) ahead e y)))
        (λ y. post_choose _ (clashes op ahead) _ _ (λ x. tt) (λ x. tt)))

  -- behind its mark: what is left over is the next operator
  operand_inside : (c : ℕ) (op : Op) (s : State) → Within l s →
      Fine l c s (At i)
      (run i d c (do
        place ← here
        g.outer_expr_with brace Range.No Binary.No cx
        ahead ← g.lookahead
        loop (g.tighter_turn (mark c) op brace cx place) ahead) s)
  unfolding run eval and_then
  operand_inside c op s w =
      fine_then l n c s Any (At i) (run i d c (g.outer_expr_with brace Range.No Binary.No cx) s) _
      ((outer_safe brace Range.No Binary.No cx c l _ (λ k. tt)).fine n d E s w)
      (λ k t v z.
      fine_loop l n d c (g.tighter_turn (mark c) op brace cx (here_at i s)) (At i) (At i)
      (tighter_fine c op (here_at i s) (here_within l n s w)) (tighter_moves c op (here_at i s)) (far.operator_at i t) t v refl)

  operand_fine : (m : ℕ) (op : Op) (s : State) → Within l s → Fine l m s (At i) (run i d m (g.operand op brace cx) s)
  unfolding g.operand
  operand_fine m op s w = fine_scope l n d m (At i) _ s w (λ t v. operand_inside (length t.out) op t v)

  -- the outer loop: the next operator and has_any go round
  abbrev AtFirst : Op × Bool → State → Type 0
  AtFirst b s = At i b.0 s

  abbrev Round : (Op × Bool) ⊎ Bool → State → Type 0
  Round = Keeps AtFirst Any

  module _ (m least : ℕ) where
    binary_turn_fine : (b : Op × Bool) (s : State) → Within l s → AtFirst b s →
        Fine l m s Round (run i d m (g.binary_turn least brace cx b) s)
    unfolding g.binary_turn run eval and_then
    binary_turn_fine b s w e =
        fine_choose l n m s Round (is_none b.0) _ _ (λ z. fine_stay l n m s Round (inr b.1) w tt) (λ z.
        fine_choose l n m s Round (is_below least b.0) _ _ (λ y. fine_stay l n m s Round (inr b.1) w tt) (λ y.
        fine_then l n m s Any Round (run i d m (g.operator b.0) s) _ ((operator_safe b.0 m l _ (λ u. tt)).fine n d E s w) (λ u t v x.
        fine_then l n m t (At i) Round (run i d m (g.operand b.0 brace cx) t) _ (operand_fine m b.0 t v)
        (λ o r q a. fine_stay l n m r Round (inl (o, true)) q a))))

    binary_moves : (b : Op × Bool) (s : State) → AtFirst b s → Moved s (run i d m (g.binary_turn least brace cx b) s)
    unfolding g.binary_turn run eval
    binary_moves b s e =
        post_choose _ (is_none b.0) _ _ (λ z. tt) (λ z.
        post_choose _ (is_below least b.0) _ _ (λ y. tt) (λ y.
        let p = g.operator b.0 in
        let rest : Unit {0} → Prog ((Op × Bool) ⊎ Bool) = λ u. g.operand b.0 brace cx >>= λ o. ret (inl (o, true)) in
        moves_further s (run i d m (p >>= rest) s)
        (far.first_further i d m p rest s (far.operator_further i d m s (far.operator_some i s b.0 e z) b.0))))

    pub binary_text_fine : (op : Op) (s : State) → Within l s → At i op s → Fine l m s Any (run i d m (g.expr_binary_text op least brace cx) s)
    unfolding g.expr_binary_text
    binary_text_fine op s w e =
        fine_loop l n d m (g.binary_turn least brace cx) AtFirst Any binary_turn_fine binary_moves (op, false) s w e
