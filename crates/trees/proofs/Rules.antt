-- Every rule of the grammar is sound, at any depth, and so is every entry.
-- Assumes nothing.
use Rattle.std.specs.Prelude.{ℕ, zero, suc, ◌≡◌, refl, Bool, true, false, cond, List, length, eqb}
use Rattle.std.proofs.Common.{sym, arith, ne_eqb}
use Rattle.std.proofs.lemmas.Bool.{false≢true}
use Rattle.definition.specs.Kinds
use Rattle.definition.specs.Classes
use Rattle.definition.specs.Modes.{Brace, Range, Binary, ExprCx, ErrorCx}
use Rattle.definition.specs.Tape.{State, and_then}
use Rattle.definition.specs.Prog.{Rule, stmt_rule, item_use_rule, pat_rule, path_rule, outer_rule, binary_rule, mark, bump, ret, if◌then◌otherwise◌, eval, call}
use Rattle.definition.specs.Grammar as g
use Rattle.definition.specs.Parse.{Entry, root, exprs, format, is_entry, run}
use Rattle.laws.specs.Progress as far
use Rattle.laws.specs.Bools.{and_first}
use Rattle.trees.specs.Forest.{Tok, in_of}
use Rattle.trees.specs.Input.{treated_some}
use Rattle.trees.specs.Root.{before}
use Rattle.trees.specs.Sound.{Within, Fine, Any, Asks, Entries, Sound, Under, Safe, here_within, fine_then, fine_stay, free, s_done, s_seq, s_flush, s_bump}
use Rattle.trees.specs.Pieces.{while_next, while_token, bump_while_safe}
use Rattle.trees.proofs.Pieces.{steps, path_text_safe, pat_text_safe, pat_list_safe, item_struct_safe, item_use_safe, item_use_text_safe, item_enum_safe}
use Rattle.trees.proofs.Expressions.{values, stmt_safe, expr_with_safe, expr_primary_safe, expr_chain_safe, expr_range_safe, binary_fine, binary_text_fine}

-- ## The texts of the counted rules that hold expressions

outer_binary_safe : (c kind : ℕ) (brace : Brace) (cx : ExprCx) → Under c (g.outer_binary (mark c) kind brace cx)
unfolding g.outer_binary run eval and_then
outer_binary_safe c kind brace cx l K h =
    record {
      fine = λ n d E s w.
          fine_then l n c s Any (λ k t. K k) (run (in_of l n) d c (g.expr_binary (far.operator_at (in_of l n) s) 0 brace cx) s) _
          (binary_fine l n d E brace cx c (far.operator_at (in_of l n) s) 0 s w refl) (λ any t v z. (ends any).fine n d E t v);
    }
  where
    ends : (any : Bool) → Sound l c (if any then g.finish (mark c) Kinds.ExprBinary otherwise ret kind) K
    ends any = search steps depth 12

outer_text_safe : (brace : Brace) (range : Range) (binary : Binary) (cx : ExprCx) → Safe (g.outer_expr_with_text brace range binary cx)
unfolding g.outer_expr_with_text
outer_text_safe brace range binary cx c l K h = search (values, expr_primary_safe, expr_chain_safe, expr_range_safe, outer_binary_safe) depth 40

item_fn_safe : Safe g.item_fn
unfolding g.item_fn g.fn_args g.fn_arg_list g.fn_body
item_fn_safe c l K h = search (values, pat_list_safe) depth 40

-- (the ladder's answers are closed)
stmt_text_safe : Safe g.stmt_text
unfolding g.stmt_text g.local g.stmt_item g.item_impl g.impl_path g.item_mod g.stmt_mod g.item_const g.stmt_expr
stmt_text_safe c l K h = search (values, item_use_safe, item_struct_safe, item_enum_safe, item_fn_safe) depth 60 fits 20000

stmt_once_safe : Safe g.stmt_once
unfolding g.stmt_once
stmt_once_safe c l K h = search (steps, stmt_text_safe) depth 20

-- ## The grammar, and the entries

rule_sound : (l : List Tok) (m : ℕ) (r : Rule) → free r ≡ true → Sound l m (g.grammar r) (λ k. Unit {0})
unfolding g.grammar free
rule_sound l m stmt_rule e = search (steps, stmt_once_safe)
rule_sound l m item_use_rule e = search (steps, item_use_text_safe)
rule_sound l m pat_rule e = search (steps, pat_text_safe)
rule_sound l m path_rule e = search (steps, path_text_safe)
rule_sound l m (outer_rule brace range binary cx) e = outer_text_safe brace range binary cx m l _ (λ k. tt)
rule_sound l m (binary_rule op least brace cx) e = absurd (false≢true e)

rule_fine : (l : List Tok) (n d : ℕ) → Entries l n d → (r : Rule) (s : State) → Within l s → Asks (in_of l n) r s →
    Fine l (length s.out) s Any (run (in_of l n) d (length s.out) (g.grammar r) s)
unfolding free Asks g.grammar run eval
rule_fine l n d E stmt_rule s w a = (rule_sound l (length s.out) stmt_rule refl).fine n d E s w
rule_fine l n d E item_use_rule s w a = (rule_sound l (length s.out) item_use_rule refl).fine n d E s w
rule_fine l n d E pat_rule s w a = (rule_sound l (length s.out) pat_rule refl).fine n d E s w
rule_fine l n d E path_rule s w a = (rule_sound l (length s.out) path_rule refl).fine n d E s w
rule_fine l n d E (outer_rule brace range binary cx) s w a = (rule_sound l (length s.out) (outer_rule brace range binary cx) refl).fine n d E s w
rule_fine l n d E (binary_rule op least brace cx) s w a =
    fine_then l n (length s.out) s Any Any (run (in_of l n) d (length s.out) (g.expr_binary_text op least brace cx) s) _
    (binary_text_fine l n d E brace cx (length s.out) least op s w a) (λ b t v z. fine_stay l n (length s.out) t (Any {A = ℕ}) (cond b 1 0) v tt)

-- at any depth
pub entries : (l : List Tok) (n d : ℕ) → Entries l n d
unfolding Entries call run
entries l n zero r s w a = omega (arith, here_within l n s w)
entries l n (suc d) r s w a = rule_fine l n d (entries l n d) r s w a

-- the entries, with a separator that is let in
separated_safe : (separator : ℕ) → is_entry (exprs separator) ≡ true → Safe (g.separated separator)
unfolding is_entry g.separated
separated_safe separator e c l K h =
    let k = Classes.treated separator in
    let some : eqb Kinds.Eof k ≡ false = ne_eqb _ _ (λ z. treated_some separator (and_first (Classes.is_token separator) _ e) (sym z)) in
    s_seq (expr_with_safe Brace.Yes Range.Yes Binary.Yes ErrorCx c l _ (λ u. s_seq (bump_while_safe k some c l _ (λ b. s_done (h tt)))))

pub before_sound : (l : List Tok) (m : ℕ) (e : Entry) → is_entry e ≡ true → Sound l m (before e) (λ u. Unit {0})
unfolding before Classes.is_some
before_sound l m root e = s_seq (while_next Classes.is_some g.stmt stmt_safe (λ i d m s z. far.stmt_further i d m s) m l _ (λ u. s_flush tt))
before_sound l m (exprs separator) e =
    s_seq
    (while_next Classes.is_some (g.separated separator) (separated_safe separator e) (λ i d m s z. far.separated_further i d m s separator) m l _
    (λ u. s_flush tt))
before_sound l m format e =
    s_seq (expr_with_safe Brace.Yes Range.Yes Binary.Yes ErrorCx m l _ (λ u.
    s_seq (while_token Classes.is_some bump (λ c l K h. s_bump (h tt)) refl far.bump_further m l _ (λ v. s_flush tt))))
