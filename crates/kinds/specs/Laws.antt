-- Laws of the classes and operators, for the proofs of whoever calls their tests.
-- Assumes nothing.
use Rattle.std.specs.Prelude.{ℕ, ◌≤◌, ◌<◌, ◌≡◌, refl, Bool, true, false, cond, ◌||◌, ◌&&◌, List, [], ◌∷◌, Option, None, Some, IsSome, eqb}
use Rattle.std.proofs.Common.{ap, sym, ◌∙◌, arith, eqb-true, ne_eqb}
use Rattle.std.proofs.Math.Bool.{and-eq-true_iff}
use Rattle.std.proofs.lemmas.Bool.{false≢true}
use Rattle.definition.specs.Kinds.{Eof, K-is, K-not}
use Rattle.definition.specs.Modes.{Brace, Range}
use Rattle.definition.specs.Classes.{among, glues, is_token, is_trivia, is_object_key, is_lit, is_path_component, kind_is_stmt_recovering, kind_is_pat, kind_is_expr_with, is_unary, is_use_part, is_use_path, is_pat_or_rest, is_select_arm}
use Rattle.definition.specs.Operators.{bindings, binding_in, is_none, from_slice}
use Rattle.kinds.specs.Ops.{op_of, next_of}
use Rattle.kinds.specs.declared.operators.Op.{Op}

-- ## `among` as a chain of `||`, into which `rw` sees

abbrev pub member : ℕ → List ℕ → Bool
member k [] = false
member k (x ∷ l) = eqb k x || member k l

pub among_is : (k : ℕ) (l : List ℕ) → among k l ≡ member k l
unfolding among
among_is k [] = refl
among_is k (x ∷ l) = go (eqb k x) (among_is k l)
  where
    go : (b : Bool) → among k l ≡ member k l → elim b [ true ↦ true | false ↦ among k l ] ≡ b || member k l
    go true h = refl
    go false h = h

-- ## What `glues` has found

pub record Glued (a b k g : ℕ) : Type 0 where
  pub kind : k ≡ a
  pub glued : g ≡ b

pub glues_some : (a b k g : ℕ) → glues a b k g ≡ true → Glued a b k g
unfolding glues
glues_some a b k g h =
    record {
      kind = eqb-true k a ((and-eq-true_iff (eqb k a) (eqb g b)).0 h).0;
      glued = eqb-true g b ((and-eq-true_iff (eqb k a) (eqb g b)).0 h).1;
    }

-- ## No class has Eof
-- Cited as `not_eof is_lit (at_eof Brace.Yes Range.Yes 0).lit h`: the class, that it has no Eof, and that it has k.

pub not_eof : (class : ℕ → Bool) {k : ℕ} → class Eof ≡ false → class k ≡ true → k ≡ 0 → ⊥
not_eof class {k} none has e =
    let clash : true ≡ false = sym has ∙ (ap class e ∙ none) in
    let z : ◌≡◌ {A = ℕ} 0 1 = cc in
    omega arith

-- what each of these classes says of Eof, where g follows it; and no operator begins with it
pub record AtEof (brace : Brace) (range : Range) (g : ℕ) : Type 0 where
  pub token : is_token Eof ≡ false
  pub trivia : is_trivia Eof ≡ false
  pub object_key : is_object_key Eof ≡ false
  pub lit : is_lit Eof ≡ false
  pub path_component : is_path_component Eof ≡ false
  pub stmt_recovering : kind_is_stmt_recovering Eof g ≡ false
  pub pat : kind_is_pat Eof g ≡ false
  pub expr : kind_is_expr_with brace range Eof g ≡ false
  pub unary : is_unary Eof ≡ false
  pub use_part : is_use_part Eof ≡ false
  pub use_path : is_use_path Eof ≡ false
  pub pat_or_rest : is_pat_or_rest Eof g ≡ false
  pub select_arm : is_select_arm Eof g ≡ false
  pub operator : is_none (from_slice Eof g) ≡ true

pub at_eof : (brace : Brace) (range : Range) (g : ℕ) → AtEof brace range g
unfolding among is_token is_trivia is_object_key is_lit is_path_component kind_is_stmt_recovering kind_is_pat kind_is_expr_with is_unary is_use_part is_use_path is_pat_or_rest is_select_arm bindings binding_in is_none from_slice
at_eof brace range g =
    record {
      token = refl;
      trivia = refl;
      object_key = refl;
      lit = refl;
      path_component = refl;
      stmt_recovering = refl;
      pat = refl;
      expr = refl;
      unary = refl;
      use_part = refl;
      use_path = refl;
      pat_or_rest = refl;
      select_arm = refl;
      operator = refl;
    }

-- what `glues` says of Eof, where it looks for another kind
pub glues_eof : (a b g : ℕ) → 0 < a → glues a b Eof g ≡ false
unfolding glues
glues_eof a b g h = simp (ne_eqb 0 a (λ e. omega arith))

-- ## An operator takes one token or two, and two only where the second is there

pub record Takes (k j : ℕ) : Type 0 where
  pub one : 1 ≤ (from_slice k j).tokens
  pub two : (from_slice k j).tokens ≤ 2
  pub second : 2 ≤ (from_slice k j).tokens → j ≡ K-not

pub takes : (k j : ℕ) → Takes k j
unfolding from_slice
takes k j =
    record {
      one = least (eqb k K-is && eqb j K-not);
      two = most (eqb k K-is && eqb j K-not);
      second = λ h. eqb-true j K-not (there (eqb k K-is) (eqb j K-not) h);
    }
  where
    least : (b : Bool) → 1 ≤ cond b 2 1
    least true = omega arith
    least false = omega arith

    most : (b : Bool) → cond b 2 1 ≤ 2
    most true = omega arith
    most false = omega arith

    there : (a b : Bool) → 2 ≤ cond (a && b) 2 1 → b ≡ true
    there true true h = refl
    there true false h = absurd (omega arith)
    there false b h = absurd (omega arith)

-- ## None is no operator, and Some is one

pub none_is_none : is_none (next_of None) ≡ true
unfolding is_none
none_is_none = refl

pub some_is_some : (op : Op) → is_none (op_of op) ≡ false
unfolding is_none
some_is_some op = simp (ne_eqb op.binding 0 (λ e. let above = op.binds in omega arith))

-- the other way round, by what the test says of a look-up
pub none_found : (r : Option Op) → is_none (next_of r) ≡ true → r ≡ None
unfolding is_none
none_found None h = refl
none_found (Some op) h = absurd (false≢true (sym (some_is_some op) ∙ h))

pub some_found : (r : Option Op) → is_none (next_of r) ≡ false → IsSome r
unfolding is_none
some_found None h = absurd (false≢true (sym h))
some_found (Some op) h = refl
