-- What a call leaves with its caller, said of a tree and of a refusal: the numbers, and every element of the table.
-- Assumes nothing.
use Rattle.std.specs.Prelude.{ℕ, ◌-◌, ◌*◌, ◌≡◌}
use Rattle.std.proofs.Math.Path.{ap}
use Rattle.std.proofs.Common.{◌∙◌}
use mathlib.Core.List.{List, ◌++◌}
use native.Mathlib.Omega.{arith}
use Rattle.std.proofs.Math.ListN.{length, replicate}
use Rattle.definition.specs.Tape.{Row, State, Out, ok, refused, width}
use Rattle.definition.specs.Parse.{flat, number_of, place_of, rows_of, table_of}
use Rattle.laws.specs.Flat.{flat_length}
use Rattle.trees.specs.Forest.{Forest, size, rows, rows_length}
use Rattle.entry.specs.Promise.{Answers}

-- in a table of n elements, the tree f: its rows, four elements each, and then zeros
pub record Tree (f : Forest) (n number place count : ℕ) (table : List ℕ) : Type 0 where
  pub number_is : number ≡ 0
  pub place_is : place ≡ 0
  pub rows_are : count ≡ size f
  pub table_is : table ≡ flat (rows 0 f) ++ replicate (n - width * size f) 0

-- a refusal: no rows, and zeros alone
pub record Refusal (why token n number place count : ℕ) (table : List ℕ) : Type 0 where
  pub number_is : number ≡ why
  pub place_is : place ≡ token
  pub rows_are : count ≡ 0
  pub table_is : table ≡ replicate n 0

module _ {o : Out (Unit {0})} {n number place count : ℕ} {table : List ℕ} (a : Answers o n number place count table) where
  -- of an outcome whose rows are a tree's
  pub tree : (f : Forest) (s : State) → o ≡ ok tt s → s.out ≡ rows 0 f → Tree f n number place count table
  unfolding number_of place_of rows_of table_of
  tree f s e r =
      record {
        number_is = a.number_is ∙ ap number_of e;
        place_is = a.place_is ∙ ap place_of e;
        rows_are = a.rows_is ∙ ap (λ (x : Out _). length (rows_of x)) e ∙ (ap length r ∙ rows_length 0 f);
        table_is =
            a.table_is ∙ ap (table_of n) e ∙ ap (λ (x : List Row). flat x ++ replicate (n - length (flat x)) 0) r ∙
            ap (λ (x : ℕ). flat (rows 0 f) ++ replicate (n - x) 0) (flat_length (rows 0 f) ∙ ap (λ (x : ℕ). width * x) (rows_length 0 f));
      }

  pub refusal : (why token : ℕ) → o ≡ refused why token → Refusal why token n number place count table
  unfolding number_of place_of rows_of table_of flat
  refusal why token e =
      let z : n - 0 ≡ n = omega arith in
      record {
        number_is = a.number_is ∙ ap number_of e;
        place_is = a.place_is ∙ ap place_of e;
        rows_are = a.rows_is ∙ ap (λ (x : Out _). length (rows_of x)) e;
        table_is = a.table_is ∙ ap (table_of n) e ∙ ap (λ (x : ℕ). replicate x 0) z;
      }
