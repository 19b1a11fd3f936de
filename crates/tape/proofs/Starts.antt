-- A tape that has written nothing fits any lists of the sizes, and any table.
-- Assumes nothing.
use Rattle.std.specs.Prelude.{ℕ, ◌+◌, ◌≡◌, List}
use Rattle.std.proofs.Math.Path.{refl}
use Rattle.std.proofs.Common.{arith}
use Rattle.std.proofs.Math.Seq.{drop-nil}
use Rattle.definition.specs.Tape.{In, Row, start_of, leaves_len}
use Rattle.definition.specs.Parse.{start}
use Rattle.laws.specs.Sizes.{total, Fits}
use Rattle.laws.specs.Looking.{skipped}
use Rattle.tape.specs.Ready.{in_of, rows_in, Sized, Ready}

pub fits_start : (i : In) → Fits i start
unfolding start start_of leaves_len total
fits_start i =
    record {
      rows = omega arith;
      end = omega arith;
      byte = refl;
      leaves = refl;
      starts = λ m. rw (drop-nil {A = Row} m) (omega arith);
    }

pub begins_ready : {ks ls : List ℕ} (tab : List ℕ) {here after : ℕ} → Sized ks ls → here ≡ skipped 0 ks → after ≡ skipped (here + 1) ks → Ready ks ls tab 0 here after 0 0
unfolding rows_in start
begins_ready {ks} {ls} tab z n s = record { sized = z; next = n; second = s; fits = fits_start (in_of ks ls tab) }
