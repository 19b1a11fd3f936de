use Rattle.std.proofs.Common.{arith, refl}
use Rattle.tape.proofs.Tape.enter.Goals as goal

pub returns : goal.returns
returns c =
    record {
      same = record { kinds = refl; lens = refl; len = refl; name = refl };
      state = refl;
      some = (refl, omega (arith, c.if-left-eq0.false));
      none = tt;
    }
