-- What a writer holds only grows, and what a reader has left only shrinks, where these are known: that much holds of a call that ended in an error too.
-- Assumes nothing.
use Rattle.std.specs.Prelude.{ℕ, List, [], ◌++◌}
use Rattle.std.specs.declared.option.Option.{Option}
use Rattle.std.specs.Io.KnownBytes.{Appends, Consumes}
use Rattle.std.proofs.KnownBytes.{Appends-nil, Appends-trans, Consumes-nil, Consumes-trans}

-- some bytes more at the end
abbrev pub Grows : Option (List ℕ) → Option (List ℕ) → Type 0
Grows old new = (bs : List ℕ) × Appends old new bs

-- some bytes fewer in front
abbrev pub Shrinks : Option (List ℕ) → Option (List ℕ) → Type 0
Shrinks old new = (bs : List ℕ) × Consumes old new bs

pub grows_refl : (a : Option (List ℕ)) → Grows a a
grows_refl a = ([], Appends-nil a)

pub grows_trans : (a b c : Option (List ℕ)) → Grows a b → Grows b c → Grows a c
grows_trans a b c g h = (g.0 ++ h.0, Appends-trans a b c g.0 h.0 g.1 h.1)

pub shrinks_refl : (a : Option (List ℕ)) → Shrinks a a
shrinks_refl a = ([], Consumes-nil a)

pub shrinks_trans : (a b c : Option (List ℕ)) → Shrinks a b → Shrinks b c → Shrinks a c
shrinks_trans a b c g h = (g.0 ++ h.0, Consumes-trans a b c g.0 h.0 g.1 h.1)
