-- `places::flags_of` is right: two bits and their places make one byte.
use mathlib.Core.Path.{refl}
use Rattle.places.specs.Places.{flags_of}
use Rattle.places.proofs.flags_of.Goals as goal

pub returns : goal.returns
unfolding flags_of
returns c = refl
