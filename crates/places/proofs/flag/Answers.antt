-- `places::flag` is right: the bits below the flag's are shifted out.
use mathlib.Core.Path.{refl}
use Rattle.places.specs.Places.{flag_in}
use Rattle.places.proofs.flag.Goals as goal

pub returns : goal.returns
unfolding flag_in
returns c = refl
