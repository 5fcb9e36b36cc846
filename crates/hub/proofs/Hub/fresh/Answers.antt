-- `hub::Hub::fresh` is right: the list of places is written out.
use mathlib.Core.Path.{refl}
use Rattle.bits.specs.Bits.{tab, tab_from}
use Rattle.hub.specs.Hub.{fresh_hub}
use Rattle.hub.proofs.Hub.fresh.Goals as goal

pub returns : goal.returns
unfolding fresh_hub tab tab_from
returns c = refl
