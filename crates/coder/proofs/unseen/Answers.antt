-- `coder::unseen` is right: sixteen times 65,535.
use mathlib.Core.Path.{refl}
use Rattle.bits.specs.Bits.{tab, tab_from}
use Rattle.coder.specs.Entries.{unreached}
use Rattle.coder.proofs.unseen.Goals as goal

pub returns : goal.returns
unfolding unreached tab tab_from
returns c = (refl, refl)
