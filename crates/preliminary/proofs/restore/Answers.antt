-- `preliminary::restore` is right: w is put back, s read out of it, and the CRC judged.
use mathlib.Core.Path.{sym, subst}
use Rattle.bits.specs.Bits.{Bits}
use Rattle.preliminary.proofs.laws.Stage.{bits_of}
use Rattle.preliminary.proofs.restore.Goals as goal

pub is_good-requires : goal.is_good-requires
is_good-requires c =
    let d = c.args.d.now in
    let w = c.put_back in
    (subst Bits (sym w.ensures) (bits_of d c.requires.0), c.read_s.ensures)
