-- `places::fill` is right: the bits, and then the two flags in their places.
use Rattle.places.specs.laws.Table.{burst_of_twice}
use Rattle.places.proofs.fill.Goals as goal

pub returns : goal.returns
unfolding burst_of_twice
returns c = rw (c.fill_bits.ensures, c.flag.ensures, c.flag-2.ensures)
