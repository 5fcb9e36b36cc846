use Rattle.std.proofs.Common.{◌≡◌, ◌*◌, take}
use Rattle.bits.specs.Bits.{zeros}
use Rattle.drawing.specs.Drawing.{control_taps, clocked_in}
use Rattle.drawing.proofs.clock_block.Given as goal

abbrev pub invariant-loop-octet : goal.invariant-loop-octet
invariant-loop-octet l = l.cells ≡ clocked_in control_taps (zeros 40) (take (8 * l.octet-index) l.d)
