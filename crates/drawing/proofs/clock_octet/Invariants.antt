use mathlib.Core.Path.{◌≡◌}
use lib.ListN.{take}
use Rattle.drawing.specs.Drawing.{control_taps, clocked_in}
use Rattle.drawing.proofs.clock_octet.Given as goal

abbrev pub invariant-loop-bit : goal.invariant-loop-bit
invariant-loop-bit l = l.held ≡ clocked_in control_taps l.initial.held (take l.bit-index l.octet)
