use mathlib.Core.Path.{◌≡◌}
use Prim.Native.Nat.{◌^◌, ◌<◌}
use lib.ListN.{take}
use Rattle.parity.proofs.laws.Brought.{along_n}
use Rattle.parity.proofs.remainder.Given as goal

abbrev pub invariant-loop-bit : goal.invariant-loop-bit
invariant-loop-bit l = (l.held < 2 ^ l.degree) × (l.held ≡ along_n l.generator (2 ^ l.degree) 0 (take l.bit-index l.w))
