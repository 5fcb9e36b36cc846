use Rattle.std.specs.Prelude.{◌≡◌, take}
use Rattle.bits.specs.Bits.{value}
use Rattle.frames.proofs.octets.octet_of.Given as goal

abbrev pub invariant-loop-bit : goal.invariant-loop-bit
invariant-loop-bit l = l.x ≡ value (take l.bit-index l.eight)
