use Rattle.std.specs.Prelude.{◌*◌, length}
use Rattle.bits.proofs.laws.Tab.{Filled}
use Rattle.frames.proofs.laws.Octets.{bit_of}
use Rattle.frames.proofs.octets.unpack.Given as goal

abbrev pub invariant-loop-o : goal.invariant-loop-o
invariant-loop-o l = Filled (bit_of l.octets) (8 * length l.octets) (8 * l.o) l.bits
