use Prim.Native.Nat.{◌*◌}
use Rattle.text.specs.Hexadecimal.{hex_of}
use Rattle.text.proofs.laws.Put.{Putting}
use Rattle.text.proofs.hex.put_octets.Given as goal

abbrev pub invariant-loop-i : goal.invariant-loop-i
invariant-loop-i l = Putting l.initial.out l.n (hex_of l.octets) (2 * l.i) l.out
