use Rattle.text.specs.Hexadecimal.{octets_of}
use Rattle.text.proofs.laws.Put.{Putting}
use Rattle.text.proofs.hex.read_octets.Given as goal

abbrev pub invariant-loop-i : goal.invariant-loop-i
invariant-loop-i l = Putting l.initial.octets 0 (octets_of l.text) l.i l.octets
