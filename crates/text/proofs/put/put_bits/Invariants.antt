use mathlib.Core.List.{map}
use Rattle.text.specs.Text.{bit_character}
use Rattle.text.proofs.laws.Put.{Putting}
use Rattle.text.proofs.put.put_bits.Given as goal

abbrev pub invariant-loop-i : goal.invariant-loop-i
invariant-loop-i l = Putting l.initial.out l.n (map bit_character l.bits) l.i l.out
