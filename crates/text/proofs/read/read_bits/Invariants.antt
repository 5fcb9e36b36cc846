use mathlib.Core.List.{map}
use Rattle.text.specs.Text.{digit_of}
use Rattle.text.proofs.laws.Put.{Putting}
use Rattle.text.proofs.read.read_bits.Given as goal

abbrev pub invariant-loop-k : goal.invariant-loop-k
invariant-loop-k l = Putting l.initial.d 0 (map digit_of l.text) l.k l.d
