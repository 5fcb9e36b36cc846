use Rattle.std.specs.Prelude.{List, ℕ, ◌*◌, length, take, drop}
use Rattle.bits.specs.Bits.{value}
use Rattle.bits.proofs.laws.Tab.{Filled}
use Rattle.frames.proofs.octets.pack.Given as goal

abbrev pub value_at : List ℕ → ℕ → ℕ
value_at f o = value (take 8 (drop (8 * o) f))

abbrev pub invariant-loop-o : goal.invariant-loop-o
invariant-loop-o l = Filled (value_at l.bits) (length l.initial.octets) l.o l.octets
