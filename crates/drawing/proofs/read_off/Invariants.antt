use mathlib.Core.List.{List}
use Prim.Native.Nat.{ℕ, ◌-◌}
use lib.ListN.{get_or}
use Rattle.bits.proofs.laws.Tab.{Filled}
use Rattle.drawing.proofs.read_off.Given as goal

abbrev pub turned : List ℕ → ℕ → ℕ
turned cells j = 1 - get_or cells (39 - j) 0

abbrev pub invariant-loop-k : goal.invariant-loop-k
invariant-loop-k l = Filled (turned l.cells) 40 l.k l.p
