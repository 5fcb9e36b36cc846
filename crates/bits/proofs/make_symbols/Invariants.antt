use mathlib.Core.Path.{◌≡◌}
use Prim.Native.Nat.{ℕ, ◌≤◌}
use lib.ListN.{length, get_or}
use Rattle.bits.specs.Bits.{symbol}
use Rattle.bits.proofs.laws.Tab.{Filled}
use Rattle.bits.proofs.make_symbols.Given as goal

abbrev pub invariant-loop-byte : goal.invariant-loop-byte
invariant-loop-byte l = (Filled (λ i. symbol (get_or l.initial.byte-items i 0)) (length l.initial.byte-items) l.byte-index l.byte-items) × ((y : ℕ) → l.byte-index ≤ y → get_or l.byte-items y 0 ≡ get_or l.initial.byte-items y 0)
