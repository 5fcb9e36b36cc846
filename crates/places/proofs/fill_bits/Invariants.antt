use Prim.Native.Nat.{◌*◌, ◌≤◌}
use Rattle.bits.proofs.laws.Tab.{Filled}
use Rattle.places.specs.laws.Table.{laid}
use Rattle.places.proofs.fill_bits.Given as goal

abbrev pub invariant-loop-x : goal.invariant-loop-x
invariant-loop-x l = (l.x ≤ 58) × Filled (laid l.i l.a l.b) 116 (2 * l.x) l.e
