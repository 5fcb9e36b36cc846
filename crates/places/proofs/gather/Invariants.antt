use Prim.Native.Nat.{◌+◌, ◌*◌, ◌≤◌}
use Rattle.bits.proofs.laws.Tab.{Filled}
use Rattle.places.specs.laws.Table.{placed_in}
use Rattle.places.proofs.gather.Given as goal

abbrev pub invariant-loop-x : goal.invariant-loop-x
invariant-loop-x l = (l.x ≤ 8) × Filled (placed_in l.bursts) 456 (8 * l.row + l.x) l.c

abbrev pub invariant-loop-row : goal.invariant-loop-row
invariant-loop-row l = (l.row ≤ 57) × Filled (placed_in l.bursts) 456 (8 * l.row) l.c
