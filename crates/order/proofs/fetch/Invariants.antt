use Prim.Native.Nat.{◌+◌, ◌*◌}
use lib.ListN.{length, get_or}
use Rattle.bits.proofs.laws.Tab.{Filled}
use Rattle.order.specs.Order.{from1, entries}
use Rattle.order.proofs.fetch.Given as goal

abbrev pub invariant-loop-x : goal.invariant-loop-x
invariant-loop-x l = Filled (λ i. from1 l.w (get_or (entries l.table) i 0)) (5 * length l.table) (5 * l.row + l.x) l.d

abbrev pub invariant-loop-row : goal.invariant-loop-row
invariant-loop-row l = Filled (λ i. from1 l.w (get_or (entries l.table) i 0)) (5 * length l.table) (5 * l.row) l.d
