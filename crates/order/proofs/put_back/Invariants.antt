use Prim.Native.Nat.{◌+◌, ◌*◌}
use lib.ListN.{length}
use Rattle.order.specs.Order.{entries}
use Rattle.order.proofs.laws.Loops.{Returned}
use Rattle.order.proofs.put_back.Given as goal

abbrev pub invariant-loop-x : goal.invariant-loop-x
invariant-loop-x l = Returned (5 * length l.table) (entries l.table) l.d (5 * l.row + l.x) l.w

abbrev pub invariant-loop-row : goal.invariant-loop-row
invariant-loop-row l = Returned (5 * length l.table) (entries l.table) l.d (5 * l.row) l.w
