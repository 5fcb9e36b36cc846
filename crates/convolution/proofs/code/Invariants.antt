use Prim.Native.Nat.{◌*◌}
use lib.ListN.{length}
use Rattle.convolution.specs.Pairs.{coded_at}
use Rattle.bits.proofs.laws.Tab.{Filled}
use Rattle.convolution.proofs.code.Given as goal

abbrev pub invariant-loop-k : goal.invariant-loop-k
invariant-loop-k l = Filled (coded_at l.u) (2 * length l.u) (2 * l.k) l.c
