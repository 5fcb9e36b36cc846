use lib.ListN.{length, get_or}
use Rattle.bits.specs.Bits.{given_as}
use Rattle.bits.proofs.laws.Tab.{Filled}
use Rattle.bits.proofs.give.Given as goal

abbrev pub invariant-loop-k : goal.invariant-loop-k
invariant-loop-k l = Filled (λ i. given_as (get_or l.from i 0)) (length l.from) l.k l.to
