-- `bits::put_digits` is right: it fills the places in turn, each with its digit.
use lib.ListN.{length}
use Rattle.bits.specs.Bits.{digits}
use Rattle.bits.proofs.laws.Tab.{filled_all}
use Rattle.bits.proofs.put_digits.Invariants.{at}
use Rattle.bits.proofs.put_digits.Goals as goal

pub returns : goal.returns
unfolding digits
returns c =
    let a = c.args in
    let l = c.loop-k in
    filled_all (at (length a.out.now) a.x) (length a.out.now) l.k l.out l.invariant c.loop-k-test.false
