-- `bits::give` is right: after k turns the first k bytes are those of `from` as they are given, for the lowest bit of 2 is 0.
use Prim.Native.Nat.{◌%◌, ◌<◌}
use native.Mathlib.Omega.{arith}
use lib.ListN.{length, get_or}
use Rattle.bits.specs.Bits.{given_bits, given_as}
use Rattle.bits.proofs.laws.Missing.{given_lowest}
use Rattle.bits.proofs.laws.Tab.{filled_more, filled_all}
use Rattle.bits.proofs.give.Goals as goal

pub loop-k-preserved : goal.loop-k-preserved
loop-k-preserved c =
    let symbols = c.requires.1 in
    let from = c.args.from.now in
    let l = c.loop-k in
    let here : l.k < length from = omega arith in
    filled_more (λ i. given_as (get_or from i 0)) (length from) l.k (get_or from l.k 0 % 2) l.to l.invariant here (given_lowest (get_or from l.k 0) (symbols l.k))

pub returns : goal.returns
unfolding given_bits
returns c =
    let from = c.args.from.now in
    let l = c.loop-k in
    filled_all (λ i. given_as (get_or from i 0)) (length from) l.k l.to l.invariant (omega arith)
