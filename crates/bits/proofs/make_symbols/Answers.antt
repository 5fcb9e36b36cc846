-- `bits::make_symbols` is right: after as many turns as there are bytes each is as it is received.
use Rattle.std.proofs.Common.{length, get_or, arith}
use Rattle.bits.specs.Bits.{symbol}
use Rattle.bits.proofs.laws.Tab.{filled_all}
use Rattle.bits.proofs.make_symbols.Goals as goal

pub returns : goal.returns
returns c =
    let w = c.args.w.now in
    let l = c.loop-byte in
    filled_all (λ i. symbol (get_or w i 0)) (length w) l.byte-index l.byte-items l.invariant.0 (omega arith)
