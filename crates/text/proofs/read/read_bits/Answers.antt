-- `read_bits` is right: character k gives byte k. Assumes nothing.
use Rattle.std.proofs.Common.{arith}
use Rattle.text.specs.Text.{digit_of}
use Rattle.text.proofs.laws.Put.{each_more}
use Rattle.text.proofs.read.read_bits.Goals as goal

pub loop-k-preserved : goal.loop-k-preserved
loop-k-preserved c =
    let l = c.loop-k in
    let a = c.args in
    each_more a.d.now 0 digit_of a.text.now (omega arith) l.k l.k c.digit.result l.d l.invariant (omega arith) (omega arith) c.digit.ensures
