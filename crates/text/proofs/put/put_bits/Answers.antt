-- `put_bits` is right: the character of bit i goes to place n + i. Assumes nothing.
use Rattle.std.proofs.Common.{refl, arith}
use Rattle.text.specs.Text.{bit_character}
use Rattle.text.proofs.laws.Put.{each_more}
use Rattle.text.proofs.put.put_bits.Goals as goal

pub loop-i-preserved : goal.loop-i-preserved
loop-i-preserved c =
    let l = c.loop-i in
    let a = c.args in
    each_more a.out.now a.n bit_character a.bits.now c.requires l.i _ c.character.result l.out l.invariant (omega arith) refl c.character.ensures
