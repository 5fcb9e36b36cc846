-- `preliminary::put_crc` is right: what the 65 bits and eight zeros leave.
use Rattle.bits.specs.Bits.{zeros}
use Rattle.bits.proofs.laws.Sum.{length_zeros, bits_zeros}
use Rattle.preliminary.proofs.laws.Parts.{crc_divisible, crc_put}
use Rattle.preliminary.proofs.put_crc.Goals as goal

pub remainder-requires : goal.remainder-requires
unfolding zeros
remainder-requires c =
    let word = c.fill_word in
    crc_divisible c.args.s.now word.new.word (zeros 8) c.requires.0 (length_zeros 8) (bits_zeros 8) word.ensures

pub returns : goal.returns
unfolding zeros
returns c =
    let word = c.fill_word in
    let left = c.remainder in
    let p = c.put_digits in
    crc_put c.args.s.now word.new.word p.new.out left.result _ c.requires.0 word.ensures left.ensures c.requires.2 p.ensures
