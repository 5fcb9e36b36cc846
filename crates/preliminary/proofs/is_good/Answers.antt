-- `preliminary::is_good` is right: the 65 bits and the CRC are divided.
use mathlib.Core.Path.{ap, ◌∙◌}
use native.Mathlib.Omega.{arith}
use lib.ListN.{length, take, drop}
use lib.Dec.{eqb}
use Rattle.bits.proofs.laws.Parts.{length_lent}
use Rattle.bits.proofs.laws.Sum.{bits_take, bits_drop}
use Rattle.preliminary.proofs.laws.Parts.{crc_divisible, crc_judged}
use Rattle.preliminary.proofs.laws.Stage.{length_s, bits_s}
use borrow.Author.Rules.{rules}
use Rattle.preliminary.proofs.is_good.Goals as goal

pub fill_word-requires : goal.fill_word-requires
fill_word-requires c =
    let w = c.args.w.now in
    (ap length c.requires.1 ∙ length_s w, length_lent w 252 8 (search (rules, arith)))

pub remainder-requires : goal.remainder-requires
remainder-requires c =
    let w = c.args.w.now in
    let word = c.fill_word in
    crc_divisible c.args.s.now word.new.word (take 8 (drop 252 w)) (bits_s w c.args.s.now c.requires.0 c.requires.1)
    (length_lent w 252 8 (search (rules, arith))) (bits_take 8 (drop 252 w) (bits_drop 252 w c.requires.0)) word.ensures

pub returns : goal.returns
returns c =
    let word = c.fill_word in
    crc_judged c.args.w.now c.args.s.now word.new.word (eqb c.remainder.result 0) (search rules) c.requires.1 word.ensures
    (ap (λ x. eqb x 0) c.remainder.ensures)
