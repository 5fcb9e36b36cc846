-- `coder::speech::hand_over` is right: two parts, one after the other.
use lib.ListN.{drop}
use Rattle.bits.proofs.laws.Sum.{over_take, over_drop}
use Rattle.coder.proofs.laws.SpeechHeard.{laid_speech}
use borrow.Author.Rules.{rules}
use Rattle.coder.proofs.speech.hand_over.Goals as goal

pub give-requires : goal.give-requires
give-requires c =
    let bits = c.args.c.now in
    (search rules, over_take 2 78 (drop 378 bits) (over_drop 2 378 bits c.requires.3))

pub returns : goal.returns
returns c =
    let s = c.args in
    let x = c.copy_from_slice in
    let y = c.give in
    laid_speech s.first.now s.c.now s.d.now x.new.self y.new.to c.requires.0 c.requires.1 c.requires.2 x.ensures.after y.ensures
