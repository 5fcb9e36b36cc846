-- `coder::sacch::receive` is right: the coded bits are gathered from the four bursts and received as a control block.
use Rattle.coder.proofs.laws.Heard.{message_given}
use Rattle.coder.proofs.sacch.receive.Goals as goal

pub receive-requires : goal.receive-requires
receive-requires c =
    let got = c.gather_four in
    message_given c.args.e.now c.args.d.now got.new.c c.requires.bits c.requires.lends got.ensures
