-- `coder::block::append_ones` is right: its three parts make the whole.
use Rattle.coder.proofs.laws.Protected.{laid}
use Rattle.coder.proofs.block.append_ones.Goals as goal

pub returns : goal.returns
returns c =
    let copied = c.copy_from_slice in
    let ones = c.fill in
    let zeros = c.fill-2 in
    laid c.args.d.now c.args.u.now copied.new.self ones.new.self zeros.new.self c.args.m
    c.requires.0 c.requires.1 copied.ensures.after (ones.ensures.after (λ y e. e)) (zeros.ensures.after (λ y e. e))
