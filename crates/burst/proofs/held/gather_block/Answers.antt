-- `burst::held::gather_block` is right: the bursts are put in order, each bit is found in its place, and a byte over 2 counts as missing.
use Rattle.burst.proofs.laws.Held.{held_block_is}
use Rattle.burst.proofs.held.gather_block.Goals as goal

pub returns : goal.returns
returns c =
    let symbols = c.make_symbols in
    let gather = c.gather in
    let order = c.in_order in
    let s = c.args in
    held_block_is s.held.now s.n.0 c.requires.0 c.first_burst.result.0 order.new.bursts gather.new.c symbols.new.w
    c.first_burst.ensures order.ensures gather.ensures symbols.ensures
