-- `coder::speech::code` is right: u is filled with its parity in the middle and coded, and class 2 stands behind the pairs.
use Rattle.coder.proofs.laws.Speech.{filled_u, coded_asked, parts}
use Rattle.coder.proofs.speech.code.Goals as goal

pub code-requires : goal.code-requires
code-requires c =
    let filled = c.fill_u in
    let p = c.put_parity in
    let d = c.args.d.now in
    coded_asked d c.requires.bits c.requires.reads c.args.c.now filled.new.u c.requires.lends
    (filled_u d c.requires.bits c.requires.reads p.new.p filled.new.u p.ensures filled.ensures)

pub returns : goal.returns
returns c =
    let filled = c.fill_u in
    let p = c.put_parity in
    let pairs = c.code in
    let rest = c.copy_from_slice in
    let d = c.args.d.now in
    parts d c.requires.bits c.requires.reads c.args.c.now filled.new.u pairs.new.c rest.new.self c.requires.lends
    (filled_u d c.requires.bits c.requires.reads p.new.p filled.new.u p.ensures filled.ensures) pairs.ensures rest.ensures.after
