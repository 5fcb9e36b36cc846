-- `coder::speech::is_good` is right: the verdict is that of division by the speech generator.
use Rattle.coder.proofs.laws.SpeechHeard.{check_divisible, check_is}
use Rattle.coder.proofs.speech.is_good.Goals as goal

pub leaves_ones-requires : goal.leaves_ones-requires
leaves_ones-requires c =
    let s = c.args in
    let w = c.fill_w in
    check_divisible s.d.now s.u.now w.new.w c.requires.0 c.requires.1 c.requires.2 c.requires.3 w.ensures

pub returns : goal.returns
returns c =
    let s = c.args in
    let w = c.fill_w in
    check_is s.d.now s.u.now w.new.w c.requires.0 c.requires.1 c.requires.2 c.requires.3 w.ensures c.leaves_ones.result c.leaves_ones.ensures
