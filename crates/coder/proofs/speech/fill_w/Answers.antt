-- `coder::speech::fill_w` is right: two parts, one after the other.
use Rattle.coder.proofs.laws.SpeechHeard.{laid_check}
use Rattle.coder.proofs.speech.fill_w.Goals as goal

pub returns : goal.returns
returns c =
    let s = c.args in
    let x = c.copy_from_slice in
    let y = c.copy_from_slice-2 in
    laid_check s.d.now s.u.now s.w.now x.new.self y.new.self c.requires.0 c.requires.2 x.ensures.after y.ensures.after
