-- `coder::speech::fill_u` is right: class 1 in its order, its parity in the middle, four zeros at the end.
use Rattle.coder.proofs.laws.Reordered.{u_filled}
use Rattle.coder.proofs.speech.fill_u.Goals as goal

pub returns : goal.returns
returns c =
    let s = c.args in
    let laid = c.reorder in
    let p = c.copy_from_slice in
    let z = c.fill in
    u_filled s.d.now s.p.now laid.new.u c.requires.1 laid.ensures p.new.self z.new.self p.ensures.after (z.ensures.after (λ y e. e))
