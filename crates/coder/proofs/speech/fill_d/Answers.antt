-- `coder::speech::fill_d` is right: it fills the places in turn, two at a time.
use mathlib.Core.Path.{sym}
use Prim.Native.Nat.{◌*◌}
use native.Mathlib.Omega.{arith}
use Rattle.bits.proofs.laws.Tab.{filled_pair, filled_all}
use Rattle.coder.specs.Received.{speech_d_at}
use Rattle.coder.proofs.laws.SpeechHeard.{d_even, d_odd}
use Rattle.coder.proofs.speech.fill_d.Goals as goal

pub loop-j-preserved : goal.loop-j-preserved
loop-j-preserved c =
    let u = c.args.u.now in
    let l = c.loop-j in
    let j = l.j in
    let h = c.loop-j-test.true in
    filled_pair (speech_d_at u) 182 j _ _ l.d l.invariant (omega (arith, h)) (sym (d_even u j)) (sym (d_odd u j))

pub returns : goal.returns
returns c =
    let l = c.loop-j in
    let h = c.loop-j-test.false in
    filled_all (speech_d_at c.args.u.now) 182 (2 * l.j) l.d l.invariant (omega (arith, h))
