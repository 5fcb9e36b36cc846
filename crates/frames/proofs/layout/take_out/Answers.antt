-- `frames::layout::take_out` is right: it fills the carried bits in turn, fifteen at a time.
use Rattle.std.proofs.Common.{◌*◌, arith}
use Rattle.bits.proofs.laws.Tab.{filled_all}
use Rattle.frames.specs.laws.Layout.{taken_at, taken_out}
use Rattle.frames.proofs.layout.take_out.Goals as goal

pub returns : goal.returns
unfolding taken_out
returns c =
    let l = c.loop-group in
    filled_all (taken_at c.args.frame.now) 285 (15 * l.group) l.carried l.invariant (omega arith)
