use Rattle.std.specs.Prelude.{◌+◌, ◌*◌}
use Rattle.bits.proofs.laws.Tab.{Filled}
use Rattle.frames.specs.laws.Layout.{laid_at}
use Rattle.frames.proofs.layout.lay_out.Given as goal

abbrev pub invariant-loop-group : goal.invariant-loop-group
invariant-loop-group l = Filled (laid_at l.carried) 320 (16 * l.group + 16) l.frame
