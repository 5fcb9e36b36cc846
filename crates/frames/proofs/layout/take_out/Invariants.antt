use Rattle.std.specs.Prelude.{◌*◌}
use Rattle.bits.proofs.laws.Tab.{Filled}
use Rattle.frames.specs.laws.Layout.{taken_at}
use Rattle.frames.proofs.layout.take_out.Given as goal

abbrev pub invariant-loop-group : goal.invariant-loop-group
invariant-loop-group l = Filled (taken_at l.frame) 285 (15 * l.group) l.carried
