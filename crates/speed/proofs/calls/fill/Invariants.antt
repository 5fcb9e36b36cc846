use Rattle.std.proofs.Common.{◌<◌}
use Rattle.speed.proofs.calls.fill.Given as goal

abbrev pub invariant-loop-bit : goal.invariant-loop-bit
invariant-loop-bit l = l.x < 65537
