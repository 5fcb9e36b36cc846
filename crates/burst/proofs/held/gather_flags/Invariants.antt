use mathlib.Core.Path.{◌≡◌}
use Rattle.bits.specs.Bits.{tab, value}
use Rattle.burst.specs.Held.{held_flag_at, saying}
use Rattle.burst.proofs.held.gather_flags.Given as goal

abbrev pub invariant-loop-i : goal.invariant-loop-i
invariant-loop-i l = l.flags ≡ value (tab l.i (λ j. saying l.b (held_flag_at l.held l.n.0 j)))
