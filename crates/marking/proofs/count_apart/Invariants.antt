use Rattle.std.specs.Prelude.{◌≡◌, ◌≤◌, length}
use Rattle.marking.proofs.laws.Counted.{apart_up_to}
use Rattle.marking.proofs.count_apart.Given as goal

abbrev pub invariant-loop-c : goal.invariant-loop-c
invariant-loop-c l = (l.sum ≤ length l.yielded) × (l.sum ≡ apart_up_to l.c l.x (length l.yielded))
