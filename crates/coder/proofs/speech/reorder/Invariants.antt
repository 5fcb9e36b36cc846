use Rattle.coder.specs.laws.Reordered.{Reordered}
use Rattle.coder.proofs.speech.reorder.Given as goal

abbrev pub invariant-loop-k : goal.invariant-loop-k
invariant-loop-k l = Reordered l.d l.k l.u
