use Prim.Native.Nat.{◌*◌}
use Rattle.bits.proofs.laws.Tab.{Filled}
use Rattle.coder.specs.Received.{speech_d_at}
use Rattle.coder.proofs.speech.fill_d.Given as goal

abbrev pub invariant-loop-j : goal.invariant-loop-j
invariant-loop-j l = Filled (speech_d_at l.u) 182 (2 * l.j) l.d
