-- A count is at most two a pair: 456 of a control block, 378 of speech.
use Rattle.std.specs.Prelude.{List, ℕ, ◌+◌, ◌≤◌, length, take}
use Rattle.std.proofs.Common.{arith, lit≤}
use Rattle.parity.specs.Division.{control_g}
use Rattle.trellis.proofs.laws.Nearest.{count_most}
use Rattle.coder.specs.Received.{block_heard, speech_heard}
use Rattle.parity.proofs.laws.Generators.{control_long}

pub control_most : (c : List ℕ) → (block_heard control_g 0 184 c).count ≤ 456
unfolding block_heard
control_most c = omega (arith, control_long, count_most c (184 + length control_g + 4) (omega (arith, control_long)))

pub speech_most : (c : List ℕ) → (speech_heard c).count ≤ 378
unfolding speech_heard
speech_most c = omega (arith, count_most (take 378 c) 189 (lit≤ tt))
