-- The words stand within the first 1,000 bytes.
use Rattle.std.proofs.Common.{◌≤◌}
use Rattle.words.proofs.help.put_words.Given as goal

abbrev pub invariant-loop-word : goal.invariant-loop-word
invariant-loop-word l = l.n ≤ 1000
