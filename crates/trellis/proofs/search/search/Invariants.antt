use Rattle.std.proofs.Common.{◌≡◌, ℕ, ◌<◌}
use Rattle.trellis.specs.Nearest as spec
use Rattle.trellis.specs.laws.Memory.{word_of}
use Rattle.trellis.proofs.search.search.Given as goal

abbrev pub invariant-loop-k : goal.invariant-loop-k
invariant-loop-k g l = record {
  places : (i : ℕ) → i < l.n → g.M.Memory.fits l.memory i;
  row : l.row ≡ spec.row l.c l.k;
  kept : (i : ℕ) → i < l.k → g.M.Memory.holds l.memory i (word_of l.c i);
}
