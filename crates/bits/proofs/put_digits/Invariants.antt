use Prim.Native.Nat.{ℕ, ◌-◌, ◌/◌, ◌%◌, ◌^◌}
use Rattle.bits.proofs.laws.Tab.{Filled}
use Rattle.bits.proofs.put_digits.Given as goal

abbrev pub at : ℕ → ℕ → ℕ → ℕ
at n x k = x / 2 ^ (n - 1 - k) % 2

abbrev pub invariant-loop-k : goal.invariant-loop-k
invariant-loop-k l = Filled (at l.n l.x) l.n l.k l.out
