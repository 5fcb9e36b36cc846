-- What the loop holds that lays class 1 down in its new order.
use Rattle.std.specs.Prelude.{List, ◌≡◌, length}
use Prim.Native.Nat.{ℕ, ◌+◌, ◌-◌, ◌*◌, ◌≤◌, ◌<◌}
use Rattle.std.proofs.Math.ListN.{get_or}

-- u(i) = d(2i) and u(184-i) = d(2i+1) for i below k
pub record Reordered (d : List ℕ) (k : ℕ) (u : List ℕ) : Type 0 where
  pub some : k ≤ 91
  pub long : length u ≡ 189
  pub even : (i : ℕ) → i < k → get_or u i 0 ≡ get_or d (2 * i) 0
  pub odd : (i : ℕ) → i < k → get_or u (184 - i) 0 ≡ get_or d (2 * i + 1) 0
