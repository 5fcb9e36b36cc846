-- Burst 4n+7 ends block n, and no other burst ends any.
use Rattle.std.specs.Prelude.{Bool, true, false, Option, Some, None, ◌≡◌, refl, ℕ, ◌+◌, ◌-◌, ◌*◌, ◌/◌, ◌%◌, ◌≤◌, eqb, leb}
use Rattle.std.proofs.Common.{arith, eqb-true, eq-eqb, leb-true, le-leb}
use Rattle.bits.specs.Bits.{pick, both}
use Rattle.burst.specs.Numbers.{ended}
use Rattle.burst.specs.declared.numbers.BlockNumber.{BlockNumber}

pub ended_block : (n : ℕ) → ended (4 * n + 7) ≡ Some (record { 0 = n })
unfolding ended
ended_block n =
    let late : 7 ≤ 4 * n + 7 = omega arith in
    let last : (4 * n + 7) % 4 ≡ 3 = omega arith in
    let is : (4 * n + 7) / 4 - 1 ≡ n = omega arith in
    rw (le-leb 7 (4 * n + 7) late, eq-eqb ((4 * n + 7) % 4) 3 last, is)

pub ended_none : (b : ℕ) → ((n : ℕ) → b ≡ 4 * n + 7 → ⊥) → ended b ≡ None
unfolding ended
ended_none b none = by_tests (leb 7 b) (eqb (b % 4) 3) refl refl
  where
    by_tests : (f g : Bool) → leb 7 b ≡ f → eqb (b % 4) 3 ≡ g → pick {A = Option BlockNumber} (both f g) (Some (record { 0 = b / 4 - 1 })) None ≡ None
    by_tests false g ef eg = refl
    by_tests true false ef eg = refl
    by_tests true true ef eg =
        let late : 7 ≤ b = leb-true 7 b ef in
        let last : b % 4 ≡ 3 = eqb-true (b % 4) 3 eg in
        absurd (none (b / 4 - 1) (omega arith))
