-- Cases of two numbers, of a received byte, and of a test.
use Rattle.std.specs.Prelude.{Bool, true, false, ◌⊎◌, ◌≡◌, refl, ℕ, zero, suc, ◌≤◌, ◌<◌, ltb}
use Rattle.std.proofs.Common.{inl, inr, arith, ltb-true, ltb-false}
use Rattle.bits.specs.Bits.{both}

pub lt_or_le : (a b : ℕ) → (a < b) ⊎ (b ≤ a)
lt_or_le a b = go (ltb a b) refl
  where
    go : (t : Bool) → ltb a b ≡ t → (a < b) ⊎ (b ≤ a)
    go true e = inl (ltb-true a b e)
    go false e = inr (ltb-false a b e)

-- what holds of 0, of 1 and of 2, missing, holds of everything that is received
pub each_symbol : (P : ℕ → Type 0) → P 0 → P 1 → P 2 → (r : ℕ) → r ≤ 2 → P r
each_symbol P p q m zero h = p
each_symbol P p q m (suc zero) h = q
each_symbol P p q m (suc (suc zero)) h = m
each_symbol P p q m (suc (suc (suc r))) h = let z : ⊥ = omega arith in absurd z

pub both_first : (a b : Bool) → both a b ≡ true → a ≡ true
both_first true b e = refl
both_first false b e = e

pub both_second : (a b : Bool) → both a b ≡ true → b ≡ true
both_second true b e = e
both_second false true e = refl
both_second false false e = e

pub not_true : (b : Bool) → (b ≡ true → ⊥) → b ≡ false
not_true true h = absurd (h refl)
not_true false h = refl

pub false_true : false ≡ true → ⊥
false_true e = let z : ◌≡◌ {A = ℕ} 0 1 = cc in omega (arith, z)
