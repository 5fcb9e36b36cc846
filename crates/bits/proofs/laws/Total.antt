-- Sums over the places of a list.
use Rattle.std.proofs.Common.{⊎_elim, ap, ap₂, ◌∙◌, arith}
use Rattle.std.specs.Prelude.{◌≡◌, refl, ℕ, zero, suc, ◌+◌, ◌≤◌, ◌<◌}
use Rattle.bits.specs.Bits.{total}
use Rattle.bits.proofs.laws.Cases.{lt_or_le}

pub total_same : (n : ℕ) (f g : ℕ → ℕ) → ((i : ℕ) → i < n → f i ≡ g i) → total n f ≡ total n g
unfolding total
total_same zero f g h = refl
total_same (suc n) f g h = ap₂ (λ (a b : ℕ). a + b) (total_same n f g (λ i l. h i (omega arith))) (h n (omega arith))

pub total_le : (n : ℕ) (f g : ℕ → ℕ) → ((i : ℕ) → i < n → f i ≤ g i) → total n f ≤ total n g
unfolding total
total_le zero f g h = omega arith
total_le (suc n) f g h = omega (arith, total_le n f g (λ i l. h i (omega arith)), h n (omega arith))

pub total_add : (n : ℕ) (f g : ℕ → ℕ) → total n (λ i. f i + g i) ≡ total n f + total n g
unfolding total
total_add zero f g = refl
total_add (suc n) f g = rw (total_add n f g) (omega arith)

-- where each is nothing, nothing is summed up; and where nothing is summed up, each is nothing
pub total_zero : (n : ℕ) (f : ℕ → ℕ) → ((i : ℕ) → i < n → f i ≡ 0) → total n f ≡ 0
unfolding total
total_zero zero f h = refl
total_zero (suc n) f h = omega (arith, total_zero n f (λ i l. h i (omega arith)), h n (omega arith))

pub total_none : (n : ℕ) (f : ℕ → ℕ) → total n f ≡ 0 → (i : ℕ) → i < n → f i ≡ 0
unfolding total
total_none zero f e i h = let z : ⊥ = omega arith in absurd z
total_none (suc n) f e i h =
    ⊎_elim (λ (l : i < n). total_none n f (omega (arith, e)) i l) (λ (l : n ≤ i). let s : i ≡ n = omega (arith, h, l) in ap f s ∙ omega (arith, e)) (lt_or_le i n)

-- some of them are at most all
pub total_part : (n k : ℕ) (f : ℕ → ℕ) → k ≤ n → total k f ≤ total n f
unfolding total
total_part zero k f h = let e : k ≡ 0 = omega arith in rw e (omega arith)
total_part (suc n) k f h =
    ⊎_elim (λ (l : n < k). let e : k ≡ suc n = omega (arith, h, l) in rw e (omega arith)) (λ (l : k ≤ n). omega (arith, total_part n k f l)) (lt_or_le n k)
