-- Once over the register, the cost and the length: where at no step and in no state both bits are free, at most one path of a length costs nothing.
use mathlib.Core.List.{List, [], ◌∷◌}
use Rattle.std.specs.Prelude.{◌≡◌, ℕ, zero, suc, ◌+◌, ◌≤◌, ◌<◌, length}
use Rattle.std.proofs.Math.Path.{refl, ap₂, subst}
use Rattle.std.proofs.Common.{sym, arith}
use Rattle.bits.specs.Bits.{Bits}
use Rattle.register.specs.Register.{Tells, state, path_cost}

-- of two bits that are both free, where one of them costs something, they are one
one_bit : (f : ℕ → ℕ) → 1 ≤ f 0 + f 1 → (a b : ℕ) → a ≤ 1 → b ≤ 1 → f a ≡ 0 → f b ≡ 0 → a ≡ b
one_bit f some zero zero ha hb p q = refl
one_bit f some zero (suc zero) ha hb p q = let z : ⊥ = omega (arith, some, p, q) in absurd z
one_bit f some (suc zero) zero ha hb p q = let z : ⊥ = omega (arith, some, p, q) in absurd z
one_bit f some (suc zero) (suc zero) ha hb p q = refl
one_bit f some zero (suc (suc b)) ha hb p q = let z : ⊥ = omega arith in absurd z
one_bit f some (suc zero) (suc (suc b)) ha hb p q = let z : ⊥ = omega arith in absurd z
one_bit f some (suc (suc a)) b ha hb p q = let z : ⊥ = omega arith in absurd z

module _ (half : ℕ) (cost : ℕ → ℕ → ℕ → ℕ) (t : ℕ) (tells : (k : ℕ) → k < t → Tells half cost k) where
  pub one_free : (h g : List ℕ) → Bits h → Bits g → length h ≤ t → length h ≡ length g → path_cost half cost h ≡ 0 → path_cost half cost g ≡ 0 → h ≡ g
  unfolding path_cost
  one_free [] [] bh bg l e p q = refl
  one_free [] (b ∷ g) bh bg l e p q = let z : ⊥ = omega (arith, e) in absurd z
  one_free (a ∷ h) [] bh bg l e p q = let z : ⊥ = omega (arith, e) in absurd z
  one_free (a ∷ h) (b ∷ g) bh bg l e p q =
      let same : h ≡ g = one_free h g (λ k. bh (suc k)) (λ k. bg (suc k)) (omega (arith, l)) (omega (arith, e)) (omega (arith, p)) (omega (arith, q)) in
      let last : cost (length g) (state half g) b ≡ 0 = omega (arith, q) in
      let free : cost (length h) (state half h) b ≡ 0 = subst (λ (w : List ℕ). cost (length w) (state half w) b ≡ 0) (sym same) last in
      ap₂ (λ (x : ℕ) (w : List ℕ). x ∷ w)
      (one_bit (cost (length h) (state half h)) (tells (length h) (omega (arith, l)) (state half h)) a b (bh 0) (bg 0) (omega (arith, p)) free)
      same
