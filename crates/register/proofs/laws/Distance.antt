-- The distance fact, once over the register, the cost and the length: where a number for each state, its potential, is never more than
-- the cost of a step and the potential of the state after it, a path that holds a 1 and comes back to state 0 costs at least what
-- leaving state 0 costs with the potential there.
use mathlib.Core.List.{List, [], ◌∷◌}
use Rattle.std.specs.Prelude.{◌⊎◌, ◌≡◌, length, get_or}
use Rattle.std.proofs.Math.Logic.{⊎_elim, inl, inr}
use Rattle.std.proofs.Math.Path.{refl}
use Prim.Native.Nat.{ℕ, zero, suc, ◌+◌, ◌*◌, ◌≤◌, ◌<◌}
use native.Mathlib.Omega.{arith}
use Rattle.bits.specs.Bits.{Bits}
use Rattle.register.specs.Register.{next, state, path_cost}
use Rattle.register.proofs.laws.Steps.{state_lt}

abbrev pub AllZero : List ℕ → Type 0
AllZero h = (k : ℕ) → get_or h k 0 ≡ 0

module _ (half : ℕ) (some : 0 < half) (cost : ℕ → ℕ → ℕ → ℕ) (potential : ℕ → ℕ) (least : ℕ)
    (falls : (k s b : ℕ) → s < 2 * half → b ≤ 1 → potential s ≤ cost k s b + potential (next half s b))
    (leaves : (k : ℕ) → least ≤ cost k 0 1 + potential (next half 0 1)) where
  zero_state : (h : List ℕ) → AllZero h → state half h ≡ 0
  unfolding state next
  zero_state [] z = refl
  zero_state (b ∷ h) z =
      let e : state half h ≡ 0 = zero_state h (λ k. z (suc k)) in
      rw (e, z 0) (omega arith)

  cons_zero : (h : List ℕ) → AllZero h → AllZero (0 ∷ h)
  cons_zero h z zero = refl
  cons_zero h z (suc k) = z k

  pub held : (h : List ℕ) → Bits h → AllZero h ⊎ (least ≤ path_cost half cost h + potential (state half h))
  unfolding state path_cost
  held [] bh = inl (λ k. refl)
  held (zero ∷ h) bh =
      ⊎_elim (λ (z : AllZero h). inl (cons_zero h z))
      (λ l. inr (omega (arith, falls (length h) (state half h) 0 (state_lt half some h (λ k. bh (suc k))) (omega arith))))
      (held h (λ k. bh (suc k)))
  held (suc zero ∷ h) bh =
      ⊎_elim (λ (z : AllZero h). inr (rw (zero_state h z) (omega (arith, leaves (length h)))))
      (λ l. inr (omega (arith, falls (length h) (state half h) 1 (state_lt half some h (λ k. bh (suc k))) (omega arith))))
      (held h (λ k. bh (suc k)))
  held (suc (suc b) ∷ h) bh = let i : suc (suc b) ≤ 1 = bh 0 in let z : ⊥ = omega arith in absurd z
