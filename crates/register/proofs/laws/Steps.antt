-- One step of a register, forward and back, and the order of paths by their states.
use mathlib.Core.List.{List, [], ◌∷◌}
use Rattle.std.proofs.Common.{⊎_elim, sym, ap₂, ◌∙◌, lt-ltb, le-ltb}
use Rattle.std.proofs.Math.Logic.{inl, inr}
use Rattle.std.specs.Prelude.{◌≡◌, refl, length}
use Prim.Native.Nat.{ℕ, zero, suc, ◌+◌, ◌-◌, ◌*◌, ◌/◌, ◌%◌, ◌≤◌, ◌<◌}
use native.Mathlib.Omega.{arith}
use Rattle.bits.specs.Bits.{Bits, zeros}
use Rattle.bits.proofs.laws.Cases.{lt_or_le}
use Rattle.register.specs.Register.{NotAfter, next, state, bit, from}

-- of all paths of one length zeros stand first: they are what a block of which every bit is missing is decoded to (02, M-102)
pub zeros_first : (n : ℕ) (h : List ℕ) → length h ≡ n → NotAfter (zeros n) h
unfolding zeros NotAfter
zeros_first zero h e = tt
zeros_first (suc n) [] e = tt
zeros_first (suc n) (zero ∷ h) e = inr (refl, zeros_first n h (omega (arith, e)))
zeros_first (suc n) (suc b ∷ h) e = inl (omega arith)

module _ (half : ℕ) where
  next_zero : (p : ℕ) → next half p 0 ≡ p / 2
  unfolding next
  next_zero p = omega arith

  next_one : (p : ℕ) → next half p 1 ≡ half + p / 2
  unfolding next
  next_one p = omega arith

  -- ---- the bit and the two states behind s, below the middle and from it on
  bit_low : (s : ℕ) → s < half → bit half s ≡ 0
  unfolding bit
  bit_low s h = rw (lt-ltb s half h)

  bit_high : (s : ℕ) → half ≤ s → bit half s ≡ 1
  unfolding bit
  bit_high s h = rw (le-ltb s half h)

  from_low : (s o : ℕ) → s < half → from half s o ≡ 2 * s + o
  unfolding from
  from_low s o h = rw (lt-ltb s half h)

  from_high : (s o : ℕ) → half ≤ s → from half s o ≡ 2 * (s - half) + o
  unfolding from
  from_high s o h = rw (le-ltb s half h)

  pub bit_bit : (s : ℕ) → bit half s ≤ 1
  bit_bit s = ⊎_elim (λ h. rw (bit_low s h) (omega arith)) (λ h. rw (bit_high s h) (omega arith)) (lt_or_le s half)

  pub from_lt : (s o : ℕ) → s < 2 * half → o ≤ 1 → from half s o < 2 * half
  from_lt s o h l =
      ⊎_elim (λ (i : s < half). rw (from_low s o i) (omega arith)) (λ (i : half ≤ s). rw (from_high s o i) (omega arith)) (lt_or_le s half)

  -- the two ways into a state come from two neighbours
  pub from_next : (s : ℕ) → from half s 1 ≡ suc (from half s 0)
  from_next s =
      ⊎_elim (λ (i : s < half). rw (from_low s 0 i, from_low s 1 i) (omega arith)) (λ (i : half ≤ s). rw (from_high s 0 i, from_high s 1 i) (omega arith)) (lt_or_le s half)

  -- going back and forward again
  pub goes : (s o : ℕ) → s < 2 * half → o ≤ 1 → next half (from half s o) (bit half s) ≡ s
  goes s o h l =
      ⊎_elim (λ (i : s < half). rw (from_low s o i, bit_low s i, next_zero (2 * s + o)) (omega arith))
      (λ (i : half ≤ s). rw (from_high s o i, bit_high s i, next_one (2 * (s - half) + o)) (omega arith))
      (lt_or_le s half)

  -- going forward and back again: the way is the bit that left
  pub came_bit : (p b s : ℕ) → p < 2 * half → b ≤ 1 → next half p b ≡ s → bit half s ≡ b
  came_bit p zero s h l e = let f : s ≡ p / 2 = sym e ∙ next_zero p in bit_low s (omega arith)
  came_bit p (suc zero) s h l e = let f : s ≡ half + p / 2 = sym e ∙ next_one p in bit_high s (omega arith)
  came_bit p (suc (suc b)) s h l e = let z : ⊥ = omega arith in absurd z

  pub came_from : (p b s : ℕ) → p < 2 * half → b ≤ 1 → next half p b ≡ s → from half s (p % 2) ≡ p
  came_from p zero s h l e = let f : s ≡ p / 2 = sym e ∙ next_zero p in from_low s (p % 2) (omega arith) ∙ omega arith
  came_from p (suc zero) s h l e = let f : s ≡ half + p / 2 = sym e ∙ next_one p in from_high s (p % 2) (omega arith) ∙ omega arith
  came_from p (suc (suc b)) s h l e = let z : ⊥ = omega arith in absurd z

  -- ---- states of paths
  module _ (some : 0 < half) where
    pub next_lt : (p b : ℕ) → p < 2 * half → b ≤ 1 → next half p b < 2 * half
    next_lt p zero h l = rw (next_zero p) (omega arith)
    next_lt p (suc zero) h l = rw (next_one p) (omega arith)
    next_lt p (suc (suc b)) h l = let z : ⊥ = omega arith in absurd z

    pub state_lt : (h : List ℕ) → Bits h → state half h < 2 * half
    unfolding state
    state_lt [] bh = omega arith
    state_lt (b ∷ h) bh = next_lt (state half h) b (state_lt h (λ k. bh (suc k))) (bh 0)

    -- a path that ends in a lower state stands first: the whole of the tie rule
    pub in_order : (h k : List ℕ) → Bits h → Bits k → length h ≡ length k → state half h < state half k → NotAfter h k
    unfolding state NotAfter
    in_order [] k bh bk e l = tt
    in_order (a ∷ h) [] bh bk e l = tt
    in_order (zero ∷ h) (zero ∷ k) bh bk e l =
        let m : state half h / 2 < state half k / 2 = rw (next_zero (state half h), next_zero (state half k)) at l in
        inr (refl, in_order h k (λ i. bh (suc i)) (λ i. bk (suc i)) (omega (arith, e)) (omega (arith, m)))
    in_order (zero ∷ h) (suc b ∷ k) bh bk e l = inl (omega arith)
    in_order (suc zero ∷ h) (zero ∷ k) bh bk e l =
        let m : half + state half h / 2 < state half k / 2 = rw (next_one (state half h), next_zero (state half k)) at l in
        let z : ⊥ = omega (arith, m, state_lt k (λ i. bk (suc i))) in
        absurd z
    in_order (suc zero ∷ h) (suc zero ∷ k) bh bk e l =
        let m : half + state half h / 2 < half + state half k / 2 = rw (next_one (state half h), next_one (state half k)) at l in
        inr (refl, in_order h k (λ i. bh (suc i)) (λ i. bk (suc i)) (omega (arith, e)) (omega (arith, m)))
    in_order (suc zero ∷ h) (suc (suc b) ∷ k) bh bk e l = inl (omega arith)
    in_order (suc (suc a) ∷ h) (b ∷ k) bh bk e l = let i : suc (suc a) ≤ 1 = bh 0 in let z : ⊥ = omega arith in absurd z

-- two paths of one length, neither after the other, are one path
pub same_path : (h k : List ℕ) → length h ≡ length k → NotAfter h k → NotAfter k h → h ≡ k
unfolding NotAfter
same_path [] [] e p q = refl
same_path [] (b ∷ k) e p q = let z : ⊥ = omega (arith, e) in absurd z
same_path (a ∷ h) [] e p q = let z : ⊥ = omega (arith, e) in absurd z
same_path (a ∷ h) (b ∷ k) e p q =
    ⊎_elim (λ (l : a < b). ⊎_elim (λ (m : b < a). let z : ⊥ = omega arith in absurd z) (λ m. let z : ⊥ = omega (arith, m.0) in absurd z) q)
    (λ l.
    ⊎_elim (λ (m : b < a). let z : ⊥ = omega (arith, l.0) in absurd z)
    (λ m. ap₂ (λ (x : ℕ) (w : List ℕ). x ∷ w) l.0 (same_path h k (omega (arith, e)) l.1 m.1))
    q)
    p

pub itself : (h : List ℕ) → NotAfter h h
unfolding NotAfter
itself [] = tt
itself (a ∷ h) = inr (refl, itself h)
