-- The candidates of n bits are the paths of n bits that end in state 0.
use mathlib.Core.List.{List, [], ◌∷◌, ◌++◌, reverse, reverse-append, reverse_aux-eq}
use Rattle.std.specs.Prelude.{◌≡◌, ℕ, suc, ◌-◌, ◌≤◌, length, drop}
use Rattle.std.proofs.Common.{sym, ◌∙◌, arith, length-drop, take-append-drop, drop_at}
use Rattle.std.proofs.Math.Path.{ap}
use Rattle.std.proofs.Math.ListN.{take}
use Rattle.std.proofs.lemmas.List.{length-reverse}
use Rattle.bits.specs.Bits.{Bits, zeros}
use Rattle.bits.proofs.laws.Sum.{length_zeros}
use Rattle.register.specs.Register.{next, state}
use Rattle.register.proofs.laws.Steps.{state_lt}
use Rattle.trellis.specs.Nearest.{Candidate}
use Rattle.trellis.proofs.laws.Paths.{bits_reverse}

-- ---- a candidate ends in state 0
flushed : (h : List ℕ) → Bits h → state 8 (0 ∷ 0 ∷ 0 ∷ 0 ∷ h) ≡ 0
unfolding state next
flushed h bh = omega (arith, state_lt 8 (omega arith) h bh)

module _ (n : ℕ) (u : List ℕ) (c : Candidate n u) where
  pub candidate_long : 4 ≤ n
  candidate_long = omega (arith, sym (length-drop (n - 4) u) ∙ ap length c.ends ∙ length_zeros 4, c.long)

  turned : reverse u ≡ 0 ∷ 0 ∷ 0 ∷ 0 ∷ reverse (take (n - 4) u)
  unfolding zeros
  turned =
      ap reverse (sym (take-append-drop (n - 4) u) ∙ ap (λ (w : List ℕ). take (n - 4) u ++ w) c.ends)
      ∙ reverse-append (take (n - 4) u) (zeros 4)

  pub candidate_state : state 8 (reverse u) ≡ 0
  candidate_state =
      let bh : Bits (reverse u) = bits_reverse u c.bits in
      let bt : Bits (0 ∷ 0 ∷ 0 ∷ 0 ∷ reverse (take (n - 4) u)) = rw turned at bh in
      ap (state 8) turned ∙ flushed (reverse (take (n - 4) u)) (λ k. bt (suc (suc (suc (suc k)))))

-- ---- and a path that ends in state 0 is one
last : (a b c d : ℕ) (h : List ℕ) → a ≤ 1 → b ≤ 1 → c ≤ 1 → d ≤ 1 → state 8 (a ∷ b ∷ c ∷ d ∷ h) ≡ 0 → (a ≡ 0) × (b ≡ 0) × (c ≡ 0) × (d ≡ 0)
unfolding state next
last a b c d h ha hb hc hd e = omega (arith, e)

four_zeros : (a b c d : ℕ) → a ≡ 0 → b ≡ 0 → c ≡ 0 → d ≡ 0 → d ∷ c ∷ b ∷ a ∷ [] ≡ zeros 4
unfolding zeros
four_zeros a b c d ea eb ec ed = rw (ea, eb, ec, ed)

pub path_candidate : (n : ℕ) (h : List ℕ) → 4 ≤ n → Bits h → length h ≡ n → state 8 h ≡ 0 → Candidate n (reverse h)
path_candidate n [] l bh e f = let z : ⊥ = omega (arith, e) in absurd z
path_candidate n (a ∷ []) l bh e f = let z : ⊥ = omega (arith, e) in absurd z
path_candidate n (a ∷ b ∷ []) l bh e f = let z : ⊥ = omega (arith, e) in absurd z
path_candidate n (a ∷ b ∷ c ∷ []) l bh e f = let z : ⊥ = omega (arith, e) in absurd z
path_candidate n (a ∷ b ∷ c ∷ d ∷ h) l bh e f =
    let q = last a b c d h (bh 0) (bh 1) (bh 2) (bh 3) f in
    record {
      bits = bits_reverse (a ∷ b ∷ c ∷ d ∷ h) bh;
      long = length-reverse (a ∷ b ∷ c ∷ d ∷ h) ∙ e;
      ends =
          ap (drop (n - 4)) (reverse_aux-eq h (d ∷ c ∷ b ∷ a ∷ []))
          ∙ drop_at (reverse h) (d ∷ c ∷ b ∷ a ∷ []) (n - 4) (length-reverse h ∙ omega (arith, e))
          ∙ four_zeros a b c d q.0 q.1 q.2 q.3;
    }
