-- A speech block that the search finds in the 378 protected bits that arrived is heard as it was.
use Rattle.std.specs.Prelude.{true, ◌≡◌, ℕ, ◌+◌, ◌*◌, ◌/◌, ◌%◌, ◌≤◌, ◌<◌, drop}
use mathlib.Core.List.{List, ◌++◌}
use Rattle.std.proofs.Math.Logic.{⊎_elim}
use Rattle.std.proofs.Math.Path.{sym, ap, ap₂}
use Rattle.std.proofs.Common.{◌∙◌, lit≤, length-take-le}
use native.Mathlib.Omega.{arith}
use Rattle.std.proofs.Math.ListN.{length, get_or, take, length-drop}
use Rattle.std.proofs.lemmas.List.{get_or-replicate}
use Rattle.std.proofs.Math.Seq.{take-take, get_or-take, get_or-drop, ext_get_or}
use borrow.Author.Tests.{eq-eqb, ne_eqb}
use Rattle.bits.specs.Bits.{Bits, given_bits, tab, value, ones, zeros}
use Rattle.bits.proofs.laws.Cases.{lt_or_le}
use Rattle.bits.proofs.laws.Parts.{length_lent}
use Rattle.bits.proofs.laws.Sum.{bits_take, length_zeros}
use Rattle.bits.proofs.laws.Tab.{is_tab}
use Rattle.bits.proofs.laws.Value.{length_digits}
use Rattle.parity.specs.Division.{remainder, speech_g}
use Rattle.parity.proofs.laws.Division.{length_parity, parity_leaves}
use Rattle.parity.proofs.laws.Generators.{speech_number}
use Rattle.trellis.specs.Nearest.{Candidate, Found, disagreements}
use Rattle.convolution.specs.Pairs.{coded}
use Rattle.coder.specs.Blocks.{speech_p, speech_u}
use Rattle.coder.specs.Received.{all_ones, speech_d_at, speech_heard}
use Rattle.coder.proofs.laws.Order.{even_bits, odd_bits, parity_bits, tail_bits}
use Rattle.coder.proofs.laws.Speech.{bits_u, length_u}

module _ (d : List ℕ) (ld : length d ≡ 260) (bd : Bits d) where
  -- d(2k) = u(k) and d(2k+1) = u(184-k): what b) of 000, 3.1.2.1 laid out is laid back
  laid_back : (k : ℕ) → k < 182 → get_or (take 182 d) k 0 ≡ speech_d_at (speech_u d) k
  unfolding speech_d_at
  laid_back k h =
      get_or-take 182 d k 0 h
      ∙ ⊎_elim (λ (l : k % 2 < 1). let e : 2 * (k / 2) ≡ k = omega arith in
      rw (eq-eqb (k % 2) 0 (omega arith)) (sym (even_bits d (k / 2) (omega arith) ∙ ap (λ (x : ℕ). get_or d x 0) e)))
      (λ (l : 1 ≤ k % 2). let e : 2 * (k / 2) + 1 ≡ k = omega arith in
      rw (ne_eqb (k % 2) 0 (λ (z : k % 2 ≡ 0). omega arith)) (sym (odd_bits d (k / 2) (omega arith) ∙ ap (λ (x : ℕ). get_or d x 0) e)))
      (lt_or_le (k % 2) 1)

  pub first_bits : tab 182 (speech_d_at (speech_u d)) ≡ take 182 d
  first_bits = sym (is_tab 182 (speech_d_at (speech_u d)) (take 182 d) (length-take-le 182 d (omega (arith, ld))) laid_back)

  parity_long : length (speech_p d) ≡ 3
  unfolding speech_p
  parity_long = length_parity speech_g (take 50 d) (bits_take 50 d bd) ∙ ap length (sym speech_number) ∙ length_digits 3 0b011

  middle : take 3 (drop 91 (speech_u d)) ≡ speech_p d
  middle =
      let l : length (take 3 (drop 91 (speech_u d))) ≡ 3 = length_lent (speech_u d) 91 3 (omega (arith, length_u d bd ld)) in
      ext_get_or 0 (take 3 (drop 91 (speech_u d))) (speech_p d) (l ∙ sym parity_long)
      (λ i h. get_or-take 3 (drop 91 (speech_u d)) i 0 (omega (arith, l)) ∙ get_or-drop 91 (speech_u d) i 0 ∙ parity_bits d i (omega (arith, l)))

  ends : drop 185 (speech_u d) ≡ zeros 4
  unfolding zeros
  ends =
      let l : length (drop 185 (speech_u d)) ≡ 4 = length-drop 185 (speech_u d) ∙ omega (arith, length_u d bd ld) in
      ext_get_or 0 (drop 185 (speech_u d)) (zeros 4) (l ∙ sym (length_zeros 4))
      (λ i h. get_or-drop 185 (speech_u d) i 0 ∙ tail_bits d i (omega (arith, l)) ∙ sym (get_or-replicate 4 i 0 0 (omega (arith, l))))

  pub speech_candidate : Candidate 189 (speech_u d)
  speech_candidate = record { bits = bits_u d bd ld; long = length_u d bd ld; ends = ends }

  -- ---- what is heard of it
  module _ (c : List ℕ) (found : Found (take 378 c) 189 (speech_u d)) where
    pub speech_count : (speech_heard c).count ≡ disagreements (take 378 c) (coded (speech_u d))
    unfolding speech_heard
    speech_count = found.1

    pub speech_bits : (speech_heard c).bits ≡ take 182 d ++ given_bits (drop 378 c)
    unfolding speech_heard
    speech_bits = ap (λ (u : List ℕ). tab 182 (speech_d_at u) ++ given_bits (drop 378 c)) found.0 ∙ ap (λ (x : List ℕ). x ++ given_bits (drop 378 c)) first_bits

    pub speech_good : (speech_heard c).good ≡ true
    unfolding speech_heard all_ones speech_p
    speech_good =
        ap (λ (u : List ℕ). all_ones speech_g (take 50 (tab 182 (speech_d_at u)) ++ take 3 (drop 91 u))) found.0
        ∙ ap₂ (λ (x y : List ℕ). all_ones speech_g (x ++ y)) (ap (take 50) first_bits ∙ take-take 50 182 d (lit≤ tt)) middle
        ∙ eq-eqb (value (remainder speech_g (take 50 d ++ speech_p d))) (value (ones (length speech_g))) (ap value (parity_leaves speech_g (take 50 d) (bits_take 50 d bd)))
