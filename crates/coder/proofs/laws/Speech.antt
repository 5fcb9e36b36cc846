-- What `coder::speech` needs: its parity by its number, and its two parts.
use Rattle.std.specs.Prelude.{Bool, true, false, ◌≡◌, ℕ, ◌+◌, ◌-◌, ◌*◌, ◌≤◌, ltb, get_or}
use mathlib.Core.List.{List, ◌++◌, append-nil}
use Rattle.std.proofs.Math.Path.{refl, sym, ap, ap₂}
use Rattle.std.proofs.Common.{◌∙◌, arith, lit<, lit≤, length-append, length-take-le}
use Rattle.std.proofs.Math.ListN.{length, take, drop, length-drop}
use Rattle.std.proofs.Math.Seq.{take_all}
use Rattle.bits.specs.Bits.{Bits, pick, tab, digits, value, ones, zeros}
use Rattle.bits.proofs.laws.Parts.{put, put_two}
use Rattle.bits.proofs.laws.Sum.{length_ones, bits_ones, bits_append, bits_take}
use Rattle.bits.proofs.laws.Tab.{length_tab, bits_tab}
use Rattle.bits.proofs.laws.Value.{length_digits, digits_value}
use Rattle.parity.specs.Asked.{Generates}
use Rattle.parity.specs.Division.{parity, remainder, speech_g}
use Rattle.parity.proofs.laws.Division.{length_parity, bits_parity}
use Rattle.parity.proofs.laws.Generators.{speech_number}
use Rattle.convolution.specs.Pairs.{coded}
use Rattle.convolution.proofs.laws.Pairs.{length_coded}
use Rattle.coder.specs.Blocks.{speech_p, speech_u_at, speech_u, speech_block}

-- ---- the parity of the first 50 bits
module _ (d : List ℕ) (bd : Bits d) (ld : length d ≡ 260) where
  first_long : length (take 50 d) ≡ 50
  first_long = length-take-le 50 d (omega (arith, ld))

  module _ (w : List ℕ) (ew : w ≡ take 50 d ++ (ones (53 - length (take 50 d)) ++ zeros 0)) where
    laid : w ≡ take 50 d ++ ones 3
    unfolding zeros
    laid = ew ∙ rw (first_long) (ap (λ (l : List ℕ). take 50 d ++ l) (append-nil (ones 3)))

    pub first_divisible : Generates 0b011 3 × (3 ≤ length w) × Bits w
    first_divisible = (
      record { some = lit< tt; narrow = lit≤ tt; below = lit< tt },
      rw (laid, length-append (take 50 d) (ones 3), length_ones 3) (omega arith),
      rw laid (bits_append (take 50 d) (ones 3) (bits_take 50 d bd) (bits_ones 3)),
    )

    pub parity_put : (x n : ℕ) (p : List ℕ) → x ≡ value (remainder (digits 3 0b011) w) → n ≡ 3 → p ≡ digits n x → p ≡ speech_p d
    unfolding speech_p parity
    parity_put x n p ex en ep =
        let g : length speech_g ≡ 3 = ap length (sym speech_number) ∙ length_digits 3 0b011 in
        let fx : x ≡ value (parity speech_g (take 50 d)) =
        ex ∙ ap₂ (λ (g w : List ℕ). value (remainder g w)) speech_number (laid ∙ ap (λ (k : ℕ). take 50 d ++ ones k) (sym g)) in
        ep ∙ ap₂ digits (en ∙ sym g ∙ sym (length_parity speech_g (take 50 d) (bits_take 50 d bd))) fx
        ∙ digits_value (parity speech_g (take 50 d)) (bits_parity speech_g (take 50 d) (bits_take 50 d bd))

  -- ---- u
  either : (b : Bool) (x y : ℕ) → x ≤ 1 → y ≤ 1 → pick b x y ≤ 1
  either true x y h l = h
  either false x y h l = l

  bits_at : (p : List ℕ) → Bits p → (k : ℕ) → speech_u_at d p k ≤ 1
  unfolding speech_u_at
  bits_at p bp k =
      either (ltb k 91) (get_or d (2 * k) 0) (pick (ltb k 94) (get_or p (k - 91) 0) (pick (ltb k 185) (get_or d (2 * (184 - k) + 1) 0) 0)) (bd (2 * k))
      (either (ltb k 94) (get_or p (k - 91) 0) (pick (ltb k 185) (get_or d (2 * (184 - k) + 1) 0) 0) (bp (k - 91))
      (either (ltb k 185) (get_or d (2 * (184 - k) + 1) 0) 0 (bd (2 * (184 - k) + 1)) (omega arith)))

  bits_p : Bits (speech_p d)
  unfolding speech_p
  bits_p = bits_parity speech_g (take 50 d) (bits_take 50 d bd)

  pub bits_u : Bits (speech_u d)
  unfolding speech_u
  bits_u = bits_tab 189 (speech_u_at d (speech_p d)) (bits_at (speech_p d) bits_p)

  pub length_u : length (speech_u d) ≡ 189
  unfolding speech_u
  length_u = length_tab 189 (speech_u_at d (speech_p d))

  pub filled_u : (p u : List ℕ) → p ≡ speech_p d → u ≡ tab 189 (speech_u_at d p) → u ≡ speech_u d
  unfolding speech_u
  filled_u p u ep eu = eu ∙ ap (λ (q : List ℕ). tab 189 (speech_u_at d q)) ep

  -- ---- the pairs, and class 2
  pub coded_asked : (c u : List ℕ) → length c ≡ 456 → u ≡ speech_u d → Bits u × (length (take 378 c) ≡ 2 * length u)
  coded_asked c u lc eu =
      (rw eu bits_u, length-take-le 378 c (omega (arith, lc)) ∙ ap (λ (n : ℕ). 2 * n) (sym (ap length eu ∙ length_u)))

  pub parts : (c u y z : List ℕ) → length c ≡ 456 → u ≡ speech_u d → y ≡ coded u → z ≡ take 78 (drop 182 d)
      → put 378 78 z (put 0 378 y c) ≡ speech_block d
  unfolding speech_block
  parts c u y z lc eu ey ez =
      let ly : length y ≡ 378 = ap length (ey ∙ ap coded eu) ∙ length_coded (speech_u d) ∙ ap (λ (n : ℕ). 2 * n) length_u in
      let lz : take 78 (drop 182 d) ≡ drop 182 d = take_all 78 (drop 182 d) (simp length-drop (omega (arith, ld))) in
      put_two c y z 378 78 378 ly refl lc ∙ ap₂ (λ (a b : List ℕ). a ++ b) (ey ∙ ap coded eu) (ez ∙ lz)
