-- What `coder::block` asks and needs: parts laid one after another, and parity bits by their number.
use mathlib.Core.List.{List, ◌++◌, append_assoc}
use Rattle.std.specs.Prelude.{◌≡◌, ℕ, ◌+◌, ◌-◌, ◌*◌, ◌≤◌, ◌<◌, ◌^◌, take, drop, replicate}
use Rattle.std.proofs.Math.Path.{refl, sym, ap}
use Rattle.std.proofs.Common.{◌∙◌, take_at}
use native.Mathlib.Omega.{arith}
use Rattle.std.specs.Int.Bits.{bit_xor, xor_zero_r}
use Rattle.std.proofs.Math.ListN.{length, length-append}
use Rattle.std.proofs.lemmas.List.{length-replicate}
use Rattle.bits.specs.Bits.{Bits, add, digits, value, ones, zeros}
use Rattle.bits.proofs.laws.Parts.{put, put_three, put_middle, length_lent, length_put}
use Rattle.bits.proofs.laws.Sum.{length_ones, length_zeros, bits_ones, bits_zeros, bits_append, length_add, bits_add}
use Rattle.bits.proofs.laws.Value.{length_digits, bits_digits, value_digits, digits_value, value_add}
use Rattle.coder.specs.laws.Format.{laid_out}
use Rattle.parity.specs.Asked.{Generates}
use Rattle.parity.specs.Division.{parity, remainder}
use Rattle.parity.proofs.laws.Division.{length_parity, bits_parity}

-- ---- d, ones and zeros, laid into u part by part
pub laid : (d u w o z : List ℕ) (m : ℕ) → length d ≤ m → m ≤ length u → w ≡ d
    → o ≡ replicate (length (take (m - length d) (drop (length d) (put 0 (length d - 0) w u)))) 1
    → z ≡ replicate (length (take (length u - m) (drop m (put (length d) (m - length d) o (put 0 (length d - 0) w u))))) 0
    → put m (length u - m) z (put (length d) (m - length d) o (put 0 (length d - 0) w u)) ≡ d ++ (ones (m - length d) ++ zeros (length u - m))
unfolding ones zeros
laid d u w o z m h l ew eo ez =
    let n = length d in
    let lw : length w ≡ n = ap length ew in
    let l₁ : length (put 0 (n - 0) w u) ≡ length u = length_put u w 0 (n - 0) (omega arith) (omega (arith, lw)) in
    let fo : o ≡ replicate (m - n) 1 = eo ∙ ap (λ (k : ℕ). replicate k 1) (length_lent (put 0 (n - 0) w u) n (m - n) (omega (arith, l₁))) in
    let lo : length o ≡ m - n = ap length fo ∙ length-replicate (m - n) 1 in
    let l₂ : length (put n (m - n) o (put 0 (n - 0) w u)) ≡ length u = length_put (put 0 (n - 0) w u) o n (m - n) (omega (arith, l₁)) lo ∙ l₁ in
    let fz : z ≡ replicate (length u - m) 0 = ez ∙ ap (λ (k : ℕ). replicate k 0) (length_lent (put n (m - n) o (put 0 (n - 0) w u)) m (length u - m) (omega (arith, l₂))) in
    put_three u w o z (n - 0) (m - n) (length u - m) n m lw (omega arith) lo (omega arith) (omega arith) ∙ rw (ew, fo, fz)

-- ---- parity bits by their number: no colour, and a colour
module _ (g d : List ℕ) (bd : Bits d) (r : ℕ) (lg : length g ≡ r) where
  pub digits_plain : digits r (bit_xor (value (parity g d)) 0) ≡ parity g d
  digits_plain =
      ap (digits r) (xor_zero_r (value (parity g d)))
      ∙ ap (λ (n : ℕ). digits n (value (parity g d))) (sym (length_parity g d bd ∙ lg))
      ∙ digits_value (parity g d) (bits_parity g d bd)

  pub digits_coloured : (c : ℕ) → c < 2 ^ r → digits r (bit_xor (value (parity g d)) c) ≡ add (parity g d) (digits r c)
  digits_coloured c h =
      let p = parity g d in
      let lp : length p ≡ r = length_parity g d bd ∙ lg in
      let lc : length (digits r c) ≡ r = length_digits r c in
      ap (λ (x : ℕ). digits r (bit_xor (value p) x)) (sym (value_digits r c h))
      ∙ ap (digits r) (sym (value_add p (digits r c) (lp ∙ sym lc) (bits_parity g d bd) (bits_digits r c)))
      ∙ ap (λ (n : ℕ). digits n (value (add p (digits r c)))) (sym (length_add p (digits r c) ∙ lc))
      ∙ digits_value (add p (digits r c)) (bits_add p (digits r c) (bits_digits r c))

-- ---- the ones are divided, and what is left takes their place
module _ (g r colour : ℕ) (d u v : List ℕ) (generates : Generates g r) (bd : Bits d) (lu : length u ≡ length d + r + 4)
    (ev : v ≡ d ++ (ones (length d + r - length d) ++ zeros (length u - (length d + r)))) where
  shape : v ≡ d ++ (ones r ++ zeros 4)
  shape =
      let n = length d in
      let a : n + r - n ≡ r = omega arith in
      let b : length u - (n + r) ≡ 4 = omega (arith, lu) in
      ev ∙ rw (a, b)

  front : take (length d + r - 0) v ≡ d ++ ones r
  front =
      let l : length (d ++ ones r) ≡ length d + r - 0 = length-append d (ones r) ∙ rw (length_ones r) (omega arith) in
      ap (take (length d + r - 0)) (shape ∙ sym (append_assoc d (ones r) (zeros 4))) ∙ take_at (d ++ ones r) (zeros 4) (length d + r - 0) l

  pub front_divisible : Generates g r × (r ≤ length (take (length d + r - 0) v)) × Bits (take (length d + r - 0) v)
  front_divisible = (
    generates,
    rw (front, length-append d (ones r), length_ones r) (omega arith),
    rw front (bits_append d (ones r) bd (bits_ones r)),
  )

  pub protected : (p : ℕ) (q : List ℕ) → p ≡ value (remainder (digits r g) (take (length d + r - 0) v))
      → q ≡ digits (length (take (length d + r - length d) (drop (length d) v))) (bit_xor p colour)
      → put (length d) (length d + r - length d) q v ≡ laid_out g r colour d
  unfolding parity
  protected p q ep eq =
      let n = length d in
      let a : n + r - n ≡ r = omega arith in
      let lv : length v ≡ n + (r + 4) = ap length shape ∙ rw (length-append d (ones r ++ zeros 4), length-append (ones r) (zeros 4), length_ones r, length_zeros 4) in
      let fp : p ≡ value (remainder (digits r g) (d ++ ones (length (digits r g)))) =
      ep ∙ ap (λ (w : List ℕ). value (remainder (digits r g) w)) (front ∙ ap (λ (k : ℕ). d ++ ones k) (sym (length_digits r g))) in
      let fq : q ≡ digits r (bit_xor p colour) = eq ∙ ap (λ (k : ℕ). digits k (bit_xor p colour)) (length_lent v n (n + r - n) (omega (arith, lv)) ∙ a) in
      ap (put n (n + r - n) q) shape
      ∙ put_middle d (ones r) (zeros 4) q n (n + r - n) refl (length_ones r ∙ sym a)
      ∙ ap (λ (l : List ℕ). d ++ (l ++ zeros 4)) (fq ∙ ap (λ (x : ℕ). digits r (bit_xor x colour)) fp)

-- ---- u is bits, and as long as it should be; it stands at the front of what holds it
module _ (g r colour : ℕ) (d : List ℕ) (bd : Bits d) where
  abbrev u : List ℕ
  u = laid_out g r colour d

  abbrev size : ℕ
  size = length d + r + 4

  bits_u : Bits u
  bits_u =
      let x = bit_xor (value (parity (digits r g) d)) colour in
      bits_append d (digits r x ++ zeros 4) bd (bits_append (digits r x) (zeros 4) (bits_digits r x) (bits_zeros 4))

  length_u : length u ≡ size
  length_u =
      let x = bit_xor (value (parity (digits r g) d)) colour in
      rw (length-append d (digits r x ++ zeros 4), length-append (digits r x) (zeros 4), length_digits r x, length_zeros 4) (omega arith)

  module _ (v w : List ℕ) (ew : w ≡ u) where
    long_w : length w ≡ size - 0
    long_w = ap length ew ∙ length_u ∙ omega arith

    pub laid_front : take (size - 0) (put 0 (size - 0) w v) ≡ u
    laid_front = take_at w (drop (size - 0) v) (size - 0) long_w ∙ ew

    pub laid_long : size ≤ length v → size ≤ length (put 0 (size - 0) w v)
    laid_long h = rw (length_put v w 0 (size - 0) (omega arith) long_w) h

    pub coded_asked : (c : List ℕ) → length c ≡ 2 * size → Bits (take (size - 0) (put 0 (size - 0) w v)) × (length c ≡ 2 * length (take (size - 0) (put 0 (size - 0) w v)))
    coded_asked c lc = (rw laid_front bits_u, lc ∙ ap (λ (n : ℕ). 2 * n) (sym (ap length laid_front ∙ length_u)))
