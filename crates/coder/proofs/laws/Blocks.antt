-- What `coder::block::code` writes is the burst of each channel; and how long the generators and the blocks are.
use mathlib.Core.List.{List, ◌++◌}
use Rattle.std.specs.Prelude.{◌≡◌, ℕ, ◌*◌, ◌<◌, ◌≤◌, ◌^◌, length, take, drop}
use Rattle.std.proofs.Common.{sym, ◌∙◌, length-append, length-drop, take_at}
use Rattle.std.proofs.Math.Path.{ap}
use native.Mathlib.Omega.{arith}
use Rattle.bits.specs.Bits.{Bits, add, digits, zeros}
use Rattle.bits.proofs.laws.Sum.{length_zeros}
use Rattle.bits.proofs.laws.Value.{length_digits}
use Rattle.parity.specs.Division.{parity, control_g, access_g, sch_g}
use Rattle.parity.proofs.laws.Division.{length_parity}
use Rattle.parity.proofs.laws.Generators.{control_long, access_number, sch_number}
use Rattle.convolution.specs.Pairs.{coded}
use Rattle.convolution.proofs.laws.Pairs.{length_coded}
use Rattle.coder.specs.Blocks.{control_u, control_block, colour, access_u, access_burst, sch_u, sch_burst, speech_u, speech_block}
use Rattle.coder.proofs.laws.Speech.{length_u}
use Rattle.coder.specs.laws.Format.{laid_out}
use Rattle.coder.proofs.laws.Protected.{digits_plain, digits_coloured}

module _ (d : List ℕ) (bd : Bits d) where
  pub sch_is : (c : List ℕ) → c ≡ coded (laid_out 0b0101110101 10 0 d) → c ≡ sch_burst d
  unfolding sch_burst sch_u
  sch_is c e =
      e ∙ ap (λ (p : List ℕ). coded (d ++ (p ++ zeros 4)))
      (digits_plain (digits 10 0b0101110101) d bd 10 (length_digits 10 0b0101110101) ∙ ap (λ (g : List ℕ). parity g d) sch_number)

  pub access_is : (i : ℕ) → i ≤ 63 → (c : List ℕ) → c ≡ coded (laid_out 0b101111 6 i d) → c ≡ access_burst i d
  unfolding access_burst access_u colour
  access_is i h c e =
      let l : i < 2 ^ 6 = omega arith in
      e ∙ ap (λ (p : List ℕ). coded (d ++ (p ++ zeros 4)))
      (digits_coloured (digits 6 0b101111) d bd 6 (length_digits 6 0b101111) i l
      ∙ ap (λ (g : List ℕ). add (parity g d) (digits 6 i)) access_number)

-- ---- the generators' degrees
pub sch_long : length sch_g ≡ 10
sch_long = ap length (sym sch_number) ∙ length_digits 10 0b0101110101

pub access_long : length access_g ≡ 6
access_long = ap length (sym access_number) ∙ length_digits 6 0b101111

-- ---- the blocks that a stream sends
pub control_size : (d : List ℕ) → length d ≡ 184 → Bits d → length (control_block d) ≡ 456
unfolding control_block control_u
control_size d ld bd =
    let p : List ℕ = parity control_g d in
    let l : length (d ++ (p ++ zeros 4)) ≡ 228 =
    rw (length-append d (p ++ zeros 4), length-append p (zeros 4), length_parity control_g d bd, control_long, length_zeros 4, ld) in
    length_coded (d ++ (p ++ zeros 4)) ∙ ap (λ (k : ℕ). 2 * k) l

-- the protected bits of a speech block are the pairs of u
pub speech_pairs : (d : List ℕ) → length d ≡ 260 → Bits d → take 378 (speech_block d) ≡ coded (speech_u d)
unfolding speech_block
speech_pairs d ld bd =
    let pairs : length (coded (speech_u d)) ≡ 378 = length_coded (speech_u d) ∙ ap (λ (k : ℕ). 2 * k) (length_u d bd ld) in
    take_at (coded (speech_u d)) (drop 182 d) 378 pairs

pub speech_size : (d : List ℕ) → length d ≡ 260 → Bits d → length (speech_block d) ≡ 456
unfolding speech_block
speech_size d ld bd =
    let pairs : length (coded (speech_u d)) ≡ 378 = length_coded (speech_u d) ∙ ap (λ (k : ℕ). 2 * k) (length_u d bd ld) in
    let rest : length (drop 182 d) ≡ 78 = length-drop 182 d ∙ omega (arith, ld) in
    length-append (coded (speech_u d)) (drop 182 d) ∙ omega (arith, pairs, rest)
