-- What the receiving side of `coder::speech` needs: what the verdict divides, and the two parts that are handed over.
use Rattle.std.specs.Prelude.{Bool, true, false, ◌≡◌, refl, ℕ, ◌+◌, ◌-◌, ◌*◌, ◌/◌, ◌%◌, ◌≤◌, get_or, drop}
use mathlib.Core.List.{List, ◌++◌}
use Rattle.std.proofs.Common.{sym, ◌∙◌, subst, arith, lit<, lit≤, length-append, length-drop, length-take-le, take_all, take_at}
use Rattle.std.proofs.Math.Path.{ap, ap₂}
use Rattle.std.specs.Int.Bits.{bit_xor, xor_zero_r}
use Rattle.std.proofs.Math.Dec.{eqb}
use Rattle.std.proofs.Math.ListN.{length, take}
use Rattle.bits.specs.Bits.{Bits, given_bits, pick, tab, digits, value, ones}
use Rattle.bits.proofs.laws.Parts.{put, put_two}
use Rattle.bits.proofs.laws.Sum.{bits_append, bits_take, bits_drop}
use Rattle.bits.proofs.laws.Tab.{length_tab, bits_tab, even_place, odd_place}
use Rattle.bits.proofs.laws.Value.{length_digits}
use Rattle.parity.specs.Asked.{Generates}
use Rattle.parity.specs.Division.{remainder, speech_g}
use Rattle.parity.proofs.laws.Generators.{speech_number}
use Rattle.trellis.specs.Nearest.{Candidate, nearest, nearest_count}
use Rattle.trellis.proofs.laws.Nearest.{nearest_is}
use Rattle.coder.specs.Received.{all_ones, speech_d_at, speech_heard}
use Rattle.coder.proofs.laws.Heard.{value_ones}

-- ---- d by twos: d(2k) = u(k) and d(2k+1) = u(184-k)
pub d_even : (u : List ℕ) (k : ℕ) → speech_d_at u (2 * k) ≡ get_or u k 0
unfolding speech_d_at
d_even u k = even_place (λ i. get_or u i 0) (λ i. get_or u (184 - i) 0) k

pub d_odd : (u : List ℕ) (k : ℕ) → speech_d_at u (2 * k + 1) ≡ get_or u (184 - k) 0
unfolding speech_d_at
d_odd u k = odd_place (λ i. get_or u i 0) (λ i. get_or u (184 - i) 0) k

either : (b : Bool) (x y : ℕ) → x ≤ 1 → y ≤ 1 → pick b x y ≤ 1
either true x y h l = h
either false x y h l = l

pub bits_d : (u : List ℕ) → Bits u → Bits (tab 182 (speech_d_at u))
unfolding speech_d_at
bits_d u bu = bits_tab 182 (speech_d_at u) (λ j. either (eqb (j % 2) 0) (get_or u (j / 2) 0) (get_or u (184 - j / 2) 0) (bu (j / 2)) (bu (184 - j / 2)))

-- ---- 50 bits and 3
pub laid_check : (d u e x y : List ℕ) → length d ≡ 182 → length e ≡ 53 → x ≡ take 50 d → y ≡ take 3 (drop 91 u) → put 50 3 y (put 0 50 x e) ≡ take 50 d ++ take 3 (drop 91 u)
laid_check d u e x y ld le ex ey =
    put_two e x y 50 3 50 (ap length ex ∙ length-take-le 50 d (omega (arith, ld))) refl le ∙ ap₂ (λ (a b : List ℕ). a ++ b) ex ey

module _ (d u w : List ℕ) (bd : Bits d) (bu : Bits u) (ld : length d ≡ 182) (lu : length u ≡ 189) (ew : w ≡ take 50 d ++ take 3 (drop 91 u)) where
  pub check_divisible : Generates 0b011 3 × (3 ≤ length w) × Bits w
  check_divisible =
      let a : length (take 50 d) ≡ 50 = length-take-le 50 d (omega (arith, ld)) in
      let l : length w ≡ length (take 50 d) + length (take 3 (drop 91 u)) = ap length ew ∙ length-append (take 50 d) (take 3 (drop 91 u)) in (
        record { some = lit< tt; narrow = lit≤ tt; below = lit< tt },
        omega (arith, l, a),
        subst Bits (sym ew) (bits_append (take 50 d) (take 3 (drop 91 u)) (bits_take 50 d bd) (bits_take 3 (drop 91 u) (bits_drop 91 u bu))),
      )

  pub check_is : (t : Bool) → t ≡ eqb (bit_xor (value (remainder (digits 3 0b011) w)) 0) 7 → t ≡ all_ones speech_g (take 50 d ++ take 3 (drop 91 u))
  unfolding all_ones
  check_is t e =
      let long : length speech_g ≡ 3 = ap length (sym speech_number) ∙ length_digits 3 0b011 in
      let seven : value (ones (length speech_g)) ≡ 7 = ap (λ (k : ℕ). value (ones k)) long ∙ value_ones 3 in
      e ∙ ap₂ eqb
      (xor_zero_r (value (remainder (digits 3 0b011) w)) ∙ ap₂ (λ (g v : List ℕ). value (remainder g v)) speech_number ew)
      (sym seven)

-- ---- 182 bits and 78
pub laid_speech : (f c e x y : List ℕ) → length f ≡ 182 → length c ≡ 456 → length e ≡ 260 → x ≡ f → y ≡ given_bits (take 78 (drop 378 c)) → put 182 78 y (put 0 182 x e) ≡ f ++ given_bits (drop 378 c)
laid_speech f c e x y lf lc le ex ey =
    let all : take 78 (drop 378 c) ≡ drop 378 c = take_all 78 (drop 378 c) (simp length-drop (omega (arith, lc))) in
    put_two e x y 182 78 182 (ap length ex ∙ lf) refl le ∙ ap₂ (λ (a b : List ℕ). a ++ b) ex (ey ∙ ap given_bits all)

-- ---- the nearest block, which stands at the front of x; its protected bits f; the verdict
module _ (c rest x v f : List ℕ) (lc : length c ≡ 456) (ex : x ≡ nearest (take 378 c) 189 ++ rest) (cut : v ≡ take 189 x) (ef : f ≡ tab 182 (speech_d_at v)) where
  candidate : Candidate 189 (nearest (take 378 c) 189)
  candidate = (nearest_is (take 378 c) 189 (lit≤ tt) (lit≤ tt)).candidate

  ev : v ≡ nearest (take 378 c) 189
  ev = cut ∙ ap (take 189) ex ∙ take_at (nearest (take 378 c) 189) rest 189 candidate.long

  pub bits_v : Bits v
  bits_v = subst Bits (sym ev) candidate.bits

  pub long_v : length v ≡ 189
  long_v = ap length ev ∙ candidate.long

  pub bits_f : Bits f
  bits_f = subst Bits (sym ef) (bits_d v bits_v)

  pub long_f : length f ≡ 182
  long_f = ap length ef ∙ length_tab 182 (speech_d_at v)

  firsts : f ≡ tab 182 (speech_d_at (nearest (take 378 c) 189))
  firsts = ef ∙ ap (λ (x : List ℕ). tab 182 (speech_d_at x)) ev

  pub speech_is : (t : Bool) → t ≡ all_ones speech_g (take 50 f ++ take 3 (drop 91 v)) → t ≡ (speech_heard c).good
  unfolding speech_heard
  speech_is t e = e ∙ ap₂ (λ (x y : List ℕ). all_ones speech_g (take 50 x ++ take 3 (drop 91 y))) firsts ev

  pub count_is : (k : ℕ) → k ≡ nearest_count (take 378 c) 189 → k ≡ (speech_heard c).count
  unfolding speech_heard
  count_is k e = e

  pub bits_are : (after : List ℕ) → after ≡ f ++ given_bits (drop 378 c) → after ≡ (speech_heard c).bits
  unfolding speech_heard
  bits_are after e = e ∙ ap (λ (x : List ℕ). x ++ given_bits (drop 378 c)) firsts
