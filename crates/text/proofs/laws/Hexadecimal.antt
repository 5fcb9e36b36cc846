-- Hexadecimal digits place by place, as the loops go through them; and octets come back from their digits.
use Rattle.std.specs.Prelude.{true, false, List, [], ◌∷◌, ◌≡◌, ℕ, zero, suc, ◌+◌, ◌*◌, ◌/◌, ◌%◌, ◌≤◌, ◌<◌, leb, length, get_or}
use Rattle.std.proofs.Math.Path.{refl}
use Rattle.std.proofs.Common.{ap₂, le_of_suc-le-suc, not-suc-le-zero, arith}
use borrow.Author.Tests.{leb-true, le-leb, eqb-true, eq-eqb}
use Rattle.std.proofs.Math.Dec.{eqb}
use Rattle.bits.specs.Bits.{NoneOver}
use Rattle.bits.proofs.laws.Cases.{both_first, both_second, not_true}
use Rattle.bits.proofs.laws.Tab.{all_at}
use Rattle.std.specs.List.{list_all}
use Rattle.text.proofs.laws.Same.{and_both}
use Rattle.text.specs.Text.{digit_of}
use Rattle.text.specs.Hexadecimal.{hex_character, hex_of, hex_digit, all_digits, is_hex, octets_of}

-- ---- two characters an octet
next : (i : ℕ) → 2 * suc i ≡ suc (suc (2 * i))
next i = omega arith

next_low : (i : ℕ) → 2 * suc i + 1 ≡ suc (suc (2 * i + 1))
next_low i = omega arith

pub length_hex : (x : List ℕ) → length (hex_of x) ≡ 2 * length x
unfolding hex_of
length_hex [] = refl
length_hex (b ∷ x) = omega (arith, length_hex x)

pub hex_at : (x : List ℕ) (i : ℕ) → i < length x
    → (get_or (hex_of x) (2 * i) 0 ≡ hex_character (get_or x i 0 / 16)) × (get_or (hex_of x) (2 * i + 1) 0 ≡ hex_character (get_or x i 0 % 16))
unfolding hex_of
hex_at [] i l = absurd (not-suc-le-zero l)
hex_at (b ∷ x) zero l = (refl, refl)
hex_at (b ∷ x) (suc i) l = rw (next_low i, next i) (hex_at x i (le_of_suc-le-suc l))

-- ---- digits, and how many
each_digit : (w : List ℕ) → all_digits w ≡ true → (k : ℕ) → k < length w → hex_digit (get_or w k 0) ≤ 15
unfolding all_digits
each_digit [] t k l = absurd (not-suc-le-zero l)
each_digit (c ∷ w) t zero l = leb-true (hex_digit c) 15 (both_first (leb (hex_digit c) 15) (all_digits w) t)
each_digit (c ∷ w) t (suc k) l = each_digit w (both_second (leb (hex_digit c) 15) (all_digits w) t) k (le_of_suc-le-suc l)

all_digits_lem : (w : List ℕ) → ((k : ℕ) → k < length w → hex_digit (get_or w k 0) ≤ 15) → all_digits w ≡ true
unfolding all_digits
all_digits_lem [] each = refl
all_digits_lem (c ∷ w) each = rw (le-leb (hex_digit c) 15 (each 0 (omega arith))) (all_digits_lem w (λ k l. each (suc k) (omega (arith, l))))

-- `all` of the digits is `all_digits`
pub all_pass : (w : List ℕ) → list_all (λ c. leb (hex_digit c) 15) w ≡ all_digits w
unfolding all_digits
all_pass [] = refl
all_pass (c ∷ w) = and_both (leb (hex_digit c) 15) (all_pass w)

module _ (w : List ℕ) where
  pub hex_even : is_hex w ≡ true → length w % 2 ≡ 0
  unfolding is_hex
  hex_even t = eqb-true (length w % 2) 0 (both_first (eqb (length w % 2) 0) (all_digits w) t)

  pub hex_each : is_hex w ≡ true → (k : ℕ) → k < length w → hex_digit (get_or w k 0) ≤ 15
  unfolding is_hex
  hex_each t = each_digit w (both_second (eqb (length w % 2) 0) (all_digits w) t)

  pub is_hex_lem : length w % 2 ≡ 0 → ((k : ℕ) → k < length w → hex_digit (get_or w k 0) ≤ 15) → is_hex w ≡ true
  unfolding is_hex
  is_hex_lem e each = rw (eq-eqb (length w % 2) 0 e) (all_digits_lem w each)

  pub not_hex : (is_hex w ≡ true → ⊥) → is_hex w ≡ false
  not_hex = not_true (is_hex w)

-- ---- an octet of every two characters
pub length_octets : (w : List ℕ) → length (octets_of w) ≡ length w / 2
unfolding octets_of
length_octets [] = refl
length_octets (a ∷ []) = refl
length_octets (a ∷ b ∷ w) = omega (arith, length_octets w)

pub octet_at : (w : List ℕ) (i : ℕ) → i < length w / 2 → get_or (octets_of w) i 0 ≡ 16 * hex_digit (get_or w (2 * i) 0) + hex_digit (get_or w (2 * i + 1) 0)
unfolding octets_of
octet_at [] i l = absurd (not-suc-le-zero l)
octet_at (a ∷ []) i l = absurd (not-suc-le-zero l)
octet_at (a ∷ b ∷ w) zero l = refl
octet_at (a ∷ b ∷ w) (suc i) l = rw (next_low i, next i) (octet_at w i (omega arith))

-- ---- there and back
module _ (v : ℕ) (small : v < 16) where
  digit_back : hex_digit (hex_character v) ≡ v
  unfolding hex_digit hex_character digit_of
  digit_back = eqb-true (hex_digit (hex_character v)) v (all_at (λ v. eqb (hex_digit (hex_character v)) v) 16 refl v small)

  is_digit : leb (hex_digit (hex_character v)) 15 ≡ true
  is_digit = le-leb (hex_digit (hex_character v)) 15 (omega (arith, digit_back))

digits_back : (x : List ℕ) → NoneOver 255 x → all_digits (hex_of x) ≡ true
unfolding hex_of all_digits
digits_back [] small = refl
digits_back (b ∷ x) small =
    let fits : b ≤ 255 = small 0 in
    rw (is_digit (b / 16) (omega arith), is_digit (b % 16) (omega arith)) (digits_back x (λ k. small (suc k)))

same_octets : (x : List ℕ) → NoneOver 255 x → octets_of (hex_of x) ≡ x
unfolding hex_of octets_of
same_octets [] small = refl
same_octets (b ∷ x) small =
    let fits : b ≤ 255 = small 0 in
    ap₂ (λ (v : ℕ) (w : List ℕ). v ∷ w) (omega (arith, digit_back (b / 16) (omega arith), digit_back (b % 16) (omega arith))) (same_octets x (λ k. small (suc k)))

-- what is put is read as it was
pub octets_back : (x : List ℕ) → NoneOver 255 x → (is_hex (hex_of x) ≡ true) × (octets_of (hex_of x) ≡ x)
unfolding is_hex
octets_back x small = (rw (eq-eqb (length (hex_of x) % 2) 0 (omega (arith, length_hex x))) (digits_back x small), same_octets x small)
