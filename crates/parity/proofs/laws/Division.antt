-- Division is linear, once over the generator and the length; so exactly one list of parity bits leaves all ones, and exactly one leaves 0.
use Rattle.std.specs.Prelude.{List, [], ◌∷◌, ◌++◌, ◌≡◌, refl, ℕ, zero, suc, ◌-◌, ◌≤◌, length}
use Rattle.std.proofs.Math.Path.{sym, ap}
use Rattle.std.proofs.Common.{ap₂, ◌∙◌, subst, arith, length-append}
use Rattle.bits.specs.Bits.{Bits, sum, add, zeros, ones}
use Rattle.bits.proofs.laws.Sum.{add_swap, add_assoc, add_cancel, add_zeros, add_twice, add_self, sum_nothing, length_add, length_zeros, length_ones, bits_add, bits_zeros, bits_ones, bits_append}
use Rattle.parity.specs.Division.{divide, remainder, parity, crc}

tail : (a : ℕ) (w : List ℕ) → Bits (a ∷ w) → Bits w
tail a w bw k = bw (suc k)

-- ---- linear
pub divide_add : (g : List ℕ) (n : ℕ) (v w : List ℕ) → length v ≡ length w → Bits v → Bits w → divide g n (add v w) ≡ add (divide g n v) (divide g n w)
unfolding divide add
divide_add g zero v w e bv bw = refl
divide_add g (suc n) [] [] e bv bw = refl
divide_add g (suc n) [] (b ∷ w) e bv bw = let z : ⊥ = omega (arith, e) in absurd z
divide_add g (suc n) (a ∷ v) [] e bv bw = let z : ⊥ = omega (arith, e) in absurd z
divide_add g (suc n) (zero ∷ v) (zero ∷ w) e bv bw = divide_add g n v w (omega (arith, e)) (tail 0 v bv) (tail 0 w bw)
divide_add g (suc n) (zero ∷ v) (suc zero ∷ w) e bv bw =
    let l : length v ≡ length w = omega (arith, e) in
    ap (divide g n) (add_swap g v w) ∙ divide_add g n v (add g w) (l ∙ sym (length_add g w)) (tail 0 v bv) (bits_add g w (tail 1 w bw))
divide_add g (suc n) (suc zero ∷ v) (zero ∷ w) e bv bw =
    let l : length v ≡ length w = omega (arith, e) in
    ap (divide g n) (add_assoc g v w l) ∙ divide_add g n (add g v) w (length_add g v ∙ l) (bits_add g v (tail 1 v bv)) (tail 0 w bw)
divide_add g (suc n) (suc zero ∷ v) (suc zero ∷ w) e bv bw =
    let l : length v ≡ length w = omega (arith, e) in
    ap (divide g n) (sym (add_cancel g v w l (tail 1 w bw)))
    ∙ divide_add g n (add g v) (add g w) (length_add g v ∙ l ∙ sym (length_add g w)) (bits_add g v (tail 1 v bv)) (bits_add g w (tail 1 w bw))
divide_add g (suc n) (zero ∷ v) (suc (suc b) ∷ w) e bv bw = let h : suc (suc b) ≤ 1 = bw 0 in let z : ⊥ = omega arith in absurd z
divide_add g (suc n) (suc zero ∷ v) (suc (suc b) ∷ w) e bv bw = let h : suc (suc b) ≤ 1 = bw 0 in let z : ⊥ = omega arith in absurd z
divide_add g (suc n) (suc (suc a) ∷ v) (b ∷ w) e bv bw = let h : suc (suc a) ≤ 1 = bv 0 in let z : ⊥ = omega arith in absurd z

-- leading zeros are struck out and leave no trace
divide_zeros : (g : List ℕ) (n : ℕ) (p : List ℕ) → divide g n (zeros n ++ p) ≡ p
unfolding divide zeros
divide_zeros g zero p = refl
divide_zeros g (suc n) p = divide_zeros g n p

join : (n : ℕ) (d p : List ℕ) → Bits d → Bits p → d ++ p ≡ add (d ++ zeros n) (zeros (length d) ++ p)
unfolding add zeros
join n [] p bd bp = sym (add_zeros n p bp)
join n (a ∷ d) p bd bp =
    let h : a ≤ 1 = bd 0 in
    let e : a ≡ sum a 0 = omega arith in
    ap₂ (λ (x : ℕ) (l : List ℕ). x ∷ l) e (join n d p (tail a d bd) bp)

-- ---- what stands after d, as long as the generator, is added to the remainder
pub remainder_after : (g d p : List ℕ) → length p ≡ length g → Bits d → Bits p → remainder g (d ++ p) ≡ add (remainder g (d ++ zeros (length g))) p
unfolding remainder
remainder_after g d p long bd bp =
    let n = length g in
    let struck : length (d ++ p) - n ≡ length d = rw (length-append d p) (omega (arith, long)) in
    let struck₀ : length (d ++ zeros n) - n ≡ length d = rw (length-append d (zeros n), length_zeros n) (omega arith) in
    let same : length (d ++ zeros n) ≡ length (zeros (length d) ++ p) = rw (length-append d (zeros n), length-append (zeros (length d)) p, length_zeros n, length_zeros (length d)) (omega (arith, long)) in
    rw (struck, struck₀)
    (ap (divide g (length d)) (join n d p bd bp)
    ∙ divide_add g (length d) (d ++ zeros n) (zeros (length d) ++ p) same (bits_append d (zeros n) bd (bits_zeros n)) (bits_append (zeros (length d)) p (bits_zeros (length d)) bp)
    ∙ ap (λ (l : List ℕ). add (divide g (length d) (d ++ zeros n)) l) (divide_zeros g (length d) p))

-- ---- exactly one list of parity bits leaves all ones
module _ (g d : List ℕ) (bd : Bits d) where
  pub parity_turned : parity g d ≡ add (remainder g (d ++ zeros (length g))) (ones (length g))
  unfolding parity
  parity_turned = remainder_after g d (ones (length g)) (length_ones (length g)) bd (bits_ones (length g))

  pub length_parity : length (parity g d) ≡ length g
  length_parity = ap length parity_turned ∙ length_add (remainder g (d ++ zeros (length g))) (ones (length g)) ∙ length_ones (length g)

  pub bits_parity : Bits (parity g d)
  bits_parity = rw parity_turned (bits_add (remainder g (d ++ zeros (length g))) (ones (length g)) (bits_ones (length g)))

  pub parity_leaves : remainder g (d ++ parity g d) ≡ ones (length g)
  parity_leaves =
      let x = remainder g (d ++ zeros (length g)) in
      remainder_after g d (parity g d) length_parity bd bits_parity ∙ ap (λ (l : List ℕ). add x l) parity_turned ∙ add_twice x (ones (length g)) (bits_ones (length g))

  pub parity_only : (p : List ℕ) → length p ≡ length g → Bits p → remainder g (d ++ p) ≡ ones (length g) → p ≡ parity g d
  parity_only p long bp e =
      let x = remainder g (d ++ zeros (length g)) in
      sym (add_twice x p bp) ∙ ap (λ (l : List ℕ). add x l) (sym (remainder_after g d p long bd bp) ∙ e) ∙ sym parity_turned

-- ---- 02, M-103: exactly one list of bits leaves 0. An example over D^3 + D + 1: of a single 1 and its CRC
one_and_its_crc : remainder (0 ∷ 1 ∷ 1 ∷ []) (1 ∷ crc (0 ∷ 1 ∷ 1 ∷ []) (1 ∷ [])) ≡ 0 ∷ 0 ∷ 0 ∷ []
unfolding crc remainder divide add zeros ones
one_and_its_crc = refl

module _ (g b : List ℕ) (bb : Bits b) where
  and_zeros : crc g b ≡ add (crc g b) (zeros (length g))
  unfolding crc
  and_zeros = remainder_after g b (zeros (length g)) (length_zeros (length g)) bb (bits_zeros (length g))

  pub length_crc : length (crc g b) ≡ length g
  length_crc = ap length and_zeros ∙ length_add (crc g b) (zeros (length g)) ∙ length_zeros (length g)

  pub bits_crc : Bits (crc g b)
  bits_crc = subst Bits (sym and_zeros) (bits_add (crc g b) (zeros (length g)) (bits_zeros (length g)))

  pub crc_leaves : remainder g (b ++ crc g b) ≡ zeros (length g)
  unfolding crc
  crc_leaves = remainder_after g b (crc g b) length_crc bb bits_crc ∙ add_self (crc g b) bits_crc ∙ ap zeros length_crc

  pub crc_only : (p : List ℕ) → length p ≡ length g → Bits p → remainder g (b ++ p) ≡ zeros (length g) → p ≡ crc g b
  unfolding crc
  crc_only p long bp e = sym (sum_nothing (length g) (crc g b) p length_crc bits_crc bp (sym (remainder_after g b p long bb bp) ∙ e))
