-- The pairs by their formulas, which the coding loop needs, and by the register's state, which the search needs.
use Rattle.std.specs.Prelude.{Bool, true, false, List, ◌≡◌, ℕ, suc, ◌+◌, ◌-◌, ◌*◌, ◌/◌, ◌%◌, ◌≤◌, ◌<◌, eqb, length, get_or}
use Rattle.std.proofs.Common.{⊎_elim, sym, ap, ◌∙◌, arith, lt-ltb, le-ltb}
use Rattle.std.specs.Int.Bits.{bit_xor}
use Rattle.bits.specs.Bits.{Bits, pick}
use Rattle.bits.proofs.laws.Cases.{lt_or_le}
use Rattle.bits.proofs.laws.Tab.{length_tab, bits_tab, even_place, odd_place}
use Rattle.bits.proofs.laws.Value.{xor_bits}
use Rattle.convolution.specs.Pairs.{back, first, second, coded_at, coded, state_at, pair_of}

-- ---- what stands j places back
pub back_early : (u : List ℕ) (k j : ℕ) → k < j → back u k j ≡ 0
unfolding back
back_early u k j h = rw (lt-ltb k j h)

pub back_late : (u : List ℕ) (k j : ℕ) → j ≤ k → back u k j ≡ get_or u (k - j) 0
unfolding back
back_late u k j h = rw (le-ltb k j h)

pub back_now : (u : List ℕ) (k : ℕ) → back u k 0 ≡ get_or u k 0
back_now u k = let e : k - 0 ≡ k = omega arith in back_late u k 0 (omega arith) ∙ ap (λ (i : ℕ). get_or u i 0) e

-- one bit on, everything stands one place further back
pub back_next : (u : List ℕ) (k j : ℕ) → back u (k + 1) (suc j) ≡ back u k j
back_next u k j =
    ⊎_elim (λ (h : k < j). back_early u (k + 1) (suc j) (omega arith) ∙ sym (back_early u k j h))
    (λ (h : j ≤ k). let e : k + 1 - suc j ≡ k - j = omega arith in
    back_late u (k + 1) (suc j) (omega arith) ∙ ap (λ (i : ℕ). get_or u i 0) e ∙ sym (back_late u k j h))
    (lt_or_le k j)

pub back_bit : (u : List ℕ) → Bits u → (k j : ℕ) → back u k j ≤ 1
back_bit u bu k j =
    ⊎_elim (λ (h : k < j). rw (back_early u k j h) (omega arith))
    (λ (h : j ≤ k). rw (back_late u k j h) (bu (k - j)))
    (lt_or_le k j)

pub length_coded : (u : List ℕ) → length (coded u) ≡ 2 * length u
unfolding coded
length_coded u = length_tab (2 * length u) (coded_at u)

-- ---- 01's two formulas, by the index
pub coded_even : (u : List ℕ) (k : ℕ) → coded_at u (2 * k) ≡ first u k
unfolding coded_at
coded_even u k = even_place (first u) (second u) k

pub coded_odd : (u : List ℕ) (k : ℕ) → coded_at u (2 * k + 1) ≡ second u k
unfolding coded_at
coded_odd u k = odd_place (first u) (second u) k

first_lt : (u : List ℕ) (k : ℕ) → first u k < 2
unfolding first
first_lt u k = omega arith

second_lt : (u : List ℕ) (k : ℕ) → second u k < 2
unfolding second
second_lt u k = omega arith

pub coded_at_bit : (u : List ℕ) (i : ℕ) → coded_at u i ≤ 1
unfolding coded_at
coded_at_bit u i = either (eqb (i % 2) 0)
  where
    either : (t : Bool) → pick t (first u (i / 2)) (second u (i / 2)) ≤ 1
    either true = omega (arith, first_lt u (i / 2))
    either false = omega (arith, second_lt u (i / 2))

pub bits_coded : (u : List ℕ) → Bits (coded u)
unfolding coded
bits_coded u = bits_tab (2 * length u) (coded_at u) (coded_at_bit u)

-- ---- a sum modulo 2 is made bit by bit
sum_xor : (a b c : ℕ) → a ≤ 1 → b ≤ 1 → c ≤ 1 → bit_xor (bit_xor a b) c ≡ (a + b + c) % 2
sum_xor a b c la lb lc =
    let m : (a + b) % 2 ≤ 1 = omega arith in
    let e : ((a + b) % 2 + c) % 2 ≡ (a + b + c) % 2 = omega arith in
    ap (λ (x : ℕ). bit_xor x c) (xor_bits a b la lb) ∙ xor_bits ((a + b) % 2) c m lc ∙ e

pub first_xor : (u : List ℕ) → Bits u → (k : ℕ) → bit_xor (bit_xor (back u k 0) (back u k 3)) (back u k 4) ≡ first u k
unfolding first
first_xor u bu k = sum_xor (back u k 0) (back u k 3) (back u k 4) (back_bit u bu k 0) (back_bit u bu k 3) (back_bit u bu k 4)

pub second_xor : (u : List ℕ) → Bits u → (k : ℕ) → bit_xor (first u k) (back u k 1) ≡ second u k
unfolding first second
second_xor u bu k =
    let a = back u k 0 in
    let b = back u k 3 in
    let c = back u k 4 in
    let d = back u k 1 in
    let m : (a + b + c) % 2 ≤ 1 = omega arith in
    let e : ((a + b + c) % 2 + d) % 2 ≡ (a + d + b + c) % 2 = omega arith in
    xor_bits ((a + b + c) % 2) d m (back_bit u bu k 1) ∙ e

-- ---- the state
pub state_start : (u : List ℕ) → state_at u 0 ≡ 0
unfolding state_at
state_start u = rw (back_early u 0 1 (omega arith), back_early u 0 2 (omega arith), back_early u 0 3 (omega arith), back_early u 0 4 (omega arith))

module _ (u : List ℕ) (bu : Bits u) (k : ℕ) where
  pub state_next : state_at u (k + 1) ≡ 8 * get_or u k 0 + state_at u k / 2
  unfolding state_at
  state_next =
      rw (back_next u k 0, back_next u k 1, back_next u k 2, back_next u k 3, back_now u k)
      (omega (arith, back_bit u bu k 4))

  eighths : state_at u k / 8 ≡ back u k 1
  unfolding state_at
  eighths = omega (arith, back_bit u bu k 1, back_bit u bu k 2, back_bit u bu k 3, back_bit u bu k 4)

  halves : state_at u k / 2 % 2 ≡ back u k 3
  unfolding state_at
  halves = omega (arith, back_bit u bu k 1, back_bit u bu k 2, back_bit u bu k 3, back_bit u bu k 4)

  ones : state_at u k % 2 ≡ back u k 4
  unfolding state_at
  ones = omega (arith, back_bit u bu k 4)

  -- ---- the pair
  pair_is : pair_of (state_at u k) (get_or u k 0) ≡ 2 * first u k + second u k
  unfolding pair_of first second
  pair_is = rw (eighths, halves, ones, back_now u k)

  pub pair_first : (p : ℕ) → p ≡ pair_of (state_at u k) (get_or u k 0) → p / 2 ≡ coded_at u (2 * k)
  pair_first p e = rw (e, pair_is, coded_even u k) (omega (arith, second_lt u k))

  pub pair_second : (p : ℕ) → p ≡ pair_of (state_at u k) (get_or u k 0) → p % 2 ≡ coded_at u (2 * k + 1)
  pair_second p e = rw (e, pair_is, coded_odd u k) (omega (arith, second_lt u k))
