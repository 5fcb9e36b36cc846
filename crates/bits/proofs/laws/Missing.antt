-- What is received and what is missing of it.
use Rattle.std.specs.Prelude.{Bool, true, false, List, ◌≡◌, ℕ, zero, suc, ◌+◌, ◌-◌, ◌%◌, ◌≤◌, ◌<◌, eqb, length, get_or, take, drop}
use Rattle.std.proofs.Common.{⊎_elim, ap, subst, ◌∙◌, arith, length-drop, get_or-take, get_or-drop, length-take-le, take_all, eq-eqb, ne_eqb, eqb-true}
use Rattle.std.proofs.Math.Path.{refl, sym}
use Rattle.std.proofs.Math.ListN.{get_or-eq_default}
use Rattle.std.proofs.lemmas.Bool.{eqb-false}
use Rattle.bits.specs.Bits.{Bits, Symbols, differ, pick, sum, total, is_missing, lost, missing, given_as, given_bits, symbol}
use Rattle.bits.proofs.laws.Cases.{lt_or_le, each_symbol}
use Rattle.bits.proofs.laws.Tab.{at_tab, bits_tab, is_tab, length_tab}
use Rattle.bits.proofs.laws.Total.{total_same, total_none, total_part}

-- ---- one byte
pub symbol_le : (b : ℕ) → symbol b ≤ 2
unfolding symbol
symbol_le b = omega arith

pub symbol_same : (b : ℕ) → b ≤ 2 → symbol b ≡ b
unfolding symbol
symbol_same b h = omega arith

-- a byte of 2 is missing, and no other; a bit is not
pub missing_two : is_missing 2 ≡ true
unfolding is_missing
missing_two = refl

pub two_missing : (r : ℕ) → is_missing r ≡ true → r ≡ 2
unfolding is_missing
two_missing r e = eqb-true r 2 e

pub present_bit : (r : ℕ) → r ≤ 1 → is_missing r ≡ false
unfolding is_missing
present_bit r h = ne_eqb r 2 (λ (e : r ≡ 2). omega (arith, h, e))

-- what is received and not missing is a bit
lost_none : (b : Bool) → ◌≡◌ {A = ℕ} (pick b 1 0) 0 → b ≡ false
lost_none true e = let z : ⊥ = omega (arith, e) in absurd z
lost_none false e = refl

pub bit_present : (r : ℕ) → r ≤ 2 → is_missing r ≡ false → r ≤ 1
unfolding is_missing
bit_present r h e = let n : r ≡ 2 → ⊥ = eqb-false r 2 e in ⊎_elim (λ (l : r < 2). omega arith) (λ (l : 2 ≤ r). absurd (n (omega (arith, h, l)))) (lt_or_le r 2)

-- 02, M-102: a missing bit that nothing protects is given as 0
pub missing_zero : (r : ℕ) → is_missing r ≡ true → given_as r ≡ 0
unfolding given_as
missing_zero r e = rw e refl

-- the lowest bit of a byte is what it is given as
pub given_lowest : (r : ℕ) → r ≤ 2 → r % 2 ≡ given_as r
unfolding given_as is_missing
given_lowest = each_symbol (λ r. r % 2 ≡ given_as r) refl refl refl

pub given_present : (r : ℕ) → is_missing r ≡ false → given_as r ≡ r
unfolding given_as
given_present r e = rw e refl

-- ---- a coded bit and a received byte
-- 02, M-102: a missing bit disagrees with nothing
pub missing_agrees : (x r : ℕ) → is_missing r ≡ true → differ x r ≡ 0
unfolding differ
missing_agrees x r e = rw e refl

one_or_none : (t : Bool) → pick t 0 1 ≤ 1
one_or_none true = omega arith
one_or_none false = omega arith

pub differ_le : (x r : ℕ) → differ x r ≤ 1
unfolding differ
differ_le x r = by_test (is_missing r)
  where
    by_test : (t : Bool) → pick t 0 (pick (eqb x r) 0 1) ≤ 1
    by_test true = omega arith
    by_test false = one_or_none (eqb x r)

-- nothing disagrees with itself
pub differ_itself : (x : ℕ) → differ x x ≡ 0
unfolding differ
differ_itself x = rw (eq-eqb x x refl) (by_test (is_missing x))
  where
    by_test : (t : Bool) → ◌≡◌ {A = ℕ} (pick t 0 0) 0
    by_test true = refl
    by_test false = refl

-- what is present disagrees with one at least of two that differ
pub differ_either : (x y r : ℕ) → is_missing r ≡ false → (x ≡ y → ⊥) → 1 ≤ differ x r + differ y r
unfolding differ
differ_either x y r present other = rw present (by_tests (eqb x r) (eqb y r) refl refl)
  where
    by_tests : (p q : Bool) → eqb x r ≡ p → eqb y r ≡ q → 1 ≤ pick p 0 1 + pick q 0 1
    by_tests true true ep eq = absurd (other (eqb-true x r ep ∙ sym (eqb-true y r eq)))
    by_tests true false ep eq = omega arith
    by_tests false q ep eq = omega arith

-- where two coded bits differ, their sum is 1
pub differ_sum : (a b : ℕ) → a ≤ 1 → b ≤ 1 → differ b a ≡ differ (sum a b) 0
unfolding differ is_missing
differ_sum zero zero h l = refl
differ_sum zero (suc zero) h l = refl
differ_sum (suc zero) zero h l = refl
differ_sum (suc zero) (suc zero) h l = refl
differ_sum zero (suc (suc b)) h l = let z : ⊥ = omega arith in absurd z
differ_sum (suc zero) (suc (suc b)) h l = let z : ⊥ = omega arith in absurd z
differ_sum (suc (suc a)) b h l = let z : ⊥ = omega arith in absurd z

-- what is received agrees with at most one of two coded bits that differ, but where it is missing
present : (a b r : ℕ) → pick (eqb b a) 0 1 ≤ pick (eqb a r) 0 1 + pick (eqb b r) 0 1
present a b r = by_tests (eqb a r) (eqb b r) refl refl
  where
    by_tests : (p q : Bool) → eqb a r ≡ p → eqb b r ≡ q → pick (eqb b a) 0 1 ≤ pick (eqb a r) 0 1 + pick (eqb b r) 0 1
    by_tests true true ep eq = rw (eq-eqb b a (eqb-true b r eq ∙ sym (eqb-true a r ep))) (omega arith)
    by_tests true false ep eq = rw (ep, eq) (omega (arith, one_or_none (eqb b a)))
    by_tests false q ep eq = rw ep (omega (arith, one_or_none (eqb b a)))

pub differ_between : (a b r : ℕ) → a ≤ 1 → differ b a ≤ differ a r + differ b r + lost r
unfolding differ
differ_between a b r ha = rw (present_bit a ha) (by_test (is_missing r))
  where
    by_test : (t : Bool) → pick (eqb b a) 0 1 ≤ pick t 0 (pick (eqb a r) 0 1) + pick t 0 (pick (eqb b r) 0 1) + pick t 1 0
    by_test true = omega (arith, one_or_none (eqb b a))
    by_test false = omega (arith, present a b r)

-- ---- lists of which nothing is missing
module _ (w : List ℕ) (none : missing w ≡ 0) where
  pub all_present : (k : ℕ) → k < length w → is_missing (get_or w k 0) ≡ false
  unfolding missing
  all_present k h = lost_none (is_missing (get_or w k 0)) (total_none (length w) (λ i. lost (get_or w i 0)) none k h)

  pub all_bits : Symbols w → Bits w
  all_bits sw k =
      ⊎_elim (λ (l : k < length w). bit_present (get_or w k 0) (sw k) (all_present k l))
      (λ (l : length w ≤ k). rw (get_or-eq_default w 0 {n = k} l) (omega arith))
      (lt_or_le k (length w))

  pub given_same : given_bits w ≡ w
  unfolding given_bits
  given_same = sym (is_tab (length w) (λ k. given_as (get_or w k 0)) w refl (λ k h. sym (given_present (get_or w k 0) (all_present k h))))

-- ---- parts of a list
pub length_given : (w : List ℕ) → length (given_bits w) ≡ length w
unfolding given_bits
length_given w = length_tab (length w) (λ k. given_as (get_or w k 0))

pub given_at : (w : List ℕ) (k : ℕ) → k < length w → get_or (given_bits w) k 0 ≡ given_as (get_or w k 0)
unfolding given_bits
given_at w k h = at_tab (length w) (λ i. given_as (get_or w i 0)) k h

-- what is given is bits
pub given_bit : (r : ℕ) → r ≤ 2 → given_as r ≤ 1
given_bit r h = subst (λ (x : ℕ). x ≤ 1) (given_lowest r h) (omega arith)

pub given_bits_lem : (w : List ℕ) → Symbols w → Bits (given_bits w)
unfolding given_bits
given_bits_lem w sw = bits_tab (length w) (λ k. given_as (get_or w k 0)) (λ k. given_bit (get_or w k 0) (sw k))

pub given_drop : (n : ℕ) (w : List ℕ) → drop n (given_bits w) ≡ given_bits (drop n w)
unfolding given_bits
given_drop n w =
    is_tab (length (drop n w)) (λ k. given_as (get_or (drop n w) k 0)) (drop n (given_bits w)) (length-drop n (given_bits w) ∙ ap (λ (m : ℕ). m - n) (length_given w) ∙ sym (length-drop n w))
    (λ k h.
    let l : n + k < length w = omega (arith, h, length-drop n w) in
    get_or-drop n (given_bits w) k 0 ∙ given_at w (n + k) l ∙ ap given_as (sym (get_or-drop n w k 0)))

pub missing_take : (n : ℕ) (w : List ℕ) → missing (take n w) ≤ missing w
unfolding missing
missing_take n w =
    ⊎_elim (λ (l : n < length w).
    let long : length (take n w) ≡ n = length-take-le n w (omega arith) in
    let f : ℕ → ℕ = λ (i : ℕ). lost (get_or w i 0) in
    let same : total n (λ i. lost (get_or (take n w) i 0)) ≡ total n f = total_same n (λ i. lost (get_or (take n w) i 0)) f (λ i h. ap lost (get_or-take n w i 0 h)) in
    rw (long, same) (total_part (length w) n f (omega arith)))
    (λ (l : length w ≤ n). rw (take_all n w l) (omega arith))
    (lt_or_le n (length w))
