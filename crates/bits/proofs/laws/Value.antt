-- A list of bits and its number: the bound, one bit more at the end, sums, and back by the digits.
use Rattle.std.specs.Prelude.{List, [], ◌∷◌, ◌++◌, ◌≡◌, refl, ℕ, zero, suc, ◌+◌, ◌-◌, ◌*◌, ◌/◌, ◌%◌, ◌^◌, ◌≤◌, ◌<◌, length, get_or}
use Rattle.std.proofs.Common.{sym, ap, ap₂, ◌∙◌, subst, pow-suc, not-suc-le-zero, le_of_suc-le-suc, mul_left_comm, mul_assoc, mod-eq_of_lt, arith, lit<, pow_pos, pow-add, length-append}
use Rattle.std.proofs.Math.Nat.{pow-succ', mul-add-div_right, mul-add-mod_self_right, zero-div}
use Rattle.std.proofs.Math.Arith.{digits_lt, digits_div, mod-mul}
use Rattle.std.specs.Int.Bits.{bit_xor}
use Rattle.std.proofs.lemmas.Nat.{xor_block}
use Rattle.std.proofs.Math.ListN.{get_or-eq_default}
use Rattle.bits.specs.Bits.{Bits, sum, add, value, digits, tab, tab_from, zeros}
use Rattle.bits.proofs.laws.Sum.{length_add}
use Rattle.bits.proofs.laws.Tab.{is_tab, at_tab, length_tab}

tail : (a : ℕ) (w : List ℕ) → Bits (a ∷ w) → Bits w
tail a w bw k = bw (suc k)

pub value_lt : (w : List ℕ) → Bits w → value w < 2 ^ length w
unfolding value
value_lt [] bw = lit< tt
value_lt (b ∷ w) bw =
    let h : b ≤ 1 = bw 0 in
    rw (pow-succ' 2 (length w)) (digits_lt {m = 2} (omega (arith, h)) (value_lt w (tail b w bw)))

-- one bit more, at the low end
pub value_snoc : (w : List ℕ) (b : ℕ) → value (w ++ (b ∷ [])) ≡ 2 * value w + b
unfolding value
value_snoc [] b = omega arith
value_snoc (a ∷ w) b =
    let n : length (w ++ (b ∷ [])) ≡ suc (length w) = length-append w (b ∷ []) ∙ omega arith in
    let e : a * 2 ^ length (w ++ (b ∷ [])) ≡ 2 * (a * 2 ^ length w) = ap (λ (k : ℕ). a * 2 ^ k) n ∙ ap (λ (k : ℕ). a * k) (pow-succ' 2 (length w)) ∙ mul_left_comm a 2 (2 ^ length w) in
    omega (arith, e, value_snoc w b)

pub xor_bits : (a b : ℕ) → a ≤ 1 → b ≤ 1 → bit_xor a b ≡ sum a b
xor_bits zero zero h l = refl
xor_bits zero (suc zero) h l = refl
xor_bits zero (suc (suc b)) h l = omega arith
xor_bits (suc zero) zero h l = refl
xor_bits (suc zero) (suc zero) h l = refl
xor_bits (suc zero) (suc (suc b)) h l = omega arith
xor_bits (suc (suc a)) b h l = omega arith

-- the sum of two lists is the exclusive or of their numbers
pub value_add : (s w : List ℕ) → length s ≡ length w → Bits s → Bits w → value (add s w) ≡ bit_xor (value s) (value w)
unfolding value add
value_add [] [] e bs bw = refl
value_add [] (b ∷ w) e bs bw = omega (arith, e)
value_add (a ∷ s) [] e bs bw = omega (arith, e)
value_add (a ∷ s) (b ∷ w) e bs bw =
    let n : length s ≡ length w = omega (arith, e) in
    let vs : value s < 2 ^ length w = subst (λ (k : ℕ). value s < 2 ^ k) n (value_lt s (tail a s bs)) in
    rw (length_add s w, n, xor_block (length w) a b (value s) (value w) vs (value_lt w (tail b w bw)), xor_bits a b (bs 0) (bw 0), value_add s w n (tail a s bs) (tail b w bw))

-- one digit of a number below 2 ^ (m+1), by its highest bit and the rest
high : (b v m : ℕ) → v < 2 ^ m → b ≤ 1 → (b * 2 ^ m + v) / 2 ^ m % 2 ≡ b
high b v m h l = rw (digits_div b h) (mod-eq_of_lt {n = b} {m = 2} (omega (arith, l)))

low : (b v m j : ℕ) → j < m → (b * 2 ^ m + v) / 2 ^ j % 2 ≡ v / 2 ^ j % 2
low b v m j h =
    let s : m ≡ suc (m - 1 - j) + j = omega arith in
    let e : b * 2 ^ m ≡ (b * 2 ^ (m - 1 - j)) * 2 * 2 ^ j =
    ap (λ (k : ℕ). b * 2 ^ k) s
    ∙ ap (λ (k : ℕ). b * k) (pow-add 2 (suc (m - 1 - j)) j ∙ ap (λ (k : ℕ). k * 2 ^ j) (pow-suc 2 (m - 1 - j)))
    ∙ sym (mul_assoc b (2 ^ (m - 1 - j) * 2) (2 ^ j))
    ∙ ap (λ (k : ℕ). k * 2 ^ j) (sym (mul_assoc b (2 ^ (m - 1 - j)) 2)) in
    rw (e, mul-add-div_right (pow_pos j) ((b * 2 ^ (m - 1 - j)) * 2) v, mul-add-mod_self_right (b * 2 ^ (m - 1 - j)) 2 (v / 2 ^ j))

-- a digit of a list's number is found at its place
pub at_digit : (w : List ℕ) → Bits w → (k : ℕ) → k < length w → get_or w k 0 ≡ value w / 2 ^ (length w - 1 - k) % 2
unfolding value
at_digit [] bw k h = absurd (not-suc-le-zero h)
at_digit (b ∷ w) bw zero h =
    let e : suc (length w) - 1 - 0 ≡ length w = omega arith in
    rw e (sym (high b (value w) (length w) (value_lt w (tail b w bw)) (bw 0)))
at_digit (b ∷ w) bw (suc k) h =
    let e : suc (length w) - 1 - suc k ≡ length w - 1 - k = omega arith in
    let l : k < length w = le_of_suc-le-suc h in
    rw (e, low b (value w) (length w) (length w - 1 - k) (omega arith)) (at_digit w (tail b w bw) k l)

-- the digits of a list's number are the list
pub digits_value : (w : List ℕ) → Bits w → digits (length w) (value w) ≡ w
unfolding digits
digits_value w bw = sym (is_tab (length w) (λ k. value w / 2 ^ (length w - 1 - k) % 2) w refl (λ k h. at_digit w bw k h))

-- ---- and the number of some digits is the number's lowest bits
digits_more : (n x : ℕ) → digits (suc n) x ≡ x / 2 ^ n % 2 ∷ digits n x
unfolding digits
digits_more n x =
    sym (is_tab (suc n) (λ k. x / 2 ^ (suc n - 1 - k) % 2) (x / 2 ^ n % 2 ∷ tab n (λ k. x / 2 ^ (n - 1 - k) % 2)) (ap suc (length_tab n (λ k. x / 2 ^ (n - 1 - k) % 2))) each)
  where
    each : (k : ℕ) → k < suc n → get_or (x / 2 ^ n % 2 ∷ tab n (λ k. x / 2 ^ (n - 1 - k) % 2)) k 0 ≡ x / 2 ^ (suc n - 1 - k) % 2
    each zero h = let e : n ≡ suc n - 1 - 0 = omega arith in ap (λ (j : ℕ). x / 2 ^ j % 2) e
    each (suc k) h =
        let e : n - 1 - k ≡ suc n - 1 - suc k = omega arith in
        at_tab n (λ k. x / 2 ^ (n - 1 - k) % 2) k (le_of_suc-le-suc h) ∙ ap (λ (j : ℕ). x / 2 ^ j % 2) e

pub length_digits : (n x : ℕ) → length (digits n x) ≡ n
unfolding digits
length_digits n x = length_tab n (λ k. x / 2 ^ (n - 1 - k) % 2)

pub bits_digits : (n x : ℕ) → Bits (digits n x)
bits_digits zero x k = rw (get_or-eq_default (digits 0 x) 0 {n = k} (rw (length_digits 0 x) (omega arith))) (omega arith)
bits_digits (suc n) x zero = rw (digits_more n x) (omega arith)
bits_digits (suc n) x (suc k) = rw (digits_more n x) (bits_digits n x k)

mod_value : (n x : ℕ) → value (digits n x) ≡ x % 2 ^ n
unfolding value digits tab tab_from
mod_value zero x = omega arith
mod_value (suc n) x =
    ap value (digits_more n x)
    ∙ rw (length_digits n x, mod_value n x, pow-succ' 2 n) (sym (mod-mul x (lit< tt) (pow_pos n)))

pub value_digits : (n x : ℕ) → x < 2 ^ n → value (digits n x) ≡ x
value_digits n x h = mod_value n x ∙ mod-eq_of_lt h

-- the digits of nothing
pub digits_none : (n : ℕ) → digits n 0 ≡ zeros n
unfolding zeros digits tab tab_from
digits_none zero = refl
digits_none (suc n) = digits_more n 0 ∙ ap₂ (λ (b : ℕ) (w : List ℕ). b ∷ w) (ap (λ (q : ℕ). q % 2) (zero-div (2 ^ n))) (digits_none n)
