-- A number's digits: how many it takes, and the turn of a loop that writes them from the last to the first.
use Rattle.std.specs.Prelude.{◌≡◌, refl, ℕ, zero, suc, ◌+◌, ◌-◌, ◌*◌, ◌/◌, ◌%◌, ◌^◌, ◌≤◌, ◌<◌, List, [], ◌∷◌, ◌++◌}
use native.Mathlib.Nat.{le_trans, le_of_suc-le-suc, mul-le-mul_right, mul-div-le, pow-suc, one-le-pow, pow-le-pow_right, div-div-eq-div-mul, le-div_iff_mul-le, div-lt_iff_lt-mul, lt_of_not-le, not-suc-le-zero}
use native.Mathlib.Numerals.{add-one, sub-one}
use native.Mathlib.Omega.{arith}
use mathlib.Core.Path.{sym, ap, subst, ◌∙◌}
use lib.Dec.{lit<}
use lib.ListN.{length, take, drop, set}
use lib.Seq.{slice, length-take-le, take-set-lt, append_snoc}
use Rattle.text.specs.Decimal.{IsDigitCount, last_digits}

-- ---- how many digits
pub tenth : (n : ℕ) → 2 * (n / 10) ≤ n
tenth n = le_trans (mul-le-mul_right (n / 10) (omega arith)) (mul-div-le n 10)

pub first_tenth : (n : ℕ) → n / 10 ≡ n / 10 ^ 1
first_tenth n = refl

pub next_tenth : (n k : ℕ) → n / 10 ^ k / 10 ≡ n / 10 ^ (k + 1)
next_tenth n k = div-div-eq-div-mul n (10 ^ k) 10 ∙ ap (λ (d : ℕ). n / d) (sym (pow-suc 10 k) ∙ ap (λ (j : ℕ). 10 ^ j) (sym (add-one k)))

-- something is left of n after k digits, so one more is wanted
pub one_more : (n k : ℕ) → 0 < n / 10 ^ k → 10 ^ (k + 1 - 1) ≤ n
one_more n k some =
    let e : k ≡ k + 1 - 1 = omega arith in
    let p : 1 * 10 ^ k ≤ n = (le-div_iff_mul-le (one-le-pow k 10 (omega arith))).0 some in
    subst (λ (j : ℕ). 10 ^ j ≤ n) e (omega arith)

-- nothing is left of n after k digits, so k digits hold it
pub enough : (n k : ℕ) → n / 10 ^ k < 1 → n < 10 ^ k
enough n k none =
    let p : n < 1 * 10 ^ k = (div-lt_iff_lt-mul (one-le-pow k 10 (omega arith))).0 none in
    omega arith

not_above : (n k : ℕ) → IsDigitCount n k → n < 2 ^ 64 → 20 < k → ⊥
not_above n k fewest holds over =
    let p : 10 ^ (k - 1) ≤ n = fewest.2 (omega arith) in
    let q : 10 ^ 20 ≤ 10 ^ (k - 1) = pow-le-pow_right (lit< tt) {i = 20} {j = k - 1} (omega arith) in
    omega arith

-- twenty digits hold a number of 64 bits
pub at_most_twenty : (n k : ℕ) → IsDigitCount n k → n < 2 ^ 64 → k ≤ 20
at_most_twenty n k fewest holds = le_of_suc-le-suc (lt_of_not-le (not_above n k fewest holds))

-- ---- which digits
-- after a store at j, the list from j on begins with what was stored
drop-set : (t : List ℕ) (j g : ℕ) → j < length t → drop j (set t j g) ≡ g ∷ drop (suc j) t
drop-set [] j g h = absurd (not-suc-le-zero h)
drop-set (x ∷ xs) zero g h = refl
drop-set (x ∷ xs) (suc j) g h = drop-set xs j g (le_of_suc-le-suc h)

-- a turn moves the last of the digits that are still to write to the front of those that are written
pub digits_step : (i k rest g : ℕ) (out : List ℕ) → 0 < i → i ≤ k → k ≤ length out → g ≡ 48 + rest % 10
    → last_digits (i - 1) (rest / 10) ++ slice (i - 1) k (set out (i - 1) g) ≡ last_digits i rest ++ slice i k out
digits_step zero k rest g out some h room e = absurd (not-suc-le-zero some)
digits_step (suc j) k rest g out some h room e =
    let todo = last_digits j (rest / 10) in
    let done = slice (suc j) k out in
    let within : j < length (take k out) = subst (λ (n : ℕ). j < n) (sym (length-take-le k out room)) h in
    ap (λ (m : ℕ). last_digits m (rest / 10) ++ slice m k (set out m g)) (sub-one (suc j))
    ∙ ap (λ (l : List ℕ). todo ++ drop j l) (take-set-lt k out j g h)
    ∙ ap (λ (l : List ℕ). todo ++ l) (drop-set (take k out) j g within)
    ∙ ap (λ (x : ℕ). todo ++ x ∷ done) e
    ∙ sym (append_snoc todo (48 + rest % 10) done)
