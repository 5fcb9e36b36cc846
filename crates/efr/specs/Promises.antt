-- 02, M-103: what is promised of sending and receiving together. Proved in proofs/laws/Promises.
use Rattle.std.specs.Prelude.{false, List, ◌≡◌, ℕ, suc, ◌+◌, ◌-◌, ◌*◌, ◌≤◌, get_or, take, None}
use Rattle.bits.specs.Bits.{pick, tab, given_as, missing}
use Rattle.order.specs.Order.{from1, place_in}
use Rattle.answers.specs.Answers.{returned, of_told}
use Rattle.coder.specs.Entries.{Given}
use Rattle.coder.specs.Promises.{altered, whole}
use Rattle.efr.specs.Entries.{efr_sent, efr_received}
use Rattle.efr.specs.Says.{Accepts}
use Rattle.preliminary.specs.Stage.{in_d, is_protected, copies, is_one_of}
use Rattle.tables.specs.Tables.{ordering}

-- 000, 3.1.2.2: d(182+k) is sent as c(378+k); so this is what arrived for d(j), one of the last 78
abbrev pub arrived : List ℕ → ℕ → ℕ
arrived e j = get_or e (378 + (j - 182)) 0

-- the 244 bits: the protected ones as sent, the others as received; `shown` says what a missing one is given as
unfoldable pub handed : (ℕ → ℕ) → List ℕ → List ℕ → List ℕ
handed shown s e = tab 244 (λ i. pick (is_protected (suc i)) (from1 s (suc i)) (shown (arrived e (in_d (suc i)))))

-- s is sent, and it comes back: the send gave no number, and what is received is good, with this count and these bits
abbrev pub Back : List ℕ → List ℕ → List ℕ → List ℕ → ℕ → List ℕ → Type 0
Back s c e out count bits = (of_told (efr_sent s c).result ≡ returned None None) × Accepts (efr_received e out) count bits

-- if t of the 378 protected bits of the block are altered and m are missing, 2t + m at most 6, s comes back: neither 8 nor 10, the count t
abbrev pub EfrBears : Type 0
EfrBears =
    (s c e out : List ℕ) → Given 1 244 456 s c → Given 2 456 244 e out → 2 * altered (take 378) (efr_sent s c).left e + missing (take 378 e) ≤ 6
    → Back s c e out (altered (take 378) (efr_sent s c).left e) (handed given_as s e)

-- demand 3: at most three altered, and none of the block's bits missing
abbrev pub EfrPromise : Type 0
EfrPromise =
    (s c e out : List ℕ) → Given 1 244 456 s c → Given 2 456 244 e out → missing (whole e) ≡ 0 → altered (take 378) (efr_sent s c).left e ≤ 3
    → Back s c e out (altered (take 378) (efr_sent s c).left e) (handed (λ r. r) s e)

-- ---- if two blocks arrive with the same 378 protected bits, and the same for every w(x) that is no copy, they have one answer, whatever arrives for the copies
abbrev pub CopiesIgnored : Type 0
CopiesIgnored =
    (e f out : List ℕ) → Given 2 456 244 e out → Given 2 456 244 f out → take 378 e ≡ take 378 f
    → ((x : ℕ) → 1 ≤ x → x ≤ 260 → is_one_of copies x ≡ false → arrived e (place_in ordering x) ≡ arrived f (place_in ordering x))
    → efr_received e out ≡ efr_received f out
