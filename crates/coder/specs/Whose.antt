-- 02, M-105: for which identity an access burst was, its whole answer, what it says in 01's numbers, and why the reason is true. Proved in proofs/laws/Whose.
use Rattle.std.specs.Prelude.{true, List, ◌≡◌, ℕ, ◌+◌, ◌*◌, ◌≤◌, eqb, length, take, drop, Option, None, Some, Result, Ok, Err}
use Rattle.bits.specs.Bits.{Symbols, none_over, missing, add, digits, value}
use Rattle.parity.specs.Division.{parity, access_g}
use Rattle.trellis.specs.Nearest.{Nearest, nearest, nearest_count}
use Rattle.answers.specs.Answers.{Answer, number_of, returned, Told}
use Rattle.answers.specs.declared.Refusal.{Refusal}
use Rattle.answers.specs.declared.Returned.{Returned}
use Rattle.coder.specs.Entries.{Given, judged, lengths, access_sent}
use Rattle.coder.specs.Received.{access_received}
use Rattle.coder.specs.Says.{Accepts, FindsBad}
use Rattle.coder.specs.Promises.{altered, whole}
use Rattle.coder.specs.declared.Named.{Named}

-- what a block names, and in how many places it disagrees with what was received
pub record Naming : Type 0 where
  pub identity : ℕ
  pub count : ℕ

-- of a block of n bits with its parity bits over g, to which the colour's bits are added: of the nearest u, the colour bits plus the parity of the first n
-- bits. They are the bits of the identity, b(0) the highest (000, 4.6)
unfoldable pub block_named : List ℕ → ℕ → List ℕ → Naming
block_named g n c =
    let u : List ℕ = nearest c (n + length g + 4) in
    record { identity = value (add (take (length g) (drop n u)) (parity g (take n u))); count = nearest_count c (n + length g + 4) }

-- what is said of it: the identity and the count, or why there are none
abbrev pub Whose : Type 0
Whose = Result Named Refusal

abbrev pub named : ℕ → ℕ → Named
named identity count = record { identity = identity; count = count }

unfoldable pub naming : Told → Naming → Whose
naming (Ok tt) x = Ok (named x.identity x.count)
naming (Err r) x = Err r

-- an access burst: 36 bytes, none over 2; no identity is read and nothing is written
unfoldable pub access_whose : List ℕ → Whose
access_whose e = naming (judged (eqb (length e) 36) (none_over 2 e) true) (block_named access_g 8 e)

-- 02, M-112: an access burst for whichever identity it is, 36 to 8, of one decoding: the identity and the count as above, and the buffer is left as the access
-- entry leaves it under that identity
unfoldable pub any_access_received : List ℕ → List ℕ → Answer Whose
any_access_received e d = record {
  result = naming (judged (lengths e 36 d 8) (none_over 2 e) true) (block_named access_g 8 e);
  left = (access_received (block_named access_g 8 e).identity e d).left;
}

-- ---- in 01's numbers: the refusal and nothing besides, or the identity and the count
abbrev pub of_whose : Whose → Returned
of_whose (Ok x) = returned None (Some x.count)
of_whose (Err r) = returned (Some (number_of r)) None

abbrev pub identity_of : Whose → Option ℕ
identity_of (Ok x) = Some x.identity
identity_of (Err r) = None

abbrev pub Tells : Whose → Option ℕ → Option ℕ → Option ℕ → Type 0
Tells w number identity count = (of_whose w ≡ returned number count) × (identity_of w ≡ identity)

abbrev pub Names : List ℕ → ℕ → ℕ → Type 0
Names e identity count = Tells (access_whose e) None (Some identity) (Some count)

-- u is THE nearest block, and the identity's six bits are its colour bits plus the parity of its eight information bits
pub record NearestNames (e : List ℕ) : Type 0 where
  pub u : List ℕ
  pub identity : ℕ
  pub count : ℕ
  pub nearest : Nearest e 18 u count
  pub within : identity ≤ 63
  pub bits : digits 6 identity ≡ add (take 6 (drop 8 u)) (parity access_g (take 8 u))
  pub names : Names e identity count

-- 1 for a length other than 36, then 2 for a byte over 2, as access has them; an identity is named exactly where neither applies
pub record WhoseSays (e : List ℕ) : Type 0 where
  pub one : (length e ≡ 36 → ⊥) → Tells (access_whose e) (Some 1) None None
  pub two : length e ≡ 36 → (Symbols e → ⊥) → Tells (access_whose e) (Some 2) None None
  pub named : length e ≡ 36 → Symbols e → NearestNames e
  pub only : (of_whose (access_whose e)).number ≡ None → (length e ≡ 36) × Symbols e

-- ---- the reason is true, by the access entry's own answers: whatever 36 bytes are received, missing ones too, one identity is named; asked under it the
-- entry accepts, with the same count; under each other it gives 8, with the same count
pub record TheOne (e out : List ℕ) : Type 0 where
  pub identity : ℕ
  pub count : ℕ
  pub bits : List ℕ
  pub within : identity ≤ 63
  pub names : Names e identity count
  pub accepted : Accepts (access_received identity e out) count bits
  pub refused : (j : ℕ) → j ≤ 63 → (j ≡ identity → ⊥) → FindsBad (access_received j e out) count out

abbrev pub ReasonIsTrue : Type 0
ReasonIsTrue = (e out : List ℕ) → Given 2 36 8 e out → TheOne e out

-- the other way: whoever accepts is the one that is named
abbrev pub WhoAcceptsIsNamed : Type 0
WhoAcceptsIsNamed = (i : ℕ) (e out : List ℕ) (count : ℕ) (bits : List ℕ) → Accepts (access_received i e out) count bits → Names e i count

-- ---- 02, M-112: the identity, the count and the bits of one decoding
abbrev pub Hands : Answer Whose → Option ℕ → Option ℕ → Option ℕ → List ℕ → Type 0
Hands a number identity count left = Tells a.result number identity count × (a.left ≡ left)

-- whatever 36 bytes are received, and whatever the eight lent ones held: one identity is named, the bits are handed over that the access entry hands over under
-- it, and under each other identity that entry gives 8
pub record HandsOver (e : List ℕ) : Type 0 where
  pub identity : ℕ
  pub count : ℕ
  pub bits : List ℕ
  pub within : identity ≤ 63
  pub handed : (out : List ℕ) → length out ≡ 8 → Hands (any_access_received e out) None (Some identity) (Some count) bits
  pub accepted : (out : List ℕ) → length out ≡ 8 → Accepts (access_received identity e out) count bits
  pub refused : (out : List ℕ) → length out ≡ 8 → (j : ℕ) → j ≤ 63 → (j ≡ identity → ⊥) → FindsBad (access_received j e out) count out

-- 1 for a wrong length of either, then 2, the buffer as before; handed over exactly where neither applies
pub record AnyAccessSays (e out : List ℕ) : Type 0 where
  pub one : ((length e ≡ 36) × (length out ≡ 8) → ⊥) → Hands (any_access_received e out) (Some 1) None None out
  pub two : length e ≡ 36 → length out ≡ 8 → (Symbols e → ⊥) → Hands (any_access_received e out) (Some 2) None None out
  pub handed : length e ≡ 36 → Symbols e → HandsOver e
  pub only : (of_whose (any_access_received e out).result).number ≡ None → Given 2 36 8 e out

-- ---- a request is sent for identity i, and of its 36 bits t are altered and m are missing, so few: i is named, and the count is t
abbrev pub SenderIsNamed : (ℕ → ℕ → Type 0) → Type 0
SenderIsNamed few =
    (i : ℕ) → i ≤ 63 → (d c e : List ℕ) → Given 1 8 36 d c → length e ≡ 36 → Symbols e → few (altered whole (access_sent i d c).left e) (missing e)
    → Names e i (altered whole (access_sent i d c).left e)

-- none is missing and at most three are altered
abbrev pub SenderPromise : Type 0
SenderPromise = SenderIsNamed (λ t m. (t ≤ 3) × (m ≡ 0))

-- by 02, M-102
abbrev pub SenderBears : Type 0
SenderBears = SenderIsNamed (λ t m. 2 * t + m ≤ 6)
