-- What is promised of sending and receiving together, over the definitions that the entries' contracts cite. Proved in proofs/laws/Promises.
use Rattle.std.specs.Prelude.{List, ◌++◌, ◌≡◌, ℕ, ◌+◌, ◌*◌, ◌≤◌, take, drop, None}
use Rattle.bits.specs.Bits.{given_bits, missing}
use Rattle.trellis.specs.Nearest.{disagreements}
use Rattle.places.specs.Places.{gathered}
use Rattle.answers.specs.Answers.{Answer, returned, of_told, Told, Heard}
use Rattle.coder.specs.Entries.{Given, speech_sent, control_sent, sacch_sent, access_sent, sch_sent}
use Rattle.coder.specs.Says.{Accepts, FindsBad}
use Rattle.coder.specs.Received.{speech_received, control_received, sacch_received, access_received, sch_received}

-- how many of the protected bits of what was sent are altered in what arrived; a missing bit is not altered
abbrev pub altered : (List ℕ → List ℕ) → List ℕ → List ℕ → ℕ
altered protected sent arrived = disagreements (protected arrived) (protected sent)

-- what was sent comes back: the send gave no number, and what is received is good, with this count and these bits
abbrev pub Back : Answer Told → Answer Heard → ℕ → List ℕ → Type 0
Back sent received count bits = (of_told sent.result ≡ returned None None) × Accepts received count bits

-- 02, M-102. Any n bits d are sent, as k bytes. Any k bytes e arrive, of which some may be missing. If t of the protected bits are altered and m are
-- missing, 2t + m at most 6, d comes back: with the count t, and with the bits that `handed` says of d and e.
abbrev pub Bears : ℕ → ℕ → (List ℕ → List ℕ → Answer Told) → (List ℕ → List ℕ → Answer Heard) → (List ℕ → List ℕ) → (List ℕ → List ℕ → List ℕ) → Type 0
Bears n k send receive protected handed =
    (d c e out : List ℕ) → Given 1 n k d c → Given 2 k n e out → 2 * altered protected (send d c).left e + missing (protected e) ≤ 6
    → Back (send d c) (receive e out) (altered protected (send d c).left e) (handed d e)

-- Demand 3, as 02, M-102 has it: if none of the block's own bits is missing and at most three of the protected ones are altered, d comes back.
abbrev pub ComesBack : ℕ → ℕ → (List ℕ → List ℕ → Answer Told) → (List ℕ → List ℕ → Answer Heard) → (List ℕ → List ℕ) → (List ℕ → List ℕ) → (List ℕ → List ℕ → List ℕ) → Type 0
ComesBack n k send receive own protected handed =
    (d c e out : List ℕ) → Given 1 n k d c → Given 2 k n e out → missing (own e) ≡ 0 → altered protected (send d c).left e ≤ 3
    → Back (send d c) (receive e out) (altered protected (send d c).left e) (handed d e)

-- every bit is the block's own, and protected; the bits are those that were sent
abbrev pub whole : List ℕ → List ℕ
whole c = c

abbrev pub as_sent : List ℕ → List ℕ → List ℕ
as_sent d e = d

-- 01: of a speech block the first 378 bits are protected, and carry d(0) to d(181); the last 78 are as received, missing ones 0
abbrev pub SpeechBears : Type 0
SpeechBears = Bears 260 456 speech_sent speech_received (take 378) (λ d e. take 182 d ++ given_bits (drop 378 e))

abbrev pub SpeechPromise : Type 0
SpeechPromise = ComesBack 260 456 speech_sent speech_received whole (take 378) (λ d e. take 182 d ++ drop 378 e)

abbrev pub ControlBears : Type 0
ControlBears = Bears 184 456 control_sent control_received whole as_sent

abbrev pub ControlPromise : Type 0
ControlPromise = ComesBack 184 456 control_sent control_received whole whole as_sent

-- of a SACCH message the bits at their places are its own, and protected; the eight flags may be altered or missing anyhow
abbrev pub SacchBears : Type 0
SacchBears = Bears 184 464 sacch_sent sacch_received gathered as_sent

abbrev pub SacchPromise : Type 0
SacchPromise = ComesBack 184 464 sacch_sent sacch_received gathered gathered as_sent

abbrev pub SchBears : Type 0
SchBears = Bears 25 78 sch_sent sch_received whole as_sent

abbrev pub SchPromise : Type 0
SchPromise = ComesBack 25 78 sch_sent sch_received whole whole as_sent

-- An access request of whose 36 bits t are altered and m are missing, 2t + m at most 6, is accepted under the identity i it was sent for, with its eight
-- bits, and refused with 8 under each other identity j
abbrev pub RefusedUnder : (ℕ → ℕ → Type 0) → ℕ → ℕ → Type 0
RefusedUnder few i j =
    (d c e out : List ℕ) → Given 1 8 36 d c → Given 2 36 8 e out → few (altered whole (access_sent i d c).left e) (missing e)
    → FindsBad (access_received j e out) (altered whole (access_sent i d c).left e) out

abbrev pub AccessBears : Type 0
AccessBears = (i : ℕ) → i ≤ 63
    → Bears 8 36 (access_sent i) (access_received i) whole as_sent × ((j : ℕ) → j ≤ 63 → (j ≡ i → ⊥) → RefusedUnder (λ t m. 2 * t + m ≤ 6) i j)

-- demand 3, its last sentence, as 02, M-102 has it: none of the request's bits is missing, and at most three of its 36 bits are altered
abbrev pub AccessPromise : Type 0
AccessPromise = (i : ℕ) → i ≤ 63
    → ComesBack 8 36 (access_sent i) (access_received i) whole whole as_sent × ((j : ℕ) → j ≤ 63 → (j ≡ i → ⊥) → RefusedUnder (λ t m. (t ≤ 3) × (m ≡ 0)) i j)
