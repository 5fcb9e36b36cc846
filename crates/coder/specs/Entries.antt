-- The whole answer of each entry (01, The bench and its edges), of what it reads and of what its lent buffer held before.
use Rattle.std.specs.Prelude.{Bool, true, false, List, ◌≡◌, ℕ, ◌*◌, ◌/◌, ◌%◌, eqb, leb, length, Ok, Err}
use Rattle.bits.specs.Bits.{NoneOver, both, none_over, tab}
use Rattle.trellis.specs.Nearest.{row}
use Rattle.answers.specs.Answers.{Answer, tells, Told}
use Rattle.answers.specs.declared.Refusal.TheVariants.{Length, NotBits, Identity}
use Rattle.coder.specs.Blocks.{speech_block, control_block, sacch_message, access_burst, sch_burst}

-- 01: where several apply, 1, 2, 3. Are the lengths right, is no byte over what it may be, is the identity at most 63?
unfoldable pub judged : Bool → Bool → Bool → Told
judged false bits identity = Err Length
judged true false identity = Err NotBits
judged true true false = Err Identity
judged true true true = Ok tt

-- both lent buffers have the lengths of 01's table
abbrev pub lengths : List ℕ → ℕ → List ℕ → ℕ → Bool
lengths d n c m = both (eqb (length d) n) (eqb (length c) m)

-- what an entry should be given: n bytes to read, none over `most`, and a lent buffer of m bytes. 02, M-102: `most` is 1 for what is sent, bits, and 2 for
-- what is received, bits of which some may be missing
pub record Given (most n m : ℕ) (d out : List ℕ) : Type 0 where
  pub reads : length d ≡ n
  pub bits : NoneOver most d
  pub lends : length out ≡ m

-- an entry that reads n bits d, and an identity, and sends m bytes into a buffer that held c
unfoldable pub entry : ℕ → ℕ → ℕ → List ℕ → List ℕ → List ℕ → Answer Told
entry n m identity d sent c = tells (judged (lengths d n c m) (none_over 1 d) (leb identity 63)) sent c

-- speech block: 260 to 456. An entry that reads no identity has 0 in its place
unfoldable pub speech_sent : List ℕ → List ℕ → Answer Told
speech_sent d c = entry 260 456 0 d (speech_block d) c

-- control block: 184 to 456
unfoldable pub control_sent : List ℕ → List ℕ → Answer Told
control_sent d c = entry 184 456 0 d (control_block d) c

-- SACCH message: 184 to 464
unfoldable pub sacch_sent : List ℕ → List ℕ → Answer Told
sacch_sent d e = entry 184 464 0 d (sacch_message d) e

-- access: identity and 8 to 36
unfoldable pub access_sent : ℕ → List ℕ → List ℕ → Answer Told
access_sent identity d e = entry 8 36 identity d (access_burst identity d) e

-- SCH: 25 to 78
unfoldable pub sch_sent : List ℕ → List ℕ → Answer Told
sch_sent d e = entry 25 78 0 d (sch_burst d) e

-- ---- trellis view: reads 2t bytes, t from 0 to 228; an odd length, or one over 456, is refusal 1
abbrev pub viewed : ℕ
viewed = 228

abbrev pub view_length : List ℕ → Bool
view_length r = both (eqb (length r % 2) 0) (leb (length r) (2 * viewed))

-- sixteen times 65,535: the row where no bits end in any state, and what a refusal gives
unfoldable pub unreached : List ℕ
unreached = tab 16 (λ s. 65535)

-- what is told, and the sixteen numbers after all pairs of r
unfoldable pub trellis_viewed : List ℕ → Answer Told
trellis_viewed r = tells (judged (view_length r) (none_over 2 r) true) (row r (length r / 2)) unreached
