-- What each entry answers, in 01's own numbers and words: the first refusal that applies; what is sent; THE nearest block of what is
-- received, its count and its verdict. Proved of every entry in proofs/laws/Says.
use Rattle.std.specs.Prelude.{List, ◌++◌, ◌≡◌, ℕ, ◌/◌, ◌%◌, ◌≤◌, ◌<◌, length, get_or, take, drop, None, Some}
use Rattle.bits.specs.Bits.{NoneOver, Symbols, given_bits, tab, add, ones, digits}
use Rattle.parity.specs.Division.{remainder, speech_g, control_g, access_g, sch_g}
use Rattle.trellis.specs.Nearest.{Nearest, Fewest}
use Rattle.places.specs.Places.{gathered}
use Rattle.answers.specs.Answers.{Answer, Returns, Refuses, returned, of_told, of_heard, Told, Heard}
use Rattle.answers.specs.declared.Returned.{Returned}
use Rattle.coder.specs.Blocks.{speech_block, control_block, sacch_message, access_burst, sch_burst}
use Rattle.coder.specs.Entries.{Given, speech_sent, control_sent, sacch_sent, access_sent, sch_sent, trellis_viewed}
use Rattle.coder.specs.Received.{speech_d_at, speech_received, control_received, sacch_received, access_received, sch_received}

-- 01, Numbers given for a no: an entry that reads n bytes d, none of which may be over `most`, and the identity i, and is lent m bytes that held `before`,
-- answers a. Where several apply: 1, 2, 3
pub record Refusing {A : Type 0} (of : A → Returned) (a : Answer A) (most n m i : ℕ) (d before : List ℕ) : Type 0 where
  pub one : ((length d ≡ n) × (length before ≡ m) → ⊥) → Refuses of a 1 before
  pub two : length d ≡ n → length before ≡ m → (NoneOver most d → ⊥) → Refuses of a 2 before
  pub three : Given most n m d before → 63 < i → Refuses of a 3 before

-- ---- sending, of bits: done, with no number, exactly when none of them applies; `sent` then stands in the buffer
pub record Sends (a : Answer Told) (n m i : ℕ) (d sent before : List ℕ) : Type 0 where
  pub refused : Refusing of_told a 1 n m i d before
  pub done : Given 1 n m d before → i ≤ 63 → Returns of_told a None None sent
  pub only : of_told a.result ≡ returned None None → Given 1 n m d before × (i ≤ 63)

abbrev pub SpeechSends : Type 0
SpeechSends = (d c : List ℕ) → Sends (speech_sent d c) 260 456 0 d (speech_block d) c

abbrev pub ControlSends : Type 0
ControlSends = (d c : List ℕ) → Sends (control_sent d c) 184 456 0 d (control_block d) c

abbrev pub SacchSends : Type 0
SacchSends = (d e : List ℕ) → Sends (sacch_sent d e) 184 464 0 d (sacch_message d) e

abbrev pub AccessSends : Type 0
AccessSends = (i : ℕ) (d e : List ℕ) → Sends (access_sent i d e) 8 36 i d (access_burst i d) e

abbrev pub SchSends : Type 0
SchSends = (d e : List ℕ) → Sends (sch_sent d e) 25 78 0 d (sch_burst d) e

-- ---- receiving
-- good: no number, this count, these bits handed over; found bad: 8, this count, the buffer as before
abbrev pub Accepts : Answer Heard → ℕ → List ℕ → Type 0
Accepts a count bits = Returns of_heard a None (Some count) bits

abbrev pub FindsBad : Answer Heard → ℕ → List ℕ → Type 0
FindsBad a count before = Returns of_heard a (Some 8) (Some count) before

-- 01, What the decoder answers: u and the count are THE nearest block of the protected bits c and its disagreements (there is one such block
-- and count: trellis, nearest_once). The verdict is that of the parity bits within u: good where the division by g leaves all ones
pub record Decodes (c : List ℕ) (pairs : ℕ) (g : List ℕ) (word handed : List ℕ → List ℕ) (accepts : ℕ → List ℕ → Type 0) (finds_bad : ℕ → Type 0) : Type 0 where
  pub u : List ℕ
  pub count : ℕ
  pub nearest : Nearest c pairs u count
  pub good : remainder g (word u) ≡ ones (length g) → accepts count (handed u)
  pub bad : (remainder g (word u) ≡ ones (length g) → ⊥) → finds_bad count

-- a block of n bits: its bits and the parity bits behind them, from which the identity is taken off, are divided
abbrev pub block_word : List ℕ → ℕ → ℕ → List ℕ → List ℕ
block_word g i n u = take n u ++ add (take (length g) (drop n u)) (digits (length g) i)

abbrev pub BlockDecodes : List ℕ → ℕ → ℕ → ℕ → List ℕ → (ℕ → List ℕ → Type 0) → (ℕ → Type 0) → Type 0
BlockDecodes g i n pairs c = Decodes c pairs g (block_word g i n) (take n)

-- speech: d(0) to d(181) out of u; the first 50 and the parity bits at u(91) are divided; the last 78 are handed over as received,
-- missing ones as 0 (02, M-102)
abbrev pub speech_d : List ℕ → List ℕ
speech_d u = tab 182 (speech_d_at u)

abbrev pub speech_word : List ℕ → List ℕ
speech_word u = take 50 (speech_d u) ++ take 3 (drop 91 u)

abbrev pub SpeechDecodes : List ℕ → (ℕ → List ℕ → Type 0) → (ℕ → Type 0) → Type 0
SpeechDecodes c = Decodes (take 378 c) 189 speech_g speech_word (λ u. speech_d u ++ given_bits (drop 378 c))

-- 02, M-102: 2 is for a byte over 2. Refused with 1, 2 or 3, or else decoded; a count is returned only where none of the three applies
pub record Receives (a : Answer Heard) (n m i : ℕ) (c before : List ℕ) (decoded : (ℕ → List ℕ → Type 0) → (ℕ → Type 0) → Type 0) : Type 0 where
  pub refused : Refusing of_heard a 2 n m i c before
  pub heard : Given 2 n m c before → i ≤ 63 → decoded (Accepts a) (λ k. FindsBad a k before)
  pub only : (k : ℕ) → (of_heard a.result).count ≡ Some k → Given 2 n m c before × (i ≤ 63)

abbrev pub SpeechReceives : Type 0
SpeechReceives = (c d : List ℕ) → Receives (speech_received c d) 456 260 0 c d (SpeechDecodes c)

abbrev pub ControlReceives : Type 0
ControlReceives = (c d : List ℕ) → Receives (control_received c d) 456 184 0 c d (BlockDecodes control_g 0 184 228 c)

abbrev pub SacchReceives : Type 0
SacchReceives = (e d : List ℕ) → Receives (sacch_received e d) 464 184 0 e d (BlockDecodes control_g 0 184 228 (gathered e))

abbrev pub AccessReceives : Type 0
AccessReceives = (i : ℕ) (e d : List ℕ) → Receives (access_received i e d) 36 8 i e d (BlockDecodes access_g i 8 18 e)

abbrev pub SchReceives : Type 0
SchReceives = (e d : List ℕ) → Receives (sch_received e d) 78 25 0 e d (BlockDecodes sch_g 0 25 39 e)

-- ---- the trellis view: 1 for an odd length or one over 456, then 2 for a byte over 2, and sixteen times 65,535; else the sixteen numbers after all pairs
abbrev pub nothing_seen : List ℕ
nothing_seen = tab 16 (λ s. 65535)

pub record Views (r : List ℕ) : Type 0 where
  pub one : ((length r % 2 ≡ 0) × (length r ≤ 456) → ⊥) → Refuses of_told (trellis_viewed r) 1 nothing_seen
  pub two : length r % 2 ≡ 0 → length r ≤ 456 → (Symbols r → ⊥) → Refuses of_told (trellis_viewed r) 2 nothing_seen
  pub done : length r % 2 ≡ 0 → length r ≤ 456 → Symbols r → of_told (trellis_viewed r).result ≡ returned None None
  pub only : of_told (trellis_viewed r).result ≡ returned None None → (length r % 2 ≡ 0) × (length r ≤ 456) × Symbols r
  pub fewest : length r % 2 ≡ 0 → length r ≤ 456 → Symbols r → (s : ℕ) → s < 16 → Fewest r (length r / 2) s (get_or (trellis_viewed r).left s 0)
