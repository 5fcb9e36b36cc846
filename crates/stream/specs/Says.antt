-- What send, end and take answer, in 01's own numbers and values, for every value of a stream: the first refusal that applies, with nothing
-- besides it and all as before; what a call that is done returns, writes and hands back. Proved in proofs/laws/Says.
use Rattle.std.specs.Prelude.{true, false, List, ◌≡◌, ℕ, ◌+◌, ◌*◌, ◌≤◌, ◌<◌, length, Option, None, Some, Ok}
use Rattle.bits.specs.Bits.{Bits, Symbols, total}
use Rattle.answers.specs.Answers.{Answer, returned, of_told}
use Rattle.burst.specs.Held.{saying, held_flag_at, held_block}
use Rattle.burst.specs.Ring.{kept}
use Rattle.kinds.specs.Says.{BlockSays, BothBad}
use Rattle.chart.specs.Answers.{Take, values, of_taken}
use Rattle.stream.specs.Receiving.{fresh_receiver, taken_next, take_answer}
use Rattle.stream.specs.Sending.{fresh_sender, is_block, sent_bursts, sent_next, send_answer, end_bursts, end_next, end_answer}
use Rattle.chart.specs.Says.{said}
use Rattle.chart.specs.Totals.{four, more}
use Rattle.chart.specs.declared.Taken.TheVariants.{Waiting}
use Rattle.chart.specs.declared.Kind.TheVariants.{Neither}
use Rattle.chart.specs.declared.Values.{Values}
use Rattle.stream.specs.declared.receiver.Received.{Received}
use Rattle.stream.specs.declared.receiver.Receiver.{Receiver}
use Rattle.stream.specs.declared.sender.Sender.{Sender}
use Rattle.stream.specs.declared.sender.Sent.{Sent}

-- ---- send and end: the number, if one is given, and nothing besides; what the buffer then holds; the next stream
abbrev pub SentReturns : Answer Sent → Option ℕ → List ℕ → Sender → Type 0
SentReturns a number left next = (of_told a.result.told ≡ returned number None) × (a.left ≡ left) × (a.result.next ≡ next)

-- nothing is sent, and the stream is not ended; nothing is taken
pub record FreshSays : Type 0 where
  pub sent : fresh_sender.sent.0 ≡ 0
  pub unended : fresh_sender.ended ≡ false
  pub next : fresh_receiver.next.0 ≡ 0
  pub totals : fresh_receiver.totals ≡ four 0 0 0 0

-- no refusal applies to a send: 260 or 184 bits, 464 bytes, not ended, and room
pub record Sendable (s : Sender) (d e : List ℕ) : Type 0 where
  pub reads : is_block (length d) ≡ true
  pub writes : length e ≡ 464
  pub bits : Bits d
  pub unended : s.ended ≡ false
  pub room : s.sent.0 < 16383

-- where several apply: 1, 2, 7, 5. Done, with no number, exactly when none applies; the next stream has one block more
pub record SendSays (s : Sender) (d e : List ℕ) : Type 0 where
  pub one : ((is_block (length d) ≡ true) × (length e ≡ 464) → ⊥) → SentReturns (send_answer s d e) (Some 1) e s
  pub two : is_block (length d) ≡ true → length e ≡ 464 → (Bits d → ⊥) → SentReturns (send_answer s d e) (Some 2) e s
  pub seven : is_block (length d) ≡ true → length e ≡ 464 → Bits d → s.ended ≡ true → SentReturns (send_answer s d e) (Some 7) e s
  pub five : is_block (length d) ≡ true → length e ≡ 464 → Bits d → s.ended ≡ false → 16383 ≤ s.sent.0 → SentReturns (send_answer s d e) (Some 5) e s
  pub done : Sendable s d e → SentReturns (send_answer s d e) None (sent_bursts s d) (sent_next s d)
  pub counts : ((sent_next s d).sent.0 ≡ s.sent.0 + 1) × ((sent_next s d).ended ≡ s.ended)
  pub only : of_told (send_answer s d e).result.told ≡ returned None None → Sendable s d e

-- no refusal applies to an end. 01: it is allowed at 16,383 blocks, so that there is no word of them
pub record Endable (s : Sender) (e : List ℕ) : Type 0 where
  pub writes : length e ≡ 464
  pub unended : s.ended ≡ false
  pub some : 0 < s.sent.0

-- where several apply: 1, 7, 6. The next stream is ended
pub record EndSays (s : Sender) (e : List ℕ) : Type 0 where
  pub one : (length e ≡ 464 → ⊥) → SentReturns (end_answer s e) (Some 1) e s
  pub seven : length e ≡ 464 → s.ended ≡ true → SentReturns (end_answer s e) (Some 7) e s
  pub six : length e ≡ 464 → s.ended ≡ false → s.sent.0 ≡ 0 → SentReturns (end_answer s e) (Some 6) e s
  pub done : Endable s e → SentReturns (end_answer s e) None (end_bursts s) (end_next s)
  pub counts : ((end_next s).sent.0 ≡ s.sent.0) × ((end_next s).ended ≡ true)
  pub only : of_told (end_answer s e).result.told ≡ returned None None → Endable s e

-- ---- take: the number and the values; what the buffer then holds; the next stream
abbrev pub TakeReturns : Answer Received → Values → List ℕ → Receiver → Type 0
TakeReturns a v left next = (of_taken a.result.told ≡ v) × (a.left ≡ left) × (a.result.next ≡ next)

-- no refusal but 8 and 9 applies to a take: 116 bits, of which some may be missing (02, M-102), 260 bytes, room, and the next burst's number
pub record Takeable (s : Receiver) (b : ℕ) (e d : List ℕ) : Type 0 where
  pub reads : length e ≡ 116
  pub writes : length d ≡ 260
  pub bits : Symbols e
  pub room : s.next.0 < 65536
  pub turn : b ≡ s.next.0

-- how many of block n's eight flags say b
abbrev pub flags_saying : ℕ → List ℕ → ℕ → ℕ
flags_saying b held n = total 8 (λ i. saying b (held_flag_at held n i))

abbrev pub refuses : ℕ → Values
refuses number = values (Some number) Neither None None

-- where several apply: 1, 2, 5, 4. Otherwise, and only then, the burst is taken; 4n+7 brings block n, of the bursts that are then held, and every
-- other none. 02, M-100: the next stream's totals are those before and what the answer's values say, of every answer
pub record TakeSays (s : Receiver) (b : ℕ) (e d : List ℕ) : Type 0 where
  pub one : ((length e ≡ 116) × (length d ≡ 260) → ⊥) → TakeReturns (take_answer s b e d) (refuses 1) d s
  pub two : length e ≡ 116 → length d ≡ 260 → (Symbols e → ⊥) → TakeReturns (take_answer s b e d) (refuses 2) d s
  pub five : length e ≡ 116 → length d ≡ 260 → Symbols e → 65536 ≤ s.next.0 → TakeReturns (take_answer s b e d) (refuses 5) d s
  pub four : length e ≡ 116 → length d ≡ 260 → Symbols e → s.next.0 < 65536 → (b ≡ s.next.0 → ⊥) → TakeReturns (take_answer s b e d) (refuses 4) d s
  pub waiting : Takeable s b e d → ((n : ℕ) → b ≡ 4 * n + 7 → ⊥) → TakeReturns (take_answer s b e d) (values None Neither None None) d (taken_next s e (Ok Waiting))
  pub block : Takeable s b e d → (n : ℕ) → b ≡ 4 * n + 7
      → BlockSays (λ v left. TakeReturns (take_answer s b e d) v left (taken_next s e (take_answer s b e d).result.told)) (flags_saying 1 (kept s.held b e) n) (flags_saying 0 (kept s.held b e) n) n (held_block (kept s.held b e) n) d
  pub counts : (t : Take) → (taken_next s e t).next.0 ≡ s.next.0 + 1
  pub totals : (t : Take) → (taken_next s e t).totals ≡ more s.totals (said (of_taken t))
  pub only : (take_answer s b e d).result.next.next.0 ≡ s.next.0 + 1 → Takeable s b e d

-- ---- 02, M-101: 9 is given in no other case than this: the burst is taken and ends block n, of whose flags as many are 1 as are 0, and its coded bits are found bad
-- both as FACCH and as speech
pub record Nine (s : Receiver) (b : ℕ) (e d : List ℕ) : Type 0 where
  pub takes : Takeable s b e d
  pub n : ℕ
  pub ends : b ≡ 4 * n + 7
  pub bad : BothBad (flags_saying 1 (kept s.held b e) n) (flags_saying 0 (kept s.held b e) n) (held_block (kept s.held b e) n)

abbrev pub NineOnly : Type 0
NineOnly = (s : Receiver) (b : ℕ) (e d : List ℕ) → (of_taken (take_answer s b e d).result.told).number ≡ Some 9 → Nine s b e d
