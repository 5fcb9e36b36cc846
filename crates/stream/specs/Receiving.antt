-- The receiving stream: what take answers, of the stream, the burst and what the lent buffer held before.
use Rattle.std.specs.Prelude.{Bool, true, false, List, ℕ, ◌+◌, eqb, leb, length, Ok, Err, Option, Some, None}
use Rattle.bits.specs.Bits.{both, none_over, zeros}
use Rattle.answers.specs.Answers.{Answer, Told}
use Rattle.answers.specs.declared.Refusal.TheVariants.{Length, NotBits, Full, OutOfTurn}
use Rattle.chart.specs.Totals.{four, counted}
use Rattle.burst.specs.Held.{held_block, held_flags}
use Rattle.burst.specs.Numbers.{ended}
use Rattle.burst.specs.Ring.{kept}
use Rattle.burst.specs.declared.numbers.BlockNumber.{BlockNumber}
use Rattle.kinds.specs.Kinds.{vote, by_kind}
use Rattle.chart.specs.Answers.{Take}
use Rattle.chart.specs.declared.Taken.TheVariants as taken
use Rattle.chart.specs.declared.Untaken.TheVariants as untaken
use Rattle.stream.specs.declared.receiver.Received.{Received}
use Rattle.stream.specs.declared.receiver.Receiver.{Receiver}

-- nothing is taken
unfoldable pub fresh_receiver : Receiver
fresh_receiver = record { next = record { 0 = 0 }; held = zeros 928; totals = four 0 0 0 0 }

-- 01: where several apply, 1, 2, 5, 4; the stream is full when burst 65,535 is taken. 02, M-102: 2 is for a byte over 2
unfoldable pub take_judged : Bool → Bool → Bool → Bool → Told
take_judged false bits full turn = Err Length
take_judged true false full turn = Err NotBits
take_judged true true true turn = Err Full
take_judged true true false false = Err OutOfTurn
take_judged true true false true = Ok tt

unfoldable pub take_told : Receiver → ℕ → List ℕ → List ℕ → Told
take_told s b e d = take_judged (both (eqb (length e) 116) (eqb (length d) 260)) (none_over 2 e) (leb 65536 s.next.0) (eqb b s.next.0)

-- the answer for block n, out of the held bursts
unfoldable pub block_answer : List ℕ → ℕ → List ℕ → Answer Take
block_answer held n d = by_kind (vote (held_flags 1 held n) (held_flags 0 held n)) n (held_block held n) d

-- 01: burst 4n+7 brings the answer for block n; every other brings "waiting" and leaves the buffer
unfoldable pub at_ending : Option BlockNumber → List ℕ → List ℕ → Answer Take
at_ending (Some n) held d = block_answer held n.0 d
at_ending None held d = record { result = Ok taken.Waiting; left = d }

unfoldable pub burst_answer : List ℕ → ℕ → List ℕ → Answer Take
burst_answer held b d = at_ending (ended b) held d

-- the burst is taken: it is held, the next number is one higher, and the totals have one answer more (02, M-100)
unfoldable pub taken_next : Receiver → List ℕ → Take → Receiver
taken_next s e t = record { next = record { 0 = s.next.0 + 1 }; held = kept s.held s.next.0 e; totals = counted s.totals t }

unfoldable pub after_taking : Told → Receiver → List ℕ → List ℕ → Answer Received
after_taking (Ok tt) s e d =
    let a : Answer Take = burst_answer (kept s.held s.next.0 e) s.next.0 d in
    record { result = record { told = a.result; next = taken_next s e a.result }; left = a.left }
after_taking (Err r) s e d = record { result = record { told = Err (untaken.Refused r); next = s }; left = d }

unfoldable pub take_answer : Receiver → ℕ → List ℕ → List ℕ → Answer Received
take_answer s b e d = after_taking (take_told s b e d) s e d
