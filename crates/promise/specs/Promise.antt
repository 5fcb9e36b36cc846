-- Demand 3, for streams, over the definitions that the contracts of `stream` cite. Proved in proofs/laws/Promise.
use Rattle.std.specs.Prelude.{true, List, [], ◌∷◌, ◌++◌, ◌≡◌, ℕ, zero, suc, ◌+◌, ◌*◌, ◌/◌, ◌%◌, ◌≤◌, ◌<◌, ltb, length, get_or, take, drop, None, Some, Ok}
use Rattle.answers.specs.Answers.{Answer, Meets, returned, of_told}
use Rattle.bits.specs.Bits.{Bits, Symbols, given_bits, missing, pick, tab, total}
use Rattle.burst.specs.Held.{saying, sayers}
use Rattle.burst.specs.Numbers.{first_burst}
use Rattle.places.specs.Places.{e_at, place_at, hl, hu}
use Rattle.trellis.specs.Nearest.{disagreements}
use Rattle.chart.specs.Answers.{Take, values, of_taken}
use Rattle.kinds.specs.Kinds.{vote, by_kind}
use Rattle.stream.specs.Receiving.{fresh_receiver, take_answer}
use Rattle.kinds.specs.Says.{BlockSays}
use Rattle.stream.specs.Sending.{is_facch, is_block, fresh_sender, send_answer, end_answer}
use Rattle.chart.specs.declared.Taken.TheVariants.{Waiting}
use Rattle.chart.specs.declared.Kind.{Kind}
use Rattle.chart.specs.declared.Kind.TheVariants as kind
use Rattle.stream.specs.declared.receiver.Received.{Received}
use Rattle.stream.specs.declared.receiver.Receiver.{Receiver}
use Rattle.stream.specs.declared.sender.Sender.{Sender}

-- ---- what is sent
-- a block that may be sent: 260 bits of speech or 184 of FACCH
pub record Valid (d : List ℕ) : Type 0 where
  pub kind : is_block (length d) ≡ true
  pub bits : Bits d

-- 1 to 16,383 of them
pub record Lesson (ds : List (List ℕ)) : Type 0 where
  pub some : 1 ≤ length ds
  pub most : length ds ≤ 16383
  pub each : (n : ℕ) → n < length ds → Valid (get_or ds n [])

-- each block is sent, and the stream is ended: the bytes that are then in the lent buffers, one buffer after another. `lent i` is what
-- the buffer of call i held before
unfoldable pub send_all : Sender → (ℕ → List ℕ) → List (List ℕ) → List ℕ
send_all s lent [] = (end_answer s (lent 0)).left
send_all s lent (d ∷ ds) = (send_answer s d (lent 0)).left ++ send_all (send_answer s d (lent 0)).result.next (λ i. lent (suc i)) ds

unfoldable pub made : (ℕ → List ℕ) → List (List ℕ) → List ℕ
made lent ds = send_all fresh_sender lent ds

-- ---- what is received: bursts in order from 0, to a fresh receiver. `out b` is what the buffer that is lent with burst b held before
unfoldable pub burst_of : List ℕ → ℕ → List ℕ
burst_of rx b = take 116 (drop (116 * b) rx)

unfoldable pub after : List ℕ → (ℕ → List ℕ) → ℕ → Receiver
after rx out zero = fresh_receiver
after rx out (suc b) = (take_answer (after rx out b) b (burst_of rx b) (out b)).result.next

unfoldable pub taken_at : List ℕ → (ℕ → List ℕ) → ℕ → Answer Received
taken_at rx out b = take_answer (after rx out b) b (burst_of rx b) (out b)

-- some bursts as they arrive: M of them, bits of which any may be missing (02, M-102)
pub record Arrives (M : ℕ) (rx : List ℕ) (out : ℕ → List ℕ) : Type 0 where
  pub long : length rx ≡ 116 * M
  pub bits : Symbols rx
  pub lent : (b : ℕ) → length (out b) ≡ 260

-- ---- what stands at the places of block n. 01: bit k in burst 4n + (k mod 8); the flags are hu of its first four bursts, hl of its last four
unfoldable pub block_bits : List ℕ → ℕ → List ℕ
block_bits rx n = tab 456 (λ k. get_or rx (116 * (first_burst n + k % 8) + e_at k) 0)

unfoldable pub block_flags : List ℕ → ℕ → List ℕ
block_flags rx n = tab 8 (λ i. get_or rx (116 * (first_burst n + i) + pick (ltb i 4) hu hl) 0)

-- the protected bits of block d: of speech the first 378, of FACCH all
unfoldable pub protected : List ℕ → List ℕ → List ℕ
protected d c = pick (is_facch (length d)) c (take 378 c)

-- and how many pairs they are
unfoldable pub pairs_of : List ℕ → ℕ
pairs_of d = pick (is_facch (length d)) 228 189

-- how many of block n's own protected bits, and of its own flags, are altered, and how many are missing; a missing one is not altered
unfoldable pub bits_altered : List ℕ → List ℕ → List ℕ → ℕ → ℕ
bits_altered d sent rx n = disagreements (protected d (block_bits rx n)) (protected d (block_bits sent n))

unfoldable pub bits_missing : List ℕ → List ℕ → ℕ → ℕ
bits_missing d rx n = missing (protected d (block_bits rx n))

unfoldable pub flags_altered : List ℕ → List ℕ → ℕ → ℕ
flags_altered sent rx n = disagreements (block_flags rx n) (block_flags sent n)

unfoldable pub flags_missing : List ℕ → ℕ → ℕ
flags_missing rx n = missing (block_flags rx n)

-- the kind that was sent; and the bits handed over: the protected ones as sent, the others as received. FACCH leaves the last 76 bytes
unfoldable pub kind_of : List ℕ → Kind
kind_of d = pick (is_facch (length d)) kind.Facch kind.Speech

unfoldable pub bits_out : List ℕ → List ℕ → List ℕ → List ℕ
bits_out d c out = pick (is_facch (length d)) (d ++ drop 184 out) (take 182 d ++ drop 378 c)

-- a block comes back: no number is given, but the block's kind, its n and its count, and the buffer then holds these bytes
pub record Brings (a : Answer Received) (k : Kind) (n count : ℕ) (bytes : List ℕ) : Type 0 where
  pub told : of_taken a.result.told ≡ values None k (Some n) (Some count)
  pub left : a.left ≡ bytes

-- ---- WHAT A BLOCK BEARS (02, M-102): any lesson is sent and ended, and as many bytes arrive as were sent, any of them altered or missing. Whatever
-- happened to other blocks: if of block n's own protected bits t are altered and m are missing, 2t + m at most 6, and of its own flags f are altered and g
-- are missing, 2f + g at most 7, burst 4n+7 brings it, with the count t; unprotected bits that are missing are 0.
abbrev pub StreamBears : Type 0
StreamBears =
    (ds : List (List ℕ)) → Lesson ds → (lent : ℕ → List ℕ) → ((i : ℕ) → length (lent i) ≡ 464)
    → (rx : List ℕ) (out : ℕ → List ℕ) → Arrives (4 * length ds + 4) rx out
    → (n : ℕ) → n < length ds
    → 2 * bits_altered (get_or ds n []) (made lent ds) rx n + bits_missing (get_or ds n []) rx n ≤ 6 → 2 * flags_altered (made lent ds) rx n + flags_missing rx n ≤ 7
    → Brings (taken_at rx out (4 * n + 7)) (kind_of (get_or ds n [])) n (bits_altered (get_or ds n []) (made lent ds) rx n)
    (bits_out (get_or ds n []) (given_bits (block_bits rx n)) (out (4 * n + 7)))

-- ---- THE PROMISE, demand 3 as 02, M-102 has it: any lesson is sent and ended, and as many bytes arrive as were sent. Whatever happened to other
-- blocks, which may have lost anything: if none of block n's own bits and flags is missing, and at most three of its own protected bits and at most three of
-- its own flags are altered, burst 4n+7 brings it.
abbrev pub StreamPromise : Type 0
StreamPromise =
    (ds : List (List ℕ)) → Lesson ds → (lent : ℕ → List ℕ) → ((i : ℕ) → length (lent i) ≡ 464)
    → (rx : List ℕ) (out : ℕ → List ℕ) → Arrives (4 * length ds + 4) rx out
    → (n : ℕ) → n < length ds
    → missing (block_bits rx n) ≡ 0 → flags_missing rx n ≡ 0
    → bits_altered (get_or ds n []) (made lent ds) rx n ≤ 3 → flags_altered (made lent ds) rx n ≤ 3
    → Brings (taken_at rx out (4 * n + 7)) (kind_of (get_or ds n [])) n (bits_altered (get_or ds n []) (made lent ds) rx n)
    (bits_out (get_or ds n []) (block_bits rx n) (out (4 * n + 7)))

-- every send and the end give no number, and N blocks make 4N+4 bursts
unfoldable pub AllDone : Sender → (ℕ → List ℕ) → List (List ℕ) → Type 0
AllDone s lent [] = of_told (end_answer s (lent 0)).result.told ≡ returned None None
AllDone s lent (d ∷ ds) = (of_told (send_answer s d (lent 0)).result.told ≡ returned None None) × AllDone (send_answer s d (lent 0)).result.next (λ i. lent (suc i)) ds

abbrev pub BurstsMade : Type 0
BurstsMade =
    (ds : List (List ℕ)) → Lesson ds → (lent : ℕ → List ℕ) → ((i : ℕ) → length (lent i) ≡ 464)
    → AllDone fresh_sender lent ds × (length (made lent ds) ≡ 116 * (4 * length ds + 4))

-- 01: the odd places and hl of the first four bursts, and the even places and hu of the last four, are 0; hl counts as an odd place here, and
-- hu as an even one
abbrev pub IdleHalves : Type 0
IdleHalves =
    (ds : List (List ℕ)) → Lesson ds → (lent : ℕ → List ℕ) → ((i : ℕ) → length (lent i) ≡ 464)
    → (i x : ℕ) → i < 4 → x < 116
    → (place_at x % 2 ≡ 1 → get_or (made lent ds) (116 * i + x) 0 ≡ 0)
    × (place_at x % 2 ≡ 0 → get_or (made lent ds) (116 * (4 * length ds + i) + x) 0 ≡ 0)

-- ---- LOCALITY: whatever arrives, burst 4n+7 brings what stands at block n's places, and nothing else counts; every other burst brings
-- "waiting"
abbrev pub flags_that : ℕ → List ℕ → ℕ → ℕ
flags_that b rx n = sayers b (λ i. get_or (block_flags rx n) i 0)

unfoldable pub answer_for : List ℕ → ℕ → List ℕ → Answer Take
answer_for rx n out = by_kind (vote (flags_that 1 rx n) (flags_that 0 rx n)) n (block_bits rx n) out

-- what is told at burst b, and what the buffer then holds, is the answer a
abbrev pub Answers : List ℕ → (ℕ → List ℕ) → ℕ → Answer Take → Type 0
Answers rx out b a = Meets a (taken_at rx out b).result.told (taken_at rx out b).left

abbrev pub Locality : Type 0
Locality =
    (M : ℕ) → M ≤ 65536 → (rx : List ℕ) (out : ℕ → List ℕ) → Arrives M rx out
    → ((n : ℕ) → 4 * n + 7 < M → Answers rx out (4 * n + 7) (answer_for rx n (out (4 * n + 7))))
    × ((b : ℕ) → b < M → ((n : ℕ) → b ≡ 4 * n + 7 → ⊥) → Answers rx out b (record { result = Ok Waiting; left = out b }))

-- DEMAND 2 IN STREAMS: whatever arrives, burst 4n+7 is answered by how many of block n's own flags are 1 and how many are 0, and as that kind by THE
-- nearest block of its own 456 bits, in 01's numbers and values
abbrev pub flags_saying : ℕ → List ℕ → ℕ → ℕ
flags_saying b rx n = total 8 (λ i. saying b (get_or (block_flags rx n) i 0))

abbrev pub StreamNearest : Type 0
StreamNearest =
    (M : ℕ) → M ≤ 65536 → (rx : List ℕ) (out : ℕ → List ℕ) → Arrives M rx out → (n : ℕ) → 4 * n + 7 < M
    → BlockSays (λ v left. (of_taken (taken_at rx out (4 * n + 7)).result.told ≡ v) × ((taken_at rx out (4 * n + 7)).left ≡ left))
    (flags_saying 1 rx n) (flags_saying 0 rx n) n (block_bits rx n) (out (4 * n + 7))

-- a bad burst B costs the two blocks B/4 and B/4 - 1, and never a third: where two receptions differ in burst B alone, every other block's
-- answer is the same
abbrev pub NeverAThird : Type 0
NeverAThird =
    (M : ℕ) → M ≤ 65536 → (rx rx' : List ℕ) (out : ℕ → List ℕ) → Arrives M rx out → Arrives M rx' out
    → (B : ℕ) → ((i : ℕ) → (i / 116 ≡ B → ⊥) → get_or rx i 0 ≡ get_or rx' i 0)
    → (n : ℕ) → 4 * n + 7 < M → (n ≡ B / 4 → ⊥) → (n + 1 ≡ B / 4 → ⊥)
    → ((taken_at rx out (4 * n + 7)).result.told ≡ (taken_at rx' out (4 * n + 7)).result.told) × ((taken_at rx out (4 * n + 7)).left ≡ (taken_at rx' out (4 * n + 7)).left)
