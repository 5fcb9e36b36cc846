-- 02, M-108: bursts that never came, all at even places among a block's bursts or all at odd, cost nothing that is protected, over the definitions that the contracts of
-- `stream` and `coder` cite. Proved in proofs/laws/Lost, on trellis' law of the pairs.
use Rattle.std.specs.Prelude.{Bool, true, false, List, [], ◌⊎◌, ◌≡◌, ℕ, ◌+◌, ◌*◌, ◌%◌, ◌≤◌, ◌<◌, eqb, length, get_or}
use Rattle.bits.specs.Bits.{is_missing, given_bits, pick, tab}
use Rattle.trellis.specs.Lost.{OneOfEach, MissingIn}
use Rattle.places.specs.Places.{gathered}
use Rattle.burst.specs.Numbers.{first_burst}
use Rattle.coder.specs.Entries.{Given, sacch_sent}
use Rattle.coder.specs.Promises.{Back}
use Rattle.coder.specs.Received.{sacch_received}
use Rattle.chart.specs.Says.{of_good, together}
use Rattle.chart.specs.Totals.{four}
use Rattle.chart.specs.declared.Kind.{Kind}
use Rattle.promise.specs.Promise.{Lesson, made, Arrives, after, taken_at, block_bits, block_flags, protected, pairs_of, bits_altered, flags_altered, flags_missing, kind_of, bits_out, Brings}

-- ---- bursts that never came: a set of them is given by its test
-- burst b of the bytes e is missing whole
abbrev pub NeverCame : List ℕ → ℕ → Type 0
NeverCame e b = (x : ℕ) → x < 116 → is_missing (get_or e (116 * b + x) 0) ≡ true

-- of m bursts those of the set stand all at even places, or all at odd
abbrev pub OneClass : ℕ → (ℕ → Bool) → Type 0
OneClass m lost = ((i : ℕ) → i < m → lost i ≡ true → i % 2 ≡ 0) ⊎ ((i : ℕ) → i < m → lost i ≡ true → i % 2 ≡ 1)

-- of block n's eight bursts those of the set never came, and nothing else of the block, its bits and flags in the other bursts, is altered or missing
pub record Loses (lost : ℕ → Bool) (sent rx : List ℕ) (n : ℕ) : Type 0 where
  pub gone : (i : ℕ) → i < 8 → lost i ≡ true → NeverCame rx (first_burst n + i)
  pub bits : (k : ℕ) → k < 456 → lost (k % 8) ≡ false → get_or (block_bits rx n) k 0 ≡ get_or (block_bits sent n) k 0
  pub flags : (i : ℕ) → i < 8 → lost i ≡ false → get_or (block_flags rx n) i 0 ≡ get_or (block_flags sent n) i 0

-- a block's bits where these bursts are lost: 0 in those, and in the others as received
unfoldable pub lost_as_zero : (ℕ → Bool) → List ℕ → List ℕ
lost_as_zero lost c = tab 456 (λ k. pick (lost (k % 8)) 0 (get_or c k 0))

-- ---- STREAMS: any lesson is sent and ended, and as many bytes arrive as were sent, whatever happened to other blocks. If of block n's eight bursts some are missing whole,
-- all at even places among the eight or all at odd, and nothing else of the block is altered or missing, burst 4n+7 brings it: no number, the kind sent, n, count
-- 0, the protected bits as sent, unprotected bits of missing bursts as 0 and the others as received.
abbrev pub LostByClass : Type 0
LostByClass =
    (ds : List (List ℕ)) → Lesson ds → (lent : ℕ → List ℕ) → ((i : ℕ) → length (lent i) ≡ 464)
    → (rx : List ℕ) (out : ℕ → List ℕ) → Arrives (4 * length ds + 4) rx out
    → (n : ℕ) → n < length ds
    → (lost : ℕ → Bool) → OneClass 8 lost → Loses lost (made lent ds) rx n
    → Brings (taken_at rx out (4 * n + 7)) (kind_of (get_or ds n [])) n 0 (bits_out (get_or ds n []) (lost_as_zero lost (block_bits rx n)) (out (4 * n + 7)))

-- The manual: "one lost burst of eight harms nothing", whichever of the eight it is.
abbrev pub alone : ℕ → ℕ → Bool
alone i j = eqb j i

abbrev pub OneLostBurst : Type 0
OneLostBurst =
    (ds : List (List ℕ)) → Lesson ds → (lent : ℕ → List ℕ) → ((i : ℕ) → length (lent i) ≡ 464)
    → (rx : List ℕ) (out : ℕ → List ℕ) → Arrives (4 * length ds + 4) rx out
    → (n : ℕ) → n < length ds
    → (i : ℕ) → i < 8 → Loses (alone i) (made lent ds) rx n
    → Brings (taken_at rx out (4 * n + 7)) (kind_of (get_or ds n [])) n 0 (bits_out (get_or ds n []) (lost_as_zero (alone i) (block_bits rx n)) (out (4 * n + 7)))

-- A whole lesson: of all its bursts some never came, all of even numbers or all of odd, and nothing else is altered or missing. Then every block comes back.
pub record LessonLoses (lost : ℕ → Bool) (M : ℕ) (sent rx : List ℕ) : Type 0 where
  pub gone : (b : ℕ) → b < M → lost b ≡ true → NeverCame rx b
  pub others : (b x : ℕ) → b < M → x < 116 → lost b ≡ false → get_or rx (116 * b + x) 0 ≡ get_or sent (116 * b + x) 0

abbrev pub EveryBlock : Type 0
EveryBlock =
    (ds : List (List ℕ)) → Lesson ds → (lent : ℕ → List ℕ) → ((i : ℕ) → length (lent i) ≡ 464)
    → (rx : List ℕ) (out : ℕ → List ℕ) → Arrives (4 * length ds + 4) rx out
    → (lost : ℕ → Bool) → OneClass (4 * length ds + 4) lost → LessonLoses lost (4 * length ds + 4) (made lent ds) rx
    → (n : ℕ) → n < length ds
    → Brings (taken_at rx out (4 * n + 7)) (kind_of (get_or ds n [])) n 0 (bits_out (get_or ds n []) (lost_as_zero (λ i. lost (first_burst n + i)) (block_bits rx n)) (out (4 * n + 7)))

-- The stronger fact behind it, by places: none of block n's own protected bits is altered, and of each of its pairs at least one is there, whichever are lost; of its own flags f
-- are altered and g are missing, 2f + g at most 7.
abbrev pub StreamPairs : Type 0
StreamPairs =
    (ds : List (List ℕ)) → Lesson ds → (lent : ℕ → List ℕ) → ((i : ℕ) → length (lent i) ≡ 464)
    → (rx : List ℕ) (out : ℕ → List ℕ) → Arrives (4 * length ds + 4) rx out
    → (n : ℕ) → n < length ds
    → (gone : ℕ → Bool) → OneOfEach (pairs_of (get_or ds n [])) gone → MissingIn (pairs_of (get_or ds n [])) gone (protected (get_or ds n []) (block_bits rx n))
    → bits_altered (get_or ds n []) (made lent ds) rx n ≡ 0 → 2 * flags_altered (made lent ds) rx n + flags_missing rx n ≤ 7
    → Brings (taken_at rx out (4 * n + 7)) (kind_of (get_or ds n [])) n 0 (bits_out (get_or ds n []) (given_bits (block_bits rx n)) (out (4 * n + 7)))

-- ---- TOTALS (02, M-100): whatever arrives, a block that a burst brings is counted as good: one more of its kind, none refused, its count added. That of a block
-- which lost bursts of one class is 0.
abbrev pub BroughtIsGood : Type 0
BroughtIsGood =
    (rx : List ℕ) (out : ℕ → List ℕ) (b : ℕ) (k : Kind) (n count : ℕ) (bytes : List ℕ) → Brings (taken_at rx out b) k n count bytes
    → (taken_at rx out b).result.next.totals ≡ together (after rx out b).totals (four (of_good 1 0 k) (of_good 0 1 k) 0 (of_good count count k))

-- ---- SACCH: the same with its four bursts. A message is sent and its bytes arrive; its flags may be altered or missing anyhow.
pub record SacchLoses (lost : ℕ → Bool) (sent e : List ℕ) : Type 0 where
  pub gone : (i : ℕ) → i < 4 → lost i ≡ true → NeverCame e i
  pub bits : (k : ℕ) → k < 456 → lost (k % 4) ≡ false → get_or (gathered e) k 0 ≡ get_or (gathered sent) k 0

abbrev pub SacchByClass : Type 0
SacchByClass =
    (d c e out : List ℕ) → Given 1 184 464 d c → Given 2 464 184 e out
    → (lost : ℕ → Bool) → OneClass 4 lost → SacchLoses lost (sacch_sent d c).left e
    → Back (sacch_sent d c) (sacch_received e out) 0 d
