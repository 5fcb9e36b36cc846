-- 02, M-111: what a class may rely on, once over a channel's numbers; and by coder's entries. Proved in proofs/laws/Fair, proofs/laws/Accepted and proofs/laws/Sent, for the four
-- channels in proofs/laws/Channels.
use Rattle.std.specs.Prelude.{List, ◌≡◌, ℕ, ◌+◌, ◌*◌, ◌≤◌, ◌<◌, length, Option, None, Some, Ok, Err}
use Rattle.bits.specs.Bits.{Bits, Symbols, missing}
use Rattle.convolution.specs.Pairs.{coded}
use Rattle.trellis.specs.Nearest.{disagreements, Candidate, Nearest, nearest, nearest_count, longest}
use Rattle.answers.specs.Answers.{Answer, number_of, Told, Heard}
use Rattle.coder.specs.Blocks.{speech_u, control_u, access_u, sch_u}
use Rattle.coder.specs.Entries.{Given, speech_sent, control_sent, access_sent, sch_sent}
use Rattle.coder.specs.Promises.{altered}
use Rattle.coder.specs.Received.{speech_received, control_received, access_received, sch_received}
use Rattle.coder.specs.Says.{Accepts}
use Rattle.marking.specs.Marks.{Mark, HasLength, HasTail, HasCount, IsFewest, counting, Marks}
use Rattle.marking.specs.declared.Fault.TheVariants.{Length, Tail, Count, Fewest}
use Rattle.marking.specs.declared.No.TheVariants.{Wrong, Refused}

-- what every channel has: a block ends in four zeros and is at most the longest, and of the bytes that are read its pairs are the first
pub record Channel (reads n : ℕ) : Type 0 where
  pub tail : 4 ≤ n
  pub short : n ≤ longest
  pub room : 2 * n ≤ reads

-- ---- what is said, in 01's numbers and in the request's order
abbrev pub number_in : Mark → Option ℕ
number_in (Ok done) = None
number_in (Err (Wrong what)) = None
number_in (Err (Refused why)) = Some (number_of why)

pub record MarkSays (reads n : ℕ) (r u : List ℕ) (count : ℕ) (m : Mark) : Type 0 where
  pub one : (length r ≡ reads → ⊥) → number_in m ≡ Some 1
  pub two : length r ≡ reads → (Symbols r × Bits u → ⊥) → number_in m ≡ Some 2
  pub no_length : length r ≡ reads → Symbols r → Bits u → (HasLength n u → ⊥) → m ≡ Err (Wrong Length)
  pub no_tail : length r ≡ reads → Symbols r → Bits u → HasLength n u → (HasTail n u → ⊥) → m ≡ Err (Wrong Tail)
  pub no_count : length r ≡ reads → Symbols r → Bits u → HasLength n u → HasTail n u → (HasCount (counting n r) u count → ⊥) → m ≡ Err (Wrong Count)
  pub no_fewest : length r ≡ reads → Symbols r → Bits u → HasLength n u → HasTail n u → HasCount (counting n r) u count → (IsFewest (counting n r) n count → ⊥) → m ≡ Err (Wrong Fewest)
  pub then_yes : length r ≡ reads → Symbols r → Candidate n u → HasCount (counting n r) u count → IsFewest (counting n r) n count → m ≡ Ok tt
  pub only_then : m ≡ Ok tt → (length r ≡ reads) × Symbols r × Candidate n u × HasCount (counting n r) u count × IsFewest (counting n r) n count

-- ---- a block gets yes: it is the one answer that is allowed
abbrev pub GetsYes : ℕ → ℕ → List ℕ → List ℕ → ℕ → Type 0
GetsYes reads n r u count = Marks reads n r u count (Ok tt)

-- THE nearest block with its count, which is the decoder's answer, gets yes
abbrev pub NearestGetsYes : ℕ → ℕ → Type 0
NearestGetsYes reads n = (r u : List ℕ) (count : ℕ) → length r ≡ reads → Symbols r → Nearest (counting n r) n u count → GetsYes reads n r u count

-- so the decoder's own answer always does, whatever was received and whatever its parity says
abbrev pub DecoderGetsYes : ℕ → ℕ → Type 0
DecoderGetsYes reads n = (r : List ℕ) → length r ≡ reads → Symbols r → GetsYes reads n r (nearest (counting n r) n) (nearest_count (counting n r) n)

-- and so does every tied one
abbrev pub TiedGetsYes : ℕ → ℕ → Type 0
TiedGetsYes reads n =
    (r u v : List ℕ) (count : ℕ) → GetsYes reads n r u count → Candidate n v → disagreements (counting n r) (coded v) ≡ count → GetsYes reads n r v count

-- of two blocks that get yes for the same received bytes the counts are equal
abbrev pub OneCount : ℕ → ℕ → Type 0
OneCount reads n = (r u v : List ℕ) (k l : ℕ) → GetsYes reads n r u k → GetsYes reads n r v l → k ≡ l

-- a block that gets yes with so small a count is the only one: at most three, where no byte is missing
abbrev pub OnlyBlock : ℕ → ℕ → Type 0
OnlyBlock reads n =
    (r u v : List ℕ) (k l : ℕ) → 2 * k + missing (counting n r) ≤ 6 → GetsYes reads n r u k → GetsYes reads n r v l → v ≡ u

-- where a no says that another is nearer, one is
pub record Nearer (c : List ℕ) (n count : ℕ) : Type 0 where
  pub block : List ℕ
  pub candidate : Candidate n block
  pub fewer : disagreements c (coded block) < count

abbrev pub NoFewestIsTrue : ℕ → ℕ → Type 0
NoFewestIsTrue reads n = (r u : List ℕ) (count : ℕ) → Marks reads n r u count (Err (Wrong Fewest)) → Nearer (counting n r) n count

-- ---- by coder's entries. What they hand over as good, laid out as it is sent, gets yes with the count that they give
abbrev pub AcceptedGetsYes : ℕ → ℕ → (List ℕ → List ℕ → Answer Heard) → (List ℕ → List ℕ) → Type 0
AcceptedGetsYes reads n receive laid = (r out : List ℕ) (count : ℕ) (d : List ℕ) → Accepts (receive r out) count d → GetsYes reads n r (laid d) count

abbrev pub SpeechAccepted : Type 0
SpeechAccepted = AcceptedGetsYes 456 189 speech_received speech_u

abbrev pub ControlAccepted : Type 0
ControlAccepted = AcceptedGetsYes 456 228 control_received control_u

abbrev pub AccessAccepted : Type 0
AccessAccepted = (i : ℕ) → AcceptedGetsYes 36 18 (access_received i) (access_u i)

abbrev pub SchAccepted : Type 0
SchAccepted = AcceptedGetsYes 78 39 sch_received sch_u

-- k bits d are sent, and r arrives, of whose bytes that count t are altered and m are missing, so few: the block sent gets yes with t, and whatever gets yes
-- is the block sent, with t
pub record SentAlone (reads n : ℕ) (r u : List ℕ) (t : ℕ) : Type 0 where
  pub sent : GetsYes reads n r u t
  pub alone : (v : List ℕ) (count : ℕ) → GetsYes reads n r v count → (v ≡ u) × (count ≡ t)

abbrev pub SentGetsYes : (ℕ → ℕ → Type 0) → ℕ → ℕ → ℕ → (List ℕ → List ℕ → Answer Told) → (List ℕ → List ℕ) → Type 0
SentGetsYes few k reads n send laid =
    (d c r : List ℕ) → Given 1 k reads d c → length r ≡ reads → Symbols r → few (altered (counting n) (send d c).left r) (missing (counting n r))
    → SentAlone reads n r (laid d) (altered (counting n) (send d c).left r)

-- at most three altered, and none missing; the count of a block that gets yes is then at most three too
abbrev pub three : ℕ → ℕ → Type 0
three t m = (t ≤ 3) × (m ≡ 0)

-- 02, M-102: t altered and m missing, 2t + m at most 6
abbrev pub borne : ℕ → ℕ → Type 0
borne t m = 2 * t + m ≤ 6

abbrev pub SpeechSentAlone : (ℕ → ℕ → Type 0) → Type 0
SpeechSentAlone few = SentGetsYes few 260 456 189 speech_sent speech_u

abbrev pub ControlSentAlone : (ℕ → ℕ → Type 0) → Type 0
ControlSentAlone few = SentGetsYes few 184 456 228 control_sent control_u

abbrev pub AccessSentAlone : (ℕ → ℕ → Type 0) → Type 0
AccessSentAlone few = (i : ℕ) → i ≤ 63 → SentGetsYes few 8 36 18 (access_sent i) (access_u i)

abbrev pub SchSentAlone : (ℕ → ℕ → Type 0) → Type 0
SchSentAlone few = SentGetsYes few 25 78 39 sch_sent sch_u
