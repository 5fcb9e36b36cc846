-- 02, M-111: what the marker says of a block u and a count, handed in with what was received. It is said in the words of 01, What the decoder answers:
-- candidates, disagreements, the fewest. No decoder is named. Two answers that are allowed are equal: proofs/laws/Marks, marks_once.
use Rattle.std.specs.Prelude.{List, Result, Ok, Err, ◌≡◌, ℕ, ◌-◌, ◌*◌, ◌≤◌, length, take, drop}
use Rattle.bits.specs.Bits.{Bits, Symbols, zeros}
use Rattle.convolution.specs.Pairs.{coded}
use Rattle.trellis.specs.Nearest.{disagreements, Candidate}
use Rattle.answers.specs.declared.Refusal.TheVariants as refusal
use Rattle.marking.specs.declared.Fault.TheVariants.{Length, Tail, Count, Fewest}
use Rattle.marking.specs.declared.No.{No}
use Rattle.marking.specs.declared.No.TheVariants.{Wrong, Refused}
use Rattle.marking.specs.declared.Block.{Block}
use Rattle.marking.specs.declared.Block.TheVariants as block

-- what is said of a block and its count: yes, or why not
abbrev pub Mark : Type 0
Mark = Result (Unit {0}) No

-- ---- what is asked of a block u of n bits and a count, where c was received, in this order: it has the length of a candidate
abbrev pub HasLength : ℕ → List ℕ → Type 0
HasLength n u = length u ≡ n

-- it has a candidate's final zeros
abbrev pub HasTail : ℕ → List ℕ → Type 0
HasTail n u = drop (n - 4) u ≡ zeros 4

-- the count is its true disagreement
abbrev pub HasCount : List ℕ → List ℕ → ℕ → Type 0
HasCount c u count = disagreements c (coded u) ≡ count

-- no candidate disagrees in fewer
abbrev pub IsFewest : List ℕ → ℕ → ℕ → Type 0
IsFewest c n count = (v : List ℕ) → Candidate n v → count ≤ disagreements c (coded v)

-- yes exactly when all four hold; a no names the first that fails
unfoldable pub Deserves : List ℕ → ℕ → List ℕ → ℕ → Mark → Type 0
Deserves c n u count (Ok done) = HasLength n u × HasTail n u × HasCount c u count × IsFewest c n count
Deserves c n u count (Err (Wrong Length)) = HasLength n u → ⊥
Deserves c n u count (Err (Wrong Tail)) = HasLength n u × (HasTail n u → ⊥)
Deserves c n u count (Err (Wrong Count)) = HasLength n u × HasTail n u × (HasCount c u count → ⊥)
Deserves c n u count (Err (Wrong Fewest)) = HasLength n u × HasTail n u × HasCount c u count × (IsFewest c n count → ⊥)
Deserves c n u count (Err (Refused why)) = ⊥

-- ---- a channel
-- of the received bytes two count for each bit of a block: of speech the first 378 of its 456, of the other channels all
unfoldable pub counting : ℕ → List ℕ → List ℕ
counting n r = take (2 * n) r

-- it reads `reads` bytes r, and its blocks have n bits: m is what is said of u and the count. Refusals come first: 1 for the received bytes alone, since a
-- wrong length of u is a no; then 2 for a byte of u over 1 or a received byte over 2
pub record Marks (reads n : ℕ) (r u : List ℕ) (count : ℕ) (m : Mark) : Type 0 where
  pub one : (length r ≡ reads → ⊥) → m ≡ Err (Refused refusal.Length)
  pub two : length r ≡ reads → (Symbols r × Bits u → ⊥) → m ≡ Err (Refused refusal.NotBits)
  pub marked : length r ≡ reads → Symbols r → Bits u → Deserves (counting n r) n u count m

-- ---- the four channels
abbrev pub SpeechMarks : List ℕ → List ℕ → ℕ → Mark → Type 0
SpeechMarks = Marks 456 189

abbrev pub ControlMarks : List ℕ → List ℕ → ℕ → Mark → Type 0
ControlMarks = Marks 456 228

abbrev pub AccessMarks : List ℕ → List ℕ → ℕ → Mark → Type 0
AccessMarks = Marks 36 18

abbrev pub SchMarks : List ℕ → List ℕ → ℕ → Mark → Type 0
SchMarks = Marks 78 39

-- ---- by the channel: how many bytes are received, and how many bits a block has
abbrev pub reads_of : Block → ℕ
reads_of block.Speech = 456
reads_of block.Control = 456
reads_of block.Access = 36
reads_of block.Sch = 78

abbrev pub bits_of : Block → ℕ
bits_of block.Speech = 189
bits_of block.Control = 228
bits_of block.Access = 18
bits_of block.Sch = 39

-- SpeechMarks of speech, and so on
abbrev pub BlockMarks : Block → List ℕ → List ℕ → ℕ → Mark → Type 0
BlockMarks b = Marks (reads_of b) (bits_of b)
