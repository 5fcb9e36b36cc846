-- 02, M-113: what is promised of writing and reading together. Proved in proofs/laws/Promises.
use Rattle.std.specs.Prelude.{List, ◌≡◌, ℕ, ◌<◌, length, None}
use Rattle.bits.specs.Bits.{NoneOver}
use Rattle.answers.specs.Answers.{Answer, of_told, returned, Told}
use Rattle.frames.specs.Answers.{frame_written, frame_read}
use Rattle.frames.specs.Frame.{T, stands_in}
use Rattle.frames.specs.Says.{bit_in, Writable, FrameReturns}

-- octets are what a byte can be
abbrev pub Octets : List ℕ → Type 0
Octets x = (length x ≡ 40) × NoneOver 255 x

-- bit i + 1 of octet o is no time alignment bit
abbrev pub NoT : ℕ → ℕ → Type 0
NoT o i = (y : ℕ) → stands_in o i ≡ T y → ⊥

-- two frames are the same but for T1 to T4
abbrev pub SameButT : List ℕ → List ℕ → Type 0
SameButT x y = (o i : ℕ) → o < 40 → i < 8 → NoT o i → bit_in x o i ≡ bit_in y o i

-- T1 to T4 are 1
abbrev pub TOnes : List ℕ → Type 0
TOnes x = (o i y : ℕ) → o < 40 → i < 8 → stands_in o i ≡ T y → bit_in x o i ≡ 1

-- ---- a frame that is written is read again: the same C1 to C21 and the same d, whatever the buffers held
abbrev pub WrittenIsRead : Type 0
WrittenIsRead =
    (c d x control speech : List ℕ) → Writable c d x → length control ≡ 21 → length speech ≡ 260
    → FrameReturns (frame_read (frame_written c d x).left control speech) None c d

-- ---- what is read of a frame is written as the same frame, but that T1 to T4 are 1; so as the same frame, if they were
abbrev pub written_again : List ℕ → List ℕ → List ℕ → List ℕ → Answer Told
written_again x control speech before = frame_written (frame_read x control speech).control (frame_read x control speech).speech before

pub record WrittenAgain (x : List ℕ) (again : Answer Told) : Type 0 where
  pub told : of_told again.result ≡ returned None None
  pub same : SameButT again.left x
  pub ones : TOnes again.left
  pub whole : TOnes x → again.left ≡ x

abbrev pub ReadIsWritten : Type 0
ReadIsWritten =
    (x control speech before : List ℕ) → Octets x → (of_told (frame_read x control speech).result).number ≡ None → length before ≡ 40
    → WrittenAgain x (written_again x control speech before)

-- ---- T1 to T4 are not read: frames that are the same but for them have one answer
abbrev pub TNotRead : Type 0
TNotRead = (x y control speech : List ℕ) → length x ≡ 40 → length y ≡ 40 → SameButT x y → frame_read x control speech ≡ frame_read y control speech
