-- 02, M-113: the whole answer of the two entries, of what they read and of what the lent buffers held before.
use Rattle.std.specs.Prelude.{Bool, true, false, List, ◌≡◌, ℕ, eqb, length, Ok, Err}
use Rattle.bits.specs.Bits.{both, none_over}
use Rattle.answers.specs.Answers.{Answer, sent_or, tells, Told}
use Rattle.answers.specs.declared.Refusal.TheVariants.{Length, NotBits, FixedBit, FrameType}
use Rattle.frames.specs.Frame.{frame, control_of, speech_of, fixed_right, is_speech}
use Rattle.frames.specs.Octets.{unpacked}

-- 21 control bits, 260 bits of speech, 40 octets
abbrev pub sized : List ℕ → List ℕ → List ℕ → Bool
sized c d x = both (eqb (length c) 21) (both (eqb (length d) 260) (eqb (length x) 40))

-- ---- writing. Where several apply: 1, 2, 19. Are the lengths right, is every byte a bit, are C1 to C5 a full rate speech type?
unfoldable pub write_judged : Bool → Bool → Bool → Told
write_judged false bits speech = Err Length
write_judged true false speech = Err NotBits
write_judged true true false = Err FrameType
write_judged true true true = Ok tt

unfoldable pub frame_written : List ℕ → List ℕ → List ℕ → Answer Told
frame_written c d x = tells (write_judged (sized c d x) (both (none_over 1 c) (none_over 1 d)) (is_speech c)) (frame c d) x

-- ---- reading. Where several apply: 1, 18, 19. Are the lengths right, are the sync and the fixed bits, are C1 to C5 a full rate speech type?
unfoldable pub read_judged : Bool → Bool → Bool → Told
read_judged false fixed speech = Err Length
read_judged true false speech = Err FixedBit
read_judged true true false = Err FrameType
read_judged true true true = Ok tt

-- the result of reading, and what each of the two lent buffers then holds
pub record FrameAnswer : Type 0 where
  pub result : Told
  pub control : List ℕ
  pub speech : List ℕ

unfoldable pub reads : Told → List ℕ → List ℕ → List ℕ → FrameAnswer
reads t f c d = record { result = t; control = sent_or t (control_of f) c; speech = sent_or t (speech_of f) d }

unfoldable pub frame_read : List ℕ → List ℕ → List ℕ → FrameAnswer
frame_read x c d = reads (read_judged (sized c d x) (fixed_right (unpacked x)) (is_speech (control_of (unpacked x)))) (unpacked x) c d

-- a contract: the result, and both buffers at the return, are the answer's
pub record FrameMeets (a : FrameAnswer) (r : Told) (control speech : List ℕ) : Type 0 where
  pub told : r ≡ a.result
  pub first : control ≡ a.control
  pub second : speech ≡ a.speech
