-- What writing and reading a frame answer, in 02's numbers and 001's octets and bits, whatever they are given: the first refusal that applies, with the lent buffers as before; or what then stands in
-- them. Proved in proofs/laws/Says.
use Rattle.std.specs.Prelude.{List, ◌⊎◌, ◌≡◌, ℕ, ◌<◌, length, get_or, take, Option, None, Some}
use Rattle.bits.specs.Bits.{Bits, digits, total}
use Rattle.order.specs.Order.{from1}
use Rattle.tables.specs.FullRate.{importance}
use Rattle.answers.specs.Answers.{Refuses, Returns, of_told, returned}
use Rattle.frames.specs.Answers.{frame_written, FrameAnswer, frame_read}
use Rattle.frames.specs.Frame.{Place, sync, one, C, D, T, stands_in, place_at, data_bits, written_at, frame, control_of, speech_of, uplink, downlink}
use Rattle.frames.specs.Octets.{unpacked}

-- bit i + 1 of octet o: the first is the highest
abbrev pub bit_in : List ℕ → ℕ → ℕ → ℕ
bit_in x o i = get_or (digits 8 (get_or x o 0)) i 0

-- 21 control bits, 260 bits of speech, 40 octets
pub record Sized (c d x : List ℕ) : Type 0 where
  pub control : length c ≡ 21
  pub speech : length d ≡ 260
  pub octets : length x ≡ 40

-- C1 to C5 are 00010 or 11100
abbrev pub SpeechType : List ℕ → Type 0
SpeechType c = (take 5 c ≡ uplink) ⊎ (take 5 c ≡ downlink)

-- ---- writing
-- what it should be given: these lengths, bits, and a full rate speech type
pub record Writable (c d x : List ℕ) : Type 0 where
  pub size : Sized c d x
  pub bits_c : Bits c
  pub bits_d : Bits d
  pub type : SpeechType c

pub record WriteSays (c d x : List ℕ) : Type 0 where
  pub one : (Sized c d x → ⊥) → Refuses of_told (frame_written c d x) 1 x
  pub two : Sized c d x → (Bits c × Bits d → ⊥) → Refuses of_told (frame_written c d x) 2 x
  pub nineteen : Sized c d x → Bits c → Bits d → (SpeechType c → ⊥) → Refuses of_told (frame_written c d x) 19 x
  pub done : Writable c d x → Returns of_told (frame_written c d x) None None (frame c d)
  pub only : (of_told (frame_written c d x).result).number ≡ None → Writable c d x
  pub only_19 : (of_told (frame_written c d x).result).number ≡ Some 19 → Sized c d x × Bits c × Bits d × (SpeechType c → ⊥)

-- the frame that is written, bit by bit, as 001 prints it; and d, by table 2: d(k) is D(x) where x stands k-th in the table
pub record FrameSays (c d : List ℕ) : Type 0 where
  pub octets : length (frame c d) ≡ 40
  pub bit : (o i : ℕ) → o < 40 → i < 8 → bit_in (frame c d) o i ≡ written_at c (data_bits d) (stands_in o i)
  pub order : (k : ℕ) → k < 260 → from1 (data_bits d) (get_or importance k 0) ≡ get_or d k 0

-- ---- reading
-- a sync bit that is not 0, or a fixed bit that is not 1: bit `bit` + 1 of octet `octet`
pub record WrongBit (x : List ℕ) : Type 0 where
  pub octet : ℕ
  pub bit : ℕ
  pub within : (octet < 40) × (bit < 8)
  pub wrong : ((stands_in octet bit ≡ sync) × (bit_in x octet bit ≡ 0 → ⊥)) ⊎ ((stands_in octet bit ≡ one) × (bit_in x octet bit ≡ 1 → ⊥))

-- 001: sixteen sync bits and nineteen fixed ones
abbrev pub fixes : Place → ℕ
fixes sync = 1
fixes one = 1
fixes (C x) = 0
fixes (D x) = 0
fixes (T x) = 0

abbrev pub ThirtyFive : Type 0
ThirtyFive = total 320 (λ k. fixes (place_at k)) ≡ 35

-- what is returned, and what the two lent buffers then hold
pub record FrameReturns (a : FrameAnswer) (number : Option ℕ) (c d : List ℕ) : Type 0 where
  pub told : of_told a.result ≡ returned number None
  pub control : a.control ≡ c
  pub speech : a.speech ≡ d

-- refused: this number, and both buffers as before
abbrev pub FrameRefuses : List ℕ → List ℕ → List ℕ → ℕ → Type 0
FrameRefuses x c d number = FrameReturns (frame_read x c d) (Some number) c d

-- what is read of C1 to C21 and of d
abbrev pub control_read : List ℕ → List ℕ
control_read x = control_of (unpacked x)

abbrev pub speech_read : List ℕ → List ℕ
speech_read x = speech_of (unpacked x)

pub record ReadSays (x c d : List ℕ) : Type 0 where
  pub one : (Sized c d x → ⊥) → FrameRefuses x c d 1
  pub eighteen : Sized c d x → WrongBit x → FrameRefuses x c d 18
  pub nineteen : Sized c d x → (WrongBit x → ⊥) → (SpeechType (control_read x) → ⊥) → FrameRefuses x c d 19
  pub done : Sized c d x → (WrongBit x → ⊥) → SpeechType (control_read x) → FrameReturns (frame_read x c d) None (control_read x) (speech_read x)
  pub only : (of_told (frame_read x c d).result).number ≡ None → Sized c d x × (WrongBit x → ⊥) × SpeechType (control_read x)
  pub only_18 : (of_told (frame_read x c d).result).number ≡ Some 18 → Sized c d x × WrongBit x
  pub only_19 : (of_told (frame_read x c d).result).number ≡ Some 19 → Sized c d x × (WrongBit x → ⊥) × (SpeechType (control_read x) → ⊥)

-- what is read, bit by bit, as 001 prints the frame; and d, by table 2
pub record ReadingSays (x : List ℕ) : Type 0 where
  pub control : (o i y : ℕ) → o < 40 → i < 8 → stands_in o i ≡ C y → from1 (control_read x) y ≡ bit_in x o i
  pub speech : (o i k : ℕ) → o < 40 → i < 8 → k < 260 → stands_in o i ≡ D (get_or importance k 0) → get_or (speech_read x) k 0 ≡ bit_in x o i
