-- The ways in which writing and reading a frame end.
use Rattle.std.specs.Prelude.{Bool, true, false, List, ◌≡◌, ℕ, eqb, length, get_or, take, drop, Ok, Err}
use Rattle.std.proofs.Math.Path.{refl, sym, ap}
use Rattle.std.proofs.Common.{◌∙◌, arith, get_or-take, eqb-true, eq-eqb}
use Rattle.answers.specs.Answers.{Meets, sent_or, Told}
use Rattle.answers.specs.declared.Refusal.{Refusal}
use Rattle.answers.specs.declared.Refusal.TheVariants.{Length, NotBits, FixedBit, FrameType}
use Rattle.answers.proofs.laws.Answers.{tells_done, tells_refused}
use Rattle.bits.specs.Bits.{pick, both, none_over}
use Rattle.bits.proofs.laws.Cases.{both_first, both_second}
use Rattle.bits.proofs.laws.Parts.{length_lent}
use Rattle.bits.proofs.laws.Tab.{at_left}
use Rattle.frames.specs.Answers.{sized, write_judged, frame_written, read_judged, FrameMeets, reads, frame_read}
use Rattle.frames.specs.Frame.{frame, control_of, speech_of, fixed_right, is_speech}
use Rattle.frames.specs.Octets.{unpacked}
use Rattle.frames.specs.Says.{Sized}
use Rattle.frames.specs.laws.Layout.{taken_out}
use Rattle.frames.proofs.laws.Layout.{length_taken, control_taken}
use Rattle.frames.proofs.laws.Speech.{speech_same}

both_none : (a b : Bool) → b ≡ false → both a b ≡ false
both_none true b e = e
both_none false b e = refl

both_hold : (a b : Bool) → a ≡ true → b ≡ true → both a b ≡ true
both_hold true b e f = f
both_hold false b e f = e

-- ---- the lengths
pub is_sized : (c d x : List ℕ) → sized c d x ≡ true → Sized c d x
is_sized c d x t =
    let rest = both_second (eqb (length c) 21) (both (eqb (length d) 260) (eqb (length x) 40)) t in
    record {
      control = eqb-true (length c) 21 (both_first (eqb (length c) 21) (both (eqb (length d) 260) (eqb (length x) 40)) t);
      speech = eqb-true (length d) 260 (both_first (eqb (length d) 260) (eqb (length x) 40) rest);
      octets = eqb-true (length x) 40 (both_second (eqb (length d) 260) (eqb (length x) 40) rest);
    }

pub sized_is : (c d x : List ℕ) → Sized c d x → sized c d x ≡ true
sized_is c d x s =
    both_hold (eqb (length c) 21) (both (eqb (length d) 260) (eqb (length x) 40)) (eq-eqb (length c) 21 s.control)
    (both_hold (eqb (length d) 260) (eqb (length x) 40) (eq-eqb (length d) 260 s.speech) (eq-eqb (length x) 40 s.octets))

-- what is said of the lengths alone
pub sizes_right : (b : Bool) → pick {A = Told} b (Ok tt) (Err Length) ≡ Ok tt → b ≡ true
sizes_right true e = refl
sizes_right false e = cc

pub sizes_wrong : (b : Bool) (r : Refusal) → pick {A = Told} b (Ok tt) (Err Length) ≡ Err r → (b ≡ false) × (r ≡ Length)
sizes_wrong true r e = cc
sizes_wrong false r e = (refl, cc)

module _ (c d x : List ℕ) where
  -- ---- writing
  abbrev pub bits_both : Bool
  bits_both = both (none_over 1 c) (none_over 1 d)

  abbrev pub write_told : Told
  write_told = write_judged (sized c d x) bits_both (is_speech c)

  pub no_bits_c : none_over 1 c ≡ false → bits_both ≡ false
  no_bits_c n = ap (λ (b : Bool). both b (none_over 1 d)) n

  pub no_bits_d : none_over 1 d ≡ false → bits_both ≡ false
  no_bits_d n = both_none (none_over 1 c) (none_over 1 d) n

  pub two_bits : none_over 1 c ≡ true → none_over 1 d ≡ true → bits_both ≡ true
  two_bits a b = both_hold (none_over 1 c) (none_over 1 d) a b

  pub write_1 : sized c d x ≡ false → write_told ≡ Err Length
  unfolding write_judged
  write_1 s = ap (λ (b : Bool). write_judged b bits_both (is_speech c)) s

  pub write_2 : sized c d x ≡ true → bits_both ≡ false → write_told ≡ Err NotBits
  unfolding write_judged
  write_2 s n = rw (s, n) refl

  pub write_19 : sized c d x ≡ true → bits_both ≡ true → is_speech c ≡ false → write_told ≡ Err FrameType
  unfolding write_judged
  write_19 s b t = rw (s, b, t) refl

  pub write_0 : sized c d x ≡ true → bits_both ≡ true → is_speech c ≡ true → write_told ≡ (Ok tt)
  unfolding write_judged
  write_0 s b t = rw (s, b, t) refl

  pub write_refused : (r : Refusal) → write_told ≡ Err r → Meets (frame_written c d x) (Err r) x
  unfolding frame_written
  write_refused r e = tells_refused write_told (frame c d) x (Err r) (sym e) r refl

  pub write_done : (after : List ℕ) → write_told ≡ (Ok tt) → after ≡ frame c d → Meets (frame_written c d x) (Ok tt) after
  unfolding frame_written
  write_done after e f = tells_done write_told (frame c d) x (Ok tt) (sym e) after refl f

  -- ---- reading
  abbrev pub read_told : Told
  read_told = read_judged (sized c d x) (fixed_right (unpacked x)) (is_speech (control_of (unpacked x)))

  pub read_1 : sized c d x ≡ false → read_told ≡ Err Length
  unfolding read_judged
  read_1 s = ap (λ (b : Bool). read_judged b (fixed_right (unpacked x)) (is_speech (control_of (unpacked x)))) s

  pub read_18 : sized c d x ≡ true → fixed_right (unpacked x) ≡ false → read_told ≡ Err FixedBit
  unfolding read_judged
  read_18 s n = rw (s, n) refl

  pub read_19 : sized c d x ≡ true → fixed_right (unpacked x) ≡ true → is_speech (control_of (unpacked x)) ≡ false → read_told ≡ Err FrameType
  unfolding read_judged
  read_19 s b t = rw (s, b, t) refl

  pub read_0 : sized c d x ≡ true → fixed_right (unpacked x) ≡ true → is_speech (control_of (unpacked x)) ≡ true → read_told ≡ (Ok tt)
  unfolding read_judged
  read_0 s b t = rw (s, b, t) refl

  pub read_refused : (r : Refusal) → read_told ≡ Err r → FrameMeets (frame_read x c d) (Err r) c d
  unfolding frame_read reads sent_or
  read_refused r e = record {
    told = sym e;
    first = ap (λ (t : Told). sent_or t (control_of (unpacked x)) c) (sym e);
    second = ap (λ (t : Told). sent_or t (speech_of (unpacked x)) d) (sym e);
  }

  pub read_done : (control speech : List ℕ) → read_told ≡ (Ok tt) → control ≡ control_of (unpacked x) → speech ≡ speech_of (unpacked x) → FrameMeets (frame_read x c d) (Ok tt) control speech
  unfolding frame_read reads sent_or
  read_done control speech e f g = record {
    told = sym e;
    first = f ∙ ap (λ (t : Told). sent_or t (control_of (unpacked x)) c) (sym e);
    second = g ∙ ap (λ (t : Told). sent_or t (speech_of (unpacked x)) d) (sym e);
  }

-- C1 to C5 are the first bits that a frame carries
pub same_type : (f : List ℕ) → is_speech (taken_out f) ≡ is_speech (control_of f)
same_type f =
    let p : List ℕ = taken_out f in
    let front : length (take 15 p) ≡ 15 = length_lent p 0 15 (omega (arith, length_taken f)) in
    speech_same p (control_of f)
    (λ i h. sym (ap (λ (w : List ℕ). get_or w i 0) (sym (control_taken f)) ∙ at_left (take 15 p) (take 6 (drop 275 p)) i (omega (arith, front, h)) ∙ get_or-take 15 p i 0 (omega (arith, h))))
