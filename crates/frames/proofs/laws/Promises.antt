-- A frame that is written is read again; one that is read is written again, but for T1 to T4; and T1 to T4 are not read.
use Rattle.std.specs.Prelude.{Bool, true, false, List, ◌≡◌, ℕ, suc, ◌+◌, ◌*◌, ◌/◌, ◌%◌, ◌<◌, length}
use Rattle.std.proofs.Math.Path.{refl, sym, ap}
use Rattle.std.proofs.Common.{ap₂, ◌∙◌, ext_get_or, eqb-true}
use native.Mathlib.Omega.{arith}
use Rattle.std.proofs.Math.ListN.{get_or}
use Rattle.answers.specs.Answers.{Answer, of_told, Told}
use Rattle.bits.specs.Bits.{Bits, tab}
use Rattle.bits.proofs.laws.Cases.{false_true}
use Rattle.bits.proofs.laws.Tab.{length_tab, is_tab, tab_same, bits_tab, all_at, all_true, all_same}
use Rattle.order.specs.Order.{fetched}
use Rattle.order.proofs.laws.Order.{from_suc, length_fetched, over_fetched, there_and_back, back_and_there}
use Rattle.tables.specs.FullRate.{importance}
use Rattle.tables.proofs.laws.FullRate.{importance_permutes}
use Rattle.frames.specs.Answers.{sized, frame_written, reads, frame_read}
use Rattle.frames.specs.Frame.{Place, sync, one, C, D, T, stands_in, place_at, data_bits, written_at, frame_bits, frame, where_c, where_d, control_of, speech_of, right, fixed_right}
use Rattle.frames.specs.Octets.{packed, unpacked}
use Rattle.frames.specs.Promises.{SameButT, TOnes, WrittenIsRead, written_again, ReadIsWritten, TNotRead}
use Rattle.frames.specs.Says.{bit_in, Writable, WrongBit, control_read, speech_read}
use Rattle.frames.proofs.laws.Layout.{length_data}
use Rattle.frames.proofs.laws.Octets.{length_unpacked, bits_unpacked, pack_unpack}
use Rattle.frames.proofs.laws.Printed.{stands_c, stands_d, within_c, within_d}
use Rattle.frames.proofs.laws.Says.{must_be, frame_packs, fixed_wrong, write_says, read_says, frame_says, length_frame, unpacked_frame, length_frame_bits, at_frame_bits, place_in, bit_in_lem, wrong_fixed, length_control, control_bit, data_bit}

-- ---- no other place is a T
abbrev is_t : Place → Bool
is_t sync = false
is_t one = false
is_t (C y) = false
is_t (D y) = false
is_t (T y) = true

no_t : (p : Place) (y : ℕ) → is_t p ≡ false → p ≡ T y → ⊥
no_t p y n e = false_true (sym n ∙ ap is_t e)

-- ---- of a frame that is written
right_written : (c w : List ℕ) (p : Place) → right p (written_at c w p) ≡ true
unfolding right written_at
right_written c w sync = refl
right_written c w one = refl
right_written c w (C y) = refl
right_written c w (D y) = refl
right_written c w (T y) = refl

module _ (c d : List ℕ) where
  abbrev f : List ℕ
  f = frame_bits c d

  fixed_written : fixed_right f ≡ true
  unfolding fixed_right
  fixed_written = all_true (λ k. right (place_at k) (get_or f k 0)) 320 (λ k h. ap (right (place_at k)) (at_frame_bits c d k h) ∙ right_written c (data_bits d) (place_at k))

  control_written : length c ≡ 21 → control_of f ≡ c
  unfolding control_of written_at
  control_written l =
      sym (is_tab 21 (λ i. get_or f (where_c (suc i)) 0) c l
      (λ i h. sym (at_frame_bits c d (where_c (suc i)) (within_c i h) ∙ ap (written_at c (data_bits d)) (stands_c i h) ∙ from_suc c i)))

  data_written : tab 260 (λ i. get_or f (where_d (suc i)) 0) ≡ data_bits d
  unfolding written_at
  data_written =
      sym (is_tab 260 (λ i. get_or f (where_d (suc i)) 0) (data_bits d) (length_data d)
      (λ i h. sym (at_frame_bits c d (where_d (suc i)) (within_d i h) ∙ ap (written_at c (data_bits d)) (stands_d i h) ∙ from_suc (data_bits d) i)))

  speech_written : length d ≡ 260 → speech_of f ≡ d
  unfolding speech_of data_bits
  speech_written l = ap (fetched importance) data_written ∙ back_and_there 260 importance importance_permutes d l

pub written_is_read : WrittenIsRead
written_is_read c d x control speech w lc ld =
    let x' = (frame_written c d x).left in
    let is : x' ≡ frame c d = ((write_says c d x).done w).1 in
    let bc = w.bits_c in
    let bd = w.bits_d in
    let f : unpacked x' ≡ frame_bits c d = ap unpacked is ∙ unpacked_frame c d bc bd in
    let same-c : control_read x' ≡ c = ap control_of f ∙ control_written c d w.size.control in
    let same-d : speech_read x' ≡ d = ap speech_of f ∙ speech_written c d w.size.speech in
    let long : length x' ≡ 40 = ap length is ∙ length_frame c d bc bd in
    let no_wrong : WrongBit x' → ⊥ = λ b. false_true (sym (wrong_fixed x' long b) ∙ ap fixed_right f ∙ fixed_written c d) in
    let done = (read_says x' control speech).done record { control = lc; speech = ld; octets = long } no_wrong (rw same-c w.type) in
    record { told = done.told; control = done.control ∙ same-c; speech = done.speech ∙ same-d }

-- ---- of a frame that is read
module _ (x : List ℕ) (lx : length x ≡ 40) where
  abbrev g : List ℕ
  g = unpacked x

  -- D1 to D260
  abbrev w : List ℕ
  w = tab 260 (λ i. get_or g (where_d (suc i)) 0)

  bits_control : Bits (control_read x)
  unfolding control_of
  bits_control = bits_tab 21 (λ i. get_or g (where_c (suc i)) 0) (λ i. bits_unpacked x (where_c (suc i)))

  bits_speech : Bits (speech_read x)
  unfolding speech_of
  bits_speech = over_fetched 1 importance w (bits_tab 260 (λ i. get_or g (where_d (suc i)) 0) (λ i. bits_unpacked x (where_d (suc i))))

  length_speech : length (speech_read x) ≡ 260
  unfolding speech_of
  length_speech = length_fetched importance w ∙ importance_permutes.long

  data_read : data_bits (speech_read x) ≡ w
  unfolding data_bits speech_of
  data_read = there_and_back 260 importance importance_permutes w (length_tab 260 (λ i. get_or g (where_d (suc i)) 0))

  -- each bit that is not T1 to T4 is written as it was read
  same_bit : fixed_right g ≡ true → (k : ℕ) → k < 320 → (p : Place) → place_at k ≡ p → ((y : ℕ) → p ≡ T y → ⊥) → written_at (control_read x) w p ≡ get_or g k 0
  unfolding fixed_right right written_at
  same_bit t k h sync e n = sym (eqb-true (get_or g k 0) 0 (ap (λ (q : Place). right q (get_or g k 0)) (sym e) ∙ all_at (λ k. right (place_at k) (get_or g k 0)) 320 t k h))
  same_bit t k h one e n = sym (eqb-true (get_or g k 0) 1 (ap (λ (q : Place). right q (get_or g k 0)) (sym e) ∙ all_at (λ k. right (place_at k) (get_or g k 0)) 320 t k h))
  same_bit t k h (C y) e n = control_bit x lx k y h e
  same_bit t k h (D y) e n = data_bit x lx k y h e
  same_bit t k h (T y) e n = absurd (n y refl)

  -- and all of them, if T1 to T4 are 1
  every_bit : fixed_right g ≡ true → TOnes x → (k : ℕ) → k < 320 → (p : Place) → place_at k ≡ p → written_at (control_read x) w p ≡ get_or g k 0
  unfolding written_at
  every_bit t ones k h sync e = same_bit t k h sync e (λ y q. no_t sync y refl q)
  every_bit t ones k h one e = same_bit t k h one e (λ y q. no_t one y refl q)
  every_bit t ones k h (C z) e = same_bit t k h (C z) e (λ y q. no_t (C z) y refl q)
  every_bit t ones k h (D z) e = same_bit t k h (D z) e (λ y q. no_t (D z) y refl q)
  every_bit t ones k h (T z) e =
      let ho : k / 8 < 40 = omega (arith, h) in
      let hi : k % 8 < 8 = omega arith in
      let s : 8 * (k / 8) + k % 8 ≡ k = omega arith in
      sym (ap (λ (j : ℕ). get_or g j 0) (sym s) ∙ bit_in_lem x lx (k / 8) (k % 8) ho hi ∙ ones (k / 8) (k % 8) z ho hi (sym (place_in (k / 8) (k % 8) hi) ∙ ap place_at s ∙ e))

pub read_is_written : ReadIsWritten
unfolding written_at
read_is_written x control speech before octets none lb =
    let lx = octets.0 in
    let c = control_read x in
    let d = speech_read x in
    let g = unpacked x in
    let given = (read_says x control speech).only none in
    let read = (read_says x control speech).done given.0 given.1 given.2 in
    let again : written_again x control speech before ≡ frame_written c d before = ap₂ (λ (v u : List ℕ). frame_written v u before) read.control read.speech in
    let fixed : fixed_right g ≡ true = must_be (fixed_right g) (λ t. given.1 (fixed_wrong x lx t)) in
    let bc = bits_control x lx in
    let bd = bits_speech x lx in
    let writable : Writable c d before = record { size = record { control = length_control x lx; speech = length_speech x lx; octets = lb }; bits_c = bc; bits_d = bd; type = given.2 } in
    let done = (write_says c d before).done writable in
    let left : (written_again x control speech before).left ≡ frame c d = ap (λ (a : Answer Told). a.left) again ∙ done.1 in
    let says = frame_says c d bc bd in
    let back = data_read x lx in
    record {
      told = ap (λ (a : Answer Told). of_told a.result) again ∙ done.0;
      same = λ o i ho hi n.
          ap (λ (v : List ℕ). bit_in v o i) left ∙ says.bit o i ho hi ∙ ap (λ (v : List ℕ). written_at c v (stands_in o i)) back
          ∙ same_bit x lx fixed (8 * o + i) (omega (arith, ho, hi)) (stands_in o i) (place_in o i hi) n ∙ bit_in_lem x lx o i ho hi;
      ones = λ o i y ho hi e. ap (λ (v : List ℕ). bit_in v o i) left ∙ says.bit o i ho hi ∙ ap (written_at c (data_bits d)) e;
      whole = λ t.
          let bits : frame_bits c d ≡ g =
          ext_get_or 0 (frame_bits c d) g (length_frame_bits c d ∙ sym (length_unpacked x ∙ omega (arith, lx)))
          (λ k h. let l : k < 320 = omega (arith, h, length_frame_bits c d) in
          at_frame_bits c d k l ∙ ap (λ (v : List ℕ). written_at c v (place_at k)) back ∙ every_bit x lx fixed t k l (place_at k) refl) in
          left ∙ frame_packs c d ∙ ap packed bits ∙ pack_unpack x octets.1;
    }

-- ---- T1 to T4 are not read
module _ (x y : List ℕ) (lx : length x ≡ 40) (ly : length y ≡ 40) (same : SameButT x y) where
  agree : (k : ℕ) → k < 320 → ((z : ℕ) → place_at k ≡ T z → ⊥) → get_or (unpacked x) k 0 ≡ get_or (unpacked y) k 0
  agree k h n =
      let ho : k / 8 < 40 = omega (arith, h) in
      let hi : k % 8 < 8 = omega arith in
      let s : 8 * (k / 8) + k % 8 ≡ k = omega arith in
      ap (λ (j : ℕ). get_or (unpacked x) j 0) (sym s) ∙ bit_in_lem x lx (k / 8) (k % 8) ho hi
      ∙ same (k / 8) (k % 8) ho hi (λ z e. n z (ap place_at (sym s) ∙ place_in (k / 8) (k % 8) hi ∙ e))
      ∙ sym (ap (λ (j : ℕ). get_or (unpacked y) j 0) (sym s) ∙ bit_in_lem y ly (k / 8) (k % 8) ho hi)

  same_right : (k : ℕ) → k < 320 → (p : Place) → place_at k ≡ p → right p (get_or (unpacked x) k 0) ≡ right p (get_or (unpacked y) k 0)
  unfolding right
  same_right k h sync e = ap (right sync) (agree k h (λ z q. no_t sync z refl (sym e ∙ q)))
  same_right k h one e = ap (right one) (agree k h (λ z q. no_t one z refl (sym e ∙ q)))
  same_right k h (C v) e = refl
  same_right k h (D v) e = refl
  same_right k h (T v) e = refl

  same_fixed : fixed_right (unpacked x) ≡ fixed_right (unpacked y)
  unfolding fixed_right
  same_fixed = all_same (λ k. right (place_at k) (get_or (unpacked x) k 0)) (λ k. right (place_at k) (get_or (unpacked y) k 0)) 320 (λ k h. same_right k h (place_at k) refl)

  same_control : control_read x ≡ control_read y
  unfolding control_of
  same_control =
      tab_same 21 (λ i. get_or (unpacked x) (where_c (suc i)) 0) (λ i. get_or (unpacked y) (where_c (suc i)) 0)
      (λ i h. agree (where_c (suc i)) (within_c i h) (λ z q. no_t (C (suc i)) z refl (sym (stands_c i h) ∙ q)))

  same_speech : speech_read x ≡ speech_read y
  unfolding speech_of
  same_speech =
      ap (fetched importance)
      (tab_same 260 (λ i. get_or (unpacked x) (where_d (suc i)) 0) (λ i. get_or (unpacked y) (where_d (suc i)) 0)
      (λ i h. agree (where_d (suc i)) (within_d i h) (λ z q. no_t (D (suc i)) z refl (sym (stands_d i h) ∙ q))))

  same_size : (c d : List ℕ) → sized c d x ≡ sized c d y
  same_size c d = rw (lx, ly) refl

pub t_not_read : TNotRead
unfolding frame_read reads
t_not_read x y control speech lx ly same =
    rw (same_size x y lx ly same control speech, same_fixed x y lx ly same, same_control x y lx ly same, same_speech x y lx ly same) refl
