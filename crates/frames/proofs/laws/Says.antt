-- What writing and reading a frame answer is what Says has.
use Rattle.std.specs.Prelude.{Bool, true, false, ◌⊎◌, ◌≡◌, refl, ℕ, suc, ◌+◌, ◌-◌, ◌*◌, ◌/◌, ◌%◌, ◌≤◌, ◌<◌, length, take, None, Ok, Err}
use mathlib.Core.List.{List}
use Rattle.std.proofs.Common.{inl, inr, ⊎_elim, ap₂, ◌∙◌, get_or-take, ext_get_or, length-take-le, eqb-true, eq-eqb}
use Rattle.std.proofs.Math.Path.{sym, ap}
use native.Mathlib.Omega.{arith}
use Rattle.std.proofs.Math.ListN.{get_or}
use Rattle.std.proofs.lemmas.Bool.{eqb-false}
use Rattle.answers.specs.Answers.{Answer, Refuses, Returns, number_of, of_told, or_none, Told}
use Rattle.answers.specs.declared.Refusal.{Refusal}
use Rattle.answers.specs.declared.Refusal.TheVariants.{Length, NotBits, FixedBit, FrameType}
use Rattle.bits.specs.Bits.{Bits, pick, all_below, tab, none_over}
use Rattle.bits.proofs.laws.Cases.{both_first, both_second, not_true, false_true}
use Rattle.bits.proofs.laws.Check.{none_over_lem, over_none}
use Rattle.bits.proofs.laws.Tab.{length_tab, at_tab, bits_tab, all_at, one_fails}
use Rattle.order.specs.Order.{from1}
use Rattle.order.proofs.laws.Order.{at_fetched, at_put_back, place_of_lem}
use Rattle.tables.specs.FullRate.{importance}
use Rattle.tables.proofs.laws.FullRate.{importance_permutes}
use Rattle.frames.specs.Answers.{sized, frame_written, FrameAnswer, frame_read}
use Rattle.frames.specs.Frame.{Place, sync, one, C, D, T, stands_in, place_at, data_bits, written_at, frame_bits, frame, where_c, where_d, control_of, speech_of, right, fixed_right, uplink, downlink, begins, is_speech}
use Rattle.frames.specs.Octets.{packed, unpacked}
use Rattle.frames.specs.Says.{bit_in, Sized, SpeechType, Writable, WriteSays, FrameSays, WrongBit, FrameReturns, FrameRefuses, control_read, speech_read, ReadSays, ReadingSays}
use Rattle.frames.proofs.laws.Entries.{is_sized, sized_is, two_bits, bits_both, write_told, write_1, write_2, write_19, write_0, write_refused, write_done, read_told, read_1, read_18, read_19, read_0, read_refused, read_done}
use Rattle.frames.proofs.laws.Octets.{length_packed, bit_of_lem, unpack_pack}
use Rattle.frames.proofs.laws.Layout.{bits_data}
use Rattle.frames.proofs.laws.Printed.{found_c, found_d}
use Rattle.frames.proofs.laws.Speech.{agrees, begins_with}

-- ---- a call ends in one of four ways
three_tests : (p q r : Bool) (P : Type 0) → (p ≡ false → P) → (p ≡ true → q ≡ false → P) → (p ≡ true → q ≡ true → r ≡ false → P) → (p ≡ true → q ≡ true → r ≡ true → P) → P
three_tests false q r P a b c d = a refl
three_tests true false r P a b c d = b refl refl
three_tests true true false P a b c d = c refl refl refl
three_tests true true true P a b c d = d refl refl refl

-- a test that is not false is true
pub must_be : (b : Bool) → (b ≡ false → ⊥) → b ≡ true
must_be true n = refl
must_be false n = absurd (n refl)

-- ---- the type
begins_taken : (c type : List ℕ) → length type ≡ 5 → 5 ≤ length c → begins c type ≡ true → take 5 c ≡ type
unfolding begins
begins_taken c type lt lc t =
    let long : length (take 5 c) ≡ 5 = length-take-le 5 c lc in
    ext_get_or 0 (take 5 c) type (long ∙ sym lt)
    (λ i h. let l : i < 5 = omega (arith, h, long) in get_or-take 5 c i 0 l ∙ eqb-true (get_or c i 0) (get_or type i 0) (all_at (agrees c type) 5 t i l))

taken_begins : (c type : List ℕ) → take 5 c ≡ type → begins c type ≡ true
taken_begins c type e =
    begins_with c type (λ i h. eq-eqb (get_or c i 0) (get_or type i 0) (sym (get_or-take 5 c i 0 h) ∙ ap (λ (w : List ℕ). get_or w i 0) e))

pub is_type : (c : List ℕ) → 5 ≤ length c → is_speech c ≡ true → SpeechType c
unfolding is_speech
is_type c l t = go (begins c uplink) refl t
  where
    go : (b : Bool) → begins c uplink ≡ b → pick b true (begins c downlink) ≡ true → SpeechType c
    go true e f = inl (begins_taken c uplink refl l e)
    go false e f = inr (begins_taken c downlink refl l f)

pub type_is : (c : List ℕ) → SpeechType c → is_speech c ≡ true
unfolding is_speech
type_is c s =
    ⊎_elim (λ (e : take 5 c ≡ uplink). ap (λ (b : Bool). pick b true (begins c downlink)) (taken_begins c uplink e))
    (λ (e : take 5 c ≡ downlink). ap (pick (begins c uplink) true) (taken_begins c downlink e) ∙ either (begins c uplink))
    s
  where
    either : (b : Bool) → pick b true true ≡ true
    either true = refl
    either false = refl

-- ---- writing
module _ (c d x : List ℕ) where
  abbrev a : Answer Told
  a = frame_written c d x

  refuses_so : (r : Refusal) → write_told c d x ≡ Err r → Refuses of_told a (number_of r) x
  refuses_so r e = let m = write_refused c d x r e in (ap of_told (sym m.result), sym m.left)

  done_so : write_told c d x ≡ (Ok tt) → Returns of_told a None None (frame c d)
  done_so e = let m = write_done c d x (frame c d) e refl in (ap of_told (sym m.result), sym m.left)

  both_bits : bits_both c d x ≡ true → Bits c × Bits d
  both_bits t = (none_over_lem 1 c (both_first (none_over 1 c) (none_over 1 d) t), none_over_lem 1 d (both_second (none_over 1 c) (none_over 1 d) t))

  bits_both_lem : Bits c → Bits d → bits_both c d x ≡ true
  bits_both_lem bc bd = two_bits c d x (over_none 1 c bc) (over_none 1 d bd)

  abbrev said : ℕ
  said = or_none (of_told a.result).number

  said_1 : sized c d x ≡ false → said ≡ 1
  said_1 s = ap (λ r. or_none r.number) (refuses_so Length (write_1 c d x s)).0

  said_2 : sized c d x ≡ true → bits_both c d x ≡ false → said ≡ 2
  said_2 s b = ap (λ r. or_none r.number) (refuses_so NotBits (write_2 c d x s b)).0

  said_19 : sized c d x ≡ true → bits_both c d x ≡ true → is_speech c ≡ false → said ≡ 19
  said_19 s b t = ap (λ r. or_none r.number) (refuses_so FrameType (write_19 c d x s b t)).0

  said_0 : sized c d x ≡ true → bits_both c d x ≡ true → is_speech c ≡ true → said ≡ 0
  said_0 s b t = ap (λ r. or_none r.number) (done_so (write_0 c d x s b t)).0

  five : Sized c d x → 5 ≤ length c
  five s = omega (arith, s.control)

  pub write_says : WriteSays c d x
  write_says = record {
    one = λ n. refuses_so Length (write_1 c d x (not_true (sized c d x) (λ t. n (is_sized c d x t))));
    two = λ s n. refuses_so NotBits (write_2 c d x (sized_is c d x s) (not_true (bits_both c d x) (λ t. n (both_bits t))));
    nineteen = λ s bc bd n. refuses_so FrameType (write_19 c d x (sized_is c d x s) (bits_both_lem bc bd) (not_true (is_speech c) (λ t. n (is_type c (five s) t))));
    done = λ w. done_so (write_0 c d x (sized_is c d x w.size) (bits_both_lem w.bits_c w.bits_d) (type_is c w.type));
    only = λ e. let z : said ≡ 0 = ap or_none e in
        three_tests (sized c d x) (bits_both c d x) (is_speech c) (Writable c d x) (λ s. absurd (omega (arith, z, said_1 s))) (λ s b. absurd (omega (arith, z, said_2 s b))) (λ s b t. absurd (omega (arith, z, said_19 s b t)))
        (λ s b t. record { size = is_sized c d x s; bits_c = (both_bits b).0; bits_d = (both_bits b).1; type = is_type c (five (is_sized c d x s)) t });
    only_19 = λ e. let z : said ≡ 19 = ap or_none e in
        three_tests (sized c d x) (bits_both c d x) (is_speech c) (Sized c d x × Bits c × Bits d × (SpeechType c → ⊥)) (λ s. absurd (omega (arith, z, said_1 s))) (λ s b. absurd (omega (arith, z, said_2 s b)))
        (λ s b t. (is_sized c d x s, (both_bits b).0, (both_bits b).1, λ y. false_true (sym t ∙ type_is c y))) (λ s b t. absurd (omega (arith, z, said_0 s b t)));
  }

-- ---- the frame, bit by bit
pub place_in : (o i : ℕ) → i < 8 → place_at (8 * o + i) ≡ stands_in o i
unfolding place_at
place_in o i h =
    let q : (8 * o + i) / 8 ≡ o = omega arith in
    let r : (8 * o + i) % 8 ≡ i = omega arith in
    ap₂ stands_in q r

written_bit : (c w : List ℕ) (p : Place) → Bits c → Bits w → written_at c w p ≤ 1
unfolding written_at
written_bit c w sync bc bw = omega arith
written_bit c w one bc bw = omega arith
written_bit c w (C y) bc bw = bc (y - 1)
written_bit c w (D y) bc bw = bw (y - 1)
written_bit c w (T y) bc bw = omega arith

pub length_frame_bits : (c d : List ℕ) → length (frame_bits c d) ≡ 320
unfolding frame_bits
length_frame_bits c d = length_tab 320 (λ k. written_at c (data_bits d) (place_at k))

pub at_frame_bits : (c d : List ℕ) (k : ℕ) → k < 320 → get_or (frame_bits c d) k 0 ≡ written_at c (data_bits d) (place_at k)
unfolding frame_bits
at_frame_bits c d k h = at_tab 320 (λ k. written_at c (data_bits d) (place_at k)) k h

pub bits_frame_bits : (c d : List ℕ) → Bits c → Bits d → Bits (frame_bits c d)
unfolding frame_bits
bits_frame_bits c d bc bd = bits_tab 320 (λ k. written_at c (data_bits d) (place_at k)) (λ k. written_bit c (data_bits d) (place_at k) bc (bits_data d bd))

pub frame_packs : (c d : List ℕ) → frame c d ≡ packed (frame_bits c d)
unfolding frame
frame_packs c d = refl

module _ (c d : List ℕ) (bc : Bits c) (bd : Bits d) where
  pub length_frame : length (frame c d) ≡ 40
  unfolding frame
  length_frame = length_packed (frame_bits c d) 40 (length_frame_bits c d)

  pub unpacked_frame : unpacked (frame c d) ≡ frame_bits c d
  unfolding frame
  unpacked_frame = unpack_pack (frame_bits c d) 40 (bits_frame_bits c d bc bd) (length_frame_bits c d)

  pub frame_says : FrameSays c d
  unfolding data_bits
  frame_says = record {
    octets = length_frame;
    bit = λ o i ho hi.
        sym (bit_of_lem (frame c d) o i (omega (arith, length_frame, ho)) hi)
        ∙ ap (λ (f : List ℕ). get_or f (8 * o + i) 0) unpacked_frame
        ∙ at_frame_bits c d (8 * o + i) (omega (arith, ho, hi))
        ∙ ap (written_at c (data_bits d)) (place_in o i hi);
    order = λ k h. let w = importance_permutes.within k (omega (arith, importance_permutes.long, h)) in
        at_put_back 260 importance importance_permutes d (get_or importance k 0) w.0 w.1 ∙ ap (λ (j : ℕ). get_or d j 0) (place_of_lem 260 importance importance_permutes k h);
  }

-- ---- a wrong bit
wrong_right : (p : Place) (b : ℕ) → ((p ≡ sync) × (b ≡ 0 → ⊥)) ⊎ ((p ≡ one) × (b ≡ 1 → ⊥)) → right p b ≡ true → ⊥
unfolding right
wrong_right p b w t =
    ⊎_elim (λ s. s.1 (eqb-true b 0 (ap (λ (q : Place). right q b) (sym s.0) ∙ t)))
    (λ s. s.1 (eqb-true b 1 (ap (λ (q : Place). right q b) (sym s.0) ∙ t)))
    w

not_right : (p : Place) (b : ℕ) → right p b ≡ false → ((p ≡ sync) × (b ≡ 0 → ⊥)) ⊎ ((p ≡ one) × (b ≡ 1 → ⊥))
unfolding right
not_right sync b e = inl (refl, eqb-false b 0 e)
not_right one b e = inr (refl, eqb-false b 1 e)
not_right (C y) b e = absurd (false_true (sym e))
not_right (D y) b e = absurd (false_true (sym e))
not_right (T y) b e = absurd (false_true (sym e))

module _ (x : List ℕ) (lx : length x ≡ 40) where
  abbrev f : List ℕ
  f = unpacked x

  -- a bit of the octets is a bit of the frame
  pub bit_in_lem : (o i : ℕ) → o < 40 → i < 8 → get_or f (8 * o + i) 0 ≡ bit_in x o i
  bit_in_lem o i ho hi = bit_of_lem x o i (omega (arith, lx, ho)) hi

  pub wrong_fixed : WrongBit x → fixed_right f ≡ false
  unfolding fixed_right
  wrong_fixed w =
      let o = w.octet in
      let i = w.bit in
      let ho = w.within.0 in
      let hi = w.within.1 in
      not_true (all_below (λ k. right (place_at k) (get_or f k 0)) 320)
      (λ t. wrong_right (stands_in o i) (bit_in x o i) w.wrong
      (ap₂ right (sym (place_in o i hi)) (sym (bit_in_lem o i ho hi)) ∙ all_at (λ k. right (place_at k) (get_or f k 0)) 320 t (8 * o + i) (omega (arith, ho, hi))))

  pub fixed_wrong : fixed_right f ≡ false → WrongBit x
  unfolding fixed_right
  fixed_wrong e =
      let w = one_fails (λ k. right (place_at k) (get_or f k 0)) 320 e in
      let k = w.place in
      let ho : k / 8 < 40 = omega (arith, w.below) in
      let hi : k % 8 < 8 = omega arith in
      let s : 8 * (k / 8) + k % 8 ≡ k = omega arith in
      record {
        octet = k / 8;
        bit = k % 8;
        within = (ho, hi);
        wrong = not_right (stands_in (k / 8) (k % 8)) (bit_in x (k / 8) (k % 8))
            (ap₂ right (sym (place_in (k / 8) (k % 8) hi)) (sym (bit_in_lem (k / 8) (k % 8) ho hi)) ∙ ap (λ (j : ℕ). right (place_at j) (get_or f j 0)) s ∙ w.fails);
      }

  -- ---- what is read
  pub length_control : length (control_of f) ≡ 21
  unfolding control_of
  length_control = length_tab 21 (λ i. get_or f (where_c (suc i)) 0)

  -- D1 to D260
  abbrev pub w : List ℕ
  w = tab 260 (λ i. get_or f (where_d (suc i)) 0)

  pub control_bit : (k y : ℕ) → k < 320 → place_at k ≡ C y → from1 (control_of f) y ≡ get_or f k 0
  unfolding control_of
  control_bit k y h e =
      let g = found_c k y h e in
      at_tab 21 (λ i. get_or f (where_c (suc i)) 0) (y - 1) (omega (arith, g.0, g.1)) ∙ ap (λ (j : ℕ). get_or f j 0) g.2

  pub data_bit : (k y : ℕ) → k < 320 → place_at k ≡ D y → from1 w y ≡ get_or f k 0
  data_bit k y h e =
      let g = found_d k y h e in
      at_tab 260 (λ i. get_or f (where_d (suc i)) 0) (y - 1) (omega (arith, g.0, g.1)) ∙ ap (λ (j : ℕ). get_or f j 0) g.2

  pub reading_says : ReadingSays x
  unfolding speech_of
  reading_says = record {
    control = λ o i y ho hi e. control_bit (8 * o + i) y (omega (arith, ho, hi)) (place_in o i hi ∙ e) ∙ bit_in_lem o i ho hi;
    speech = λ o i k ho hi hk e.
        at_fetched importance w k (omega (arith, importance_permutes.long, hk)) ∙ data_bit (8 * o + i) (get_or importance k 0) (omega (arith, ho, hi)) (place_in o i hi ∙ e) ∙ bit_in_lem o i ho hi;
  }

-- ---- reading
module _ (x c d : List ℕ) where
  abbrev r : FrameAnswer
  r = frame_read x c d

  abbrev fixed : Bool
  fixed = fixed_right (unpacked x)

  abbrev type : Bool
  type = is_speech (control_of (unpacked x))

  refuses_read : (y : Refusal) → read_told c d x ≡ Err y → FrameRefuses x c d (number_of y)
  refuses_read y e = let m = read_refused c d x y e in record { told = ap of_told (sym m.told); control = sym m.first; speech = sym m.second }

  done_read : read_told c d x ≡ (Ok tt) → FrameReturns r None (control_read x) (speech_read x)
  done_read e =
      let m = read_done c d x (control_read x) (speech_read x) e refl refl in
      record { told = ap of_told (sym m.told); control = sym m.first; speech = sym m.second }

  abbrev told : ℕ
  told = or_none (of_told r.result).number

  told_1 : sized c d x ≡ false → told ≡ 1
  told_1 s = ap (λ q. or_none q.number) (refuses_read Length (read_1 c d x s)).told

  told_18 : sized c d x ≡ true → fixed ≡ false → told ≡ 18
  told_18 s b = ap (λ q. or_none q.number) (refuses_read FixedBit (read_18 c d x s b)).told

  told_19 : sized c d x ≡ true → fixed ≡ true → type ≡ false → told ≡ 19
  told_19 s b t = ap (λ q. or_none q.number) (refuses_read FrameType (read_19 c d x s b t)).told

  told_0 : sized c d x ≡ true → fixed ≡ true → type ≡ true → told ≡ 0
  told_0 s b t = ap (λ q. or_none q.number) (done_read (read_0 c d x s b t)).told

  right_so : Sized c d x → (WrongBit x → ⊥) → fixed ≡ true
  right_so s n = must_be fixed (λ t. n (fixed_wrong x s.octets t))

  no_wrong : Sized c d x → fixed ≡ true → WrongBit x → ⊥
  no_wrong s t w = false_true (sym (wrong_fixed x s.octets w) ∙ t)

  five_read : Sized c d x → 5 ≤ length (control_of (unpacked x))
  five_read s = omega (arith, length_control x s.octets)

  pub read_says : ReadSays x c d
  read_says = record {
    one = λ n. refuses_read Length (read_1 c d x (not_true (sized c d x) (λ t. n (is_sized c d x t))));
    eighteen = λ s w. refuses_read FixedBit (read_18 c d x (sized_is c d x s) (wrong_fixed x s.octets w));
    nineteen = λ s n y. refuses_read FrameType (read_19 c d x (sized_is c d x s) (right_so s n) (not_true type (λ t. y (is_type (control_read x) (five_read s) t))));
    done = λ s n y. done_read (read_0 c d x (sized_is c d x s) (right_so s n) (type_is (control_read x) y));
    only = λ e. let z : told ≡ 0 = ap or_none e in
        three_tests (sized c d x) fixed type (Sized c d x × (WrongBit x → ⊥) × SpeechType (control_read x)) (λ s. absurd (omega (arith, z, told_1 s))) (λ s b. absurd (omega (arith, z, told_18 s b))) (λ s b t. absurd (omega (arith, z, told_19 s b t)))
        (λ s b t. let g = is_sized c d x s in (g, no_wrong g b, is_type (control_read x) (five_read g) t));
    only_18 = λ e. let z : told ≡ 18 = ap or_none e in
        three_tests (sized c d x) fixed type (Sized c d x × WrongBit x) (λ s. absurd (omega (arith, z, told_1 s))) (λ s b. let g = is_sized c d x s in (g, fixed_wrong x g.octets b)) (λ s b t. absurd (omega (arith, z, told_19 s b t))) (λ s b t. absurd (omega (arith, z, told_0 s b t)));
    only_19 = λ e. let z : told ≡ 19 = ap or_none e in
        three_tests (sized c d x) fixed type (Sized c d x × (WrongBit x → ⊥) × (SpeechType (control_read x) → ⊥)) (λ s. absurd (omega (arith, z, told_1 s))) (λ s b. absurd (omega (arith, z, told_18 s b)))
        (λ s b t. let g = is_sized c d x s in (g, no_wrong g b, λ y. false_true (sym t ∙ type_is (control_read x) y))) (λ s b t. absurd (omega (arith, z, told_0 s b t)));
  }
