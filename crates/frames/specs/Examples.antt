-- 02, M-113: examples, worked out by the checker; the octets are the independent reference's. docs/FRAME.md works the first out by hand.
use Rattle.std.specs.Prelude.{List, [], ◌∷◌, ◌++◌, ◌≡◌, refl, ℕ, eqb, replicate}
use Rattle.bits.specs.Bits.{pick, tab, tab_from, total, value, digits}
use Rattle.order.specs.Order.{fetched, place_in, put_back}
use Rattle.tables.specs.FullRate.{widths, output, checked, unchecked, unprotected, numbers, listed, importance}
use Rattle.frames.specs.Frame.{printed, place_at, data_bits, written_at, frame_bits, frame, search, where_c, where_d, control_of, speech_of, uplink, downlink}
use Rattle.frames.specs.Octets.{packed, unpacked}

-- C6 to C21 are 0, and of d five bits are 1
abbrev pub up : List ℕ
up = uplink ++ replicate 16 0

abbrev pub five : List ℕ
five = tab 260 (λ k. pick (eqb k 0) 1 (pick (eqb k 4) 1 (pick (eqb k 49) 1 (pick (eqb k 182) 1 (pick (eqb k 259) 1 0)))))

abbrev pub five_octets : List ℕ
five_octets =
    0 ∷ 0 ∷ 136 ∷ 0 ∷ 130 ∷ 0 ∷ 128 ∷ 8 ∷
    128 ∷ 0 ∷ 128 ∷ 0 ∷ 128 ∷ 0 ∷ 128 ∷ 0 ∷
    128 ∷ 0 ∷ 128 ∷ 0 ∷ 128 ∷ 0 ∷ 128 ∷ 0 ∷
    128 ∷ 0 ∷ 128 ∷ 0 ∷ 128 ∷ 0 ∷ 128 ∷ 16 ∷
    128 ∷ 16 ∷ 128 ∷ 32 ∷ 128 ∷ 0 ∷ 128 ∷ 15 ∷ []

-- d(0) is D6, in bit 7 of octet 4; d(4) is D221, in bit 4 of octet 33; d(49) is D206, in bit 4 of octet 31; d(182) is D235, in bit 3 of octet 35; d(259) is D27, in bit 5 of octet 7
pub five_ones : frame up five ≡ five_octets
unfolding frame frame_bits packed written_at place_at printed data_bits put_back place_in importance listed numbers output widths total checked unchecked unprotected tab tab_from value
five_ones = refl

pub five_control : control_of (unpacked five_octets) ≡ up
unfolding control_of unpacked digits where_c search place_at printed tab tab_from
five_control = refl

pub five_speech : speech_of (unpacked five_octets) ≡ five
unfolding speech_of unpacked digits where_d search place_at printed fetched importance listed numbers output widths total checked unchecked unprotected tab tab_from
five_speech = refl

-- C6 to C21 and all of d are 1
pub all_ones : frame (downlink ++ replicate 16 1) (replicate 260 1) ≡ 0 ∷ 0 ∷ 243 ∷ replicate 37 255
unfolding frame frame_bits packed written_at place_at printed data_bits put_back place_in importance listed numbers output widths total checked unchecked unprotected tab tab_from value
all_ones = refl
