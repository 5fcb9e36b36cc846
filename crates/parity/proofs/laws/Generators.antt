-- The generators as the code carries them, each one computed test. That of the control block is carried as the taps of its drawing (drawing,
-- `control_taps_lem`); here is its degree.
use Rattle.std.specs.Prelude.{[], ◌∷◌, ◌≡◌, refl, ◌-◌, ◌%◌, length}
use Rattle.bits.specs.Bits.{digits, tab, tab_from}
use Rattle.bits.proofs.laws.Tab.{length_tab}
use Rattle.parity.specs.Division.{occurs, product, lower, speech_g, control_g, access_g, sch_g, efr_g}

pub speech_number : digits 3 0b011 ≡ speech_g
unfolding digits tab tab_from occurs lower speech_g
speech_number = refl

pub access_number : digits 6 0b101111 ≡ access_g
unfolding digits tab tab_from occurs lower access_g
access_number = refl

pub sch_number : digits 10 0b0101110101 ≡ sch_g
unfolding digits tab tab_from occurs lower sch_g
sch_number = refl

pub efr_number : digits 8 0b00011101 ≡ efr_g
unfolding digits tab tab_from occurs lower efr_g
efr_number = refl

pub control_long : length control_g ≡ 40
unfolding control_g lower
control_long = length_tab 40 (λ k. occurs (39 - k) (product (23 ∷ 0 ∷ []) (17 ∷ 3 ∷ 0 ∷ [])) % 2)
