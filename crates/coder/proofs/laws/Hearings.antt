-- What is heard of a block that the search finds in what arrived: the block, good, and the count.
use Rattle.std.specs.Prelude.{Bool, true, List, ◌++◌, ◌≡◌, refl, ℕ, ◌+◌, ◌*◌, ◌≤◌, length, take, drop}
use Rattle.std.proofs.Common.{sym, ap, ap₂, ◌∙◌, subst, subst₂, arith, lit≤, length-take-le}
use Rattle.bits.specs.Bits.{Bits, given_bits, missing, add, digits, zeros}
use Rattle.bits.proofs.laws.Sum.{add_nothing}
use Rattle.bits.proofs.laws.Tab.{is_tab}
use Rattle.bits.proofs.laws.Value.{length_digits, bits_digits, digits_none}
use Rattle.places.specs.Places.{gathered_at, gathered}
use Rattle.parity.specs.Division.{parity, control_g, access_g, sch_g}
use Rattle.parity.proofs.laws.Division.{length_parity, bits_parity}
use Rattle.trellis.specs.Nearest.{Candidate, Found, disagreements}
use Rattle.trellis.proofs.laws.Distance.{corrected}
use Rattle.convolution.specs.Pairs.{coded}
use Rattle.coder.specs.Blocks.{control_u, control_block, sacch_message, colour, access_u, access_burst, sch_u, sch_burst, speech_u, speech_block}
use Rattle.coder.specs.Received.{Hearing, block_heard, speech_heard}
use Rattle.parity.proofs.laws.Generators.{control_long}
use Rattle.coder.proofs.laws.Blocks.{access_long, control_size, speech_pairs}
use Rattle.coder.proofs.laws.Order.{sacch_bit}
use Rattle.coder.proofs.laws.Restored.{coloured, coloured_candidate, restored_bits, restored_count, restored_good}
use Rattle.coder.proofs.laws.SpeechRestored.{speech_candidate, speech_bits, speech_count, speech_good}

-- ---- what is sent is d with its parity bits, to which a colour is added, coded; no colour is colour 0
pub plain : (g d : List ℕ) → Bits d → d ++ (parity g d ++ zeros 4) ≡ coloured g (digits (length g) 0) d
unfolding coloured
plain g d bd =
    ap (λ (p : List ℕ). d ++ (p ++ zeros 4))
    (sym (ap (add (parity g d)) (digits_none (length g)) ∙ add_nothing (length g) (parity g d) (length_parity g d bd) (bits_parity g d bd)))

pub control_lays : (d : List ℕ) → Bits d → control_u d ≡ coloured control_g (digits (length control_g) 0) d
unfolding control_u
control_lays d bd = plain control_g d bd

pub control_candidate : (d : List ℕ) → length d ≡ 184 → Bits d → Candidate 228 (control_u d)
control_candidate d ld bd =
    let a : List ℕ = digits (length control_g) 0 in
    let size : length d + length control_g + 4 ≡ 228 = omega (arith, ld, control_long) in
    subst₂ Candidate size (sym (control_lays d bd)) (coloured_candidate control_g a d bd (length_digits (length control_g) 0) (bits_digits (length control_g) 0))

pub control_codes : (d : List ℕ) → length d ≡ 184 → Bits d → control_block d ≡ coded (coloured control_g (digits (length control_g) 0) d)
unfolding control_block
control_codes d ld bd = ap coded (control_lays d bd)

pub sch_codes : (d : List ℕ) → length d ≡ 25 → Bits d → sch_burst d ≡ coded (coloured sch_g (digits (length sch_g) 0) d)
unfolding sch_burst sch_u
sch_codes d ld bd = ap coded (plain sch_g d bd)

pub access_codes : (i : ℕ) (d : List ℕ) → length d ≡ 8 → Bits d → access_burst i d ≡ coded (coloured access_g (digits (length access_g) i) d)
unfolding access_burst access_u colour coloured
access_codes i d ld bd = ap (λ (k : ℕ). coded (d ++ (add (parity access_g d) (digits k i) ++ zeros 4))) (sym access_long)

-- what stands at the places of a SACCH message is the control block
pub message_holds : (d : List ℕ) → length d ≡ 184 → Bits d → gathered (sacch_message d) ≡ control_block d
unfolding gathered gathered_at
message_holds d ld bd = sym (is_tab 456 (gathered_at (sacch_message d)) (control_block d) (control_size d ld bd) (λ k h. sym (sacch_bit d k h)))

-- ---- what is heard
hearing_is : (h : Hearing) (bits : List ℕ) (count : ℕ) → h.bits ≡ bits → h.good ≡ true → h.count ≡ count → h ≡ record { bits = bits; good = true; count = count }
hearing_is h bits count eb eg ec =
    ap₂ (λ (x : List ℕ) (y : Bool). record { bits = x; good = y; count = h.count }) eb eg ∙ ap (λ (k : ℕ). record { bits = bits; good = true; count = k }) ec

pub control_found : (d c : List ℕ) → length d ≡ 184 → Bits d → Found c 228 (control_u d)
    → block_heard control_g 0 184 c ≡ record { bits = d; good = true; count = disagreements c (control_block d) }
unfolding control_block
control_found d c ld bd found =
    let a : List ℕ = digits (length control_g) 0 in
    let la : length a ≡ length control_g = length_digits (length control_g) 0 in
    let ba : Bits a = bits_digits (length control_g) 0 in
    let u : control_u d ≡ coloured control_g a d = control_lays d bd in
    let size : 228 ≡ length d + length control_g + 4 = omega (arith, ld, control_long) in
    let there : Found c (length d + length control_g + 4) (coloured control_g a d) = subst₂ (λ (k : ℕ) (v : List ℕ). Found c k v) size u found in
    let heard : ℕ → Hearing = λ k. block_heard control_g 0 k c in
    hearing_is (heard 184) d (disagreements c (coded (control_u d)))
    (ap (λ (k : ℕ). (heard k).bits) (sym ld) ∙ restored_bits control_g a d bd la ba c there 0)
    (ap (λ (k : ℕ). (heard k).good) (sym ld) ∙ restored_good control_g a d bd la ba c there 0 refl)
    (ap (λ (k : ℕ). (heard k).count) (sym ld) ∙ restored_count control_g a d bd la ba c there 0 ∙ ap (λ (v : List ℕ). disagreements c (coded v)) (sym u))

pub speech_found : (d c : List ℕ) → length d ≡ 260 → Bits d → Found (take 378 c) 189 (speech_u d)
    → speech_heard c ≡ record { bits = take 182 d ++ given_bits (drop 378 c); good = true; count = disagreements (take 378 c) (take 378 (speech_block d)) }
speech_found d c ld bd found =
    hearing_is (speech_heard c) (take 182 d ++ given_bits (drop 378 c)) (disagreements (take 378 c) (take 378 (speech_block d)))
    (speech_bits d ld bd c found) (speech_good d ld bd c found) (speech_count d ld bd c found ∙ ap (disagreements (take 378 c)) (sym (speech_pairs d ld bd)))

-- 02, M-102: speech of whose protected bits t were altered and m are missing, 2t + m at most 6, is found
pub speech_hearing : (d c : List ℕ) → length d ≡ 260 → Bits d → length c ≡ 456 → 2 * disagreements (take 378 c) (take 378 (speech_block d)) + missing (take 378 c) ≤ 6
    → speech_heard c ≡ record { bits = take 182 d ++ given_bits (drop 378 c); good = true; count = disagreements (take 378 c) (take 378 (speech_block d)) }
speech_hearing d c ld bd lc few =
    speech_found d c ld bd
    (corrected 189 (take 378 c) (speech_u d) (speech_candidate d ld bd) (length-take-le 378 c (omega (arith, lc))) (lit≤ tt)
    (subst (λ (x : List ℕ). 2 * disagreements (take 378 c) x + missing (take 378 c) ≤ 6) (speech_pairs d ld bd) few))
