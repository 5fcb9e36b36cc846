-- 10 occurs: a block that nobody altered, with good parity and a bad CRC.
use Rattle.std.specs.Prelude.{true, false, List, ◌++◌, ◌≡◌, refl, ℕ, ◌+◌, ◌*◌, T, eqb, leb, length, take, drop}
use Rattle.std.proofs.Common.{ap, ◌∙◌, leb→le}
use Rattle.bits.specs.Bits.{Bits, pick, largest, none_over, is_missing, missing, total, differ, given_as, given_bits, tab, tab_from, add, zeros, ones, value}
use Rattle.bits.proofs.laws.Check.{none_over_lem}
use Rattle.bits.proofs.laws.Tab.{length_tab}
use Rattle.parity.specs.Division.{occurs, product, lower, divide, remainder, parity, speech_g, efr_g}
use Rattle.convolution.specs.Pairs.{back, first, second, coded_at, coded}
use Rattle.trellis.specs.Nearest.{disagreements}
use Rattle.order.specs.Order.{fetched, place_in, put_back}
use Rattle.coder.specs.Blocks.{speech_p, speech_u_at, speech_u, speech_block}
use Rattle.coder.specs.Entries.{Given}
use Rattle.coder.specs.Received.{Hearing, speech_heard}
use Rattle.coder.proofs.laws.Hearings.{speech_hearing}
use Rattle.efr.specs.Examples.{crc_alone, TenOccurs}
use Rattle.preliminary.specs.Stage.{w_of, in_w, s_of, crc_word, crc_good}
use Rattle.tables.specs.Tables.{important, class1a, class1b, class2, spread, ordering}
use Rattle.efr.proofs.laws.Says.{finds_bad_crc}

abbrev d : List ℕ
d = tab 260 (λ j. pick (eqb j 50) 1 0)

bits : Bits d
unfolding none_over largest tab tab_from
bits = none_over_lem 1 d refl

given : (out : List ℕ) → length out ≡ 244 → Given 2 456 244 crc_alone out
unfolding crc_alone none_over largest tab tab_from add ones occurs product lower divide remainder parity speech_g back first second coded_at coded speech_p speech_u_at speech_u speech_block
given out l = record { reads = refl; bits = none_over_lem 2 crc_alone refl; lends = l }

-- nothing is altered, and nothing missing
near : T (leb (2 * disagreements (take 378 crc_alone) (take 378 (speech_block d)) + missing (take 378 crc_alone)) 6)
unfolding crc_alone disagreements missing total differ is_missing tab tab_from add ones occurs product lower divide remainder parity speech_g back first second coded_at coded speech_p speech_u_at speech_u speech_block
near = tt

none : disagreements (take 378 crc_alone) (take 378 (speech_block d)) ≡ 0
unfolding crc_alone disagreements total differ is_missing tab tab_from add ones occurs product lower divide remainder parity speech_g back first second coded_at coded speech_p speech_u_at speech_u speech_block
none = refl

heard : speech_heard crc_alone ≡ record { bits = take 182 d ++ given_bits (drop 378 crc_alone); good = true; count = disagreements (take 378 crc_alone) (take 378 (speech_block d)) }
unfolding zeros
heard = speech_hearing d crc_alone (length_tab 260 (λ j. pick (eqb j 50) 1 0)) bits (given (zeros 244) refl).reads
    (leb→le (2 * disagreements (take 378 crc_alone) (take 378 (speech_block d)) + missing (take 378 crc_alone)) 6 near)

wrong : crc_good (w_of (take 182 d ++ given_bits (drop 378 crc_alone))) ≡ false
unfolding crc_good crc_word w_of s_of in_w fetched place_in put_back important ordering spread class1a class1b class2 value efr_g given_bits given_as is_missing crc_alone tab tab_from add ones occurs product lower divide remainder parity speech_g back first second coded_at coded speech_p speech_u_at speech_u speech_block
wrong = refl

pub ten_occurs : TenOccurs
ten_occurs out l =
    finds_bad_crc crc_alone out (given out l) 0 (ap (λ (h : Hearing). h.good) heard) (ap (λ (h : Hearing). h.count) heard ∙ none)
    (ap (λ (h : Hearing). crc_good (w_of h.bits)) heard ∙ wrong)
