-- 02, M-103: examples over the definitions, as one table with its one proof, what is said being the independent reference's; and a block to which 10 is
-- answered.
use Rattle.std.specs.Prelude.{true, List, [], ◌∷◌, ◌≡◌, refl, ℕ, suc, eqb, length}
use Rattle.bits.specs.Bits.{pick, largest, none_over, tab, tab_from, add, zeros, ones}
use Rattle.parity.specs.Division.{occurs, product, lower, divide, remainder, parity, crc, speech_g, efr_g}
use Rattle.convolution.specs.Pairs.{back, first, second, coded_at, coded}
use Rattle.order.specs.Order.{fetched}
use Rattle.answers.specs.Answers.{sent_or, tells}
use Rattle.coder.specs.Blocks.{speech_p, speech_u_at, speech_u, speech_block}
use Rattle.coder.specs.Entries.{judged, entry}
use Rattle.coder.specs.Examples.{ones_from, Example, is, all_hold}
use Rattle.efr.specs.Entries.{efr_block, efr_sent, efr_received}
use Rattle.efr.specs.Says.{FindsBad}
use Rattle.preliminary.specs.Stage.{crc_p, w_at, efr_w, efr_d}
use Rattle.tables.specs.Tables.{important, class1a, class1b, class2, spread, ordering}

-- s with ones at s(1), which the CRC is over, at s(70), which is repeated, and at s(244), the last; and with a one at s(39) alone, which is b(1)
abbrev pub three : List ℕ
three = tab 244 (λ i. pick (eqb (suc i) 1) 1 (pick (eqb (suc i) 70) 1 (pick (eqb (suc i) 244) 1 0)))

abbrev pub one : List ℕ
one = tab 244 (λ i. pick (eqb (suc i) 39) 1 0)

unfoldable pub table : List Example
table =
    is (ones_from 0 (efr_sent three (zeros 456)).left) (50 ∷ 51 ∷ 53 ∷ 56 ∷ 57 ∷ 58 ∷ 59 ∷ 66 ∷ 67 ∷ 69 ∷ 72 ∷ 73 ∷ 74 ∷ 75 ∷ 164 ∷ 165 ∷ 167 ∷ 170 ∷ 171 ∷ 172 ∷ 173 ∷ 182 ∷ 183 ∷ 184 ∷ 186 ∷ 188 ∷ 194 ∷ 195 ∷ 298 ∷ 299 ∷ 300 ∷ 302 ∷ 305 ∷ 307 ∷ 312 ∷ 313 ∷ 378 ∷ 379 ∷ 380 ∷ [])
    ∷ is (crc_p one) (0 ∷ 1 ∷ 1 ∷ 0 ∷ 0 ∷ 1 ∷ 0 ∷ 1 ∷ [])
    ∷ []

pub examples : all_hold table ≡ true
unfolding all_hold table tab tab_from largest none_over add zeros ones occurs product lower divide remainder parity crc speech_g efr_g back first second coded_at coded fetched sent_or tells speech_p speech_u_at speech_u speech_block judged entry efr_block efr_sent crc_p w_at efr_w efr_d important class1a class1b class2 spread ordering
examples = refl

-- ---- a speech block whose d(50), which is s(1), is 1, and all else 0, the CRC's eight bits too: its three-bit parity is good, as that of every speech block
-- that was sent, but its CRC is not
unfoldable pub crc_alone : List ℕ
crc_alone = speech_block (tab 260 (λ j. pick (eqb j 50) 1 0))

-- it is answered by 10 and count 0, and the buffer is left. Proved in proofs/laws/Ten
abbrev pub TenOccurs : Type 0
TenOccurs = (out : List ℕ) → length out ≡ 244 → FindsBad (efr_received crc_alone out) 10 0 out
