-- 02, M-113: the 260 bits of full rate speech: GSM 06.10's parameters, and 000's table 2, which has their bits in the order of importance.
use Rattle.std.specs.Prelude.{List, [], ◌∷◌, ◌++◌, ℕ, suc, ◌+◌, ◌-◌, get_or, replicate}
use Rattle.bits.specs.Bits.{tab, total}

-- ---- GSM 06.10: 76 parameters and their widths in bits. Parameters 1 to 8 are the log area ratios; then there are four times LPT lag, LPT gain, grid position, block
-- amplitude and thirteen pulses
abbrev pub ratios : List ℕ
ratios = 6 ∷ 6 ∷ 5 ∷ 5 ∷ 4 ∷ 4 ∷ 3 ∷ 3 ∷ []

abbrev pub quarter : List ℕ
quarter = 7 ∷ 2 ∷ 2 ∷ 6 ∷ replicate 13 3

unfoldable pub widths : List ℕ
widths = ratios ++ (quarter ++ (quarter ++ (quarter ++ quarter)))

-- the coder puts out parameter by parameter, the least significant bit of each, which has index 0, first. So this is the number, from 1, of a bit of a parameter: 1 is D1 (001,
-- 3.5.1.1.2)
unfoldable pub output : ℕ → ℕ → ℕ
output parameter index = suc (total (parameter - 1) (λ i. get_or widths i 0) + index)

-- ---- 000, table 2: a row has one parameter or several, which come in the row's order, and the index of the bit that it takes of each
pub record Row : Type 0 where
  pub parameters : List ℕ
  pub index : ℕ

abbrev pub row : List ℕ → ℕ → Row
row parameters index = record { parameters = parameters; index = index }

-- a row of one parameter; and a row of pulses, from the first to the last
abbrev pub alone : ℕ → ℕ → Row
alone parameter index = row (parameter ∷ []) index

abbrev pub pulses : ℕ → ℕ → ℕ → Row
pulses first last index = row (tab (suc (last - first)) (λ i. first + i)) index

-- the parameters that there are four of. Of the block amplitude table 2 prints 12,29,43,63 in all its rows but the first, which is a misprint: 43 is an LPT lag
abbrev pub lag : List ℕ
lag = 9 ∷ 26 ∷ 43 ∷ 60 ∷ []

abbrev pub gain : List ℕ
gain = 10 ∷ 27 ∷ 44 ∷ 61 ∷ []

abbrev pub grid : List ℕ
grid = 11 ∷ 28 ∷ 45 ∷ 62 ∷ []

abbrev pub amplitude : List ℕ
amplitude = 12 ∷ 29 ∷ 46 ∷ 63 ∷ []

-- class 1 with parity check, d0 to d49: importance classes 1, 2 and 3, a line each, and the first rows of 4
unfoldable pub checked : List Row
checked =
    alone 1 5 ∷ row amplitude 5 ∷
    alone 1 4 ∷ alone 2 5 ∷ alone 3 4 ∷
    alone 1 3 ∷ alone 2 4 ∷ alone 3 3 ∷ alone 4 4 ∷ row lag 6 ∷ row amplitude 4 ∷ row (2 ∷ 5 ∷ 6 ∷ []) 3 ∷ row lag 5 ∷ row lag 4 ∷ row lag 3 ∷ row lag 2 ∷
    row amplitude 3 ∷ alone 1 2 ∷ alone 4 3 ∷ alone 7 2 ∷ row lag 1 ∷ []

-- class 1 without parity check, d50 to d181: the other rows of importance class 4, and the first of 5
unfoldable pub unchecked : List Row
unchecked =
    row (5 ∷ 6 ∷ []) 2 ∷ row gain 1 ∷ row lag 0 ∷ row grid 1 ∷
    alone 1 1 ∷ row (2 ∷ 3 ∷ 8 ∷ 4 ∷ []) 2 ∷ row (5 ∷ 7 ∷ []) 1 ∷ row gain 0 ∷ row amplitude 2 ∷
    pulses 13 25 2 ∷ pulses 30 42 2 ∷ pulses 47 59 2 ∷ pulses 64 76 2 ∷ row grid 0 ∷ row amplitude 1 ∷
    pulses 13 25 1 ∷ pulses 30 42 1 ∷ pulses 47 59 1 ∷ pulses 64 67 1 ∷ []

-- class 2, d182 to d259: the last row of importance class 5, and 6. Of the last row of pulses table 2 prints 64..67, which is a misprint: it is 64..76
unfoldable pub unprotected : List Row
unprotected =
    pulses 68 76 1 ∷
    alone 1 0 ∷ row (2 ∷ 3 ∷ 6 ∷ []) 1 ∷ alone 7 0 ∷ alone 8 1 ∷ row (8 ∷ 3 ∷ []) 0 ∷ alone 4 1 ∷ row (4 ∷ 5 ∷ []) 0 ∷ row amplitude 0 ∷
    pulses 13 25 0 ∷ pulses 30 42 0 ∷ pulses 47 59 0 ∷ pulses 64 76 0 ∷ row (2 ∷ 6 ∷ []) 0 ∷ []

-- the numbers of a row's bits, and those of the rows, one after another
unfoldable pub numbers : List ℕ → ℕ → List ℕ
numbers [] index = []
numbers (p ∷ parameters) index = output p index ∷ numbers parameters index

unfoldable pub listed : List Row → List ℕ
listed [] = []
listed (r ∷ rows) = numbers r.parameters r.index ++ listed rows

-- d(0) is D6, bit 5 of parameter 1; d(1) is D53, bit 5 of parameter 12; .. ; d(259) is D27, bit 0 of parameter 6
unfoldable pub importance : List ℕ
importance = listed (checked ++ (unchecked ++ unprotected))
