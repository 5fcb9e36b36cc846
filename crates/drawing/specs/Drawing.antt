-- 02, M-104: the register of the workbook's drawing, its cells from cell 0 up. No parity is defined here, it stands in parity, Division: proofs/laws/Drawing has
-- that such a register works it out, whatever the taps and however many the cells.
use Rattle.std.specs.Prelude.{Bool, List, [], ◌∷◌, ℕ, zero, suc, ◌-◌, ◌%◌, eqb, length, get_or}
use Rattle.bits.specs.Bits.{pick, tab, sum}
use Rattle.parity.specs.Division.{occurs}

-- the cells into which the taps of the control drawing lead; 000, 4.1.2, multiplied out, is D^40 + D^26 + D^23 + D^17 + D^3 + 1
unfoldable pub control_taps : List ℕ
control_taps = 0 ∷ 3 ∷ 17 ∷ 23 ∷ 26 ∷ []

-- does a tap lead into cell i?
unfoldable pub is_tap : List ℕ → ℕ → Bool
is_tap taps i = eqb (occurs i taps % 2) 1

-- the bit is added to what leaves the last cell
unfoldable pub fed_back : List ℕ → ℕ → ℕ
fed_back cells bit = sum bit (get_or cells (length cells - 1) 0)

-- the cells move up by one: cell i gets what the cell below it held, and cell 0 nothing
unfoldable pub from_below : List ℕ → ℕ → ℕ
from_below cells zero = 0
from_below cells (suc i) = get_or cells i 0

-- the sum enters at the taps
unfoldable pub cell_at : List ℕ → List ℕ → ℕ → ℕ → ℕ
cell_at taps cells fed i = pick (is_tap taps i) (sum (from_below cells i) fed) (from_below cells i)

-- one clock
unfoldable pub clocked : List ℕ → List ℕ → ℕ → List ℕ
clocked taps cells bit = tab (length cells) (cell_at taps cells (fed_back cells bit))

-- one bit enters at a time
unfoldable pub clocked_in : List ℕ → List ℕ → List ℕ → List ℕ
clocked_in taps cells [] = cells
clocked_in taps cells (b ∷ d) = clocked_in taps (clocked taps cells b) d

-- what is read off: the complement of each cell, the last cell first
unfoldable pub read_off : List ℕ → List ℕ
read_off cells = tab (length cells) (λ k. 1 - get_or cells (length cells - 1 - k) 0)
