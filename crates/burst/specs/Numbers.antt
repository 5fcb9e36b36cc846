-- The numbers of blocks and bursts, both counted from 0: the first burst of a block, and the block that a burst ends.
use Rattle.std.specs.Prelude.{Option, Some, None, ℕ, ◌-◌, ◌*◌, ◌/◌, ◌%◌, eqb, leb}
use Rattle.bits.specs.Bits.{pick, both}
use Rattle.burst.specs.declared.numbers.BlockNumber.{BlockNumber}

-- 01: bit k of block n goes to burst 4n + (k mod 8), so 4n is the first burst of block n
unfoldable pub first_burst : ℕ → ℕ
first_burst n = 4 * n

-- 01: burst 4n+7 brings the answer for block n; every other brings none
unfoldable pub ended : ℕ → Option BlockNumber
ended b = pick (both (leb 7 b) (eqb (b % 4) 3)) (Some (record { 0 = b / 4 - 1 })) None
