-- A block out of the held bursts: its coded bits and its eight flags.
use Rattle.std.specs.Prelude.{List, ℕ, ◌+◌, ◌%◌, ltb, eqb}
use Rattle.bits.specs.Bits.{pick, tab, value}
use Rattle.burst.specs.Numbers.{first_burst}
use Rattle.places.specs.Places.{e_at, hl, hu}
use Rattle.burst.specs.Ring.{held_bit}

-- 01: bit k of block n goes to burst 4n + (k mod 8), at its e-index
unfoldable pub held_block_at : List ℕ → ℕ → ℕ → ℕ
held_block_at held n k = held_bit held (first_burst n + k % 8) (e_at k)

unfoldable pub held_block : List ℕ → ℕ → List ℕ
held_block held n = tab 456 (held_block_at held n)

-- 01: a block's eight flags are hu of its first four bursts and hl of its last four
unfoldable pub held_flag_at : List ℕ → ℕ → ℕ → ℕ
held_flag_at held n i = held_bit held (first_burst n + i) (pick (ltb i 4) hu hl)

-- does a flag say b? 02, M-102: a missing flag has no vote, it says neither 0 nor 1
unfoldable pub saying : ℕ → ℕ → ℕ
saying b flag = pick (eqb flag b) 1 0

-- which of eight flags say b, in one byte, the first the highest
unfoldable pub sayers : ℕ → (ℕ → ℕ) → ℕ
sayers b flag = value (tab 8 (λ i. saying b (flag i)))

unfoldable pub held_flags : ℕ → List ℕ → ℕ → ℕ
held_flags b held n = sayers b (held_flag_at held n)
