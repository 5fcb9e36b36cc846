-- One more bit brought down, as the code does it with numbers.
use Rattle.std.specs.Prelude.{ℕ, ◌+◌, ◌-◌, ◌*◌, ltb}
use Rattle.std.specs.Int.Bits.{bit_xor}
use Rattle.bits.specs.Bits.{pick}

-- ---- the same with numbers
unfoldable pub brought_down : ℕ → ℕ → ℕ → ℕ → ℕ
brought_down g top h b = pick (ltb (2 * h + b) top) (2 * h + b) (bit_xor g (2 * h + b - top))
