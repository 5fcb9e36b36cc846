-- The place in the frame of a bit that is carried, by the rule of the code.
use Rattle.std.specs.Prelude.{ℕ, ◌+◌, ◌*◌, ◌/◌, ◌%◌}

abbrev pub carried_at : ℕ → ℕ
carried_at j = 16 * (j / 15) + 17 + j % 15
