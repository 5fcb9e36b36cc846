-- What `parity::remainder` asks of a generator, D^degree + generator: a degree that a number of 64 bits holds, and powers below it.
use Rattle.std.specs.Prelude.{ℕ, ◌≤◌, ◌<◌, ◌^◌}

pub record Generates (generator degree : ℕ) : Type 0 where
  pub some : 0 < degree
  pub narrow : degree ≤ 62
  pub below : generator < 2 ^ degree
