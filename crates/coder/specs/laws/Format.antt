-- The format of a block whose parity stands at its end, as `coder::block` carries it.
use Rattle.std.specs.Prelude.{List, ◌++◌, ◌≡◌, ℕ, ◌+◌, ◌*◌, ◌≤◌}
use Rattle.std.specs.Int.Bits.{bit_xor}
use Rattle.bits.specs.Bits.{digits, value, zeros}
use Rattle.parity.specs.Asked.{Generates}
use Rattle.parity.specs.Division.{parity}
use Rattle.trellis.specs.Nearest.{longest}
use Rattle.coder.specs.declared.format.Format.{Format}

-- how many bits u has: the block's, its parity bits, four zeros
abbrev pub size : Format → ℕ
size f = f.bits + f.degree + 4

abbrev pub generator_of : Format → List ℕ
generator_of f = digits f.degree f.generator

-- u of the bits d: the parity bits by their number, to which the colour is added
abbrev pub laid_out : ℕ → ℕ → ℕ → List ℕ → List ℕ
laid_out generator degree colour d = d ++ (digits degree (bit_xor (value (parity (digits degree generator) d)) colour) ++ zeros 4)

-- what every format is, and its type says; no identity has more bits than the parity
pub record Fits (f : Format) : Type 0 where
  pub generates : Generates f.generator f.degree
  pub wide : 6 ≤ f.degree
  pub short : size f ≤ longest
  pub long : f.coded ≡ 2 * size f
