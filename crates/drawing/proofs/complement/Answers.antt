-- `drawing::complement` is right: the exclusive or with 1.
use mathlib.Core.Path.{◌≡◌, ◌∙◌}
use Prim.Native.Nat.{ℕ, ◌-◌, ◌≤◌}
use native.Mathlib.Omega.{arith}
use lib.Bits.{bit_xor}
use Rattle.bits.proofs.laws.Value.{xor_bits}
use Rattle.drawing.proofs.complement.Goals as goal

other : (b : ℕ) → b ≤ 1 → bit_xor 1 b ≡ 1 - b
other b h = xor_bits 1 b (omega arith) h ∙ omega (arith, h)

pub returns : goal.returns
returns c = other c.args.bit c.requires
