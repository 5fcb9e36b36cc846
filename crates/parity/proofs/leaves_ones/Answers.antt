-- `parity::leaves_ones` is right: it compares the number that division leaves, the colour taken off. Written out, so that the edit `identity_left_out` fails at this equation.
use mathlib.Core.Path.{ap₂}
use Prim.Native.Nat.{ℕ}
use lib.Bits.{bit_xor}
use lib.Dec.{eqb}
use Rattle.parity.proofs.leaves_ones.Goals as goal

pub returns : goal.returns
returns c =
    ap₂ (λ (x y : ℕ). eqb (bit_xor x c.args.colour) y) c.remainder.ensures c.all_ones.ensures
