-- `parity::bring_down` is right: the quotient's next bit is 0 or 1, and the two products are the two cases of `brought_down`.
use mathlib.Core.Path.{ap, ◌∙◌}
use Prim.Native.Nat.{ℕ, ◌+◌, ◌*◌, ◌/◌, ◌^◌, ◌≤◌}
use native.Mathlib.Omega.{arith}
use lib.Bits.{bit_xor}
use lib.Pow.{pow_mono}
use Rattle.parity.proofs.laws.Brought.{quotient_bit, bring_times, times_bit}
use Rattle.parity.proofs.bring_down.Goals as goal

-- D^degree leaves two bits of a u64 free
narrow : (k : ℕ) → k ≤ 62 → 2 ^ k ≤ 4611686018427387904
narrow k h = pow_mono h

pub overflow_mul-result : goal.overflow_mul-result
overflow_mul-result c =
    let a = c.args in
    let brought : ℕ = 2 * a.held + a.bit in
    let q = quotient_bit a.generator a.degree a.held a.bit c.requires.2 c.requires.3 in
    omega (arith, times_bit (c.power.result + a.generator) (brought / 2 ^ a.degree) q, c.power.ensures, c.requires.1, narrow a.degree c.requires.0)

pub returns : goal.returns
returns c =
    let a = c.args in
    let brought : ℕ = 2 * a.held + a.bit in
    ap (λ (p : ℕ). bit_xor brought ((p + a.generator) * (brought / 2 ^ a.degree))) c.power.ensures
    ∙ bring_times a.generator a.degree a.held a.bit c.requires.2 c.requires.3 c.requires.1
