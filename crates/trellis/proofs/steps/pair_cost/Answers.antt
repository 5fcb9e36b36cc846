-- `trellis::steps::pair_cost` is right: the two bits of the pair are compared one by one.
use mathlib.Core.Path.{ap, ap₂, ◌∙◌}
use Prim.Native.Nat.{ℕ, ◌+◌, ◌/◌, ◌%◌}
use native.Mathlib.Omega.{arith}
use Rattle.bits.specs.Bits.{differ}
use Rattle.trellis.proofs.steps.pair_cost.Goals as goal

pub returns : goal.returns
returns c =
    let p = c.pair-p.ensures in
    let s = c.args in (
      ap₂ (λ (a b : ℕ). a + b)
          (c.apart.ensures.0 ∙ ap (λ (n : ℕ). differ (n / 2) s.x) p)
          (c.apart-2.ensures.0 ∙ ap (λ (n : ℕ). differ (n % 2) s.y) p),
      omega (arith, c.apart.ensures.1, c.apart-2.ensures.1),
    )
