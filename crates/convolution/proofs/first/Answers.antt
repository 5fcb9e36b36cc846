-- `convolution::first` is right: an exclusive or is a sum modulo 2.
use mathlib.Core.Path.{◌≡◌, ap₂, ◌∙◌}
use lib.Bits.{bit_xor}
use Rattle.convolution.specs.Pairs.{back}
use Rattle.convolution.proofs.laws.Pairs.{first_xor}
use Rattle.convolution.proofs.first.Goals as goal

pub returns : goal.returns
returns c =
    let start = c in
    let u = start.args.u.now in
    let k = start.args.k in
    let now : c.back.result ≡ back u k 0 = c.back.ensures in
    let third : c.back-2.result ≡ back u k 3 = c.back-2.ensures in
    let fourth : c.back-3.result ≡ back u k 4 = c.back-3.ensures in
    ap₂ bit_xor (ap₂ bit_xor now third) fourth ∙ first_xor u start.requires.1 k
