-- `convolution::second` is right: the other formula has u(k-1) more.
use mathlib.Core.Path.{ap₂, ◌∙◌}
use lib.Bits.{bit_xor}
use Rattle.convolution.proofs.laws.Pairs.{second_xor}
use Rattle.convolution.proofs.second.Goals as goal

pub returns : goal.returns
returns c =
    let start = c in
    ap₂ bit_xor start.requires.2 c.back.ensures ∙ second_xor start.args.u.now start.requires.1 start.args.k
