-- `coder::control::code` is right: what is laid out is bits, of half the length of c, and is coded.
use mathlib.Core.Path.{sym, ap, ◌∙◌, subst}
use Prim.Native.Nat.{ℕ, ◌*◌}
use lib.ListN.{length}
use Rattle.bits.specs.Bits.{Bits}
use Rattle.convolution.specs.Pairs.{coded}
use Rattle.coder.specs.Blocks.{control_block}
use Rattle.coder.proofs.laws.Control.{bits_control, length_control}
use Rattle.coder.proofs.control.code.Goals as goal

pub code-requires : goal.code-requires
code-requires c =
    let d = c.args.d.now in
    let laid = c.lay_out.ensures in (
      subst Bits (sym laid) (bits_control d c.requires.bits c.requires.reads),
      c.requires.lends ∙ ap (λ (n : ℕ). 2 * n) (sym (ap length laid ∙ length_control d c.requires.bits c.requires.reads)),
    )

pub returns : goal.returns
unfolding control_block
returns c = c.code.ensures ∙ ap coded c.lay_out.ensures
