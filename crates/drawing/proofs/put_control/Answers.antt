-- `drawing::put_control` is right: what is read off the cells are the parity bits, by the law of drawings.
use mathlib.Core.Path.{sym, ap, ◌∙◌, subst}
use borrow.Author.Rules.{rules}
use Rattle.bits.specs.Bits.{Bits, zeros}
use Rattle.bits.proofs.laws.Sum.{bits_zeros}
use Rattle.drawing.specs.Drawing.{control_taps, read_off}
use Rattle.drawing.proofs.laws.Drawing.{bits_entered, control_drawn}
use Rattle.drawing.proofs.put_control.Goals as goal

pub read_off-requires : goal.read_off-requires
read_off-requires c =
    let d = c.args.d.now in
    (subst Bits (sym c.clock_block-cells.ensures) (bits_entered control_taps (zeros 40) d (bits_zeros 40)), search rules)

pub returns : goal.returns
returns c =
    let d = c.args.d.now in
    c.read_off.ensures ∙ ap read_off c.clock_block-cells.ensures ∙ control_drawn d c.requires.0
