-- `drawing::clock` is right: each cell holds what moved up into it, with the sum where a tap leads in.
use mathlib.Core.Path.{refl}
use borrow.Author.Rules.{rules}
use lib.Bits.{bit_xor}
use lib.ListN.{get_or}
use Rattle.bits.specs.Bits.{tab_from}
use Rattle.parity.specs.Division.{occurs}
use Rattle.drawing.specs.Drawing.{control_taps, is_tap, from_below}
use Rattle.drawing.proofs.laws.Drawing.{clock_is}
use Rattle.drawing.proofs.clock.Goals as goal

pub returns : goal.returns
unfolding control_taps is_tap occurs from_below tab_from
returns c =
    let s = c.args in
    clock_is control_taps s.cells s.bit 39 (search rules) c.requires.0 c.requires.1 refl (bit_xor s.bit (get_or s.cells 39 0)) refl
