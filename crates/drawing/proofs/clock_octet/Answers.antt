-- `drawing::clock_octet` is right: after i turns the first i bits have entered.
use mathlib.Core.List.{List}
use mathlib.Core.Path.{◌≡◌, refl, sym, ap₂, ◌∙◌, subst}
use Prim.Native.Nat.{ℕ, ◌+◌, ◌<◌, ◌≤◌}
use native.Mathlib.Omega.{arith}
use borrow.Author.Rules.{rules}
use Rattle.std.proofs.lemmas.List.{get_or-take}
use lib.ListN.{length, get_or, take}
use Rattle.bits.specs.Bits.{Bits}
use Rattle.drawing.specs.Drawing.{control_taps, clocked, clocked_in}
use Rattle.drawing.proofs.laws.Drawing.{bits_entered, entered_more}
use Rattle.drawing.proofs.clock_octet.Goals as goal

pub loop-bit-init : goal.loop-bit-init
unfolding clocked_in
loop-bit-init c = refl

-- the bit of this turn is the octet's at its place, also where the loop goes over a part of the octet (must-fail/one_clock_too_few): get_or-take says so
bit_here : (octet : List ℕ) (k x : ℕ) → Bits octet → x ≡ get_or octet k 0 → x ≤ 1
bit_here octet k x b e = subst (λ (v : ℕ). v ≤ 1) (sym e) (b k)

pub clock-next-requires : goal.clock-next-requires
clock-next-requires c =
    let l = c.loop-bit in (
      subst Bits (sym l.invariant) (bits_entered control_taps c.args.cells (take l.bit-index c.args.octet.now) c.requires.0),
      bit_here c.args.octet.now l.bit-index _ c.requires.1 (search (rules, get_or-take)),
    )

one_more : (cells octet held next : List ℕ) (k x : ℕ) → k < length octet → held ≡ clocked_in control_taps cells (take k octet) → next ≡ clocked control_taps held x
    → x ≡ get_or octet k 0 → next ≡ clocked_in control_taps cells (take (k + 1) octet)
one_more cells octet held next k x h eh en ex = en ∙ ap₂ (clocked control_taps) eh ex ∙ sym (entered_more control_taps cells octet k h)

pub loop-bit-preserved : goal.loop-bit-preserved
loop-bit-preserved c =
    let l = c.loop-bit in
    one_more c.args.cells c.args.octet.now l.held c.clock-next.result l.bit-index _ (omega arith) l.invariant c.clock-next.ensures (search (rules, get_or-take))
