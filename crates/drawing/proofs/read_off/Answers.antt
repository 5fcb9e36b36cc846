-- `drawing::read_off` is right: after k turns the first k places are read off.
use mathlib.Core.Path.{◌≡◌, sym, ap, ◌∙◌}
use Prim.Native.Nat.{ℕ, ◌-◌}
use borrow.Author.Rules.{rules}
use lib.ListN.{length, get_or}
use Rattle.bits.specs.Bits.{tab}
use Rattle.bits.proofs.laws.Tab.{filled_all}
use Rattle.drawing.specs.Drawing.{read_off}
use Rattle.drawing.proofs.read_off.Invariants.{turned}
use Rattle.drawing.proofs.read_off.Goals as goal

pub returns : goal.returns
unfolding read_off
returns c =
    let cells = c.args.cells in
    let l = c.loop-k in
    let long : length cells ≡ 40 = search rules in
    filled_all (turned cells) 40 l.k l.p l.invariant c.loop-k-test.false ∙ ap (λ (n : ℕ). tab n (λ j. 1 - get_or cells (n - 1 - j) 0)) (sym long)
