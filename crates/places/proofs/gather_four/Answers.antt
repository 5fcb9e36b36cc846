-- `places::gather_four` is right: the four bursts stand where a block's first four do, and where its last four do.
use mathlib.Core.Path.{◌∙◌, ap}
use mathlib.Core.List.{List, ◌++◌}
use Prim.Native.Nat.{ℕ}
use Rattle.bits.specs.Bits.{tab}
use Rattle.bits.proofs.laws.Tab.{tab_same}
use Rattle.places.specs.Places.{gathered, gathered_at}
use Rattle.places.specs.laws.Table.{placed_in}
use Rattle.places.proofs.laws.Table.{placed_twice}
use Rattle.places.proofs.gather_four.Goals as goal

pub returns : goal.returns
unfolding gathered
returns c =
    let e = c.args.e.now in
    c.gather.ensures
    ∙ ap (λ (w : List ℕ). tab 456 (placed_in w)) c.twice.ensures
    ∙ tab_same 456 (placed_in (e ++ e)) (gathered_at e) (λ k h. placed_twice e k c.requires.0 h)
