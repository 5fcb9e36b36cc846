-- `places::fill_four` is right: of blocks that stand twice come the four bursts.
use mathlib.Core.List.{List}
use mathlib.Core.Path.{ap₂, ◌∙◌}
use Prim.Native.Nat.{ℕ}
use Rattle.places.specs.laws.Table.{four_of_twice}
use Rattle.places.proofs.laws.Table.{four_twice}
use Rattle.places.proofs.fill_four.Goals as goal

pub returns : goal.returns
returns c =
    let s = c.args in
    c.fill_parts.ensures
    ∙ ap₂ (λ (a b : List ℕ). four_of_twice a b s.flags) c.twice.ensures c.twice-2.ensures
    ∙ four_twice s.a.now s.b.now s.flags c.requires.0 c.requires.1
