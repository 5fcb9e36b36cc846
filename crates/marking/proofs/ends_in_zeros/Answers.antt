-- `marking::ends_in_zeros` is right: the part from the fourth place before the end on is all that stands there. This answer stays, so that the edit tail_one_place_early fails at this fact.
use mathlib.Core.List.{List}
use mathlib.Core.Path.{ap, ◌∙◌}
use Prim.Native.Nat.{ℕ, ◌-◌}
use native.Mathlib.Omega.{arith}
use lib.ListN.{length, drop, length-drop}
use lib.Seq.{take_all}
use Rattle.bits.specs.Bits.{none_over}
use Rattle.marking.proofs.ends_in_zeros.Goals as goal

pub returns : goal.returns
returns c =
    let u : List ℕ = c.args.u.now in
    c.none_over.ensures ∙ ap (none_over 0) (take_all (length u - (length u - 4)) (drop (length u - 4) u) (omega (arith, length-drop (length u - 4) u)))
