-- `trellis::search::earlier` is right: below 16 the state behind s is 2(s mod 8) and the choice.
use mathlib.Core.Path.{sym}
use Prim.Native.Nat.{◌/◌, ◌%◌, ◌^◌}
use native.Mathlib.Omega.{arith}
use Rattle.trellis.proofs.laws.Steps.{behind}
use Rattle.trellis.proofs.search.earlier.Goals as goal

pub returns : goal.returns
returns c = let s = c.args in (sym (behind s.s c.requires (s.word / 2 ^ s.s % 2)), omega arith)
