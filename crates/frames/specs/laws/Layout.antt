-- The frame by its rule, as the code lays it out and takes it apart.
use Rattle.std.specs.Prelude.{ltb, drop}
use mathlib.Core.List.{List, ◌++◌}
use Prim.Native.Nat.{ℕ, ◌+◌, ◌-◌, ◌*◌, ◌/◌, ◌%◌}
use Rattle.std.proofs.Math.Dec.{eqb}
use Rattle.std.proofs.Math.ListN.{get_or, take}
use Rattle.bits.specs.Bits.{pick, tab, ones}
use Rattle.frames.specs.laws.Printed.{carried_at}

-- ---- the bits p that a frame carries, in their places
abbrev pub laid_at : List ℕ → ℕ → ℕ
laid_at p k = pick (ltb k 16) 0 (pick (eqb (k % 16) 0) 1 (get_or p (15 * (k / 16 - 1) + (k % 16 - 1)) 0))

unfoldable pub laid_out : List ℕ → List ℕ
laid_out p = tab 320 (laid_at p)

abbrev pub taken_at : List ℕ → ℕ → ℕ
taken_at f j = get_or f (carried_at j) 0

unfoldable pub taken_out : List ℕ → List ℕ
taken_out f = tab 285 (taken_at f)

-- which bits a frame carries: c and w are C1 to C21 and D1 to D260
abbrev pub carries : List ℕ → List ℕ → List ℕ
carries c w = take 15 c ++ (w ++ (drop 15 c ++ ones 4))
