-- The choices as the code remembers them, and the walk back through them.
use Rattle.std.specs.Prelude.{◌≡◌}
use mathlib.Core.List.{List, [], ◌∷◌}
use Prim.Native.Nat.{ℕ, zero, suc, ◌/◌, ◌%◌, ◌^◌, ◌<◌}
use Rattle.std.proofs.Math.ListN.{get_or}
use Rattle.bits.specs.Bits.{tab, value}
use Rattle.register.specs.Register.{bit, from, choice}
use Rattle.trellis.specs.Nearest.{pair_cost}
use Rattle.trellis.specs.laws.Steps.{turned}

-- ---- the walk back through any choices g, the newest bit first
unfoldable pub retrace : (ℕ → ℕ → ℕ) → ℕ → ℕ → List ℕ
retrace g zero s = []
retrace g (suc t) s = bit 8 s ∷ retrace g t (from 8 s (g t s))

-- ---- the choices of pair t in one word, what the memory holds, and the choices that the walk reads out of it
abbrev pub word_of : List ℕ → ℕ → ℕ
word_of r t = value (tab 16 (turned (choice 8 (pair_cost r) 65535 t)))

abbrev pub Remembers : List ℕ → ℕ → List ℕ → Type 0
Remembers r n m = (t : ℕ) → t < n → get_or m t 0 ≡ word_of r t

unfoldable pub bits_of : List ℕ → ℕ → ℕ → ℕ
bits_of m t s = get_or m t 0 / 2 ^ s % 2
