-- What one pair does to a row, as the code has it: the sixteen numbers and the sixteen choices, packed into one word.
use Rattle.std.specs.Prelude.{ltb, get_or}
use mathlib.Core.List.{List, [], ◌∷◌}
use Prim.Native.Nat.{ℕ, ◌+◌, ◌-◌, ◌*◌, ◌/◌, ◌%◌, min}
use Rattle.bits.specs.Bits.{pick, tab, differ}
use Rattle.register.specs.Register.{from, bit}
use Rattle.convolution.specs.Pairs.{pair_of}

-- what the pair costs that leads by the second way into state s, when x and y are received
unfoldable pub cost_into : ℕ → ℕ → ℕ → ℕ
cost_into x y s = differ (pair_of (from 8 s 1) (bit 8 s) / 2) x + differ (pair_of (from 8 s 1) (bit 8 s) % 2) y

-- the costs of the nine pairs that can be received, those of x and y at 3x + y
unfoldable pub cost_table : List (List ℕ)
cost_table =
    tab 16 (cost_into 0 0) ∷
    tab 16 (cost_into 0 1) ∷
    tab 16 (cost_into 0 2) ∷
    tab 16 (cost_into 1 0) ∷
    tab 16 (cost_into 1 1) ∷
    tab 16 (cost_into 1 2) ∷
    tab 16 (cost_into 2 0) ∷
    tab 16 (cost_into 2 1) ∷
    tab 16 (cost_into 2 2) ∷ []

-- the way o into state s, out of the row f at the costs w: the first way costs what the second way into the state eight further on does
unfoldable pub way_of : List ℕ → List ℕ → ℕ → ℕ → ℕ
way_of f w s o = min (get_or f (from 8 s o) 0 + get_or w ((s + 8 + 8 * o) % 16) 0) 65535

unfoldable pub step_at : List ℕ → List ℕ → ℕ → ℕ
step_at f w s = min (way_of f w s 0) (way_of f w s 1)

-- the order of the word of choices: state 15 in the highest bit, state 0 in the lowest
abbrev pub turned : (ℕ → ℕ) → ℕ → ℕ
turned f i = f (15 - i)

unfoldable pub chosen_at : List ℕ → List ℕ → ℕ → ℕ
chosen_at f w s = pick (ltb (way_of f w s 1) (way_of f w s 0)) 1 0
