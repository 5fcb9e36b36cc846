-- A shift register of some bits, fed bit by bit from state 0, where each step has a cost. Nothing here is of a certain code: the
-- number of states is 2 * half, so half is 2 ^ (m - 1) for a register of m bits, and the cost of a step goes by its number, the
-- state before it and the bit.
use Rattle.std.specs.Prelude.{List, [], ◌∷◌, ◌⊎◌, ◌≡◌, ℕ, zero, suc, ◌+◌, ◌-◌, ◌*◌, ◌/◌, ◌≤◌, ◌<◌, min, ltb, eqb, length}
use Rattle.bits.specs.Bits.{Bits, pick}

-- A path is the list of the bits fed, the newest first. So the tie rule of 01, which compares from the last bit back and takes the
-- one with 0 at the first difference, is the order of a dictionary.
unfoldable pub NotAfter : List ℕ → List ℕ → Type 0
NotAfter [] q = Unit {0}
NotAfter (a ∷ p) [] = Unit {0}
NotAfter (a ∷ p) (b ∷ q) = (a < b) ⊎ ((a ≡ b) × NotAfter p q)

module _ (half : ℕ) where
  -- the newest bit enters at the top, and the oldest leaves
  unfoldable pub next : ℕ → ℕ → ℕ
  next s b = half * b + s / 2

  unfoldable pub state : List ℕ → ℕ
  state [] = 0
  state (b ∷ h) = next (state h) b

  -- the bit that led into state s, and the two states that it can have come from: the way o is 0 or 1
  unfoldable pub bit : ℕ → ℕ
  bit s = pick (ltb s half) 0 1

  unfoldable pub from : ℕ → ℕ → ℕ
  from s o = 2 * pick (ltb s half) s (s - half) + o

  module _ (cost : ℕ → ℕ → ℕ → ℕ) where
    -- what a path costs, step after step
    unfoldable pub path_cost : List ℕ → ℕ
    path_cost [] = 0
    path_cost (b ∷ h) = path_cost h + cost (length h) (state h) b

    -- 02, M-108: step k tells its bit: in no state are both bits free
    abbrev pub Tells : ℕ → Type 0
    Tells k = (s : ℕ) → 1 ≤ cost k s 0 + cost k s 1

    -- w is the cheapest path of t bits that ends in s, and v is what it costs; of those that cost as much it is the first in the tie order
    pub record Least (t s v : ℕ) (w : List ℕ) : Type 0 where
      pub bits : Bits w
      pub long : length w ≡ t
      pub ends : state w ≡ s
      pub costs : path_cost w ≡ v
      pub fewest : (h : List ℕ) → Bits h → length h ≡ t → state h ≡ s → v ≤ path_cost h
      pub first : (h : List ℕ) → Bits h → length h ≡ t → state h ≡ s → path_cost h ≡ v → NotAfter w h

    module _ (none : ℕ) where
      -- a row: for each state the fewest so far; the way o into s
      unfoldable pub way : (ℕ → ℕ) → ℕ → ℕ → ℕ → ℕ
      way f t s o = min (f (from s o) + cost t (from s o) (bit s)) none

      unfoldable pub best : ℕ → ℕ → ℕ
      best zero s = pick (eqb s 0) 0 none
      best (suc t) s = min (way (best t) t s 0) (way (best t) t s 1)

      -- which way is kept: the second only where it is cheaper
      unfoldable pub choice : ℕ → ℕ → ℕ
      choice t s = pick (ltb (way (best t) t s 1) (way (best t) t s 0)) 1 0

      -- the walk back through the choices: the path to state s, the newest bit first
      unfoldable pub walk : ℕ → ℕ → List ℕ
      walk zero s = []
      walk (suc t) s = bit s ∷ walk t (from s (choice t s))
