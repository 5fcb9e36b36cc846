-- 01, What the decoder answers: the candidate whose pairs disagree with what was received in the fewest places, ties by the rule.
use Rattle.std.specs.Prelude.{List, reverse, ◌⊎◌, ◌≡◌, ℕ, ◌+◌, ◌-◌, ◌*◌, ◌/◌, ◌%◌, ◌≤◌, length, get_or, drop}
use Rattle.bits.specs.Bits.{Bits, differ, tab, zeros, total}
use Rattle.register.specs.Register.{NotAfter, best, walk}
use Rattle.convolution.specs.Pairs.{coded, pair_of, state_at}

-- in how many places the received list r disagrees with the coded list c
unfoldable pub disagreements : List ℕ → List ℕ → ℕ
disagreements r c = total (length c) (λ i. differ (get_or c i 0) (get_or r i 0))

-- Candidates are all u of the block's length whose last four bits are 0; parity doesn't limit them.
pub record Candidate (n : ℕ) (u : List ℕ) : Type 0 where
  pub bits : Bits u
  pub long : length u ≡ n
  pub ends : drop (n - 4) u ≡ zeros 4

-- The answer u, with its count: a candidate; no candidate disagrees in fewer places; of those that disagree in as many, compared from
-- the last bit back to the first, u has 0 at the first difference. At most one u and one count are that: proofs/laws/Nearest, nearest_once.
pub record Nearest (r : List ℕ) (n : ℕ) (u : List ℕ) (count : ℕ) : Type 0 where
  pub candidate : Candidate n u
  pub counts : disagreements r (coded u) ≡ count
  pub fewest : (v : List ℕ) → Candidate n v → count ≤ disagreements r (coded v)
  pub first : (v : List ℕ) → Candidate n v → disagreements r (coded v) ≡ count → NotAfter (reverse u) (reverse v)

-- The trellis view's number v for state s after t pairs: the fewest disagreements of any t bits that end in that state, and 65,535
-- where no t bits do.
pub record Ends (t s : ℕ) (u : List ℕ) : Type 0 where
  pub bits : Bits u
  pub long : length u ≡ t
  pub ends : state_at u t ≡ s

pub record Reached (r : List ℕ) (t s v : ℕ) : Type 0 where
  pub path : List ℕ
  pub ends : Ends t s path
  pub counts : disagreements r (coded path) ≡ v
  pub fewest : (u : List ℕ) → Ends t s u → v ≤ disagreements r (coded u)

abbrev pub Fewest : List ℕ → ℕ → ℕ → ℕ → Type 0
Fewest r t s v = Reached r t s v ⊎ ((v ≡ 65535) × ((u : List ℕ) → Ends t s u → ⊥))

-- at most 228 pairs, the longest block, are ever decoded
abbrev pub longest : ℕ
longest = 228

-- ---- The same as functions, by the register's row and walk back; that they are what the records say is proved in proofs/laws/Nearest.
-- in how many places of pair k the pair that bit b makes in state s disagrees with r
unfoldable pub pair_cost : List ℕ → ℕ → ℕ → ℕ → ℕ
pair_cost r k s b = differ (pair_of s b / 2) (get_or r (2 * k) 0) + differ (pair_of s b % 2) (get_or r (2 * k + 1) 0)

-- the number of state s after t pairs; the sixteen
unfoldable pub row_at : List ℕ → ℕ → ℕ → ℕ
row_at r t s = best 8 (pair_cost r) 65535 t s

unfoldable pub row : List ℕ → ℕ → List ℕ
row r t = tab 16 (row_at r t)

-- THE nearest block of n bits, and its count
unfoldable pub nearest : List ℕ → ℕ → List ℕ
nearest r n = reverse (walk 8 (pair_cost r) 65535 n 0)

unfoldable pub nearest_count : List ℕ → ℕ → ℕ
nearest_count r n = row_at r n 0

-- the search finds u in r: u is the nearest block, and its disagreements are the count
abbrev pub Found : List ℕ → ℕ → List ℕ → Type 0
Found r n u = (nearest r n ≡ u) × (nearest_count r n ≡ disagreements r (coded u))
