-- Tables of places, counted from 1: what a table fetches, a table in which every place stands once, and the way back.
use Rattle.std.specs.Prelude.{List, [], ◌∷◌, ◌≡◌, ℕ, suc, ◌-◌, ◌*◌, ◌/◌, ◌%◌, ◌≤◌, ◌<◌, eqb, length, get_or}
use Rattle.bits.specs.Bits.{pick, tab}

-- w(x), where the first is w(1)
abbrev pub from1 : List ℕ → ℕ → ℕ
from1 w x = get_or w (x - 1) 0

-- a table as it is printed, in rows of five: its entries, one after another
unfoldable pub entries : List (List ℕ) → List ℕ
entries rows = tab (5 * length rows) (λ k. get_or (get_or rows (k / 5) []) (k % 5) 0)

-- every entry of the table is a place of a block of n bits
abbrev pub Within : ℕ → List ℕ → Type 0
Within n table = (k : ℕ) → k < length table → (1 ≤ get_or table k 0) × (get_or table k 0 ≤ n)

-- w in the table's order: the bit that comes k-th, from 0, is w(table(k))
unfoldable pub fetched : List ℕ → List ℕ → List ℕ
fetched table w = tab (length table) (λ k. from1 w (get_or table k 0))

-- where x first stands in the table
unfoldable pub place_in : List ℕ → ℕ → ℕ
place_in [] x = 0
place_in (y ∷ table) x = pick (eqb y x) 0 (suc (place_in table x))

-- a permutation: n entries, each of 1 to n stands there, and none stands there twice
pub record Permutation (n : ℕ) (table : List ℕ) : Type 0 where
  pub long : length table ≡ n
  pub within : Within n table
  pub every : (x : ℕ) → 1 ≤ x → x ≤ n → (place_in table x < n) × (get_or table (place_in table x) 0 ≡ x)
  pub once : (k l : ℕ) → k < n → l < n → get_or table k 0 ≡ get_or table l 0 → k ≡ l

-- the way back: w(x) is the bit of d that comes where x stands in the table
unfoldable pub put_back : List ℕ → List ℕ → List ℕ
put_back table d = tab (length table) (λ i. get_or d (place_in table (suc i)) 0)
