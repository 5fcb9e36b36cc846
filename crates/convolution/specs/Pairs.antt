-- The convolutional code of 000, 3.1.2.2, which all five channels use: two coded bits, a pair, for each bit of u.
use Rattle.std.specs.Prelude.{List, ℕ, ◌+◌, ◌-◌, ◌*◌, ◌/◌, ◌%◌, ltb, eqb, length, get_or}
use Rattle.bits.specs.Bits.{pick, tab}

-- u(k-j), where u(k) = 0 for k < 0
unfoldable pub back : List ℕ → ℕ → ℕ → ℕ
back u k j = pick (ltb k j) 0 (get_or u (k - j) 0)

-- c(2k) = u(k) + u(k-3) + u(k-4)
unfoldable pub first : List ℕ → ℕ → ℕ
first u k = (back u k 0 + back u k 3 + back u k 4) % 2

-- c(2k+1) = u(k) + u(k-1) + u(k-3) + u(k-4)
unfoldable pub second : List ℕ → ℕ → ℕ
second u k = (back u k 0 + back u k 1 + back u k 3 + back u k 4) % 2

-- c(i), of the pair i / 2
unfoldable pub coded_at : List ℕ → ℕ → ℕ
coded_at u i = pick (eqb (i % 2) 0) (first u (i / 2)) (second u (i / 2))

-- the pairs of u, one after another
unfoldable pub coded : List ℕ → List ℕ
coded u = tab (2 * length u) (coded_at u)

-- 01, Coding rules: the register's state before bit k, 8u(k-1) + 4u(k-2) + 2u(k-3) + u(k-4)
unfoldable pub state_at : List ℕ → ℕ → ℕ
state_at u k = 8 * back u k 1 + 4 * back u k 2 + 2 * back u k 3 + back u k 4

-- the pair that next bit b makes in state s, as the number 2c(2k) + c(2k+1): what the printed table has at 2s + b
unfoldable pub pair_of : ℕ → ℕ → ℕ
pair_of s b = 2 * ((b + s / 2 % 2 + s % 2) % 2) + (b + s / 8 + s / 2 % 2 + s % 2) % 2
