-- 02, M-103: the preliminary stage for enhanced full rate (000, 3.1.1), from the 244 bits s to the 260 bits d that the speech block is made of; and at
-- reception from d back to s, with the verdict of the CRC. s and w count from 1, as 000 writes them.
use Rattle.std.specs.Prelude.{Bool, true, false, List, [], ◌∷◌, ◌++◌, ℕ, suc, ◌+◌, ◌-◌, eqb, leb, ltb, drop}
use Rattle.bits.specs.Bits.{pick, tab, value}
use Rattle.parity.specs.Division.{remainder, crc, efr_g}
use Rattle.order.specs.Order.{from1, fetched, place_in, put_back}
use Rattle.tables.specs.Tables.{important, ordering}

-- 000, 3.1.1.1: p(1) to p(8), over b(1) to b(65)
unfoldable pub crc_p : List ℕ → List ℕ
crc_p s = crc efr_g (fetched important s)

-- 000, 3.1.1.3: w(k) for k = 1 to 260. The repeated bits are s(70), s(120), s(173) and s(223); the last eight are the CRC's
unfoldable pub w_at : List ℕ → List ℕ → ℕ → ℕ
w_at s p k =
    pick (leb k 71) (from1 s k)
    (pick (leb k 73) (from1 s 70)
    (pick (leb k 123) (from1 s (k - 2))
    (pick (leb k 125) (from1 s 120)
    (pick (leb k 178) (from1 s (k - 4))
    (pick (leb k 180) (from1 s 173)
    (pick (leb k 230) (from1 s (k - 6))
    (pick (leb k 232) (from1 s 223)
    (pick (leb k 252) (from1 s (k - 8)) (from1 p (k - 252))))))))))

unfoldable pub efr_w : List ℕ → List ℕ
efr_w s = tab 260 (λ i. w_at s (crc_p s) (suc i))

-- 000, 3.1: w rearranged by the table is d
unfoldable pub efr_d : List ℕ → List ℕ
efr_d s = fetched ordering (efr_w s)

-- ---- at reception: w out of d, by the same table
unfoldable pub w_of : List ℕ → List ℕ
w_of d = put_back ordering d

-- 02: s is read from the unrepeated places. s(k) stands at this place of w
unfoldable pub in_w : ℕ → ℕ
in_w k = pick (leb k 71) k (pick (leb k 121) (k + 2) (pick (leb k 174) (k + 4) (pick (leb k 224) (k + 6) (k + 8))))

unfoldable pub s_of : List ℕ → List ℕ
s_of w = tab 244 (λ i. from1 w (in_w (suc i)))

-- 000, 3.1.1.3: the places in w of the repeated bits' copies, from which nothing is read (proofs/laws/Stage, unrepeated)
unfoldable pub copies : List ℕ
copies = 72 ∷ 73 ∷ 124 ∷ 125 ∷ 179 ∷ 180 ∷ 231 ∷ 232 ∷ []

abbrev pub is_one_of : List ℕ → ℕ → Bool
is_one_of [] x = false
is_one_of (y ∷ ys) x = pick (eqb y x) true (is_one_of ys x)

-- the CRC's verdict: b(1) to b(65) of that s, and the eight bits at w(253) to w(260), leave remainder 0
unfoldable pub crc_word : List ℕ → List ℕ
crc_word w = fetched important (s_of w) ++ drop 252 w

unfoldable pub crc_good : List ℕ → Bool
crc_good w = eqb (value (remainder efr_g (crc_word w))) 0

-- ---- which of the 244 are protected: s(k) is d(in_d k), and d(0) to d(181) are protected (class 1 of the table)
unfoldable pub in_d : ℕ → ℕ
in_d k = place_in ordering (in_w k)

unfoldable pub is_protected : ℕ → Bool
is_protected k = ltb (in_d k) 182
