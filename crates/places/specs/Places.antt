-- Where the 456 coded bits of a block stand in its bursts, and what a burst of 116 bytes holds.
use Rattle.std.specs.Prelude.{List, ◌++◌, ℕ, ◌+◌, ◌-◌, ◌*◌, ◌/◌, ◌%◌, ◌^◌, ltb, eqb, get_or}
use Rattle.bits.specs.Bits.{pick, tab}

-- 000, 3.1.3 and 4.1.4: j = 2((49k) mod 57) + ((k mod 8) div 4)
unfoldable pub place_of : ℕ → ℕ
place_of k = 2 * (49 * k % 57) + k % 8 / 4

-- 000, 3.1.4: place j is e(j) for j up to 56 and e(j+2) from 57 on
unfoldable pub e_of : ℕ → ℕ
e_of j = pick (ltb j 57) j (j + 2)

-- the e-index of bit k
unfoldable pub e_at : ℕ → ℕ
e_at k = e_of (place_of k)

-- 000, 3.1.4: e(57) is hl, e(58) is hu
abbrev pub hl : ℕ
hl = 57

abbrev pub hu : ℕ
hu = 58

-- the other way: the place of e(x), and the bit that stands at place j of the bursts i and i + 4 of a block, or of burst i of a
-- SACCH message. That these undo the two above is proved in proofs/laws/Places.
unfoldable pub place_at : ℕ → ℕ
place_at x = pick (ltb x 57) x (x - 2)

unfoldable pub bit_at : ℕ → ℕ → ℕ
bit_at i j = (57 * (i + 4 * (j % 2)) + 64 * (j / 2)) % 456

-- flag j of the eight of four bursts, hl and hu of each in order, in one byte, the first the highest
unfoldable pub flag_in : ℕ → ℕ → ℕ
flag_in flags j = flags / 2 ^ (7 - j) % 2

-- 000, 3.1.3, 3.1.4: e(x) of burst i of four, in which block a begins and block b goes on. The even places are a's, the odd ones b's
unfoldable pub cell : ℕ → List ℕ → List ℕ → ℕ → ℕ → ℕ
cell i a b flags x =
    pick (eqb x hl) (flag_in flags (2 * i))
    (pick (eqb x hu) (flag_in flags (2 * i + 1))
    (pick (eqb (place_at x % 2) 0) (get_or a (bit_at i (place_at x)) 0) (get_or b (bit_at i (place_at x)) 0)))

unfoldable pub burst : ℕ → List ℕ → List ℕ → ℕ → List ℕ
burst i a b flags = tab 116 (cell i a b flags)

-- four bursts, one after another
unfoldable pub four : List ℕ → List ℕ → ℕ → List ℕ
four a b flags = burst 0 a b flags ++ (burst 1 a b flags ++ (burst 2 a b flags ++ burst 3 a b flags))

-- 01: of a stream's four bursts hu is the flag of the block that begins, hl that of the block that goes on
unfoldable pub flags_of : ℕ → ℕ → ℕ
flags_of begins goesOn = 85 * begins + 170 * goesOn

-- 000, 4.1.4, at the receiver: bit k stands in burst k mod 4 of the four, at its e-index
unfoldable pub gathered_at : List ℕ → ℕ → ℕ
gathered_at e k = get_or e (116 * (k % 4) + e_at k) 0

unfoldable pub gathered : List ℕ → List ℕ
gathered e = tab 456 (gathered_at e)
