-- What is sent: u and the coded bits of each block, from its information bits d.
use Rattle.std.specs.Prelude.{List, ◌++◌, ℕ, ◌+◌, ◌-◌, ◌*◌, ltb, get_or, take, drop}
use Rattle.bits.specs.Bits.{pick, tab, add, zeros, digits}
use Rattle.parity.specs.Division.{parity, speech_g, control_g, access_g, sch_g}
use Rattle.convolution.specs.Pairs.{coded}
use Rattle.places.specs.Places.{four}

-- 000, 3.1.2.1 a): the three parity bits over the first 50 bits
unfoldable pub speech_p : List ℕ → List ℕ
speech_p d = parity speech_g (take 50 d)

-- 000, 3.1.2.1 b): u(k) = d(2k) and u(184-k) = d(2k+1) for k = 0..90, u(91+k) = p(k) for k = 0..2, u(185)..u(188) = 0
unfoldable pub speech_u_at : List ℕ → List ℕ → ℕ → ℕ
speech_u_at d p k =
    pick (ltb k 91) (get_or d (2 * k) 0)
    (pick (ltb k 94) (get_or p (k - 91) 0)
    (pick (ltb k 185) (get_or d (2 * (184 - k) + 1) 0) 0))

unfoldable pub speech_u : List ℕ → List ℕ
speech_u d = tab 189 (speech_u_at d (speech_p d))

-- 000, 3.1.2.2: the 378 bits of the pairs, then c(378+k) = d(182+k) for k = 0..77
unfoldable pub speech_block : List ℕ → List ℕ
speech_block d = coded (speech_u d) ++ drop 182 d

-- 000, 4.1.2: u is d, its forty parity bits and four zeros
unfoldable pub control_u : List ℕ → List ℕ
control_u d = d ++ (parity control_g d ++ zeros 4)

-- 000, 4.1.3
unfoldable pub control_block : List ℕ → List ℕ
control_block d = coded (control_u d)

-- 000, 4.1.4, 4.1.5: the block over four bursts, even and odd places alike, all eight flags 1
unfoldable pub sacch_message : List ℕ → List ℕ
sacch_message d = four (control_block d) (control_block d) 0b11111111

-- 000, 4.6: C(k) = p(k) + b(k), where b(0) is the highest bit of the identity and b(5) the lowest
unfoldable pub colour : ℕ → List ℕ → List ℕ
colour identity d = add (parity access_g d) (digits 6 identity)

unfoldable pub access_u : ℕ → List ℕ → List ℕ
access_u identity d = d ++ (colour identity d ++ zeros 4)

unfoldable pub access_burst : ℕ → List ℕ → List ℕ
access_burst identity d = coded (access_u identity d)

-- 000, 4.7: u is d, its ten parity bits and four zeros; 78 coded bits come of k = 0 to 38 (01, the misprint)
unfoldable pub sch_u : List ℕ → List ℕ
sch_u d = d ++ (parity sch_g d ++ zeros 4)

unfoldable pub sch_burst : List ℕ → List ℕ
sch_burst d = coded (sch_u d)
