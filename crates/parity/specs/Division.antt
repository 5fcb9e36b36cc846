-- Division of a list of bits, highest power first, by a generator polynomial, and the parity bits that it defines.
use Rattle.std.specs.Prelude.{List, [], ◌∷◌, ◌++◌, map, ℕ, zero, suc, ◌+◌, ◌-◌, ◌%◌, eqb, length}
use Rattle.bits.specs.Bits.{pick, tab, add, ones, zeros}

-- A polynomial is the list of its powers of D. The coefficient of D^e: how often e stands there, modulo 2.
unfoldable pub occurs : ℕ → List ℕ → ℕ
occurs e [] = 0
occurs e (x ∷ xs) = pick (eqb e x) 1 0 + occurs e xs

unfoldable pub product : List ℕ → List ℕ → List ℕ
product [] qs = []
product (p ∷ ps) qs = map (λ (q : ℕ). p + q) qs ++ product ps qs

-- the coefficients below D^r, highest first: a generator of degree r without its leading D^r
unfoldable pub lower : ℕ → List ℕ → List ℕ
lower r ps = tab r (λ k. occurs (r - 1 - k) ps % 2)

-- 01, Coding rules; 000, 3.1.2.1: D^3 + D + 1
unfoldable pub speech_g : List ℕ
speech_g = lower 3 (3 ∷ 1 ∷ 0 ∷ [])

-- 000, 4.1.2: (D^23 + 1)(D^17 + D^3 + 1)
unfoldable pub control_g : List ℕ
control_g = lower 40 (product (23 ∷ 0 ∷ []) (17 ∷ 3 ∷ 0 ∷ []))

-- 000, 4.6: D^6 + D^5 + D^3 + D^2 + D + 1
unfoldable pub access_g : List ℕ
access_g = lower 6 (6 ∷ 5 ∷ 3 ∷ 2 ∷ 1 ∷ 0 ∷ [])

-- 000, 4.7: D^10 + D^8 + D^6 + D^5 + D^4 + D^2 + 1
unfoldable pub sch_g : List ℕ
sch_g = lower 10 (10 ∷ 8 ∷ 6 ∷ 5 ∷ 4 ∷ 2 ∷ 0 ∷ [])

-- 02, M-103; 000, 3.1.1.1: D^8 + D^4 + D^3 + D^2 + 1
unfoldable pub efr_g : List ℕ
efr_g = lower 8 (8 ∷ 4 ∷ 3 ∷ 2 ∷ 0 ∷ [])

-- Division as on paper: n times the leading bit is struck out, and where it is 1 the generator g is added to the bits below it.
unfoldable pub divide : List ℕ → ℕ → List ℕ → List ℕ
divide g zero w = w
divide g (suc n) [] = []
divide g (suc n) (zero ∷ w) = divide g n w
divide g (suc n) (suc a ∷ w) = divide g n (add g w)

-- what is left when no bit stands at the generator's degree or above
unfoldable pub remainder : List ℕ → List ℕ → List ℕ
remainder g w = divide g (length w - length g) w

-- 01, Coding rules: the parity bits that, put after d, make the remainder all ones. There is exactly one such list: proofs/laws/Division, parity_leaves and parity_only.
unfoldable pub parity : List ℕ → List ℕ → List ℕ
parity g d = remainder g (d ++ ones (length g))

-- 02, M-103; 000, 3.1.1.1: the bits that, put after b, make the remainder 0. There is exactly one such list: proofs/laws/Division, crc_leaves and crc_only.
unfoldable pub crc : List ℕ → List ℕ → List ℕ
crc g b = remainder g (b ++ zeros (length g))
