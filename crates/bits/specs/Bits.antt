-- What every crate says of bits and of lists of them. A bit is a number, 0 or 1; a block is a list of numbers.
use Rattle.std.specs.Prelude.{Bool, true, false, List, [], ◌∷◌, ℕ, zero, suc, ◌+◌, ◌-◌, ◌*◌, ◌/◌, ◌%◌, ◌^◌, ◌≤◌, min, max, eqb, leb, length, get_or, replicate}

-- the first where the test holds, else the second
abbrev pub pick : {A : Type 0} → Bool → A → A → A
pick true a b = a
pick false a b = b

-- both tests hold
abbrev pub both : Bool → Bool → Bool
both true b = b
both false b = false

-- the test holds at each of 0 .. n-1
abbrev pub all_below : (ℕ → Bool) → ℕ → Bool
all_below f zero = true
all_below f (suc n) = both (f n) (all_below f n)

-- the list f i, f (i+1), .., of n entries
unfoldable pub tab_from : ℕ → ℕ → (ℕ → ℕ) → List ℕ
tab_from i zero f = []
tab_from i (suc n) f = f i ∷ tab_from (suc i) n f

-- the list f 0, f 1, .., f (n-1): how the documents write a block, by its index
unfoldable pub tab : ℕ → (ℕ → ℕ) → List ℕ
tab n f = tab_from 0 n f

-- f 0 + .. + f (n-1)
unfoldable pub total : ℕ → (ℕ → ℕ) → ℕ
total zero f = 0
total (suc n) f = total n f + f n

unfoldable pub largest : List ℕ → ℕ
largest [] = 0
largest (b ∷ w) = max b (largest w)

-- 01, Numbers given for a no, 2: no byte is over `most`, which is 1 for what is sent and, by 02, M-102, 2 for what is received
unfoldable pub none_over : ℕ → List ℕ → Bool
none_over most w = leb (largest w) most

-- the same, said of each place
abbrev pub NoneOver : ℕ → List ℕ → Type 0
NoneOver most w = (k : ℕ) → get_or w k 0 ≤ most

-- what is sent: every byte is 0 or 1
abbrev pub Bits : List ℕ → Type 0
Bits w = NoneOver 1 w

-- what is received: every byte is 0, 1, or 2 for a missing bit
abbrev pub Symbols : List ℕ → Type 0
Symbols w = NoneOver 2 w

-- 02, M-102: reception takes a byte of 2 as missing
unfoldable pub is_missing : ℕ → Bool
is_missing r = eqb r 2

-- does the received byte r disagree with the coded bit x? 02, M-102: a missing bit disagrees with nothing
unfoldable pub differ : ℕ → ℕ → ℕ
differ x r = pick (is_missing r) 0 (pick (eqb x r) 0 1)

-- how many are missing
abbrev pub lost : ℕ → ℕ
lost r = pick (is_missing r) 1 0

unfoldable pub missing : List ℕ → ℕ
missing w = total (length w) (λ i. lost (get_or w i 0))

-- 02, M-102: a missing bit that nothing protects is given as 0; the others, as 01 has it, as received
unfoldable pub given_as : ℕ → ℕ
given_as r = pick (is_missing r) 0 r

unfoldable pub given_bits : List ℕ → List ℕ
given_bits w = tab (length w) (λ k. given_as (get_or w k 0))

-- a byte over 2 counts as missing
unfoldable pub symbol : ℕ → ℕ
symbol b = min b 2

unfoldable pub zeros : ℕ → List ℕ
zeros n = replicate n 0

unfoldable pub ones : ℕ → List ℕ
ones n = replicate n 1

-- 01, Coding rules: all sums are modulo 2
abbrev pub sum : ℕ → ℕ → ℕ
sum a b = (a + b) % 2

-- s is added, place by place, to the first bits of w
unfoldable pub add : List ℕ → List ℕ → List ℕ
add [] w = w
add (a ∷ s) [] = []
add (a ∷ s) (b ∷ w) = sum a b ∷ add s w

-- a list of bits, highest first, as a number; and the n lowest bits of a number, highest first
unfoldable pub value : List ℕ → ℕ
value [] = 0
value (b ∷ w) = b * 2 ^ length w + value w

unfoldable pub digits : ℕ → ℕ → List ℕ
digits n x = tab n (λ k. x / 2 ^ (n - 1 - k) % 2)
