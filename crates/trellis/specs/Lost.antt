-- 02, M-108: which places of a block may be missing and leave no doubt. A set of places is given by its test, so that a lost burst's places are one, and those
-- that a puncturing list names (02, M-106, M-107) are another. Proved in proofs/laws/Lost.
use Rattle.std.specs.Prelude.{Bool, true, false, List, [], ◌∷◌, ◌⊎◌, ◌≡◌, ℕ, ◌+◌, ◌*◌, ◌<◌, eqb, length, get_or}
use Rattle.bits.specs.Bits.{is_missing, pick, tab}
use Rattle.convolution.specs.Pairs.{coded}
use Rattle.trellis.specs.Nearest.{disagreements, Candidate, Nearest}

-- of each of n pairs at least one place is not in the set
abbrev pub OneOfEach : ℕ → (ℕ → Bool) → Type 0
OneOfEach n gone = (k : ℕ) → k < n → (gone (2 * k) ≡ false) ⊎ (gone (2 * k + 1) ≡ false)

-- r of n pairs is missing at places of the set alone
abbrev pub MissingIn : ℕ → (ℕ → Bool) → List ℕ → Type 0
MissingIn n gone r = (i : ℕ) → i < 2 * n → gone i ≡ false → is_missing (get_or r i 0) ≡ false

-- THE LAW OF THE PAIRS: where of each pair at least one place is present, a candidate that disagrees in no present place is the only one, and the nearest
-- block is it, with count 0
abbrev pub PairsTell : Type 0
PairsTell =
    (n : ℕ) (gone : ℕ → Bool) → OneOfEach n gone → (r : List ℕ) → MissingIn n gone r
    → (u : List ℕ) → Candidate n u → disagreements r (coded u) ≡ 0
    → ((v : List ℕ) → Candidate n v → disagreements r (coded v) ≡ 0 → v ≡ u) × Nearest r n u 0

-- the set of the places that a list names
unfoldable pub among : List ℕ → ℕ → Bool
among [] i = false
among (p ∷ ps) i = pick (eqb i p) true (among ps i)

-- the list c without the places of the set: they are missing, and the others are as they were
unfoldable pub without : (ℕ → Bool) → List ℕ → List ℕ
without gone c = tab (length c) (λ i. pick (gone i) 2 (get_or c i 0))

-- so nothing is lost of a block that is sent without them
abbrev pub SentWithout : Type 0
SentWithout = (n : ℕ) (gone : ℕ → Bool) → OneOfEach n gone → (u : List ℕ) → Candidate n u → Nearest (without gone (coded u)) n u 0
