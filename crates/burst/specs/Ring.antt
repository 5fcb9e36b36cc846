-- The ring of the last eight bursts: burst B is held at 116 (B mod 8).
use Rattle.std.specs.Prelude.{List, ◌++◌, ℕ, ◌+◌, ◌*◌, ◌%◌, get_or, take, drop}
use Rattle.bits.specs.Bits.{symbol}

-- e(x) of burst B. A held byte over 2, which no call makes, counts as missing
unfoldable pub held_bit : List ℕ → ℕ → ℕ → ℕ
held_bit held B x = symbol (get_or held (116 * (B % 8) + x) 0)

-- burst B is put in its place
unfoldable pub kept : List ℕ → ℕ → List ℕ → List ℕ
kept held B e = take (116 * (B % 8)) held ++ (e ++ drop (116 * (B % 8) + 116) held)

-- the eight bursts one after another, burst B first
unfoldable pub in_order : List ℕ → ℕ → List ℕ
in_order held B = drop (116 * (B % 8)) held ++ take (116 * (B % 8)) held
