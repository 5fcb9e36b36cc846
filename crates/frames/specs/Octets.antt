-- 02, M-113: octets and their bits. Bit 1 of an octet, as 001 numbers them, is the highest.
use Rattle.std.specs.Prelude.{List, ℕ, ◌*◌, ◌/◌, ◌%◌, length, get_or, take, drop}
use Rattle.bits.specs.Bits.{tab, value, digits}

-- bits, eight of them an octet
unfoldable pub packed : List ℕ → List ℕ
packed f = tab (length f / 8) (λ o. value (take 8 (drop (8 * o) f)))

-- octets, bit by bit: the k-th, from 0, is bit k % 8 + 1 of octet k / 8
unfoldable pub unpacked : List ℕ → List ℕ
unpacked x = tab (8 * length x) (λ k. get_or (digits 8 (get_or x (k / 8) 0)) (k % 8) 0)
