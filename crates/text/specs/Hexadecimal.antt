-- Octets as hexadecimal digits: two characters an octet, the higher digit first, in small letters.
use Rattle.std.specs.Prelude.{Bool, true, List, [], ◌∷◌, ℕ, ◌+◌, ◌-◌, ◌*◌, ◌/◌, ◌%◌, eqb, leb, ltb, length}
use Rattle.bits.specs.Bits.{pick, both}
use Rattle.text.specs.Text.{digit_of}

-- a digit's character: '0' to '9', 'a' to 'f'
unfoldable pub hex_character : ℕ → ℕ
hex_character v = pick (ltb v 10) (48 + v) (87 + v)

unfoldable pub hex_of : List ℕ → List ℕ
hex_of [] = []
hex_of (x ∷ w) = hex_character (x / 16) ∷ hex_character (x % 16) ∷ hex_of w

-- a character's digit; one that is no digit, a capital letter too, is 255
unfoldable pub hex_digit : ℕ → ℕ
hex_digit c = pick (both (leb 97 c) (leb c 102)) (c - 87) (digit_of c)

unfoldable pub all_digits : List ℕ → Bool
all_digits [] = true
all_digits (c ∷ w) = both (leb (hex_digit c) 15) (all_digits w)

-- is it an even number of digits?
unfoldable pub is_hex : List ℕ → Bool
is_hex w = both (eqb (length w % 2) 0) (all_digits w)

unfoldable pub octets_of : List ℕ → List ℕ
octets_of [] = []
octets_of (a ∷ []) = []
octets_of (a ∷ b ∷ w) = (16 * hex_digit a + hex_digit b) ∷ octets_of w
