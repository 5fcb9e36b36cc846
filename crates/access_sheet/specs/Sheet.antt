-- What the access sheet answers to a line (01, Handbook examples, the access sheet).
use Rattle.std.specs.Prelude.{Bool, List, ◌++◌, map, ℕ, ◌+◌, ◌*◌, leb, eqb, length, get_or, take, drop, Option, Some, None, Ok, Err}
use Rattle.bits.specs.Bits.{pick, both, zeros}
use Rattle.text.specs.Text.{bytes_of, digit_of, bit_character, refused_as}
use Rattle.answers.specs.Answers.{number_of, Told}
use Rattle.coder.specs.Entries.{access_sent}

-- two decimal digits and a space
unfoldable pub is_head : ℕ → ℕ → ℕ → Bool
is_head tens ones gap = both (leb (digit_of tens) 9) (both (leb (digit_of ones) 9) (eqb gap 32))

-- the number that two digits write
unfoldable pub two_digits : ℕ → ℕ → ℕ
two_digits tens ones = 10 * digit_of tens + digit_of ones

-- what is found in the three bytes of a head
unfoldable pub head_of : ℕ → ℕ → ℕ → Option ℕ
head_of tens ones gap = pick (is_head tens ones gap) (Some (two_digits tens ones)) None

-- a line of 11 bytes that has the digits and the space
unfoldable pub headed : List ℕ → Bool
headed line = both (eqb (length line) 11) (is_head (get_or line 0 0) (get_or line 1 0) (get_or line 2 0))

unfoldable pub identity_of : List ℕ → ℕ
identity_of line = two_digits (get_or line 0 0) (get_or line 1 0)

-- the 36 bits as characters, or "refused" and the number
unfoldable pub said_of : Told → List ℕ → List ℕ
said_of (Ok tt) bits = map bit_character bits
said_of (Err r) bits = refused_as (number_of r)

-- what is said of the burst with this identity that carries the eight characters: the library's answer
unfoldable pub said : ℕ → List ℕ → List ℕ
said identity characters = let a = access_sent identity (map digit_of characters) (zeros 36) in said_of a.result a.left

-- what a line is told that has no head
abbrev pub no_request : List ℕ
no_request = bytes_of "?? refused 1"

-- the whole answer, without its newline: the line's head again and what is said, or that it has none
unfoldable pub sheet_answer : List ℕ → List ℕ
sheet_answer line = pick (headed line) (take 3 line ++ said (identity_of line) (drop 3 line)) no_request
