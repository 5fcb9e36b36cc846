-- What the small readers and writers of text do with bytes.
use Rattle.std.specs.Prelude.{Bool, true, false, List, [], ◌∷◌, ◌++◌, ◌≡◌, ℕ, ◌+◌, ◌-◌, ◌≤◌, leb, eqb, length, get_or, take, drop}
use Prim.Native.Char.{code}
use Prim.Native.String.{String}
use Prim.Native.String.{[] as end, ◌∷◌ as ◌then◌}
use Rattle.bits.specs.Bits.{pick, both}
use Rattle.text.specs.Decimal.{last_digits, IsDigitCount}

-- the bytes of a text whose characters are one byte each
abbrev pub bytes_of : String → List ℕ
bytes_of end = []
bytes_of (c then s) = code c ∷ bytes_of s

-- '0' to '9' are the bytes 0 to 9; any other character is 255
unfoldable pub digit_of : ℕ → ℕ
digit_of c = pick (both (leb 48 c) (leb c 57)) (c - 48) 255

-- are the two the same bytes?
unfoldable pub same_bytes : List ℕ → List ℕ → Bool
same_bytes [] [] = true
same_bytes [] (b ∷ w) = false
same_bytes (a ∷ v) [] = false
same_bytes (a ∷ v) (b ∷ w) = both (eqb a b) (same_bytes v w)

-- the byte order mark, with which editors for Windows begin a text
abbrev pub mark : List ℕ
mark = 239 ∷ 187 ∷ 191 ∷ []

-- a text without the mark that it may begin with
unfoldable pub without_mark : List ℕ → List ℕ
without_mark text = pick (same_bytes (take 3 text) mark) (drop 3 text) text

-- a line without the carriage return that it may end in
unfoldable pub without_return : List ℕ → List ℕ
without_return line = pick (eqb (get_or line (length line - 1) 0) 13) (take (length line - 1) line) line

-- the word stands in `out` from place n on, and the rest of `out` is left
unfoldable pub put_at : List ℕ → ℕ → List ℕ → List ℕ
put_at out n word = take n out ++ (word ++ drop (n + length word) out)

-- a bit's character, '0' or '1'
unfoldable pub bit_character : ℕ → ℕ
bit_character b = pick (eqb b 0) 48 49

-- a number's decimal digits, no more than it takes, stand from place n up to place r, and the rest of the buffer is left
pub record PutNumber (number n r : ℕ) (before after : List ℕ) : Type 0 where
  pub short : r ≤ n + 20
  pub fewest : IsDigitCount number (r - n)
  pub put : after ≡ put_at before n (last_digits (r - n) number)

abbrev pub refused_word : List ℕ
refused_word = bytes_of "refused "

-- the word, and the digit of a refusal's number
unfoldable pub refused_as : ℕ → List ℕ
refused_as number = refused_word ++ ((48 + number) ∷ [])
