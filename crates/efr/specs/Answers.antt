-- 02, M-103: what is said of an enhanced full rate block that is received, in 01's numbers, and its whole answer.
use Rattle.std.specs.Prelude.{List, ℕ, None, Some, Result, Ok, Err}
use Rattle.answers.specs.Answers.{Answer, number_of, returned}
use Rattle.answers.specs.declared.Refusal.{Refusal}
use Rattle.answers.specs.declared.Refusal.TheVariants.{Parity, Crc}
use Rattle.answers.specs.declared.Returned.{Returned}
use Rattle.answers.specs.declared.Unheard.{Unheard}
use Rattle.answers.specs.declared.Unheard.TheVariants as unheard
use Rattle.efr.specs.declared.Unchecked.{Unchecked}
use Rattle.efr.specs.declared.Unchecked.TheVariants.{Refused, BadParity, BadCrc}

-- what is said of a block that is received, both checks judged: in how many places it disagrees with what was received, or why it isn't handed over
abbrev pub Checked : Type 0
Checked = Result ℕ Unchecked

-- what the speech entry doesn't hand over: the parity that it finds bad is the three-bit one
abbrev pub unchecked : Unheard → Unchecked
unchecked (unheard.Refused r) = Refused r
unchecked (unheard.Bad k) = BadParity k

-- a check that is bad gives its number, and the count
abbrev pub badly : Refusal → ℕ → Returned
badly why count = returned (Some (number_of why)) (Some count)

-- a good block gives its count, a bad parity 8 and the count, a bad CRC 10 and the count
abbrev pub of_checked : Checked → Returned
of_checked (Ok k) = returned None (Some k)
of_checked (Err (Refused r)) = returned (Some (number_of r)) None
of_checked (Err (BadParity k)) = badly Parity k
of_checked (Err (BadCrc k)) = badly Crc k

-- good: the block's bits stand in the buffer; else the buffer stands as before
unfoldable pub checked_or : Checked → List ℕ → List ℕ → List ℕ
checked_or (Ok k) bits before = bits
checked_or (Err (Refused r)) bits before = before
checked_or (Err (BadParity k)) bits before = before
checked_or (Err (BadCrc k)) bits before = before

unfoldable pub checks : Checked → List ℕ → List ℕ → Answer Checked
checks x bits before = record { result = x; left = checked_or x bits before }
