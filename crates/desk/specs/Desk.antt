-- What C is given: the answers of coder's entries, each in one number.
use Rattle.std.specs.Prelude.{ℕ, ◌+◌, ◌*◌}
use Rattle.answers.specs.Answers.{Answer, or_none}
use Rattle.answers.specs.declared.Returned.{Returned}
use Rattle.coder.specs.Whose.{Whose, of_whose, identity_of}

-- 01's number in the upper half of 32 bits, the count in the lower
unfoldable pub one_number : Returned → ℕ
one_number r = 65536 * or_none r.number + or_none r.count

-- the same answer, its result as one number by what 01 says of it; the lent buffer is left as it is
abbrev pub in_one_number : {A : Type 0} → (A → Returned) → Answer A → Answer ℕ
in_one_number of a = record { result = one_number (of a.result); left = a.left }

-- 02, M-105: the identity that is named, 0 where none is, above the number and the count
unfoldable pub with_identity : Whose → ℕ
with_identity w = 16777216 * or_none (identity_of w) + one_number (of_whose w)
