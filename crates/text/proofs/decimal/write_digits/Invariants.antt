-- The digits still to write, and then those written, are the digits of the number.
use Rattle.std.proofs.Common.{◌≡◌, ◌++◌, length}
use lib.Seq.{slice}
use Rattle.text.specs.Decimal.{last_digits}
use Rattle.text.proofs.decimal.write_digits.Given as goal

abbrev pub invariant-loop-i : goal.invariant-loop-i
invariant-loop-i l = last_digits l.i l.rest ++ slice l.i (length l.initial.out) l.out ≡ last_digits (length l.initial.out) l.number
