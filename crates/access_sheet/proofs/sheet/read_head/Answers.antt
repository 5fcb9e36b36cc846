-- `read_head` is right where it finds an identity: the tests are the head's.
use Rattle.std.specs.Prelude.{Some, ◌≤◌}
use Rattle.std.proofs.Common.{arith, ap, le-leb, eq-eqb}
use Rattle.text.specs.Text.{digit_of}
use Rattle.access_sheet.specs.Sheet.{is_head, two_digits, head_of}
use Rattle.access_sheet.proofs.sheet.read_head.Goals as goal

pub returns : goal.returns
unfolding head_of is_head two_digits
returns c =
    let a = c.args in
    let t : digit_of a.tens ≤ 9 = omega arith in
    let o : digit_of a.ones ≤ 9 = omega arith in
    rw (le-leb (digit_of a.tens) 9 t, le-leb (digit_of a.ones) 9 o, eq-eqb a.gap 32 c.if-gap-ne32.false) (ap Some (omega arith))
