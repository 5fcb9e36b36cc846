-- 01, Handbook examples, the access sheet: its three lines and what they are answered, computed.
use Rattle.std.specs.Prelude.{◌≡◌, refl}
use Rattle.bits.specs.Bits.{none_over, largest, tab, tab_from, add, zeros, ones, digits}
use Rattle.parity.specs.Division.{occurs, product, lower, divide, remainder, parity, access_g}
use Rattle.convolution.specs.Pairs.{back, first, second, coded_at, coded}
use Rattle.text.specs.Text.{bytes_of, digit_of, bit_character, refused_as}
use Rattle.answers.specs.Answers.{sent_or, tells}
use Rattle.coder.specs.Blocks.{colour, access_u, access_burst}
use Rattle.coder.specs.Entries.{judged, entry, access_sent}
use Rattle.access_sheet.specs.Sheet.{is_head, two_digits, headed, identity_of, said_of, said, sheet_answer}

pub examples : (sheet_answer (bytes_of "00 00000000") ≡ bytes_of "00 000000000000000011101001101001000011")
    × (sheet_answer (bytes_of "63 00000000") ≡ bytes_of "63 000000000000000000000000000000000000")
    × (sheet_answer (bytes_of "64 00000000") ≡ bytes_of "64 refused 3")
unfolding none_over largest tab tab_from add zeros ones digits occurs product lower divide remainder parity access_g back first second coded_at coded digit_of bit_character refused_as sent_or tells colour access_u access_burst judged entry access_sent is_head two_digits headed identity_of said_of said sheet_answer
examples = (refl, refl, refl)
