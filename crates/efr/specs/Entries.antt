-- 02, M-103: the whole answer of the two entries, of what they read and of what the lent buffer held before.
use Rattle.std.specs.Prelude.{List, ℕ, leb, Ok, Err}
use Rattle.answers.specs.Answers.{Answer, Told, Heard}
use Rattle.bits.specs.Bits.{pick, none_over}
use Rattle.coder.specs.Blocks.{speech_block}
use Rattle.coder.specs.Entries.{judged, lengths, entry}
use Rattle.coder.specs.Received.{judged_hearing, speech_heard}
use Rattle.efr.specs.Answers.{Checked, checks}
use Rattle.preliminary.specs.Stage.{efr_d, w_of, s_of, crc_good}
use Rattle.efr.specs.declared.Unchecked.TheVariants.{Refused, BadParity, BadCrc}
use Rattle.answers.specs.declared.Unheard.TheVariants as unheard

-- the preliminary stage, then the same coder
unfoldable pub efr_block : List ℕ → List ℕ
efr_block s = speech_block (efr_d s)

-- 244 to 456
unfoldable pub efr_sent : List ℕ → List ℕ → Answer Told
efr_sent s c = entry 244 456 0 s (efr_block s) c

-- what is said of the speech block d, once the CRC within it is judged too: where the three-bit parity is bad, the CRC is not asked
unfoldable pub with_crc : Heard → List ℕ → Checked
with_crc (Ok k) d = pick (crc_good (w_of d)) (Ok k) (Err (BadCrc k))
with_crc (Err (unheard.Refused r)) d = Err (Refused r)
with_crc (Err (unheard.Bad k)) d = Err (BadParity k)

-- 456, none over 2, to 244
unfoldable pub efr_received : List ℕ → List ℕ → Answer Checked
efr_received c s =
    let h = speech_heard c in
    let d : List ℕ = h.bits in
    checks (with_crc (judged_hearing (judged (lengths c 456 s 244) (none_over 2 c) (leb 0 63)) h) d) (s_of (w_of d)) s
