-- The sending stream: what send and end answer, of the stream, the block and what the lent buffer held before.
use Rattle.std.specs.Prelude.{Bool, true, false, List, ℕ, ◌+◌, eqb, leb, length, Ok, Err}
use Rattle.bits.specs.Bits.{pick, both, none_over, zeros}
use Rattle.answers.specs.Answers.{Answer, Told}
use Rattle.answers.specs.declared.Refusal.TheVariants.{Length, NotBits, Full, NothingSent, Ended}
use Rattle.places.specs.Places.{four, flags_of}
use Rattle.coder.specs.Blocks.{speech_block, control_block}
use Rattle.stream.specs.declared.sender.Sender.{Sender}
use Rattle.stream.specs.declared.sender.Sent.{Sent}

-- 260 bytes are speech, 184 FACCH
abbrev pub is_facch : ℕ → Bool
is_facch n = eqb n 184

abbrev pub is_block : ℕ → Bool
is_block n = pick (eqb n 260) true (is_facch n)

unfoldable pub block_of : List ℕ → List ℕ
block_of d = pick (is_facch (length d)) (control_block d) (speech_block d)

-- 01: the flags are 0 for speech, 1 for FACCH
abbrev pub flag_of : Bool → ℕ
flag_of facch = pick facch 1 0

-- nothing is sent: no block goes on, which is a block of zeros with the flags 0
unfoldable pub fresh_sender : Sender
fresh_sender = record { sent = record { 0 = 0 }; ended = false; facch = false; last = zeros 456 }

-- ---- send. 01: where several apply, 1, 2, 7, 5; 16,383 blocks may be sent
unfoldable pub send_judged : Bool → Bool → Bool → Bool → Told
send_judged false bits ended full = Err Length
send_judged true false ended full = Err NotBits
send_judged true true true full = Err Ended
send_judged true true false true = Err Full
send_judged true true false false = Ok tt

unfoldable pub send_told : Sender → List ℕ → List ℕ → Told
send_told s d e = send_judged (both (is_block (length d)) (eqb (length e) 464)) (none_over 1 d) s.ended (leb 16383 s.sent.0)

-- block d begins in four bursts, in which the last block goes on
unfoldable pub sent_bursts : Sender → List ℕ → List ℕ
sent_bursts s d = four (block_of d) s.last (flags_of (flag_of (is_facch (length d))) (flag_of s.facch))

unfoldable pub sent_next : Sender → List ℕ → Sender
sent_next s d = record { sent = record { 0 = s.sent.0 + 1 }; ended = s.ended; facch = is_facch (length d); last = block_of d }

-- done: the four bursts and the next stream; refused: all as before
unfoldable pub afterwards : Told → List ℕ → Sender → List ℕ → Sender → Answer Sent
afterwards (Ok tt) bursts next e s = record { result = record { told = (Ok tt); next = next }; left = bursts }
afterwards (Err r) bursts next e s = record { result = record { told = Err r; next = s }; left = e }

unfoldable pub send_answer : Sender → List ℕ → List ℕ → Answer Sent
send_answer s d e = afterwards (send_told s d e) (sent_bursts s d) (sent_next s d) e s

-- ---- end. 01: where several apply, 1, 7, 6; end is allowed at 16,383 blocks
unfoldable pub end_judged : Bool → Bool → Bool → Told
end_judged false ended nothing = Err Length
end_judged true true nothing = Err Ended
end_judged true false true = Err NothingSent
end_judged true false false = Ok tt

unfoldable pub end_told : Sender → List ℕ → Told
end_told s e = end_judged (eqb (length e) 464) s.ended (eqb s.sent.0 0)

-- the last block goes on, and none begins
unfoldable pub end_bursts : Sender → List ℕ
end_bursts s = four (zeros 456) s.last (flags_of 0 (flag_of s.facch))

unfoldable pub end_next : Sender → Sender
end_next s = record { sent = s.sent; ended = true; facch = s.facch; last = s.last }

unfoldable pub end_answer : Sender → List ℕ → Answer Sent
end_answer s e = afterwards (end_told s e) (end_bursts s) (end_next s) e s
