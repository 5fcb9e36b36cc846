-- What is received: the nearest block to the protected bits, the verdict of the parity bits within it, the bits to hand over.
use Rattle.std.specs.Prelude.{Bool, List, ◌++◌, ℕ, ◌+◌, ◌-◌, ◌/◌, ◌%◌, eqb, leb, length, get_or, take, drop, Ok, Err}
use Rattle.bits.specs.Bits.{pick, tab, add, ones, digits, value, given_bits, none_over}
use Rattle.parity.specs.Division.{remainder, speech_g, control_g, access_g, sch_g}
use Rattle.trellis.specs.Nearest.{nearest, nearest_count}
use Rattle.places.specs.Places.{gathered}
use Rattle.answers.specs.Answers.{Answer, hears, Told, Heard}
use Rattle.coder.specs.Entries.{judged, lengths}
use Rattle.answers.specs.declared.Unheard.TheVariants as unheard

-- is what division of w by g leaves all ones? (01, Coding rules)
unfoldable pub all_ones : List ℕ → List ℕ → Bool
all_ones g w = eqb (value (remainder g w)) (value (ones (length g)))

-- a block as it is heard: the bits to hand over, the verdict, the count of disagreements
pub record Hearing : Type 0 where
  pub bits : List ℕ
  pub good : Bool
  pub count : ℕ

-- a block of n bits with its parity bits over g, to which the colour's bits are added: of the nearest u the first n bits; the verdict
-- is taken from the parity bits within u, the colour being added once more, which takes it off
unfoldable pub block_heard : List ℕ → ℕ → ℕ → List ℕ → Hearing
block_heard g colour n c =
    let u : List ℕ = nearest c (n + length g + 4) in
    record { bits = take n u; good = all_ones g (take n u ++ add (take (length g) (drop n u)) (digits (length g) colour)); count = nearest_count c (n + length g + 4) }

-- speech: d(2k) = u(k) and d(2k+1) = u(184-k) for k = 0..90, as 000, 3.1.2.1 b) has it the other way
unfoldable pub speech_d_at : List ℕ → ℕ → ℕ
speech_d_at u j = pick (eqb (j % 2) 0) (get_or u (j / 2) 0) (get_or u (184 - j / 2) 0)

-- the protected bits are the first 378; the parity bits stand at u(91) to u(93), over the first 50 bits; the last 78 are as received, and by 02, M-102
-- missing ones are given as 0
unfoldable pub speech_heard : List ℕ → Hearing
speech_heard c =
    let u : List ℕ = nearest (take 378 c) 189 in
    let d : List ℕ = tab 182 (speech_d_at u) in
    record { bits = d ++ given_bits (drop 378 c); good = all_ones speech_g (take 50 d ++ take 3 (drop 91 u)); count = nearest_count (take 378 c) 189 }

-- ---- what is told of it
unfoldable pub verdict : Hearing → Heard
verdict h = pick h.good (Ok h.count) (Err (unheard.Bad h.count))

-- good: the bits are handed over; else the buffer stands as before
unfoldable pub hands : Hearing → List ℕ → Answer Heard
hands h d = hears (verdict h) h.bits d

unfoldable pub judged_hearing : Told → Hearing → Heard
judged_hearing (Ok tt) h = verdict h
judged_hearing (Err r) h = Err (unheard.Refused r)

-- an entry that reads n bytes c, none over 2 (02, M-102), and an identity, and hands over m bits into a buffer that held d
unfoldable pub reception : ℕ → ℕ → ℕ → List ℕ → Hearing → List ℕ → Answer Heard
reception n m identity c h d = hears (judged_hearing (judged (lengths c n d m) (none_over 2 c) (leb identity 63)) h) h.bits d

-- speech block: 456 to 260
unfoldable pub speech_received : List ℕ → List ℕ → Answer Heard
speech_received c d = reception 456 260 0 c (speech_heard c) d

-- control block: 456 to 184
unfoldable pub control_received : List ℕ → List ℕ → Answer Heard
control_received c d = reception 456 184 0 c (block_heard control_g 0 184 c) d

-- SACCH message: 464 to 184; no byte may be over 2, the flags are not used
unfoldable pub sacch_received : List ℕ → List ℕ → Answer Heard
sacch_received e d = reception 464 184 0 e (block_heard control_g 0 184 (gathered e)) d

-- access: identity and 36 to 8
unfoldable pub access_received : ℕ → List ℕ → List ℕ → Answer Heard
access_received identity e d = reception 36 8 identity e (block_heard access_g identity 8 e) d

-- SCH: 78 to 25
unfoldable pub sch_received : List ℕ → List ℕ → Answer Heard
sch_received e d = reception 78 25 0 e (block_heard sch_g 0 25 e) d
