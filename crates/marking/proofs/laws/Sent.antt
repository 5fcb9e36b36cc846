-- What is sent is the pairs of the block as it is laid out; so where few bytes are altered or missing that block gets yes, and no other.
use Rattle.std.specs.Prelude.{List, ◌≡◌, ℕ, ◌+◌, ◌*◌, length, take}
use Rattle.std.proofs.Common.{sym, ap, ◌∙◌, subst₂, arith, lit≤, take_all}
use Rattle.bits.specs.Bits.{Bits, Symbols, missing, digits}
use Rattle.bits.proofs.laws.Value.{length_digits, bits_digits}
use Rattle.convolution.specs.Pairs.{coded}
use Rattle.convolution.proofs.laws.Pairs.{length_coded}
use Rattle.parity.specs.Division.{access_g, sch_g}
use Rattle.trellis.specs.Nearest.{Candidate, disagreements}
use Rattle.answers.specs.Answers.{Answer, Told}
use Rattle.coder.specs.Blocks.{speech_u, speech_block, control_u, control_block, access_u, access_burst, sch_u, sch_burst}
use Rattle.coder.specs.Entries.{speech_sent, control_sent, access_sent, sch_sent}
use Rattle.coder.specs.Promises.{altered}
use Rattle.coder.proofs.laws.Blocks.{access_long, sch_long, speech_pairs}
use Rattle.coder.proofs.laws.Entries.{sends}
use Rattle.coder.proofs.laws.Hearings.{control_candidate}
use Rattle.coder.proofs.laws.Restored.{coloured_candidate}
use Rattle.coder.proofs.laws.SpeechRestored.{speech_candidate}
use Rattle.marking.specs.Marks.{counting}
use Rattle.marking.specs.Fair.{Channel, three, borne, SentAlone, SentGetsYes, SpeechSentAlone, ControlSentAlone, AccessSentAlone, SchSentAlone}
use Rattle.marking.proofs.laws.Accepted.{access_lays, sch_lays}
use Rattle.marking.proofs.laws.Channels.{speech_channel, control_channel, access_channel, sch_channel}
use Rattle.marking.proofs.laws.Fair.{sent_alone}

-- ---- once over the channel
all_counts : (n : ℕ) (u : List ℕ) → Candidate n u → counting n (coded u) ≡ coded u
unfolding counting
all_counts n u cu = take_all (2 * n) (coded u) (omega (arith, length_coded u, cu.long))

module _ (reads n : ℕ) (channel : Channel reads n) (sent r u : List ℕ) (lr : length r ≡ reads) (sr : Symbols r) (cu : Candidate n u) (is : counting n sent ≡ coded u) where
  alone : borne (altered (counting n) sent r) (missing (counting n r)) → SentAlone reads n r u (altered (counting n) sent r)
  alone few = sent_alone reads n channel r u (altered (counting n) sent r) lr sr cu (ap (disagreements (counting n r)) (sym is)) few

-- ---- the four channels

pub speech_sent_alone : SpeechSentAlone borne
unfolding speech_sent counting
speech_sent_alone d c r g lr sr few =
    let is = ap (λ (a : Answer Told). take 378 a.left) (sends 260 456 0 d c (lit≤ tt) g (speech_block d)) ∙ speech_pairs d g.reads g.bits in
    alone 456 189 speech_channel (speech_sent d c).left r (speech_u d) lr sr (speech_candidate d g.reads g.bits) is few

pub control_sent_alone : ControlSentAlone borne
unfolding control_sent control_block
control_sent_alone d c r g lr sr few =
    let cu = control_candidate d g.reads g.bits in
    let is = ap (λ (a : Answer Told). counting 228 a.left) (sends 184 456 0 d c (lit≤ tt) g (control_block d)) ∙ all_counts 228 (control_u d) cu in
    alone 456 228 control_channel (control_sent d c).left r (control_u d) lr sr cu is few

access_candidate : (i : ℕ) (d : List ℕ) → length d ≡ 8 → Bits d → Candidate 18 (access_u i d)
access_candidate i d ld bd =
    let size : length d + length access_g + 4 ≡ 18 = omega (arith, ld, access_long) in
    subst₂ Candidate size (sym (access_lays i d)) (coloured_candidate access_g (digits (length access_g) i) d bd (length_digits (length access_g) i) (bits_digits (length access_g) i))

pub access_sent_alone : AccessSentAlone borne
unfolding access_sent access_burst
access_sent_alone i hi d c r g lr sr few =
    let cu = access_candidate i d g.reads g.bits in
    let is = ap (λ (a : Answer Told). counting 18 a.left) (sends 8 36 i d c hi g (access_burst i d)) ∙ all_counts 18 (access_u i d) cu in
    alone 36 18 access_channel (access_sent i d c).left r (access_u i d) lr sr cu is few

sch_candidate : (d : List ℕ) → length d ≡ 25 → Bits d → Candidate 39 (sch_u d)
sch_candidate d ld bd =
    let size : length d + length sch_g + 4 ≡ 39 = omega (arith, ld, sch_long) in
    subst₂ Candidate size (sym (sch_lays d bd)) (coloured_candidate sch_g (digits (length sch_g) 0) d bd (length_digits (length sch_g) 0) (bits_digits (length sch_g) 0))

pub sch_sent_alone : SchSentAlone borne
unfolding sch_sent sch_burst
sch_sent_alone d c r g lr sr few =
    let cu = sch_candidate d g.reads g.bits in
    let is = ap (λ (a : Answer Told). counting 39 a.left) (sends 25 78 0 d c (lit≤ tt) g (sch_burst d)) ∙ all_counts 39 (sch_u d) cu in
    alone 78 39 sch_channel (sch_sent d c).left r (sch_u d) lr sr cu is few

-- ---- three altered and none missing are borne
three_borne : (t m : ℕ) → three t m → borne t m
three_borne t m h = omega (arith, h.0, h.1)

fewer : (k reads n : ℕ) (send : List ℕ → List ℕ → Answer Told) (laid : List ℕ → List ℕ) → SentGetsYes borne k reads n send laid → SentGetsYes three k reads n send laid
fewer k reads n send laid alone d c r g lr sr few = alone d c r g lr sr (three_borne (altered (counting n) (send d c).left r) (missing (counting n r)) few)

pub speech_sent_three : SpeechSentAlone three
speech_sent_three = fewer 260 456 189 speech_sent speech_u speech_sent_alone

pub control_sent_three : ControlSentAlone three
control_sent_three = fewer 184 456 228 control_sent control_u control_sent_alone

pub access_sent_three : AccessSentAlone three
access_sent_three i hi = fewer 8 36 18 (access_sent i) (access_u i) (access_sent_alone i hi)

pub sch_sent_three : SchSentAlone three
sch_sent_three = fewer 25 78 39 sch_sent sch_u sch_sent_alone
