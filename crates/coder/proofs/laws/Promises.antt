-- The promises are kept: an entry that is given what it should be sends its block, and it comes back where t bits are altered and m missing, 2t + m at
-- most 6. Demand 3 follows: with none missing, t is at most three.
use Rattle.std.specs.Prelude.{List, ◌++◌, ◌≡◌, refl, ℕ, ◌+◌, ◌*◌, ◌≤◌, ◌<◌, ◌^◌, length, take, drop, Ok, Err}
use Rattle.std.proofs.Common.{sym, ap, ◌∙◌, subst, arith, lit≤}
use Rattle.bits.specs.Bits.{Bits, given_bits, missing, digits, value}
use Rattle.bits.proofs.laws.Missing.{given_same, given_drop, missing_take}
use Rattle.bits.proofs.laws.Tab.{length_tab}
use Rattle.bits.proofs.laws.Value.{length_digits, bits_digits, value_digits}
use Rattle.places.specs.Places.{gathered_at, gathered}
use Rattle.parity.specs.Division.{control_g, access_g, sch_g}
use Rattle.trellis.specs.Nearest.{Found, disagreements, longest}
use Rattle.convolution.specs.Pairs.{coded}
use Rattle.answers.specs.Answers.{Answer, of_told, of_heard, Told, Heard}
use Rattle.coder.specs.Blocks.{control_block, sacch_message, access_burst, sch_burst, speech_block}
use Rattle.coder.specs.Entries.{Given, entry, speech_sent, control_sent, sacch_sent, access_sent, sch_sent}
use Rattle.coder.specs.Received.{Hearing, block_heard, speech_heard, reception, speech_received, control_received, sacch_received, access_received, sch_received}
use Rattle.coder.specs.Says.{Accepts, FindsBad}
use Rattle.coder.specs.Promises.{altered, whole, as_sent, Back, Bears, ComesBack, SpeechBears, ControlBears, SacchBears, SchBears, AccessBears, SpeechPromise, ControlPromise, SacchPromise, SchPromise, AccessPromise}
use Rattle.parity.proofs.laws.Generators.{control_long}
use Rattle.coder.proofs.laws.Blocks.{access_long, sch_long}
use Rattle.coder.proofs.laws.Entries.{sends}
use Rattle.coder.proofs.laws.Heard.{hears_good, hears_bad}
use Rattle.coder.proofs.laws.Hearings.{control_codes, access_codes, sch_codes, message_holds, speech_hearing}
use Rattle.coder.proofs.laws.Restored.{coloured, bears_few, restored_bits, restored_count, restored_good, restored_bad}
use Rattle.answers.specs.declared.Unheard.TheVariants as unheard

-- ---- the two answers, and what they are in 01's numbers and counts
abbrev accepted : ℕ → List ℕ → Answer Heard
accepted count bits = record { result = Ok count; left = bits }

abbrev found_bad : ℕ → List ℕ → Answer Heard
found_bad count before = record { result = Err (unheard.Bad count); left = before }

pub accepts : (a : Answer Heard) (count : ℕ) (bits : List ℕ) → a ≡ accepted count bits → Accepts a count bits
accepts a count bits e = (ap (λ (x : Answer Heard). of_heard x.result) e, ap (λ (x : Answer Heard). x.left) e)

pub finds_bad : (a : Answer Heard) (count : ℕ) (before : List ℕ) → a ≡ found_bad count before → FindsBad a count before
finds_bad a count before e = (ap (λ (x : Answer Heard). of_heard x.result) e, ap (λ (x : Answer Heard). x.left) e)

-- ---- a block that is found in what arrived: once over the generator, the identity and the length
module _ (g : List ℕ) (i n m : ℕ) (d e out c : List ℕ) (bd : Bits d) (ld : length d ≡ n) (ge : Given 2 m n e out)
    (found : Found c (length d + length g + 4) (coloured g (digits (length g) i) d)) where
  abbrev r : ℕ
  r = length g

  abbrev count : ℕ
  count = disagreements c (coded (coloured g (digits r i) d))

  pub comes_back : i ≤ 63 → reception m n i e (block_heard g i n c) out ≡ accepted count d
  comes_back h =
      let a : List ℕ = digits r i in
      let la : length a ≡ r = length_digits r i in
      let ba : Bits a = bits_digits r i in
      let heard : ℕ → Hearing = λ k. block_heard g i k c in
      hears_good m n i e out h ge (heard n) count
      (ap (λ (k : ℕ). (heard k).count) (sym ld) ∙ restored_count g a d bd la ba c found i)
      d
      (ap (λ (k : ℕ). (heard k).good) (sym ld) ∙ restored_good g a d bd la ba c found i refl)
      (ap (λ (k : ℕ). (heard k).bits) (sym ld) ∙ restored_bits g a d bd la ba c found i)

  pub stays_out : (j : ℕ) → j ≤ 63 → i < 2 ^ r → j < 2 ^ r → (j ≡ i → ⊥) → reception m n j e (block_heard g j n c) out ≡ found_bad count out
  stays_out j h hi hj other =
      let a : List ℕ = digits r i in
      let la : length a ≡ r = length_digits r i in
      let ba : Bits a = bits_digits r i in
      let heard : ℕ → Hearing = λ k. block_heard g j k c in
      hears_bad m n j e out h ge (heard n) count
      (ap (λ (k : ℕ). (heard k).count) (sym ld) ∙ restored_count g a d bd la ba c found j)
      (ap (λ (k : ℕ). (heard k).good) (sym ld)
      ∙ restored_bad g a d bd la ba c found j (λ (x : digits r i ≡ digits r j). other (sym (value_digits r j hj) ∙ ap value (sym x) ∙ value_digits r i hi)))

-- ---- what is sent, and what is heard of it: once over the above and the protected bits of what is sent
module _ (g : List ℕ) (i n m : ℕ) (block protected : List ℕ → List ℕ)
    (codes : (d : List ℕ) → length d ≡ n → Bits d → protected (block d) ≡ coded (coloured g (digits (length g) i) d)) (h : i ≤ 63)
    (d c e out : List ℕ) (gd : Given 1 n m d c) (ge : Given 2 m n e out) where
  sent : entry n m i d (block d) c ≡ record { result = (Ok tt); left = block d }
  sent = sends n m i d c h gd (block d)

  pub sent_coded : protected (entry n m i d (block d) c).left ≡ coded (coloured g (digits (length g) i) d)
  sent_coded = ap (λ (a : Answer Told). protected a.left) sent ∙ codes d gd.reads gd.bits

  module _ (found : Found (protected e) (length d + length g + 4) (coloured g (digits (length g) i) d)) where
    pub kept : Back (entry n m i d (block d) c) (reception m n i e (block_heard g i n (protected e)) out) (altered protected (entry n m i d (block d) c).left e) d
    kept = (
      ap (λ (a : Answer Told). of_told a.result) sent,
      accepts (reception m n i e (block_heard g i n (protected e)) out) (altered protected (entry n m i d (block d) c).left e) d
          (comes_back g i n m d e out (protected e) gd.bits gd.reads ge found h
          ∙ ap (λ (x : List ℕ). accepted (disagreements (protected e) x) d) (sym sent_coded)),
    )

    pub kept_out : (j : ℕ) → j ≤ 63 → i < 2 ^ length g → j < 2 ^ length g → (j ≡ i → ⊥)
        → FindsBad (reception m n j e (block_heard g j n (protected e)) out) (altered protected (entry n m i d (block d) c).left e) out
    kept_out j hj li lj other =
        finds_bad (reception m n j e (block_heard g j n (protected e)) out) (altered protected (entry n m i d (block d) c).left e) out
        (stays_out g i n m d e out (protected e) gd.bits gd.reads ge found j hj li lj other
        ∙ ap (λ (x : List ℕ). found_bad (disagreements (protected e) x) out) (sym sent_coded))

  -- where few bits are altered or missing it is found
  module _ (short : n + length g + 4 ≤ longest) (sized : (e : List ℕ) → length e ≡ m → length (protected e) ≡ 2 * (n + length g + 4))
      (few : 2 * altered protected (entry n m i d (block d) c).left e + missing (protected e) ≤ 6) where
    pub few_found : Found (protected e) (length d + length g + 4) (coloured g (digits (length g) i) d)
    few_found =
        bears_few g (digits (length g) i) d gd.bits (length_digits (length g) i) (bits_digits (length g) i) (protected e)
        (omega (arith, gd.reads, short)) (omega (arith, gd.reads, sized e ge.reads))
        (subst (λ (x : List ℕ). 2 * disagreements (protected e) x + missing (protected e) ≤ 6) sent_coded few)

-- the lengths of what is protected
control_sized : (e : List ℕ) → length e ≡ 456 → length (whole e) ≡ 2 * (184 + length control_g + 4)
control_sized e l = omega (arith, l, control_long)

message_sized : (e : List ℕ) → length e ≡ 464 → length (gathered e) ≡ 2 * (184 + length control_g + 4)
unfolding gathered
message_sized e l = omega (arith, length_tab 456 (gathered_at e), control_long)

access_sized : (e : List ℕ) → length e ≡ 36 → length (whole e) ≡ 2 * (8 + length access_g + 4)
access_sized e l = omega (arith, l, access_long)

sch_sized : (e : List ℕ) → length e ≡ 78 → length (whole e) ≡ 2 * (25 + length sch_g + 4)
sch_sized e l = omega (arith, l, sch_long)

-- ---- 02, M-102: what each channel bears
pub control_bears : ControlBears
unfolding control_sent control_received
control_bears d c e out gd ge few =
    kept control_g 0 184 456 control_block whole control_codes (lit≤ tt) d c e out gd ge
    (few_found control_g 0 184 456 control_block whole control_codes (lit≤ tt) d c e out gd ge (omega (arith, control_long)) control_sized few)

pub sch_bears : SchBears
unfolding sch_sent sch_received
sch_bears d c e out gd ge few =
    kept sch_g 0 25 78 sch_burst whole sch_codes (lit≤ tt) d c e out gd ge
    (few_found sch_g 0 25 78 sch_burst whole sch_codes (lit≤ tt) d c e out gd ge (omega (arith, sch_long)) sch_sized few)

pub message_codes : (d : List ℕ) → length d ≡ 184 → Bits d → gathered (sacch_message d) ≡ coded (coloured control_g (digits (length control_g) 0) d)
message_codes d ld bd = message_holds d ld bd ∙ control_codes d ld bd

pub sacch_bears : SacchBears
unfolding sacch_sent sacch_received
sacch_bears d c e out gd ge few =
    kept control_g 0 184 464 sacch_message gathered message_codes (lit≤ tt) d c e out gd ge
    (few_found control_g 0 184 464 sacch_message gathered message_codes (lit≤ tt) d c e out gd ge (omega (arith, control_long)) message_sized few)

pub access_bears : AccessBears
unfolding access_sent access_received
access_bears i hi =
    let short : 8 + length access_g + 4 ≤ longest = omega (arith, access_long) in
    let below : (x : ℕ) → x ≤ 63 → x < 2 ^ length access_g = λ (x : ℕ) (h : x ≤ 63). subst (λ (k : ℕ). x < 2 ^ k) (sym access_long) (omega arith) in (
      λ d c e out gd ge few.
          kept access_g i 8 36 (access_burst i) whole (access_codes i) hi d c e out gd ge
          (few_found access_g i 8 36 (access_burst i) whole (access_codes i) hi d c e out gd ge short access_sized few),
      λ j hj other d c e out gd ge few.
          kept_out access_g i 8 36 (access_burst i) whole (access_codes i) hi d c e out gd ge
          (few_found access_g i 8 36 (access_burst i) whole (access_codes i) hi d c e out gd ge short access_sized few) j hj (below i hi) (below j hj) other,
    )

pub speech_bears : SpeechBears
unfolding speech_sent speech_received
speech_bears d c e out gd ge few =
    let sent = sends 260 456 0 d c (lit≤ tt) gd (speech_block d) in
    let is = ap (λ (a : Answer Told). take 378 a.left) sent in
    let fewer = subst (λ (x : List ℕ). 2 * disagreements (take 378 e) x + missing (take 378 e) ≤ 6) is few in
    let heard = speech_hearing d e gd.reads gd.bits ge.reads fewer in
    let bits : List ℕ = take 182 d ++ given_bits (drop 378 e) in (
      ap (λ (a : Answer Told). of_told a.result) sent,
      accepts (reception 456 260 0 e (speech_heard e) out) (altered (take 378) (entry 260 456 0 d (speech_block d) c).left e) bits
          (hears_good 456 260 0 e out (lit≤ tt) ge (speech_heard e) (altered (take 378) (entry 260 456 0 d (speech_block d) c).left e)
          (ap (λ (h : Hearing). h.count) heard ∙ ap (disagreements (take 378 e)) (sym is))
          bits
          (ap (λ (h : Hearing). h.good) heard)
          (ap (λ (h : Hearing). h.bits) heard)),
    )

-- ---- demand 3 is the case of which nothing is missing
enough : (t m : ℕ) → t ≤ 3 → m ≡ 0 → 2 * t + m ≤ 6
enough t m few none = omega (arith, few, none)

-- where every bit is protected, and the bits are those that were sent
none_lost : (n m : ℕ) (send : List ℕ → List ℕ → Answer Told) (receive : List ℕ → List ℕ → Answer Heard) (protected : List ℕ → List ℕ)
    → Bears n m send receive protected as_sent → ComesBack n m send receive protected protected as_sent
none_lost n m send receive protected bears d c e out gd ge none few =
    bears d c e out gd ge (enough (altered protected (send d c).left e) (missing (protected e)) few none)

pub control_promise : ControlPromise
control_promise = none_lost 184 456 control_sent control_received whole control_bears

pub sch_promise : SchPromise
sch_promise = none_lost 25 78 sch_sent sch_received whole sch_bears

pub sacch_promise : SacchPromise
sacch_promise = none_lost 184 464 sacch_sent sacch_received gathered sacch_bears

pub access_promise : AccessPromise
access_promise i hi = (
  none_lost 8 36 (access_sent i) (access_received i) whole (access_bears i hi).0,
  λ j hj other d c e out gd ge few. (access_bears i hi).1 j hj other d c e out gd ge (enough (altered whole (access_sent i d c).left e) (missing e) few.0 few.1),
)

-- of speech the others are as received, since none of them is missing either
pub speech_promise : SpeechPromise
speech_promise d c e out gd ge none few =
    let protected : missing (take 378 e) ≡ 0 = omega (arith, missing_take 378 e, none) in
    let received : given_bits (drop 378 e) ≡ drop 378 e = sym (given_drop 378 e) ∙ ap (drop 378) (given_same e none) in
    subst (λ (x : List ℕ). Back (speech_sent d c) (speech_received e out) (altered (take 378) (speech_sent d c).left e) (take 182 d ++ x)) received
    (speech_bears d c e out gd ge (enough (altered (take 378) (speech_sent d c).left e) (missing (take 378 e)) few protected))
