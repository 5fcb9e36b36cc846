-- What the two entries need: how each of them ends.
use Rattle.std.specs.Prelude.{Bool, ◌≡◌, ℕ, eqb, leb, drop, Ok, Err}
use Rattle.std.proofs.Math.Bool.{true, false}
use mathlib.Core.List.{List, ◌++◌}
use Rattle.std.proofs.Math.Path.{refl, sym, ap, subst}
use Rattle.std.proofs.Common.{◌∙◌, arith, lit≤, length-append, length-drop}
use Rattle.std.proofs.Math.ListN.{length}
use borrow.Author.Tests.{eq-eqb, ne_eqb}
use Rattle.bits.specs.Bits.{Bits, Symbols, given_bits, pick, both, none_over}
use Rattle.bits.proofs.laws.Missing.{length_given, given_bits_lem}
use Rattle.bits.proofs.laws.Sum.{bits_append, over_drop}
use Rattle.bits.proofs.laws.Tab.{length_tab}
use Rattle.answers.specs.Answers.{Answer, Meets, sent_or, tells, heard_or, hears, Told, Heard}
use Rattle.answers.specs.declared.Refusal.{Refusal}
use Rattle.answers.specs.declared.Refusal.TheVariants.{Length, NotBits}
use Rattle.coder.specs.Blocks.{speech_block}
use Rattle.coder.specs.Entries.{judged, Given, entry, speech_sent}
use Rattle.coder.specs.Received.{Hearing, judged_hearing, speech_d_at, speech_heard, reception, speech_received}
use Rattle.coder.specs.Says.{speech_d}
use Rattle.coder.proofs.laws.Entries.{done_given, sends}
use Rattle.coder.proofs.laws.Says.{speech_heard_lem}
use Rattle.coder.proofs.laws.SpeechHeard.{bits_d}
use Rattle.efr.specs.Answers.{Checked, unchecked, checked_or, checks}
use Rattle.efr.specs.Entries.{efr_block, efr_sent, with_crc, efr_received}
use Rattle.preliminary.specs.Stage.{efr_d, w_of, s_of, crc_good}
use Rattle.preliminary.proofs.laws.Stage.{length_d, bits_sent}
use Rattle.efr.specs.declared.Unchecked.TheVariants as checked
use Rattle.answers.specs.declared.Unheard.{Unheard}
use Rattle.answers.specs.declared.Unheard.TheVariants as unheard

-- ---- receiving: the CRC is judged of what speech heard as good
module _ (k : ℕ) (d before : List ℕ) (t : Bool) (e : t ≡ crc_good (w_of d)) where
  is : (b : Bool) → t ≡ b → with_crc (Ok k) d ≡ pick b (Ok k) (Err (checked.BadCrc k))
  unfolding with_crc
  is b f = ap (λ (x : Bool). pick x (Ok k) (Err (checked.BadCrc k))) (sym e ∙ f)

  pub crc_good_lem : (after : List ℕ) → t ≡ true → after ≡ s_of (w_of d) → Meets (checks (with_crc (Ok k) d) (s_of (w_of d)) before) (Ok k) after
  unfolding checks checked_or
  crc_good_lem after f g = record { result = sym (is true f); left = g ∙ ap (λ (x : Checked). checked_or x (s_of (w_of d)) before) (sym (is true f)) }

  pub crc_bad : t ≡ false → Meets (checks (with_crc (Ok k) d) (s_of (w_of d)) before) (Err (checked.BadCrc k)) before
  unfolding checks checked_or
  crc_bad f = record { result = sym (is false f); left = ap (λ (x : Checked). checked_or x (s_of (w_of d)) before) (sym (is false f)) }

-- ---- and the other ways to end
neither : (a : Bool) → both a false ≡ false
neither true = refl
neither false = refl

-- what speech hears are 260 bits
pub bits_heard : (c : List ℕ) → length c ≡ 456 → Symbols c → Bits (speech_heard c).bits × (length (speech_heard c).bits ≡ 260)
bits_heard c lc sc =
    let x = speech_heard_lem c in
    let rest : List ℕ = drop 378 c in
    let bits : Bits (speech_d x.u ++ given_bits rest) =
    bits_append (speech_d x.u) (given_bits rest) (bits_d x.u x.nearest.candidate.bits) (given_bits_lem rest (over_drop 2 378 c sc)) in
    let long : length (speech_d x.u ++ given_bits rest) ≡ 260 =
    length-append (speech_d x.u) (given_bits rest) ∙ omega (arith, length_tab 182 (speech_d_at x.u), length_given rest, length-drop 378 c, lc) in
    (subst Bits (sym x.bits) bits, ap length x.bits ∙ long)

-- what is heard as good was given as it should be
good_done : (h : Hearing) (t : Told) (k : ℕ) → judged_hearing t h ≡ Ok k → t ≡ (Ok tt)
unfolding judged_hearing
good_done h (Ok tt) k e = refl
good_done h (Err x) k e = let z : ◌≡◌ {A = ℕ} 0 1 = cc in let w : ⊥ = omega arith in absurd w

module _ (c before : List ℕ) where
  abbrev h : Hearing
  h = speech_heard c

  abbrev judgement : Bool → Told
  judgement lent = judged (both (eqb (length c) 456) lent) (none_over 2 c) (leb 0 63)

  -- a buffer of another length
  pub wrong_length : (length before ≡ 244 → ⊥) → Meets (efr_received c before) (Err (checked.Refused Length)) before
  unfolding efr_received judged judged_hearing with_crc checks checked_or
  wrong_length f = rw (ne_eqb (length before) 244 f, neither (eqb (length c) 456)) (record { result = refl; left = refl })

  -- what the speech entry said, and left in 260 bytes of our own
  module _ (own after : List ℕ) (r : Heard) (lo : length own ≡ 260) (lb : length before ≡ 244) (met : Meets (speech_received c own) r after) where
    said : r ≡ judged_hearing (judgement (eqb (length before) 244)) h
    unfolding speech_received reception hears
    said = met.result ∙ ap (λ (b : Bool). judged_hearing (judgement b) h) (eq-eqb (length own) 260 lo ∙ sym (eq-eqb (length before) 244 lb))

    answered : (x : Heard) → r ≡ x → efr_received c before ≡ checks (with_crc x h.bits) (s_of (w_of h.bits)) before
    unfolding efr_received
    answered x e = ap (λ (y : Heard). checks (with_crc y h.bits) (s_of (w_of h.bits)) before) (sym said ∙ e)

    left_bits : (k : ℕ) → r ≡ Ok k → after ≡ h.bits
    unfolding speech_received reception hears heard_or
    left_bits k e = met.left ∙ ap (λ (y : Heard). heard_or y h.bits own) (sym met.result ∙ e)

    -- good: its bits are bits, and the CRC decides
    given : (k : ℕ) → r ≡ Ok k → Given 2 456 244 c before
    given k e =
        let t : Told = judgement (eqb (length before) 244) in
        done_given 2 c before 456 244 0 t refl (good_done h t k (sym said ∙ e))

    pub judged_asked : (k : ℕ) → r ≡ Ok k → Bits after × (length after ≡ 260) × (length before ≡ 244)
    judged_asked k e =
        let g = given k e in
        let same : after ≡ h.bits = left_bits k e in
        let heard_as = bits_heard c g.reads g.bits in
        (subst Bits (sym same) heard_as.0, ap length same ∙ heard_as.1, lb)

    pub received_good : (k : ℕ) → r ≡ Ok k → (x : Checked) (out : List ℕ) → Meets (checks (with_crc (Ok k) after) (s_of (w_of after)) before) x out → Meets (efr_received c before) x out
    received_good k e x out m =
        subst (λ (a : Answer Checked). Meets a x out)
        (ap (λ (d : List ℕ). checks (with_crc (Ok k) d) (s_of (w_of d)) before) (left_bits k e) ∙ sym (answered (Ok k) e)) m

    pub received_refused : (y : Refusal) → r ≡ Err (unheard.Refused y) → Meets (efr_received c before) (Err (checked.Refused y)) before
    unfolding with_crc checks checked_or
    received_refused y e = subst (λ (a : Answer Checked). Meets a (Err (checked.Refused y)) before) (sym (answered (Err (unheard.Refused y)) e)) (record { result = refl; left = refl })

    pub received_bad : (k : ℕ) → r ≡ Err (unheard.Bad k) → Meets (efr_received c before) (Err (checked.BadParity k)) before
    unfolding with_crc checks checked_or
    received_bad k e = subst (λ (a : Answer Checked). Meets a (Err (checked.BadParity k)) before) (sym (answered (Err (unheard.Bad k)) e)) (record { result = refl; left = refl })

    pub received_unheard : (w : Unheard) → r ≡ Err w → Meets (efr_received c before) (Err (unchecked w)) before
    received_unheard (unheard.Refused y) e = received_refused y e
    received_unheard (unheard.Bad k) e = received_bad k e

-- ---- sending
module _ (s c : List ℕ) where
  pub sent_length : (length s ≡ 244 → ⊥) → Meets (efr_sent s c) (Err Length) c
  unfolding efr_sent entry tells sent_or judged
  sent_length f = rw (ne_eqb (length s) 244 f) (record { result = refl; left = refl })

  pub sent_lent : (length c ≡ 456 → ⊥) → Meets (efr_sent s c) (Err Length) c
  unfolding efr_sent entry tells sent_or judged
  sent_lent f = rw (ne_eqb (length c) 456 f, neither (eqb (length s) 244)) (record { result = refl; left = refl })

  module _ (ls : length s ≡ 244) (lc : length c ≡ 456) where
    pub sent_not_bits : none_over 1 s ≡ false → Meets (efr_sent s c) (Err NotBits) c
    unfolding efr_sent entry tells sent_or judged
    sent_not_bits f = rw (eq-eqb (length s) 244 ls, eq-eqb (length c) 456 lc, f) (record { result = refl; left = refl })

    -- the speech entry sends what the stage made of s
    pub sent_done : Bits s → (d : List ℕ) (r : Told) (after : List ℕ) → d ≡ efr_d s → Meets (speech_sent d c) r after → Meets (efr_sent s c) r after
    unfolding efr_sent speech_sent efr_block
    sent_done bs d r after ed m =
        let sent = sends 244 456 0 s c (lit≤ tt) (record { reads = ls; bits = bs; lends = lc }) (speech_block (efr_d s)) in
        let given : Given 1 260 456 d c = record { reads = ap length ed ∙ length_d s; bits = subst Bits (sym ed) (bits_sent s bs); lends = lc } in
        let coded = sends 260 456 0 d c (lit≤ tt) given (speech_block d) in
        subst (λ (a : Answer Told). Meets a r after)
        (coded ∙ ap (λ (x : List ℕ). record { result = (Ok tt); left = speech_block x }) ed ∙ sym sent) m
