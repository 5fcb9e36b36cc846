-- What a block brings is what Says has, by how many of its flags are 1 and how many are 0.
use Rattle.std.specs.Prelude.{Bool, List, ◌++◌, ◌≡◌, ℕ, ◌≤◌, ◌<◌, Ok, Err}
use Rattle.std.proofs.Math.Bool.{true, false}
use Rattle.std.proofs.Common.{⊎_elim, ap, ◌∙◌, arith}
use Rattle.std.proofs.Math.Path.{refl, sym}
use Rattle.std.specs.Int.Count as count
use Rattle.std.proofs.Math.ListN.{drop}
use Rattle.bits.proofs.laws.Cases.{lt_or_le, false_true}
use Rattle.answers.specs.Answers.{Answer, or_none}
use Rattle.burst.specs.declared.numbers.BlockNumber.{BlockNumber}
use Rattle.parity.specs.Division.{control_g}
use Rattle.coder.specs.Received.{Hearing, block_heard, speech_heard}
use Rattle.coder.specs.Says.{SpeechDecodes}
use Rattle.coder.proofs.laws.Says.{control_decodes, speech_decodes}
use Rattle.chart.specs.Answers.{Take, of_taken}
use Rattle.chart.specs.declared.Kind.{Kind}
use Rattle.chart.specs.declared.Kind.TheVariants as kind
use Rattle.chart.specs.declared.Taken.TheVariants as taken
use Rattle.chart.specs.declared.Untaken.TheVariants as untaken
use Rattle.chart.specs.declared.Values.{Values}
use Rattle.kinds.specs.Kinds.{vote, good_or_bad, speech_of, facch_of, tied, by_kind}
use Rattle.kinds.specs.Says.{AsSpeech, AsFacch, AsBad, AsTie, BlockSays, BothBad}
use Rattle.kinds.proofs.laws.Kinds.{vote_few, vote_many, vote_even}

-- ---- a block, by its kind: what an answer returns is known of by_kind's
module _ (ones zeros n : ℕ) (c d : List ℕ) (returns : Values → List ℕ → Type 0)
    (says : (t : Take) (left : List ℕ) → by_kind (vote ones zeros) n c d ≡ record { result = t; left = left } → returns (of_taken t) left) where
  abbrev speech : Hearing
  speech = speech_heard c

  abbrev control : Hearing
  control = block_heard control_g 0 184 c

  abbrev of_kind : Kind → Answer Take
  of_kind k = by_kind k n c d

  abbrev number : BlockNumber
  number = record { 0 = n }

  pub block_says : (f s : ℕ) → count.ones ones ≡ f → count.ones zeros ≡ s → BlockSays returns f s n c d
  unfolding by_kind tied speech_of facch_of good_or_bad
  block_says f s ef es =
      record {
        speech = λ h.
            let k = vote_few ones zeros (omega (arith, ef, es, h)) in
            speech_decodes c (AsSpeech returns n) (AsBad returns n d)
            (λ good. says (Ok (taken.Speech number speech.count)) speech.bits (ap of_kind k ∙ rw good refl))
            (λ bad. says (Err (untaken.Bad number speech.count)) d (ap of_kind k ∙ rw bad refl));
        facch = λ h.
            let k = vote_many ones zeros (omega (arith, ef, es, h)) in
            control_decodes c (AsFacch returns n d) (AsBad returns n d)
            (λ good. says (Ok (taken.Facch number control.count)) (control.bits ++ drop 184 d) (ap of_kind k ∙ rw good refl))
            (λ bad. says (Err (untaken.Bad number control.count)) d (ap of_kind k ∙ rw bad refl));
        tie = λ h.
            let k = vote_even ones zeros (ef ∙ h ∙ sym es) in
            control_decodes c (AsFacch returns n d) (λ x. SpeechDecodes c (AsSpeech returns n) (AsTie returns n d))
            (λ good. says (Ok (taken.Facch number control.count)) (control.bits ++ drop 184 d) (ap of_kind k ∙ rw good refl))
            (λ bad.
            speech_decodes c (AsSpeech returns n) (AsTie returns n d)
            (λ good. says (Ok (taken.Speech number speech.count)) speech.bits (ap of_kind k ∙ rw (bad, good) refl))
            (λ worse. says (Err (untaken.Tie number)) d (ap of_kind k ∙ rw (bad, worse) refl)));
      }

-- ---- 9 is given in no other case than BothBad
-- the number that take gives, 0 for none
abbrev pub given : Take → ℕ
given t = or_none (of_taken t).number

module _ (n : ℕ) (c d : List ℕ) where
  abbrev heard_control : Hearing
  heard_control = block_heard control_g 0 184 c

  abbrev heard_speech : Hearing
  heard_speech = speech_heard c

  of_speech : (b : Bool) → heard_speech.good ≡ b → given (by_kind kind.Speech n c d).result ≡ 9 → ⊥
  unfolding by_kind speech_of good_or_bad
  of_speech true e z = let w : given (by_kind kind.Speech n c d).result ≡ 0 = rw e refl in omega (arith, w, z)
  of_speech false e z = let w : given (by_kind kind.Speech n c d).result ≡ 8 = rw e refl in omega (arith, w, z)

  of_facch : (b : Bool) → heard_control.good ≡ b → given (by_kind kind.Facch n c d).result ≡ 9 → ⊥
  unfolding by_kind facch_of good_or_bad
  of_facch true e z = let w : given (by_kind kind.Facch n c d).result ≡ 0 = rw e refl in omega (arith, w, z)
  of_facch false e z = let w : given (by_kind kind.Facch n c d).result ≡ 8 = rw e refl in omega (arith, w, z)

  of_tie : (f s : ℕ) → f ≡ s → (b b' : Bool) → heard_control.good ≡ b → heard_speech.good ≡ b' → given (by_kind kind.Neither n c d).result ≡ 9 → BothBad f s c
  unfolding by_kind tied facch_of speech_of good_or_bad
  of_tie f s h true b' e e' z = let w : given (by_kind kind.Neither n c d).result ≡ 0 = rw e refl in absurd (omega (arith, w, z))
  of_tie f s h false true e e' z = let w : given (by_kind kind.Neither n c d).result ≡ 0 = rw (e, e') refl in absurd (omega (arith, w, z))
  of_tie f s h false false e e' z = record {
    even = h;
    control = control_decodes c (λ k bits. ⊥) (λ k. Unit {0}) (λ good. false_true (sym e ∙ good)) (λ x. tt);
    speech = speech_decodes c (λ k bits. ⊥) (λ k. Unit {0}) (λ good. false_true (sym e' ∙ good)) (λ x. tt);
  }

  pub of_flags : (ones zeros : ℕ) → given (by_kind (vote ones zeros) n c d).result ≡ 9 → BothBad (count.ones ones) (count.ones zeros) c
  of_flags ones zeros z = ⊎_elim few (λ (l : count.ones zeros ≤ count.ones ones). ⊎_elim many (λ (m : count.ones ones ≤ count.ones zeros). even (omega (arith, l, m))) (lt_or_le (count.ones zeros) (count.ones ones))) (lt_or_le (count.ones ones) (count.ones zeros))
    where
      as_kind : (k : Kind) → vote ones zeros ≡ k → given (by_kind k n c d).result ≡ 9
      as_kind k e = sym (ap (λ (x : Kind). given (by_kind x n c d).result) e) ∙ z

      few : count.ones ones < count.ones zeros → BothBad (count.ones ones) (count.ones zeros) c
      few h = absurd (of_speech heard_speech.good refl (as_kind kind.Speech (vote_few ones zeros h)))

      many : count.ones zeros < count.ones ones → BothBad (count.ones ones) (count.ones zeros) c
      many h = absurd (of_facch heard_control.good refl (as_kind kind.Facch (vote_many ones zeros h)))

      even : count.ones ones ≡ count.ones zeros → BothBad (count.ones ones) (count.ones zeros) c
      even h = of_tie (count.ones ones) (count.ones zeros) h heard_control.good heard_speech.good refl refl (as_kind kind.Neither (vote_even ones zeros h))
