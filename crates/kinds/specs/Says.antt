-- What a block brings, in 01's own numbers and values, of THE nearest block of each kind. Proved in proofs/laws/Says.
use Rattle.std.specs.Prelude.{List, ◌++◌, ◌≡◌, ℕ, ◌<◌, drop, None, Some}
use Rattle.parity.specs.Division.{control_g}
use Rattle.coder.specs.Says.{BlockDecodes, SpeechDecodes}
use Rattle.chart.specs.Answers.{values}
use Rattle.chart.specs.declared.Kind.TheVariants.{Speech, Facch, Neither}
use Rattle.chart.specs.declared.Values.{Values}

-- ---- a block, by how many of its eight flags are 1 and how many are 0, of its coded bits c
-- good: no number, the kind, n, the count of THE nearest block, and its bits: 260 of speech, 184 of FACCH
abbrev pub AsSpeech : (Values → List ℕ → Type 0) → ℕ → ℕ → List ℕ → Type 0
AsSpeech returns n k bits = returns (values None Speech (Some n) (Some k)) bits

abbrev pub AsFacch : (Values → List ℕ → Type 0) → ℕ → List ℕ → ℕ → List ℕ → Type 0
AsFacch returns n d k bits = returns (values None Facch (Some n) (Some k)) (bits ++ drop 184 d)

-- bad: 8 with n and the count, or 9 with n; both leave the buffer
abbrev pub AsBad : (Values → List ℕ → Type 0) → ℕ → List ℕ → ℕ → Type 0
AsBad returns n d k = returns (values (Some 8) Neither (Some n) (Some k)) d

abbrev pub AsTie : (Values → List ℕ → Type 0) → ℕ → List ℕ → ℕ → Type 0
AsTie returns n d k = returns (values (Some 9) Neither (Some n) None) d

-- 02, M-102: fewer ones than zeros mean speech, more FACCH. 02, M-101: with as many the block is decoded as FACCH, and where that is bad, as speech
pub record BlockSays (returns : Values → List ℕ → Type 0) (ones zeros n : ℕ) (c d : List ℕ) : Type 0 where
  pub speech : ones < zeros → SpeechDecodes c (AsSpeech returns n) (AsBad returns n d)
  pub facch : zeros < ones → BlockDecodes control_g 0 184 228 c (AsFacch returns n d) (AsBad returns n d)
  pub tie : ones ≡ zeros → BlockDecodes control_g 0 184 228 c (AsFacch returns n d) (λ k. SpeechDecodes c (AsSpeech returns n) (AsTie returns n d))

-- ---- 02, M-101: where 9 is given, as many flags are 1 as are 0, and the coded bits are found bad both as FACCH and as speech
abbrev pub FoundBad : ((ℕ → List ℕ → Type 0) → (ℕ → Type 0) → Type 0) → Type 0
FoundBad decodes = decodes (λ k bits. ⊥) (λ k. Unit {0})

pub record BothBad (ones zeros : ℕ) (c : List ℕ) : Type 0 where
  pub even : ones ≡ zeros
  pub control : FoundBad (BlockDecodes control_g 0 184 228 c)
  pub speech : FoundBad (SpeechDecodes c)
