-- What the two entries answer, in 01's own numbers and words. Proved in proofs/laws/Says.
use Rattle.std.specs.Prelude.{List, ◌++◌, ◌≡◌, ℕ, length, take, drop, None, Some}
use Rattle.bits.specs.Bits.{given_bits, ones, zeros}
use Rattle.parity.specs.Division.{remainder, speech_g, efr_g}
use Rattle.trellis.specs.Nearest.{Nearest}
use Rattle.answers.specs.Answers.{Answer, Returns}
use Rattle.coder.specs.Entries.{Given}
use Rattle.coder.specs.Says.{Refusing, Sends, speech_d, speech_word, SpeechDecodes}
use Rattle.efr.specs.Answers.{Checked, of_checked}
use Rattle.efr.specs.Entries.{efr_block, efr_sent, efr_received}
use Rattle.preliminary.specs.Stage.{w_of, s_of, crc_word}

-- ---- sending: refused with 1 or 2, or else done, with the block in the buffer
abbrev pub EfrSends : Type 0
EfrSends = (s c : List ℕ) → Sends (efr_sent s c) 244 456 0 s (efr_block s) c

-- ---- receiving: what is returned, and what the buffer, which held `before`, then holds
-- good: no number, this count, these bits
abbrev pub Accepts : Answer Checked → ℕ → List ℕ → Type 0
Accepts a count bits = Returns of_checked a None (Some count) bits

-- found bad: 8, or 10, and this count, the buffer as before
abbrev pub FindsBad : Answer Checked → ℕ → ℕ → List ℕ → Type 0
FindsBad a number count before = Returns of_checked a (Some number) (Some count) before

-- of a block whose three-bit parity is good: good where the CRC leaves remainder 0, else 10
pub record JudgesCrc (a : Answer Checked) (before : List ℕ) (count : ℕ) (d : List ℕ) : Type 0 where
  pub good : remainder efr_g (crc_word (w_of d)) ≡ zeros (length efr_g) → Accepts a count (s_of (w_of d))
  pub bad : (remainder efr_g (crc_word (w_of d)) ≡ zeros (length efr_g) → ⊥) → FindsBad a 10 count before

-- refused with 1 or 2; or else THE nearest block is heard as speech is, 8 is given where its three-bit parity is bad, and the CRC is judged where it
-- is good; a count is returned only where neither 1 nor 2 applies
pub record EfrReceives (c before : List ℕ) : Type 0 where
  pub refused : Refusing of_checked (efr_received c before) 2 456 244 0 c before
  pub heard : Given 2 456 244 c before → SpeechDecodes c (JudgesCrc (efr_received c before) before) (λ count. FindsBad (efr_received c before) 8 count before)
  pub only : (k : ℕ) → (of_checked (efr_received c before).result).count ≡ Some k → Given 2 456 244 c before

-- ---- 10: u is THE nearest block, its three-bit parity is good, and the CRC is not
pub record CrcAlone (c before : List ℕ) : Type 0 where
  pub given : Given 2 456 244 c before
  pub u : List ℕ
  pub count : ℕ
  pub nearest : Nearest (take 378 c) 189 u count
  pub parity : remainder speech_g (speech_word u) ≡ ones (length speech_g)
  pub crc : remainder efr_g (crc_word (w_of (speech_d u ++ given_bits (drop 378 c)))) ≡ zeros (length efr_g) → ⊥

-- it is given exactly then, with that block's count, and the buffer is left
pub record TenExactly (c before : List ℕ) : Type 0 where
  pub then : (x : CrcAlone c before) → FindsBad (efr_received c before) 10 x.count before
  pub only : (of_checked (efr_received c before).result).number ≡ Some 10 → CrcAlone c before
