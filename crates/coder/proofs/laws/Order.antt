-- What is sent by its index, as the documents write it: u of a speech block, and the bytes of a SACCH message.
use Rattle.std.specs.Prelude.{List, ◌≡◌, ℕ, ◌+◌, ◌-◌, ◌*◌, ◌%◌, ◌≤◌, ◌<◌, get_or}
use Rattle.std.proofs.Math.Logic.{⊎_elim}
use Rattle.std.proofs.Math.Path.{refl}
use Rattle.std.proofs.Common.{◌∙◌}
use native.Mathlib.Omega.{arith}
use borrow.Author.Tests.{lt-ltb, le-ltb}
use Rattle.bits.proofs.laws.Cases.{lt_or_le}
use Rattle.bits.proofs.laws.Tab.{at_tab}
use Rattle.places.specs.Places.{e_at}
use Rattle.places.proofs.laws.Four.{cell_bit, cell_hl, cell_hu, four_at, flag_sacch}
use Rattle.places.proofs.laws.Places.{every_bit}
use Rattle.coder.specs.Blocks.{speech_p, speech_u_at, speech_u, control_block, sacch_message}

-- ---- 000, 3.1.2.1 b)
module _ (d : List ℕ) where
  -- u(k) = d(2k) for k = 0..90
  pub even_bits : (k : ℕ) → k ≤ 90 → get_or (speech_u d) k 0 ≡ get_or d (2 * k) 0
  unfolding speech_u speech_u_at
  even_bits k h = at_tab 189 (speech_u_at d (speech_p d)) k (omega arith) ∙ rw (lt-ltb k 91 (omega arith))

  -- u(184-k) = d(2k+1) for k = 0..90
  pub odd_bits : (k : ℕ) → k ≤ 90 → get_or (speech_u d) (184 - k) 0 ≡ get_or d (2 * k + 1) 0
  unfolding speech_u speech_u_at
  odd_bits k h =
      let e : 184 - (184 - k) ≡ k = omega arith in
      at_tab 189 (speech_u_at d (speech_p d)) (184 - k) (omega arith)
      ∙ rw (le-ltb (184 - k) 91 (omega arith), le-ltb (184 - k) 94 (omega arith), lt-ltb (184 - k) 185 (omega arith), e)

  -- u(91+k) = p(k) for k = 0..2: the parity sits in the middle
  pub parity_bits : (k : ℕ) → k ≤ 2 → get_or (speech_u d) (91 + k) 0 ≡ get_or (speech_p d) k 0
  unfolding speech_u speech_u_at
  parity_bits k h =
      let e : 91 + k - 91 ≡ k = omega arith in
      at_tab 189 (speech_u_at d (speech_p d)) (91 + k) (omega arith)
      ∙ rw (le-ltb (91 + k) 91 (omega arith), lt-ltb (91 + k) 94 (omega arith), e)

  -- u(185)..u(188) = 0
  pub tail_bits : (k : ℕ) → k ≤ 3 → get_or (speech_u d) (185 + k) 0 ≡ 0
  unfolding speech_u speech_u_at
  tail_bits k h =
      at_tab 189 (speech_u_at d (speech_p d)) (185 + k) (omega arith)
      ∙ rw (le-ltb (185 + k) 91 (omega arith), le-ltb (185 + k) 94 (omega arith), le-ltb (185 + k) 185 (omega arith))

  -- ---- 000, 4.1.4, 4.1.5: bit k of the control block stands in burst k mod 4 at e(e_at k), and all flags are 1
  pub sacch_bit : (k : ℕ) → k < 456 → get_or (sacch_message d) (116 * (k % 4) + e_at k) 0 ≡ get_or (control_block d) k 0
  unfolding sacch_message
  sacch_bit k h =
      let c = control_block d in
      four_at c c 255 (k % 4) (e_at k) (omega arith) (every_bit k h).within
      ∙ cell_bit c c 255 (k % 4) k h refl
      ∙ ⊎_elim (λ (l : k % 8 < 4). rw (lt-ltb (k % 8) 4 l)) (λ (l : 4 ≤ k % 8). rw (le-ltb (k % 8) 4 l)) (lt_or_le (k % 8) 4)

  pub sacch_hl : (i : ℕ) → i < 4 → get_or (sacch_message d) (116 * i + 57) 0 ≡ 1
  unfolding sacch_message
  sacch_hl i h = let c = control_block d in four_at c c 255 i 57 h (omega arith) ∙ cell_hl c c 255 i ∙ flag_sacch (2 * i) (omega arith)

  pub sacch_hu : (i : ℕ) → i < 4 → get_or (sacch_message d) (116 * i + 58) 0 ≡ 1
  unfolding sacch_message
  sacch_hu i h = let c = control_block d in four_at c c 255 i 58 h (omega arith) ∙ cell_hu c c 255 i ∙ flag_sacch (2 * i + 1) (omega arith)
