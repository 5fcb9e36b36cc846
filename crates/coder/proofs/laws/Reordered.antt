-- Class 1 in its new order: what the loop that lays it down holds, and what u then is.
use Rattle.std.specs.Prelude.{List, ◌≡◌, length, take, drop, set, replicate}
use Rattle.std.proofs.Common.{⊎_elim, sym, ap₂, ◌∙◌, subst, not-suc-le-zero, length-set, get_or-set_same, get_or-set_other, below_more}
use Rattle.std.proofs.Math.Path.{refl, ap}
use Prim.Native.Nat.{ℕ, ◌+◌, ◌-◌, ◌*◌, ◌≤◌, ◌<◌}
use native.Mathlib.Omega.{arith}
use Rattle.std.proofs.Math.ListN.{get_or, get_or-replicate}
use borrow.Author.Tests.{lt-ltb, le-ltb}
use Rattle.bits.specs.Bits.{tab}
use Rattle.bits.proofs.laws.Cases.{lt_or_le}
use Rattle.bits.proofs.laws.Parts.{put, put_before, put_within, put_behind, length_lent, length_put}
use Rattle.bits.proofs.laws.Tab.{is_tab}
use Rattle.coder.specs.Blocks.{speech_u_at}
use Rattle.coder.specs.laws.Reordered.{Reordered}

pub reordered_none : (d u : List ℕ) → length u ≡ 189 → Reordered d 0 u
reordered_none d u l = record { some = omega arith; long = l; even = λ i h. absurd (not-suc-le-zero h); odd = λ i h. absurd (not-suc-le-zero h) }

module _ (d u : List ℕ) (k : ℕ) (r : Reordered d k u) (h : k < 91) where
  abbrev a : List ℕ
  a = set u k (get_or d (2 * k) 0)

  abbrev b : List ℕ
  b = set a (184 - k) (get_or d (2 * k + 1) 0)

  -- a place that this turn doesn't write
  stands : (i : ℕ) → (i ≡ k → ⊥) → (i ≡ 184 - k → ⊥) → get_or b i 0 ≡ get_or u i 0
  stands i x y = get_or-set_other a (184 - k) i (get_or d (2 * k + 1) 0) 0 y ∙ get_or-set_other u k i (get_or d (2 * k) 0) 0 x

  new_even : get_or b k 0 ≡ get_or d (2 * k) 0
  new_even =
      get_or-set_other a (184 - k) k (get_or d (2 * k + 1) 0) 0 (λ (q : k ≡ 184 - k). omega (arith, q))
      ∙ get_or-set_same u k (get_or d (2 * k) 0) 0 (omega (arith, r.long))

  new_odd : get_or b (184 - k) 0 ≡ get_or d (2 * k + 1) 0
  new_odd = get_or-set_same a (184 - k) (get_or d (2 * k + 1) 0) 0 (omega (arith, length-set u k (get_or d (2 * k) 0), r.long))

  pub reordered_more : Reordered d (k + 1) b
  reordered_more = record {
    some = omega arith;
    long = length-set a (184 - k) (get_or d (2 * k + 1) 0) ∙ length-set u k (get_or d (2 * k) 0) ∙ r.long;
    even = below_more (λ (i : ℕ). get_or b i 0 ≡ get_or d (2 * i) 0) k
        (λ i lt. stands i (λ (q : i ≡ k). omega (arith, q, lt)) (λ (q : i ≡ 184 - k). omega (arith, q, lt)) ∙ r.even i lt)
        new_even;
    odd = below_more (λ (i : ℕ). get_or b (184 - i) 0 ≡ get_or d (2 * i + 1) 0) k
        (λ i lt. stands (184 - i) (λ (q : 184 - i ≡ k). omega (arith, q, lt)) (λ (q : 184 - i ≡ 184 - k). omega (arith, q, lt)) ∙ r.odd i lt)
        new_odd;
  }

pub reordered_all : (d u : List ℕ) (k : ℕ) → Reordered d k u → 91 ≤ k → Reordered d 91 u
reordered_all d u k r h = let e : k ≡ 91 = omega (arith, r.some) in subst (λ (n : ℕ). Reordered d n u) e r

-- ---- the parity in the middle and the four zeros
module _ (d p u : List ℕ) (lp : length p ≡ 3) (r : Reordered d 91 u) where
  abbrev v : List ℕ
  v = put 91 3 p u

  abbrev w : List ℕ
  w = put 185 4 (replicate 4 0) v

  long_v : length v ≡ 189
  long_v = length_put u p 91 3 (omega (arith, r.long)) lp ∙ r.long

  long_w : length w ≡ 189
  long_w = length_put v (replicate 4 0) 185 4 (omega (arith, long_v)) refl ∙ long_v

  front : (k : ℕ) → k < 185 → get_or w k 0 ≡ get_or v k 0
  front k h = put_before v (replicate 4 0) 185 4 (omega (arith, long_v)) refl k h

  even_place : (k : ℕ) → k < 91 → get_or w k 0 ≡ speech_u_at d p k
  unfolding speech_u_at
  even_place k h =
      front k (omega arith)
      ∙ put_before u p 91 3 (omega (arith, r.long)) lp k h
      ∙ r.even k h
      ∙ rw (lt-ltb k 91 h)

  parity_place : (k : ℕ) → 91 ≤ k → k < 94 → get_or w k 0 ≡ speech_u_at d p k
  unfolding speech_u_at
  parity_place k g h =
      front k (omega arith)
      ∙ put_within u p 91 3 (omega (arith, r.long)) lp (k - 91) k (omega arith) (omega arith)
      ∙ rw (le-ltb k 91 g, lt-ltb k 94 h)

  odd_place : (k : ℕ) → 94 ≤ k → k < 185 → get_or w k 0 ≡ speech_u_at d p k
  unfolding speech_u_at
  odd_place k g h =
      let i : ℕ = 184 - k in
      let e : 184 - i ≡ k = omega arith in
      front k h
      ∙ put_behind u p 91 3 (omega (arith, r.long)) lp k (omega arith)
      ∙ ap (λ (x : ℕ). get_or u x 0) (sym e)
      ∙ r.odd i (omega arith)
      ∙ rw (le-ltb k 91 (omega arith), le-ltb k 94 g, lt-ltb k 185 h)

  zero_place : (k : ℕ) → 185 ≤ k → k < 189 → get_or w k 0 ≡ speech_u_at d p k
  unfolding speech_u_at
  zero_place k g h =
      put_within v (replicate 4 0) 185 4 (omega (arith, long_v)) refl (k - 185) k (omega arith) (omega arith)
      ∙ get_or-replicate 4 (k - 185) 0 0 (omega arith)
      ∙ rw (le-ltb k 91 (omega arith), le-ltb k 94 (omega arith), le-ltb k 185 g)

  placed : (k : ℕ) → k < 189 → get_or w k 0 ≡ speech_u_at d p k
  placed k h =
      ⊎_elim (even_place k)
      (λ (a : 91 ≤ k). ⊎_elim (parity_place k a)
      (λ (b : 94 ≤ k). ⊎_elim (odd_place k b) (λ (c : 185 ≤ k). zero_place k c h) (lt_or_le k 185))
      (lt_or_le k 94))
      (lt_or_le k 91)

  whole_u : w ≡ tab 189 (speech_u_at d p)
  whole_u = is_tab 189 (speech_u_at d p) w long_w placed

  -- the parity and the zeros as they come back
  pub u_filled : (y z : List ℕ) → y ≡ p → z ≡ replicate (length (take 4 (drop 185 (put 91 3 y u)))) 0 → put 185 4 z (put 91 3 y u) ≡ tab 189 (speech_u_at d p)
  u_filled y z ey ez =
      let l : length (put 91 3 y u) ≡ 189 = ap (λ (x : List ℕ). length (put 91 3 x u)) ey ∙ long_v in
      let n = length_lent (put 91 3 y u) 185 4 (omega (arith, l)) in
      ap₂ (λ (x o : List ℕ). put 185 4 o (put 91 3 x u)) ey (ez ∙ ap (λ (m : ℕ). replicate m 0) n) ∙ whole_u
