-- What `coder::control` needs: u laid out part by part, and the verdict by working the parity bits out again.
use Rattle.std.specs.Prelude.{Bool, true, false, ◌≡◌, drop}
use mathlib.Core.List.{List, ◌++◌}
use Rattle.std.proofs.Math.Path.{refl, sym, ap}
use Rattle.std.proofs.Common.{ap₂, ◌∙◌, arith, lit≤, drop_at, length-take-le, take-add, take-take}
use Prim.Native.Nat.{ℕ, ◌+◌, ◌≤◌}
use Rattle.std.proofs.Math.ListN.{length, take, replicate, length-append}
use Rattle.std.proofs.lemmas.List.{take-append-le}
use Rattle.bits.specs.Bits.{Bits, add, digits, zeros}
use Rattle.bits.proofs.laws.Parts.{put, put_three, length_lent, length_put}
use Rattle.bits.proofs.laws.Sum.{add_nothing, bits_append, bits_take, bits_drop, bits_zeros, length_zeros}
use Rattle.bits.proofs.laws.Value.{digits_none}
use Rattle.parity.specs.Division.{remainder, parity, control_g}
use Rattle.parity.proofs.laws.Division.{length_parity, bits_parity, parity_leaves, parity_only}
use Rattle.parity.proofs.laws.Generators.{control_long}
use Rattle.trellis.specs.Nearest.{Candidate, nearest, nearest_count}
use Rattle.trellis.proofs.laws.Nearest.{nearest_is}
use Rattle.coder.specs.Blocks.{control_u}
use Rattle.coder.specs.Received.{all_ones, block_heard}
use Rattle.coder.proofs.laws.Restored.{ones_good, good_ones}

-- ---- d, its parity bits and four zeros, laid into u part by part
module _ (d : List ℕ) (bd : Bits d) (ld : length d ≡ 184) where
  abbrev p : List ℕ
  p = parity control_g d

  length_p : length p ≡ 40
  length_p = length_parity control_g d bd ∙ control_long

  pub lent_control : (u w : List ℕ) → length u ≡ 228 → w ≡ d → length (take 40 (drop 184 (put 0 184 w u))) ≡ 40
  lent_control u w lu ew = length_lent (put 0 184 w u) 184 40 (omega (arith, length_put u w 0 184 (omega (arith, lu)) (ap length ew ∙ ld), lu))

  pub laid_control : (u w q z : List ℕ) → length u ≡ 228 → w ≡ d → q ≡ p → z ≡ replicate (length (take 4 (drop 224 (put 184 40 q (put 0 184 w u))))) 0
      → put 224 4 z (put 184 40 q (put 0 184 w u)) ≡ control_u d
  unfolding control_u zeros
  laid_control u w q z lu ew eq ez =
      let lw : length w ≡ 184 = ap length ew ∙ ld in
      let lq : length q ≡ 40 = ap length eq ∙ length_p in
      let l₁ : length (put 0 184 w u) ≡ 228 = length_put u w 0 184 (omega (arith, lu)) lw ∙ lu in
      let l₂ : length (put 184 40 q (put 0 184 w u)) ≡ 228 = length_put (put 0 184 w u) q 184 40 (omega (arith, l₁)) lq ∙ l₁ in
      let fz : z ≡ replicate 4 0 = ez ∙ ap (λ (k : ℕ). replicate k 0) (length_lent (put 184 40 q (put 0 184 w u)) 224 4 (omega (arith, l₂))) in
      put_three u w q z 184 40 4 184 224 lw refl lq (omega arith) (omega (arith, lu)) ∙ rw (ew, eq, fz)

  pub bits_control : Bits (control_u d)
  unfolding control_u
  bits_control = bits_append d (p ++ zeros 4) bd (bits_append p (zeros 4) (bits_parity control_g d bd) (bits_zeros 4))

  pub length_control : length (control_u d) ≡ 228
  unfolding control_u
  length_control = rw (length-append d (p ++ zeros 4), length-append p (zeros 4), length_p, length_zeros 4, ld)

-- ---- the verdict: the parity bits worked out again are those that are there exactly where division leaves all ones, once over the generator
pub again : (g d q : List ℕ) → length q ≡ length g → Bits d → Bits q → (t : Bool) → (t ≡ true → q ≡ parity g d) → (q ≡ parity g d → t ≡ true) → t ≡ all_ones g (d ++ q)
again g d q lq bd bq t is only = go t refl (all_ones g (d ++ q)) refl
  where
    go : (a : Bool) → t ≡ a → (b : Bool) → all_ones g (d ++ q) ≡ b → t ≡ all_ones g (d ++ q)
    go true e b f = e ∙ sym (ones_good g d q lq bd bq (ap (λ (w : List ℕ). remainder g (d ++ w)) (is e) ∙ parity_leaves g d bd))
    go false e true f = only (parity_only g d bd q lq bq (good_ones g d q lq bd bq f)) ∙ sym f
    go false e false f = e ∙ sym f

-- ---- the nearest block, which stands at the front of v: its bits, its parity bits, the count and the verdict
module _ (c rest v : List ℕ) (lc : length c ≡ 456) (ev : v ≡ nearest c 228 ++ rest) where
  abbrev u : List ℕ
  u = nearest c 228

  candidate : Candidate 228 u
  candidate = (nearest_is c 228 (omega (arith, lc)) (lit≤ tt)).candidate

  size : 184 + length control_g + 4 ≡ 228
  size = omega (arith, control_long)

  front : (k : ℕ) → k ≤ 228 → take k v ≡ take k u
  front k h = ap (take k) ev ∙ take-append-le k u rest (omega (arith, candidate.long, h))

  bits_front : Bits (take 224 v)
  bits_front = rw (front 224 (lit≤ tt)) (bits_take 224 u candidate.bits)

  pub control_asked : Bits (take 224 v) × (length (take 224 v) ≡ 224)
  control_asked = (bits_front, ap length (front 224 (lit≤ tt)) ∙ length-take-le 224 u (omega (arith, candidate.long)))

  pub control_bits : take 184 v ≡ (block_heard control_g 0 184 c).bits
  unfolding block_heard
  control_bits = front 184 (lit≤ tt) ∙ ap (λ (k : ℕ). take 184 (nearest c k)) (sym size)

  pub control_count : (k : ℕ) → k ≡ nearest_count c 228 → k ≡ (block_heard control_g 0 184 c).count
  unfolding block_heard
  control_count k e = e ∙ ap (nearest_count c) (sym size)

  -- the 184 and the forty behind them
  first : take 184 (take 224 v) ≡ take 184 u
  first = take-take 184 224 v (lit≤ tt) ∙ front 184 (lit≤ tt)

  checks : drop 184 (take 224 v) ≡ take 40 (drop 184 u)
  checks =
      ap (drop 184) (front 224 (lit≤ tt) ∙ take-add 184 40 u)
      ∙ drop_at (take 184 u) (take 40 (drop 184 u)) 184 (length-take-le 184 u (omega (arith, candidate.long)))

  pub control_good : (t : Bool) → (t ≡ true → drop 184 (take 224 v) ≡ parity control_g (take 184 (take 224 v))) → (drop 184 (take 224 v) ≡ parity control_g (take 184 (take 224 v)) → t ≡ true)
      → t ≡ (block_heard control_g 0 184 c).good
  unfolding block_heard
  control_good t is only =
      let q : List ℕ = take 40 (drop 184 u) in
      let lq : length q ≡ 40 = length_lent u 184 40 (omega (arith, candidate.long)) in
      let bq : Bits q = bits_take 40 (drop 184 u) (bits_drop 184 u candidate.bits) in
      let plain : add q (digits 40 0) ≡ q = ap (add q) (digits_none 40) ∙ add_nothing 40 q lq bq in
      again control_g (take 184 u) q (lq ∙ sym control_long) (bits_take 184 u candidate.bits) bq t
      (λ e. sym checks ∙ is e ∙ ap (parity control_g) first)
      (λ e. only (checks ∙ e ∙ ap (parity control_g) (sym first)))
      ∙ sym (ap₂ (λ (k n : ℕ). all_ones control_g (take 184 (nearest c k) ++ add (take n (drop 184 (nearest c k))) (digits n 0))) size control_long
      ∙ ap (λ (w : List ℕ). all_ones control_g (take 184 u ++ w)) plain)
