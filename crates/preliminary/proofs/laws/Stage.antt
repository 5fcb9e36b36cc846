-- The preliminary stage by its index, as 000, 3.1.1.3 writes it; and what sending wrote is what reception reads: s from w from d.
use Rattle.std.specs.Prelude.{zero, Bool, true, false, ◌≡◌, refl, ℕ, suc, ◌+◌, ◌-◌, ◌≤◌, ◌<◌, T, leb, length, drop}
use mathlib.Core.List.{List, ◌++◌}
use Rattle.std.proofs.Common.{⊎_elim, sym, ◌∙◌, subst, arith, length-drop, get_or-drop, ext_get_or}
use Rattle.std.proofs.Math.Path.{ap, ap₂}
use borrow.Author.Tests.{le-leb, lt-leb}
use Rattle.bits.specs.Bits.{Bits, pick, zeros}
use Rattle.bits.proofs.laws.Cases.{lt_or_le}
use Rattle.bits.proofs.laws.Tab.{below, length_tab, at_tab, is_tab, over_tab}
use Rattle.bits.proofs.laws.Value.{length_digits}
use Rattle.parity.specs.Division.{remainder, efr_g}
use Rattle.parity.proofs.laws.Division.{length_crc, bits_crc, crc_leaves}
use Rattle.parity.proofs.laws.Generators.{efr_number}
use Rattle.order.specs.Order.{from1, fetched}
use Rattle.order.proofs.laws.Order.{from_suc, length_fetched, over_fetched, length_put_back, over_put_back, there_and_back}
use Rattle.tables.specs.Tables.{important, ordering}
use Rattle.preliminary.specs.Stage.{crc_p, w_at, efr_w, efr_d, w_of, in_w, s_of, copies, is_one_of, crc_word}
use Rattle.tables.proofs.laws.Tables.{ordering_permutes}

-- ---- 02: s is read from the unrepeated places, by a test
no_copy : ℕ → Bool
no_copy i = pick (is_one_of copies (in_w (suc i))) false true

pub unrepeated : (k : ℕ) → 1 ≤ k → k ≤ 244 → is_one_of copies (in_w k) ≡ false
unfolding no_copy copies in_w
unrepeated zero l h = elim l [ ]
unrepeated (suc i) l h = is_not (is_one_of copies (in_w (suc i))) (below no_copy 244 tt i h)
  where
    is_not : (b : Bool) → T (pick b false true) → b ≡ false
    is_not true t = absurd t
    is_not false t = refl

-- ---- 000, 3.1.1.3
module _ (s p : List ℕ) where
  -- w(k) = s(k) for k = 1 to 71
  pub w_1 : (k : ℕ) → k ≤ 71 → w_at s p k ≡ from1 s k
  unfolding w_at
  w_1 k h = rw (le-leb k 71 h)

  -- w(k) = s(70) for k = 72 and 73
  pub w_72 : (k : ℕ) → 72 ≤ k → k ≤ 73 → w_at s p k ≡ from1 s 70
  unfolding w_at
  w_72 k l h = rw (lt-leb k 71 (omega arith), le-leb k 73 h)

  -- w(k) = s(k-2) for k = 74 to 123
  pub w_74 : (k : ℕ) → 74 ≤ k → k ≤ 123 → w_at s p k ≡ from1 s (k - 2)
  unfolding w_at
  w_74 k l h = rw (lt-leb k 71 (omega arith), lt-leb k 73 (omega arith), le-leb k 123 h)

  -- w(k) = s(120) for k = 124 and 125
  pub w_124 : (k : ℕ) → 124 ≤ k → k ≤ 125 → w_at s p k ≡ from1 s 120
  unfolding w_at
  w_124 k l h = rw (lt-leb k 71 (omega arith), lt-leb k 73 (omega arith), lt-leb k 123 (omega arith), le-leb k 125 h)

  -- w(k) = s(k-4) for k = 126 to 178
  pub w_126 : (k : ℕ) → 126 ≤ k → k ≤ 178 → w_at s p k ≡ from1 s (k - 4)
  unfolding w_at
  w_126 k l h = rw (lt-leb k 71 (omega arith), lt-leb k 73 (omega arith), lt-leb k 123 (omega arith), lt-leb k 125 (omega arith), le-leb k 178 h)

  -- w(k) = s(173) for k = 179 and 180
  pub w_179 : (k : ℕ) → 179 ≤ k → k ≤ 180 → w_at s p k ≡ from1 s 173
  unfolding w_at
  w_179 k l h =
      rw (lt-leb k 71 (omega arith), lt-leb k 73 (omega arith), lt-leb k 123 (omega arith), lt-leb k 125 (omega arith), lt-leb k 178 (omega arith), le-leb k 180 h)

  -- w(k) = s(k-6) for k = 181 to 230
  pub w_181 : (k : ℕ) → 181 ≤ k → k ≤ 230 → w_at s p k ≡ from1 s (k - 6)
  unfolding w_at
  w_181 k l h =
      rw (lt-leb k 71 (omega arith), lt-leb k 73 (omega arith), lt-leb k 123 (omega arith), lt-leb k 125 (omega arith), lt-leb k 178 (omega arith), lt-leb k 180 (omega arith), le-leb k 230 h)

  -- w(k) = s(223) for k = 231 and 232
  pub w_231 : (k : ℕ) → 231 ≤ k → k ≤ 232 → w_at s p k ≡ from1 s 223
  unfolding w_at
  w_231 k l h =
      rw (lt-leb k 71 (omega arith), lt-leb k 73 (omega arith), lt-leb k 123 (omega arith), lt-leb k 125 (omega arith), lt-leb k 178 (omega arith), lt-leb k 180 (omega arith), lt-leb k 230 (omega arith), le-leb k 232 h)

  -- w(k) = s(k-8) for k = 233 to 252
  pub w_233 : (k : ℕ) → 233 ≤ k → k ≤ 252 → w_at s p k ≡ from1 s (k - 8)
  unfolding w_at
  w_233 k l h =
      rw (lt-leb k 71 (omega arith), lt-leb k 73 (omega arith), lt-leb k 123 (omega arith), lt-leb k 125 (omega arith), lt-leb k 178 (omega arith), lt-leb k 180 (omega arith), lt-leb k 230 (omega arith), lt-leb k 232 (omega arith), le-leb k 252 h)

  -- w(k) = p(k-252) for k = 253 to 260
  pub w_253 : (k : ℕ) → 253 ≤ k → w_at s p k ≡ from1 p (k - 252)
  unfolding w_at
  w_253 k l =
      rw (lt-leb k 71 (omega arith), lt-leb k 73 (omega arith), lt-leb k 123 (omega arith), lt-leb k 125 (omega arith), lt-leb k 178 (omega arith), lt-leb k 180 (omega arith), lt-leb k 230 (omega arith), lt-leb k 232 (omega arith), lt-leb k 252 (omega arith))

-- ---- s(k) in w, outside the repeated pairs
pub in_1 : (k : ℕ) → k ≤ 71 → in_w k ≡ k
unfolding in_w
in_1 k h = rw (le-leb k 71 h)

pub in_72 : (k : ℕ) → 72 ≤ k → k ≤ 121 → in_w k ≡ k + 2
unfolding in_w
in_72 k l h = rw (lt-leb k 71 (omega arith), le-leb k 121 h)

pub in_122 : (k : ℕ) → 122 ≤ k → k ≤ 174 → in_w k ≡ k + 4
unfolding in_w
in_122 k l h = rw (lt-leb k 71 (omega arith), lt-leb k 121 (omega arith), le-leb k 174 h)

pub in_175 : (k : ℕ) → 175 ≤ k → k ≤ 224 → in_w k ≡ k + 6
unfolding in_w
in_175 k l h = rw (lt-leb k 71 (omega arith), lt-leb k 121 (omega arith), lt-leb k 174 (omega arith), le-leb k 224 h)

pub in_225 : (k : ℕ) → 225 ≤ k → in_w k ≡ k + 8
unfolding in_w
in_225 k l = rw (lt-leb k 71 (omega arith), lt-leb k 121 (omega arith), lt-leb k 174 (omega arith), lt-leb k 224 (omega arith))

-- what holds in each of the five parts of s holds of all of it
module _ (P : ℕ → Type 0) (k : ℕ) (a : k ≤ 71 → P k) (b : 72 ≤ k → k ≤ 121 → P k) (c : 122 ≤ k → k ≤ 174 → P k) (d : 175 ≤ k → k ≤ 224 → P k) (e : 225 ≤ k → P k) where
  each_part : P k
  each_part =
      ⊎_elim (λ (l : k < 72). a (omega arith))
      (λ (l : 72 ≤ k). ⊎_elim (λ (h : k < 122). b l (omega arith))
      (λ (l : 122 ≤ k). ⊎_elim (λ (h : k < 175). c l (omega arith))
      (λ (l : 175 ≤ k). ⊎_elim (λ (h : k < 225). d l (omega arith)) e (lt_or_le k 225))
      (lt_or_le k 175))
      (lt_or_le k 122))
      (lt_or_le k 72)

pub in_w_lem : (k : ℕ) → 1 ≤ k → k ≤ 244 → (1 ≤ in_w k) × (in_w k ≤ 252)
in_w_lem k l h =
    each_part (λ k. (1 ≤ in_w k) × (in_w k ≤ 252)) k
    (λ m. (omega (arith, in_1 k m, l), omega (arith, in_1 k m, m)))
    (λ a m. (omega (arith, in_72 k a m, l), omega (arith, in_72 k a m, m)))
    (λ a m. (omega (arith, in_122 k a m, l), omega (arith, in_122 k a m, m)))
    (λ a m. (omega (arith, in_175 k a m, l), omega (arith, in_175 k a m, m)))
    (λ a. (omega (arith, in_225 k a, l), omega (arith, in_225 k a, h)))

-- ---- w(in_w k) = s(k): the repeated bits too stand at their first places
pub reads_s : (s p : List ℕ) (k : ℕ) → k ≤ 244 → w_at s p (in_w k) ≡ from1 s k
reads_s s p k h =
    let back : (i : ℕ) → from1 s (k + i - i) ≡ from1 s k = λ (i : ℕ). let e : k + i - i ≡ k = omega arith in ap (from1 s) e in
    each_part (λ k. w_at s p (in_w k) ≡ from1 s k) k
    (λ m. ap (w_at s p) (in_1 k m) ∙ w_1 s p k m)
    (λ a m. ap (w_at s p) (in_72 k a m) ∙ w_74 s p (k + 2) (omega (arith, a)) (omega (arith, m)) ∙ back 2)
    (λ a m. ap (w_at s p) (in_122 k a m) ∙ w_126 s p (k + 4) (omega (arith, a)) (omega (arith, m)) ∙ back 4)
    (λ a m. ap (w_at s p) (in_175 k a m) ∙ w_181 s p (k + 6) (omega (arith, a)) (omega (arith, m)) ∙ back 6)
    (λ a. ap (w_at s p) (in_225 k a) ∙ w_233 s p (k + 8) (omega (arith, a)) (omega (arith, h)) ∙ back 8)

-- ---- lengths and bits
module _ (s : List ℕ) where
  pub length_w : length (efr_w s) ≡ 260
  unfolding efr_w
  length_w = length_tab 260 (λ i. w_at s (crc_p s) (suc i))

  pub at_w : (x : ℕ) → 1 ≤ x → x ≤ 260 → from1 (efr_w s) x ≡ w_at s (crc_p s) x
  unfolding efr_w
  at_w zero l h = elim l [ ]
  at_w (suc i) l h = from_suc (efr_w s) i ∙ at_tab 260 (λ i. w_at s (crc_p s) (suc i)) i (omega (arith, h))

  pub length_d : length (efr_d s) ≡ 260
  unfolding efr_d
  length_d = length_fetched ordering (efr_w s) ∙ ordering_permutes.long

pub at_s : (w : List ℕ) (k : ℕ) → 1 ≤ k → k ≤ 244 → from1 (s_of w) k ≡ from1 w (in_w k)
unfolding s_of
at_s w zero l h = elim l [ ]
at_s w (suc i) l h = from_suc (s_of w) i ∙ at_tab 244 (λ i. from1 w (in_w (suc i))) i (omega (arith, h))

pub length_s : (w : List ℕ) → length (s_of w) ≡ 244
unfolding s_of
length_s w = length_tab 244 (λ i. from1 w (in_w (suc i)))

pub bits_s : (w s : List ℕ) → Bits w → s ≡ s_of w → Bits s
unfolding s_of
bits_s w s bw es = subst Bits (sym es) (over_tab 1 244 (λ i. from1 w (in_w (suc i))) (λ i. bw (in_w (suc i) - 1)))

pub length_of : (d : List ℕ) → length (w_of d) ≡ 260
unfolding w_of
length_of d = length_put_back ordering d ∙ ordering_permutes.long

pub bits_of : (d : List ℕ) → Bits d → Bits (w_of d)
unfolding w_of
bits_of d bd = over_put_back 1 ordering d bd

-- ---- s from w from d: what reception reads is what sending wrote
pub w_restored : (s : List ℕ) → w_of (efr_d s) ≡ efr_w s
unfolding w_of efr_d
w_restored s = there_and_back 260 ordering ordering_permutes (efr_w s) (length_w s)

pub s_restored : (s : List ℕ) → length s ≡ 244 → s_of (efr_w s) ≡ s
unfolding s_of
s_restored s l =
    sym (is_tab 244 (λ i. from1 (efr_w s) (in_w (suc i))) s l
    (λ i h. let within = in_w_lem (suc i) (omega arith) h in
    sym (at_w s (in_w (suc i)) within.0 (omega (arith, within.1)) ∙ reads_s s (crc_p s) (suc i) h ∙ from_suc s i)))

-- ---- and its CRC is good
either : (b : Bool) {x y : ℕ} → x ≤ 1 → y ≤ 1 → pick b x y ≤ 1
either true h l = h
either false h l = l

pub efr_long : length efr_g ≡ 8
efr_long = ap length (sym efr_number) ∙ length_digits 8 0b00011101

module _ (s : List ℕ) (bs : Bits s) where
  bits_b : Bits (fetched important s)
  bits_b = over_fetched 1 important s bs

  pub length_p : length (crc_p s) ≡ 8
  unfolding crc_p
  length_p = length_crc efr_g (fetched important s) bits_b ∙ efr_long

  pub bits_p : Bits (crc_p s)
  unfolding crc_p
  bits_p = bits_crc efr_g (fetched important s) bits_b

  ends : drop 252 (efr_w s) ≡ crc_p s
  ends =
      let l : length (drop 252 (efr_w s)) ≡ 8 = length-drop 252 (efr_w s) ∙ omega (arith, length_w s) in
      ext_get_or 0 (drop 252 (efr_w s)) (crc_p s) (l ∙ sym length_p)
      (λ i h. let e : 253 + i - 252 ≡ suc i = omega arith in
      get_or-drop 252 (efr_w s) i 0
      ∙ sym (from_suc (efr_w s) (252 + i))
      ∙ ap (from1 (efr_w s)) (omega arith)
      ∙ at_w s (253 + i) (omega arith) (omega (arith, h, l))
      ∙ w_253 s (crc_p s) (253 + i) (omega arith)
      ∙ ap (from1 (crc_p s)) e
      ∙ from_suc (crc_p s) i)

  pub word_sent : length s ≡ 244 → crc_word (efr_w s) ≡ fetched important s ++ crc_p s
  unfolding crc_word
  word_sent l = ap₂ (λ (x y : List ℕ). fetched important x ++ y) (s_restored s l) ends

  pub crc_sent : length s ≡ 244 → remainder efr_g (crc_word (efr_w s)) ≡ zeros (length efr_g)
  unfolding crc_p
  crc_sent l = ap (remainder efr_g) (word_sent l) ∙ crc_leaves efr_g (fetched important s) bits_b

  -- what is sent are bits
  bits_at : (k : ℕ) → w_at s (crc_p s) k ≤ 1
  unfolding w_at
  bits_at k =
      let from : (i : ℕ) → from1 s i ≤ 1 = λ (i : ℕ). bs (i - 1) in
      either (leb k 71) (from k)
      (either (leb k 73) (from 70)
      (either (leb k 123) (from (k - 2))
      (either (leb k 125) (from 120)
      (either (leb k 178) (from (k - 4))
      (either (leb k 180) (from 173)
      (either (leb k 230) (from (k - 6))
      (either (leb k 232) (from 223)
      (either (leb k 252) (from (k - 8)) (bits_p (k - 252 - 1))))))))))

  pub bits_sent : Bits (efr_d s)
  unfolding efr_d efr_w
  bits_sent = over_fetched 1 ordering (efr_w s) (over_tab 1 260 (λ i. w_at s (crc_p s) (suc i)) (λ i. bits_at (suc i)))
