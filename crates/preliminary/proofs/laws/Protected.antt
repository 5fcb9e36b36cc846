-- Where s(k) stands in d; and the 65 bits and the CRC's eight are protected, so that the CRC is judged of protected bits alone.
use Rattle.std.specs.Prelude.{Bool, ◌≡◌, refl, ltb, length, drop}
use mathlib.Core.List.{List, ◌++◌}
use Rattle.std.proofs.Math.Path.{sym, ap₂}
use Rattle.std.proofs.Common.{ap, ◌∙◌, arith, ltb→lt, length-drop, get_or-drop, ext_get_or}
use Prim.Native.Nat.{ℕ, suc, ◌+◌, ◌≤◌, ◌<◌}
use Rattle.std.proofs.Math.ListN.{get_or}
use Rattle.bits.specs.Bits.{pick, tab, tab_from, total}
use Rattle.bits.proofs.laws.Tab.{below, tab_same}
use Rattle.order.specs.Order.{from1, fetched, place_in}
use Rattle.order.proofs.laws.Order.{from_suc, at_put_back}
use Rattle.tables.specs.Tables.{important, class1a, class1b, class2, spread, ordering}
use Rattle.preliminary.specs.Stage.{w_of, in_w, s_of, crc_word, in_d, is_protected}
use Rattle.tables.proofs.laws.Tables.{ordering_permutes, important_long, important_within}
use Rattle.preliminary.proofs.laws.Stage.{in_w_lem, at_s, length_of}

-- ---- w(x) and s(k) in d
pub at_x : (d : List ℕ) (x : ℕ) → 1 ≤ x → x ≤ 260 → from1 (w_of d) x ≡ get_or d (place_in ordering x) 0
unfolding w_of
at_x d x l h = at_put_back 260 ordering ordering_permutes d x l h

pub at_k : (d : List ℕ) (k : ℕ) → 1 ≤ k → k ≤ 244 → from1 (s_of (w_of d)) k ≡ get_or d (in_d k) 0
unfolding in_d
at_k d k l h = let within = in_w_lem k l h in at_s (w_of d) k l h ∙ at_x d (in_w k) within.0 (omega (arith, within.1))

pub below_260 : (k : ℕ) → 1 ≤ k → k ≤ 244 → in_d k < 260
unfolding in_d
below_260 k l h = let within = in_w_lem k l h in (ordering_permutes.every (in_w k) within.0 (omega (arith, within.1))).0

-- ---- the 65 bits, and the eight, by a test each
b_protected : ℕ → Bool
b_protected k = ltb (in_d (get_or important k 0)) 182

p_protected : ℕ → Bool
p_protected i = ltb (place_in ordering (253 + i)) 182

pub important_protected : (k : ℕ) → k < 65 → in_d (get_or important k 0) < 182
unfolding b_protected in_d in_w important ordering spread class1a class1b class2 tab tab_from place_in
important_protected k h = ltb→lt (in_d (get_or important k 0)) 182 (below b_protected 65 tt k h)

pub crc_protected : (i : ℕ) → i < 8 → place_in ordering (253 + i) < 182
unfolding p_protected ordering spread class1a class1b class2 tab tab_from place_in
crc_protected i h = ltb→lt (place_in ordering (253 + i)) 182 (below p_protected 8 tt i h)

-- 174 of the 244 are protected: with the CRC's eight they are the 182 of class 1
pub how_many : total 244 (λ i. pick (is_protected (suc i)) 1 0) ≡ 174
unfolding total is_protected in_d in_w ordering spread class1a class1b class2 tab tab_from place_in
how_many = refl

-- ---- blocks whose protected bits are the same have one CRC verdict
module _ (d e : List ℕ) (same : (j : ℕ) → j < 182 → get_or d j 0 ≡ get_or e j 0) where
  same_b : fetched important (s_of (w_of d)) ≡ fetched important (s_of (w_of e))
  unfolding fetched
  same_b =
      tab_same (length important) (λ k. from1 (s_of (w_of d)) (get_or important k 0)) (λ k. from1 (s_of (w_of e)) (get_or important k 0))
      (λ k h. let within = important_within k h in
      let x : ℕ = get_or important k 0 in
      at_k d x within.0 within.1 ∙ same (in_d x) (important_protected k (omega (arith, h, important_long))) ∙ sym (at_k e x within.0 within.1))

  same_p : drop 252 (w_of d) ≡ drop 252 (w_of e)
  same_p =
      let long : (d : List ℕ) → length (drop 252 (w_of d)) ≡ 8 = λ (d : List ℕ). length-drop 252 (w_of d) ∙ omega (arith, length_of d) in
      let at : (d : List ℕ) (i : ℕ) → i < 8 → get_or (drop 252 (w_of d)) i 0 ≡ get_or d (place_in ordering (253 + i)) 0 = λ (d : List ℕ) (i : ℕ) (h : i < 8).
      let e : suc (252 + i) ≡ 253 + i = omega arith in
      get_or-drop 252 (w_of d) i 0 ∙ sym (from_suc (w_of d) (252 + i)) ∙ ap (from1 (w_of d)) e ∙ at_x d (253 + i) (omega arith) (omega arith) in
      ext_get_or 0 (drop 252 (w_of d)) (drop 252 (w_of e)) (long d ∙ sym (long e))
      (λ i h. let l : i < 8 = omega (arith, h, long d) in at d i l ∙ same (place_in ordering (253 + i)) (crc_protected i l) ∙ sym (at e i l))

  pub same_word : crc_word (w_of d) ≡ crc_word (w_of e)
  unfolding crc_word
  same_word = ap₂ ◌++◌ same_b same_p
