-- The frame by its rule, as the code has it: what is laid out and taken out is what the printed frame says, and so is what is fixed.
use Rattle.std.specs.Prelude.{Bool, false, ◌≡◌, ◌≢◌, refl, ltb, length, drop, MatchBool}
use Rattle.std.specs.List.{AllWithin, HoldsAt, range_with_len}
use Rattle.std.proofs.lemmas.List.FromFn.{get_or-range_with_len}
use Rattle.std.proofs.Math.Bool.{true}
use mathlib.Core.List.{List, ◌∷◌, ◌++◌}
use Rattle.std.proofs.Math.Logic.{⊎_elim}
use Rattle.std.proofs.Math.Path.{sym, ap}
use Rattle.std.proofs.Common.{◌∙◌, le_of_suc-le-suc, length-append, length-drop, length-take, length-take-le}
use Prim.Native.Nat.{ℕ, zero, suc, ◌+◌, ◌-◌, ◌*◌, ◌/◌, ◌%◌, ◌≤◌, ◌<◌}
use native.Mathlib.Omega.{arith}
use Rattle.std.proofs.Math.Dec.{eqb}
use Rattle.std.proofs.Math.ListN.{get_or, take, get_or-replicate, get_or-eq_default}
use Rattle.std.proofs.Math.Seq.{get_or-take, get_or-drop}
use borrow.Author.Tests.{eqb-true, eq-eqb, ne_eqb, lt-ltb, le-ltb}
use Rattle.bits.specs.Bits.{Bits, NoneOver, pick, tab, ones, none_over}
use Rattle.bits.proofs.laws.Cases.{lt_or_le, not_true}
use Rattle.bits.proofs.laws.Check.{none_over_lem, over_none}
use Rattle.bits.proofs.laws.Parts.{length_lent}
use Rattle.bits.proofs.laws.Sum.{bits_append, bits_take, bits_drop, bits_ones}
use Rattle.bits.proofs.laws.Tab.{length_tab, at_tab, is_tab, tab_same, bits_tab, at_left, at_right, all_at, all_true}
use Rattle.order.specs.Order.{fetched}
use Rattle.order.proofs.laws.Order.{length_put_back, over_put_back}
use Rattle.tables.specs.FullRate.{importance}
use Rattle.tables.proofs.laws.FullRate.{importance_permutes}
use Rattle.frames.specs.Frame.{Place, sync, one, C, D, T, place_at, data_bits, written_at, frame_bits, where_c, where_d, control_of, speech_of, right, fixed_right}
use Rattle.frames.specs.laws.Printed.{carried_at}
use Rattle.frames.proofs.laws.Printed.{carried_last, carried_rest, carried, as_ruled, spot_c, where_c_is, where_d_is}
use Rattle.frames.specs.laws.Layout.{laid_out, laid_at, taken_at, taken_out, carries}

-- what the loops need: the sixteen zeros, a group of the frame, and the bits of a group
pub laid_first : (p : List ℕ) (k : ℕ) → k < 16 → laid_at p k ≡ 0
laid_first p k h = ap (λ (t : Bool). pick t 0 (pick (eqb (k % 16) 0) 1 (get_or p (15 * (k / 16 - 1) + (k % 16 - 1)) 0))) (lt-ltb k 16 h)

pub laid_group : (p : List ℕ) (g i : ℕ) → i < 16 → get_or (1 ∷ take 15 (drop (15 * g) p)) i 0 ≡ laid_at p (16 * g + 16 + i)
laid_group p g zero h =
    let k : ℕ = 16 * g + 16 + 0 in
    sym (rw (le-ltb k 16 (omega arith), eq-eqb (k % 16) 0 (omega arith)) refl)
laid_group p g (suc i) h =
    let k : ℕ = 16 * g + 16 + suc i in
    let e : 15 * (k / 16 - 1) + (k % 16 - 1) ≡ 15 * g + i = omega (arith, h) in
    get_or-take 15 (drop (15 * g) p) i 0 (le_of_suc-le-suc h)
    ∙ get_or-drop (15 * g) p i 0
    ∙ sym (rw (le-ltb k 16 (omega arith), ne_eqb (k % 16) 0 (λ (q : k % 16 ≡ 0). omega (arith, q, h)), e) refl)

pub taken_group : (f : List ℕ) (g i : ℕ) → i < 15 → get_or (take 15 (drop (16 * g + 17) f)) i 0 ≡ get_or f (carried_at (15 * g + i)) 0
taken_group f g i h =
    let e : 16 * g + 17 + i ≡ carried_at (15 * g + i) = omega (arith, h) in
    get_or-take 15 (drop (16 * g + 17) f) i 0 h ∙ get_or-drop (16 * g + 17) f i 0 ∙ ap (λ (k : ℕ). get_or f k 0) e

pub length_carries : (c w : List ℕ) → length c ≡ 21 → length w ≡ 260 → length (carries c w) ≡ 285
unfolding ones
length_carries c w lc lw =
    length-append (take 15 c) (w ++ (drop 15 c ++ ones 4))
    ∙ rw (length-append w (drop 15 c ++ ones 4), length-append (drop 15 c) (ones 4), length-drop 15 c, length-take-le 15 c (omega (arith, lc))) (omega (arith, lc, lw))

-- of bits, all of them are bits
either_bit : (t : Bool) (a b : ℕ) → a ≤ 1 → b ≤ 1 → pick t a b ≤ 1
either_bit true a b h l = h
either_bit false a b h l = l

pub bits_laid : (p : List ℕ) → Bits p → Bits (laid_out p)
unfolding laid_out
bits_laid p bp =
    bits_tab 320 (laid_at p)
    (λ k. either_bit (ltb k 16) 0 (pick (eqb (k % 16) 0) 1 (get_or p (15 * (k / 16 - 1) + (k % 16 - 1)) 0)) (omega arith)
    (either_bit (eqb (k % 16) 0) 1 (get_or p (15 * (k / 16 - 1) + (k % 16 - 1)) 0) (omega arith) (bp (15 * (k / 16 - 1) + (k % 16 - 1)))))

pub length_laid : (p : List ℕ) → length (laid_out p) ≡ 320
unfolding laid_out
length_laid p = length_tab 320 (laid_at p)

pub bits_carries : (c w : List ℕ) → Bits c → Bits w → Bits (carries c w)
bits_carries c w bc bw =
    bits_append (take 15 c) (w ++ (drop 15 c ++ ones 4)) (bits_take 15 c bc) (bits_append w (drop 15 c ++ ones 4) bw (bits_append (drop 15 c) (ones 4) (bits_drop 15 c bc) (bits_ones 4)))

-- D1 to D260
pub length_data : (d : List ℕ) → length (data_bits d) ≡ 260
unfolding data_bits
length_data d = length_put_back importance d ∙ importance_permutes.long

pub bits_data : (d : List ℕ) → Bits d → Bits (data_bits d)
unfolding data_bits
bits_data d bd = over_put_back 1 importance d bd

-- ---- writing: each carried bit is the one that the rule names
module _ (c w : List ℕ) (lc : length c ≡ 21) (lw : length w ≡ 260) where
  abbrev end : List ℕ
  end = drop 15 c ++ ones 4

  front : length (take 15 c) ≡ 15
  front = length-take-le 15 c (omega (arith, lc))

  back : length (drop 15 c) ≡ 6
  back = length-drop 15 c ∙ omega (arith, lc)

  -- past C1 to C15, and past D1 to D260 too
  past_front : (j i : ℕ) → j ≡ 15 + i → get_or (carries c w) j 0 ≡ get_or (w ++ end) i 0
  past_front j i e = at_right (take 15 c) (w ++ end) 15 i j front e

  past_data : (j i : ℕ) → j ≡ 275 + i → get_or (carries c w) j 0 ≡ get_or end i 0
  past_data j i e = past_front j (260 + i) (omega (arith, e)) ∙ at_right w end 260 i (260 + i) lw refl

  last_ones : (i : ℕ) → i < 4 → get_or (ones 4) i 0 ≡ 1
  unfolding ones
  last_ones i h = get_or-replicate 4 i 1 0 h

  carried_last_lem : (j : ℕ) → 275 ≤ j → j < 285 → written_at c w (carried_last j) ≡ get_or (carries c w) j 0
  unfolding written_at
  carried_last_lem j h l =
      ⊎_elim
      (λ (b : j < 281). let e : 15 + (j - 275) ≡ j - 259 - 1 = omega (arith, h) in
      ap (λ (t : Bool). written_at c w (pick t (C (j - 259)) (T (j - 280)))) (lt-ltb j 281 b)
      ∙ ap (λ (i : ℕ). get_or c i 0) (sym e)
      ∙ sym (past_data j (j - 275) (omega (arith, h)) ∙ at_left (drop 15 c) (ones 4) (j - 275) (omega (arith, back, b, h)) ∙ get_or-drop 15 c (j - 275) 0))
      (λ (b : 281 ≤ j). ap (λ (t : Bool). written_at c w (pick t (C (j - 259)) (T (j - 280)))) (le-ltb j 281 b)
      ∙ sym (past_data j (j - 275) (omega (arith, h)) ∙ at_right (drop 15 c) (ones 4) 6 (j - 281) (j - 275) back (omega (arith, b)) ∙ last_ones (j - 281) (omega (arith, l, b))))
      (lt_or_le j 281)

  carried_rest_lem : (j : ℕ) → 15 ≤ j → j < 285 → written_at c w (carried_rest j) ≡ get_or (carries c w) j 0
  unfolding written_at
  carried_rest_lem j h l =
      ⊎_elim
      (λ (b : j < 275). let e : j - 14 - 1 ≡ j - 15 = omega (arith, h) in
      ap (λ (t : Bool). written_at c w (pick t (D (j - 14)) (carried_last j))) (lt-ltb j 275 b)
      ∙ ap (λ (i : ℕ). get_or w i 0) e
      ∙ sym (past_front j (j - 15) (omega (arith, h)) ∙ at_left w end (j - 15) (omega (arith, lw, b, h))))
      (λ (b : 275 ≤ j). ap (λ (t : Bool). written_at c w (pick t (D (j - 14)) (carried_last j))) (le-ltb j 275 b) ∙ carried_last_lem j b l)
      (lt_or_le j 275)

  carried_at_lem : (j : ℕ) → j < 285 → written_at c w (carried j) ≡ get_or (carries c w) j 0
  unfolding written_at
  carried_at_lem j l =
      ⊎_elim
      (λ (b : j < 15). let e : j + 1 - 1 ≡ j = omega arith in
      ap (λ (t : Bool). written_at c w (pick t (C (j + 1)) (carried_rest j))) (lt-ltb j 15 b)
      ∙ ap (λ (i : ℕ). get_or c i 0) e
      ∙ sym (at_left (take 15 c) (w ++ end) j (omega (arith, front, b)) ∙ get_or-take 15 c j 0 b))
      (λ (b : 15 ≤ j). ap (λ (t : Bool). written_at c w (pick t (C (j + 1)) (carried_rest j))) (le-ltb j 15 b) ∙ carried_rest_lem j b l)
      (lt_or_le j 15)

  -- and each of the 320 bits
  abbrev spot : ℕ → ℕ
  spot k = 15 * (k / 16 - 1) + (k % 16 - 1)

  laid_grouped : (k : ℕ) → 16 ≤ k → k < 320 → written_at c w (pick (eqb (k % 16) 0) one (carried (spot k))) ≡ pick (eqb (k % 16) 0) 1 (get_or (carries c w) (spot k) 0)
  unfolding written_at
  laid_grouped k l h =
      ⊎_elim
      (λ (z : k % 16 < 1). rw (eq-eqb (k % 16) 0 (omega (arith, z))) refl)
      (λ (n : 1 ≤ k % 16). rw (ne_eqb (k % 16) 0 (λ (q : k % 16 ≡ 0). omega (arith, q, n))) (carried_at_lem (spot k) (omega (arith, n, l, h))))
      (lt_or_le (k % 16) 1)

  laid_at_lem : (k : ℕ) → k < 320 → written_at c w (place_at k) ≡ laid_at (carries c w) k
  unfolding written_at
  laid_at_lem k h =
      ap (written_at c w) (as_ruled k h)
      ∙ ⊎_elim
      (λ (b : k < 16). rw (lt-ltb k 16 b) refl)
      (λ (b : 16 ≤ k). rw (le-ltb k 16 b) (laid_grouped k b h))
      (lt_or_le k 16)

  -- the frame that is written is laid out so
  pub is_laid_out : (d : List ℕ) → data_bits d ≡ w → frame_bits c d ≡ laid_out (carries c w)
  unfolding frame_bits laid_out
  is_laid_out d e =
      ap (λ (v : List ℕ). tab 320 (λ k. written_at c v (place_at k))) e
      ∙ tab_same 320 (λ k. written_at c w (place_at k)) (laid_at (carries c w)) laid_at_lem

-- ---- reading: C1 to C21 and D1 to D260 are found among the carried bits
at_taken : (f : List ℕ) (j : ℕ) → j < 285 → get_or (taken_out f) j 0 ≡ get_or f (carried_at j) 0
unfolding taken_out
at_taken f j h = at_tab 285 (taken_at f) j h

pub length_taken : (f : List ℕ) → length (taken_out f) ≡ 285
unfolding taken_out
length_taken f = length_tab 285 (taken_at f)

module _ (f : List ℕ) where
  abbrev p : List ℕ
  p = taken_out f

  front_15 : length (take 15 p) ≡ 15
  front_15 = length-take-le 15 p (omega (arith, length_taken f))

  last_6 : length (take 6 (drop 275 p)) ≡ 6
  last_6 = length_lent p 275 6 (omega (arith, length_taken f))

  control_at : (i : ℕ) → i < 21 → get_or (take 15 p ++ take 6 (drop 275 p)) i 0 ≡ get_or f (carried_at (spot_c i)) 0
  control_at i h =
      ⊎_elim
      (λ (b : i < 15). at_left (take 15 p) (take 6 (drop 275 p)) i (omega (arith, front_15, b)) ∙ get_or-take 15 p i 0 b ∙ at_taken f i (omega (arith, b))
      ∙ ap (λ (t : Bool). get_or f (carried_at (pick t i (260 + i))) 0) (sym (lt-ltb i 15 b)))
      (λ (b : 15 ≤ i). let e : 275 + (i - 15) ≡ 260 + i = omega (arith, b) in
      at_right (take 15 p) (take 6 (drop 275 p)) 15 (i - 15) i front_15 (omega (arith, b))
      ∙ get_or-take 6 (drop 275 p) (i - 15) 0 (omega (arith, h, b)) ∙ get_or-drop 275 p (i - 15) 0 ∙ ap (λ (j : ℕ). get_or p j 0) e
      ∙ at_taken f (260 + i) (omega (arith, h))
      ∙ ap (λ (t : Bool). get_or f (carried_at (pick t i (260 + i))) 0) (sym (le-ltb i 15 b)))
      (lt_or_le i 15)

  pub control_taken : take 15 p ++ take 6 (drop 275 p) ≡ control_of f
  unfolding control_of
  control_taken =
      is_tab 21 (λ i. get_or f (where_c (suc i)) 0) (take 15 p ++ take 6 (drop 275 p)) (length-append (take 15 p) (take 6 (drop 275 p)) ∙ omega (arith, front_15, last_6))
      (λ i h. control_at i h ∙ ap (λ (k : ℕ). get_or f k 0) (sym (where_c_is i h)))

  pub speech_taken : fetched importance (take 260 (drop 15 p)) ≡ speech_of f
  unfolding speech_of
  speech_taken =
      ap (fetched importance)
      (is_tab 260 (λ i. get_or f (where_d (suc i)) 0) (take 260 (drop 15 p)) (length_lent p 15 260 (omega (arith, length_taken f)))
      (λ i h. get_or-take 260 (drop 15 p) i 0 h ∙ get_or-drop 15 p i 0 ∙ at_taken f (15 + i) (omega (arith, h)) ∙ ap (λ (k : ℕ). get_or f k 0) (sym (where_d_is i h))))

-- ---- 18: the sync bits are the first sixteen, and the fixed bits begin the nineteen groups
either_right : (t : Bool) (q r : Place) (b : ℕ) → right q b ≡ true → right r b ≡ true → right (pick t q r) b ≡ true
either_right true q r b x y = x
either_right false q r b x y = y

carried_right : (j b : ℕ) → right (carried j) b ≡ true
unfolding right
carried_right j b =
    either_right (ltb j 15) (C (j + 1)) (carried_rest j) b refl
    (either_right (ltb j 275) (D (j - 14)) (carried_last j) b refl (either_right (ltb j 281) (C (j - 259)) (T (j - 280)) b refl refl))

-- what the rule says of bit k
at_sync : (k : ℕ) → k < 16 → place_at k ≡ sync
at_sync k h = as_ruled k (omega (arith, h)) ∙ ap (λ (t : Bool). pick t sync (pick (eqb (k % 16) 0) one (carried (15 * (k / 16 - 1) + (k % 16 - 1))))) (lt-ltb k 16 h)

past_sync : (k : ℕ) → 16 ≤ k → k < 320 → place_at k ≡ pick (eqb (k % 16) 0) one (carried (15 * (k / 16 - 1) + (k % 16 - 1)))
past_sync k l h = as_ruled k h ∙ ap (λ (t : Bool). pick t sync (pick (eqb (k % 16) 0) one (carried (15 * (k / 16 - 1) + (k % 16 - 1))))) (le-ltb k 16 l)

at_one : (k : ℕ) → 16 ≤ k → k < 320 → k % 16 ≡ 0 → place_at k ≡ one
at_one k l h z = past_sync k l h ∙ ap (λ (t : Bool). pick t one (carried (15 * (k / 16 - 1) + (k % 16 - 1)))) (eq-eqb (k % 16) 0 z)

at_carried : (k : ℕ) → 16 ≤ k → k < 320 → 1 ≤ k % 16 → place_at k ≡ carried (15 * (k / 16 - 1) + (k % 16 - 1))
at_carried k l h n =
    past_sync k l h ∙ ap (λ (t : Bool). pick t one (carried (15 * (k / 16 - 1) + (k % 16 - 1)))) (ne_eqb (k % 16) 0 (λ (q : k % 16 ≡ 0). omega (arith, q, n)))

module _ (f : List ℕ) where
  abbrev right_at : ℕ → Bool
  right_at k = right (place_at k) (get_or f k 0)

  -- if all is right, the first sixteen are 0, and each group begins with 1
  pub sync_right : fixed_right f ≡ true → none_over 0 (take 16 f) ≡ true
  unfolding fixed_right right
  sync_right t = over_none 0 (take 16 f) each
    where
      each : NoneOver 0 (take 16 f)
      each k =
          ⊎_elim
          (λ (b : k < 16). let z : eqb (get_or f k 0) 0 ≡ true = ap (λ (q : Place). right q (get_or f k 0)) (sym (at_sync k b)) ∙ all_at right_at 320 t k (omega (arith, b)) in
          rw (get_or-take 16 f k 0 b) (omega (arith, eqb-true (get_or f k 0) 0 z)))
          (λ (b : 16 ≤ k). rw (get_or-eq_default (take 16 f) 0 {n = k} (rw (length-take 16 f) (omega (arith, b)))) (omega arith))
          (lt_or_le k 16)

  pub one_right : fixed_right f ≡ true → (g : ℕ) → g < 19 → get_or f (16 * g + 16) 0 ≡ 1
  unfolding fixed_right right
  one_right t g h =
      let k : ℕ = 16 * g + 16 in
      eqb-true (get_or f k 0) 1 (ap (λ (q : Place). right q (get_or f k 0)) (sym (at_one k (omega arith) (omega (arith, h)) (omega arith))) ∙ all_at right_at 320 t k (omega (arith, h)))

  -- and if they are, all is right
  pub all_right : none_over 0 (take 16 f) ≡ true → ((g : ℕ) → g < 19 → get_or f (16 * g + 16) 0 ≡ 1) → fixed_right f ≡ true
  unfolding fixed_right right
  all_right s t = all_true right_at 320 each
    where
      first : (k : ℕ) → k < 16 → get_or f k 0 ≡ 0
      first k b = omega (arith, get_or-take 16 f k 0 b, none_over_lem 0 (take 16 f) s k)

      begin : (k : ℕ) → 16 ≤ k → k < 320 → k % 16 ≡ 0 → get_or f k 0 ≡ 1
      begin k l h z =
          let e : 16 * (k / 16 - 1) + 16 ≡ k = omega (arith, l, z) in
          ap (λ (i : ℕ). get_or f i 0) (sym e) ∙ t (k / 16 - 1) (omega (arith, h))

      later : (k : ℕ) → 16 ≤ k → k < 320 → right_at k ≡ true
      later k l h =
          ⊎_elim
          (λ (z : k % 16 < 1). ap (λ (q : Place). right q (get_or f k 0)) (at_one k l h (omega (arith, z))) ∙ eq-eqb (get_or f k 0) 1 (begin k l h (omega (arith, z))))
          (λ (n : 1 ≤ k % 16). ap (λ (q : Place). right q (get_or f k 0)) (at_carried k l h n) ∙ carried_right (15 * (k / 16 - 1) + (k % 16 - 1)) (get_or f k 0))
          (lt_or_le (k % 16) 1)

      each : (k : ℕ) → k < 320 → right_at k ≡ true
      each k h =
          ⊎_elim
          (λ (b : k < 16). ap (λ (q : Place). right q (get_or f k 0)) (at_sync k b) ∙ eq-eqb (get_or f k 0) 0 (first k b))
          (λ (l : 16 ≤ k). later k l h)
          (lt_or_le k 16)

-- the groups that are looked at, the second sixteen bits' to the last, and what is found of them
pub framed : (f : List ℕ) → none_over 0 (take 16 f) ≡ true → (r : Bool)
    → MatchBool r (AllWithin (λ g. get_or f (16 * g) 0 ≡ 1) (range_with_len 1 19) 0 19) ((k : ℕ) × (k < 19) × HoldsAt (λ g. get_or f (16 * g) 0 ≢ 1) (range_with_len 1 19) k)
    → r ≡ fixed_right f
framed f n true each =
    sym (all_right f n
    (λ g h. let e : 16 * g + 16 ≡ 16 * get_or (range_with_len 1 19) g 0 = omega (arith, get_or-range_with_len 1 19 g 0 h) in ap (λ (k : ℕ). get_or f k 0) e ∙ each g 0 (omega arith) h))
framed f n false apart =
    let e : 16 * get_or (range_with_len 1 19) apart.0 0 ≡ 16 * apart.0 + 16 = omega (arith, get_or-range_with_len 1 19 apart.0 0 apart.1) in
    sym (not_true (fixed_right f) (λ t. apart.2 0 (ap (λ (k : ℕ). get_or f k 0) e ∙ one_right f t apart.0 apart.1)))
