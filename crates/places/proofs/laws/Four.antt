-- What stands where in a burst and in four of them, and which block's each of the eight flags is.
use Rattle.std.specs.Prelude.{Bool, true, false, not, List, ◌++◌, ◌≡◌, T, ltb, eqb, length, get_or}
use Rattle.std.proofs.Common.{⊎_elim, ◌∙◌}
use Rattle.std.proofs.Math.Path.{refl, ap}
use Prim.Native.Nat.{ℕ, zero, suc, ◌+◌, ◌*◌, ◌/◌, ◌%◌, ◌≤◌, ◌<◌}
use native.Mathlib.Omega.{arith}
use Rattle.std.proofs.Math.Dec.{eqb→eq}
use Rattle.std.proofs.Math.ListN.{length-append}
use borrow.Author.Tests.{lt-ltb, le-ltb, eq-eqb, ne_eqb}
use Rattle.bits.specs.Bits.{pick, both, all_below}
use Rattle.bits.proofs.laws.Cases.{lt_or_le}
use Rattle.bits.proofs.laws.Tab.{below, both_left, both_right, at_tab, length_tab, at_left, at_right}
use Rattle.places.specs.Places.{place_of, e_at, place_at, bit_at, flag_in, cell, burst, four, flags_of, hl, hu}
use Rattle.places.proofs.laws.Places.{every_bit}

unflagged : (b c : Bool) (q p : ℕ) (r : ℕ) → T (not (pick b true c)) → pick b q (pick c p r) ≡ r
unflagged true c q p r t = absurd t
unflagged false true q p r t = absurd t
unflagged false false q p r t = refl

module _ (a b : List ℕ) (flags : ℕ) where
  -- bit k of block a stands in its first four bursts, of block b in its last four
  pub cell_bit : (i k : ℕ) → k < 456 → i ≡ k % 4 → cell i a b flags (e_at k) ≡ pick (ltb (k % 8) 4) (get_or a k 0) (get_or b k 0)
  unfolding cell
  cell_bit i k h e =
      let g = every_bit k h in
      let at : bit_at i (place_at (e_at k)) ≡ k = ap (λ (j : ℕ). bit_at i j) g.place ∙ ap (λ (n : ℕ). bit_at n (place_of k)) e ∙ g.found in
      let side : place_at (e_at k) % 2 ≡ k % 8 / 4 = ap (λ (j : ℕ). j % 2) g.place ∙ g.half in
      unflagged (eqb (e_at k) hl) (eqb (e_at k) hu) (flag_in flags (2 * i)) (flag_in flags (2 * i + 1)) (pick (eqb (place_at (e_at k) % 2) 0) (get_or a (bit_at i (place_at (e_at k))) 0) (get_or b (bit_at i (place_at (e_at k))) 0)) g.free
      ∙ rw (at, side)
      (⊎_elim (λ (l : k % 8 < 4). rw (lt-ltb (k % 8) 4 l, eq-eqb (k % 8 / 4) 0 (omega arith)))
      (λ (l : 4 ≤ k % 8). rw (le-ltb (k % 8) 4 l, ne_eqb (k % 8 / 4) 0 (λ (z : k % 8 / 4 ≡ 0). omega arith)))
      (lt_or_le (k % 8) 4))

  pub cell_hl : (i : ℕ) → cell i a b flags 57 ≡ flag_in flags (2 * i)
  unfolding cell
  cell_hl i = refl

  pub cell_hu : (i : ℕ) → cell i a b flags 58 ≡ flag_in flags (2 * i + 1)
  unfolding cell
  cell_hu i = refl

  pub length_burst : (i : ℕ) → length (burst i a b flags) ≡ 116
  unfolding burst
  length_burst i = length_tab 116 (cell i a b flags)

  pub length_four : length (four a b flags) ≡ 464
  unfolding four
  length_four =
      rw (length-append (burst 0 a b flags) (burst 1 a b flags ++ (burst 2 a b flags ++ burst 3 a b flags)), length-append (burst 1 a b flags) (burst 2 a b flags ++ burst 3 a b flags), length-append (burst 2 a b flags) (burst 3 a b flags), length_burst 0, length_burst 1, length_burst 2, length_burst 3)

  in_burst : (i x : ℕ) → x < 116 → get_or (burst i a b flags) x 0 ≡ cell i a b flags x
  unfolding burst
  in_burst i x h = at_tab 116 (cell i a b flags) x h

  -- byte x of burst i of four
  pub four_at : (i x : ℕ) → i < 4 → x < 116 → get_or (four a b flags) (116 * i + x) 0 ≡ cell i a b flags x
  unfolding four
  four_at zero x l h =
      let e : 116 * 0 + x ≡ x = omega arith in
      rw e (at_left (burst 0 a b flags) (burst 1 a b flags ++ (burst 2 a b flags ++ burst 3 a b flags)) x (rw (length_burst 0) h) ∙ in_burst 0 x h)
  four_at (suc zero) x l h =
      at_right (burst 0 a b flags) (burst 1 a b flags ++ (burst 2 a b flags ++ burst 3 a b flags)) 116 x (116 * 1 + x) (length_burst 0) (omega arith)
      ∙ at_left (burst 1 a b flags) (burst 2 a b flags ++ burst 3 a b flags) x (rw (length_burst 1) h)
      ∙ in_burst 1 x h
  four_at (suc (suc zero)) x l h =
      at_right (burst 0 a b flags) (burst 1 a b flags ++ (burst 2 a b flags ++ burst 3 a b flags)) 116 (116 + x) (116 * 2 + x) (length_burst 0) (omega arith)
      ∙ at_right (burst 1 a b flags) (burst 2 a b flags ++ burst 3 a b flags) 116 x (116 + x) (length_burst 1) refl
      ∙ at_left (burst 2 a b flags) (burst 3 a b flags) x (rw (length_burst 2) h)
      ∙ in_burst 2 x h
  four_at (suc (suc (suc zero))) x l h =
      at_right (burst 0 a b flags) (burst 1 a b flags ++ (burst 2 a b flags ++ burst 3 a b flags)) 116 (116 + (116 + x)) (116 * 3 + x) (length_burst 0) (omega arith)
      ∙ at_right (burst 1 a b flags) (burst 2 a b flags ++ burst 3 a b flags) 116 (116 + x) (116 + (116 + x)) (length_burst 1) refl
      ∙ at_right (burst 2 a b flags) (burst 3 a b flags) 116 x (116 + x) (length_burst 2) refl
      ∙ in_burst 3 x h
  four_at (suc (suc (suc (suc i)))) x l h = let z : ⊥ = omega arith in absurd z

-- ---- the flags of a stream's bursts: hl is that of the block that goes on, hu that of the block that begins
shared : ℕ → ℕ → ℕ → Bool
shared p q i = both (eqb (flag_in (flags_of p q) (2 * i)) q) (eqb (flag_in (flags_of p q) (2 * i + 1)) p)

module _ (i p q : ℕ) (hi : i < 4) (hp : p ≤ 1) (hq : q ≤ 1) where
  is_shared : T (shared p q i)
  unfolding shared flag_in flags_of
  is_shared =
      below (shared p q) 4
      (below (λ q. all_below (shared p q) 4) 2 (below (λ p. all_below (λ q. all_below (shared p q) 4) 2) 2 tt p (omega arith)) q (omega arith))
      i hi

  pub flag_hl : flag_in (flags_of p q) (2 * i) ≡ q
  unfolding shared
  flag_hl = eqb→eq (flag_in (flags_of p q) (2 * i)) q (both_left (eqb (flag_in (flags_of p q) (2 * i)) q) (eqb (flag_in (flags_of p q) (2 * i + 1)) p) is_shared)

  pub flag_hu : flag_in (flags_of p q) (2 * i + 1) ≡ p
  unfolding shared
  flag_hu = eqb→eq (flag_in (flags_of p q) (2 * i + 1)) p (both_right (eqb (flag_in (flags_of p q) (2 * i)) q) (eqb (flag_in (flags_of p q) (2 * i + 1)) p) is_shared)

pub flags_fit : (p q : ℕ) → p ≤ 1 → q ≤ 1 → flags_of p q < 256
unfolding flags_of
flags_fit p q hp hq = omega arith

-- 01: SACCH has all flags 1
pub flag_sacch : (j : ℕ) → j < 8 → flag_in 255 j ≡ 1
unfolding flag_in
flag_sacch j h = eqb→eq (flag_in 255 j) 1 (below (λ j. eqb (flag_in 255 j) 1) 8 tt j h)
