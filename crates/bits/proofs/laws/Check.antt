-- The largest byte of a list says whether one is over a bound.
use Rattle.std.specs.Prelude.{true, List, [], ◌∷◌, ◌++◌, ◌≡◌, ℕ, zero, suc, ◌≤◌, ◌<◌, max, length, get_or, take, fold}
use Rattle.std.proofs.Common.{sym, ap, ◌∙◌, le_trans, arith, take-suc, leb-true, le-leb}
use Rattle.std.proofs.Math.Nat.{max-zero, zero-max, le-max_left, le-max_right}
use Rattle.bits.specs.Bits.{largest, none_over, NoneOver}

largest_snoc : (w : List ℕ) (b : ℕ) → largest (w ++ (b ∷ [])) ≡ max (largest w) b
unfolding largest
largest_snoc [] b = max-zero b ∙ sym (zero-max b)
largest_snoc (a ∷ w) b = rw (largest_snoc w b) (omega arith)

-- the larger of what was found and the next byte, from the first to the last
pub largest_fold : (m : ℕ) (w : List ℕ) → fold max m w ≡ max m (largest w)
unfolding largest
largest_fold m [] = sym (max-zero m)
largest_fold m (b ∷ w) = largest_fold (max m b) w ∙ omega arith

-- one more byte is looked at
pub largest_take : (w : List ℕ) (i : ℕ) → i < length w → largest (take (suc i) w) ≡ max (largest (take i w)) (get_or w i 0)
largest_take w i h = ap largest (take-suc w i 0 h) ∙ largest_snoc (take i w) (get_or w i 0)

at_most : (w : List ℕ) (k : ℕ) → get_or w k 0 ≤ largest w
unfolding largest
at_most [] k = omega arith
at_most (b ∷ w) zero = le-max_left b (largest w)
at_most (b ∷ w) (suc k) = le_trans (at_most w k) (le-max_right b (largest w))

pub none_over_lem : (most : ℕ) (w : List ℕ) → none_over most w ≡ true → NoneOver most w
unfolding none_over
none_over_lem most w t k = le_trans (at_most w k) (leb-true (largest w) most t)

not_over : (most : ℕ) (w : List ℕ) → NoneOver most w → largest w ≤ most
unfolding largest
not_over most [] nw = omega arith
not_over most (b ∷ w) nw =
    let h : b ≤ most = nw 0 in
    let l : largest w ≤ most = not_over most w (λ k. nw (suc k)) in
    omega arith

pub over_none : (most : ℕ) (w : List ℕ) → NoneOver most w → none_over most w ≡ true
unfolding none_over
over_none most w nw = le-leb (largest w) most (not_over most w nw)
