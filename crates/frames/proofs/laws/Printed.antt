-- The printed frame, tested: 35 of its bits are sync and fixed bits; behind the sync pattern it is nineteen times a fixed 1 and fifteen bits, C1 to C15, D1 to D260, C16 to C21 and
-- T1 to T4 in this order; and there every Cx and every Dx is found.
use Rattle.std.specs.Prelude.{Bool, true, false, ◌≡◌, refl, ℕ, zero, suc, ◌+◌, ◌-◌, ◌*◌, ◌/◌, ◌%◌, ◌≤◌, ◌<◌, eqb, leb, ltb}
use Rattle.std.proofs.Common.{sym, ap, ap₂, ◌∙◌, subst, arith, eqb→eq, leb→le}
use Rattle.bits.specs.Bits.{pick, both, all_below, total}
use Rattle.bits.proofs.laws.Tab.{below, both_left, both_right}
use Rattle.frames.specs.Frame.{Place, sync, one, C, D, T, printed, place_at, search, where_c, where_d}
use Rattle.frames.specs.Says.{ThirtyFive}
use Rattle.std.proofs.Math.Dec as dec
use Rattle.frames.specs.laws.Printed.{carried_at}

-- ---- two places are the same if they are of one kind and have one number
abbrev kind : Place → ℕ
kind sync = 0
kind one = 1
kind (C x) = 2
kind (D x) = 3
kind (T x) = 4

abbrev number : Place → ℕ
number sync = 0
number one = 0
number (C x) = x
number (D x) = x
number (T x) = x

abbrev made : ℕ → ℕ → Place
made zero x = sync
made (suc zero) x = one
made (suc (suc zero)) x = C x
made (suc (suc (suc zero))) x = D x
made (suc (suc (suc (suc k)))) x = T x

made_of : (p : Place) → made (kind p) (number p) ≡ p
made_of sync = refl
made_of one = refl
made_of (C x) = refl
made_of (D x) = refl
made_of (T x) = refl

abbrev same : Place → Place → Bool
same p q = both (eqb (kind p) (kind q)) (eqb (number p) (number q))

same_is : (p q : Place) → dec.T (same p q) → p ≡ q
same_is p q t =
    let k : kind p ≡ kind q = eqb→eq (kind p) (kind q) (both_left (eqb (kind p) (kind q)) (eqb (number p) (number q)) t) in
    let n : number p ≡ number q = eqb→eq (number p) (number q) (both_right (eqb (kind p) (kind q)) (eqb (number p) (number q)) t) in
    sym (made_of p) ∙ ap₂ made k n ∙ made_of q

-- ---- the bits that a frame carries, from 0, and where they stand
abbrev pub carried_last : ℕ → Place
carried_last j = pick (ltb j 281) (C (j - 259)) (T (j - 280))

abbrev pub carried_rest : ℕ → Place
carried_rest j = pick (ltb j 275) (D (j - 14)) (carried_last j)

abbrev pub carried : ℕ → Place
carried j = pick (ltb j 15) (C (j + 1)) (carried_rest j)

abbrev pub ruled : ℕ → Place
ruled k = pick (ltb k 16) sync (pick (eqb (k % 16) 0) one (carried (15 * (k / 16 - 1) + (k % 16 - 1))))

ruled_tested : dec.T (all_below (λ k. same (place_at k) (ruled k)) 320)
unfolding place_at printed
ruled_tested = tt

pub as_ruled : (k : ℕ) → k < 320 → place_at k ≡ ruled k
as_ruled k h = same_is (place_at k) (ruled k) (below (λ k. same (place_at k) (ruled k)) 320 ruled_tested k h)

-- ---- 16 sync bits and 19 fixed ones
pub thirty_five : ThirtyFive
unfolding total place_at printed
thirty_five = refl

-- ---- where Cx and Dx are found: C(i+1) among the carried bits, and D(i+1)
abbrev pub spot_c : ℕ → ℕ
spot_c i = pick (ltb i 15) i (260 + i)

abbrev pub spot_d : ℕ → ℕ
spot_d i = 15 + i

c_tested : dec.T (all_below (λ i. eqb (where_c (suc i)) (carried_at (spot_c i))) 21)
unfolding where_c search place_at printed
c_tested = tt

d_tested : dec.T (all_below (λ i. eqb (where_d (suc i)) (carried_at (spot_d i))) 260)
unfolding where_d search place_at printed
d_tested = tt

pub where_c_is : (i : ℕ) → i < 21 → where_c (suc i) ≡ carried_at (spot_c i)
where_c_is i h = eqb→eq (where_c (suc i)) (carried_at (spot_c i)) (below (λ i. eqb (where_c (suc i)) (carried_at (spot_c i))) 21 c_tested i h)

pub where_d_is : (i : ℕ) → i < 260 → where_d (suc i) ≡ carried_at (spot_d i)
where_d_is i h = eqb→eq (where_d (suc i)) (carried_at (spot_d i)) (below (λ i. eqb (where_d (suc i)) (carried_at (spot_d i))) 260 d_tested i h)

-- ---- there they stand
c_stands_tested : dec.T (all_below (λ i. same (place_at (carried_at (spot_c i))) (C (suc i))) 21)
unfolding place_at printed
c_stands_tested = tt

d_stands_tested : dec.T (all_below (λ i. same (place_at (carried_at (spot_d i))) (D (suc i))) 260)
unfolding place_at printed
d_stands_tested = tt

pub stands_c : (i : ℕ) → i < 21 → place_at (where_c (suc i)) ≡ C (suc i)
stands_c i h =
    ap place_at (where_c_is i h)
    ∙ same_is (place_at (carried_at (spot_c i))) (C (suc i)) (below (λ i. same (place_at (carried_at (spot_c i))) (C (suc i))) 21 c_stands_tested i h)

pub stands_d : (i : ℕ) → i < 260 → place_at (where_d (suc i)) ≡ D (suc i)
stands_d i h =
    ap place_at (where_d_is i h)
    ∙ same_is (place_at (carried_at (spot_d i))) (D (suc i)) (below (λ i. same (place_at (carried_at (spot_d i))) (D (suc i))) 260 d_stands_tested i h)

pub within_c : (i : ℕ) → i < 21 → where_c (suc i) < 320
within_c i h =
    let l : spot_c i < 281 = spot_less (ltb i 15) refl in
    rw (where_c_is i h) (omega (arith, l))
  where
    spot_less : (t : Bool) → ltb i 15 ≡ t → spot_c i < 281
    spot_less true e = rw e (omega (arith, h))
    spot_less false e = rw e (omega (arith, h))

pub within_d : (i : ℕ) → i < 260 → where_d (suc i) < 320
within_d i h = rw (where_d_is i h) (omega (arith, h))

-- ---- and nowhere else: a Cx or Dx that stands at k is the one that is found, at k
abbrev back : ℕ → Place → Bool
back k sync = true
back k one = true
back k (C y) = both (both (leb 1 y) (leb y 21)) (eqb (carried_at (spot_c (y - 1))) k)
back k (D y) = both (both (leb 1 y) (leb y 260)) (eqb (carried_at (spot_d (y - 1))) k)
back k (T y) = true

back_tested : dec.T (all_below (λ k. back k (place_at k)) 320)
unfolding place_at printed
back_tested = tt

pub found_c : (k y : ℕ) → k < 320 → place_at k ≡ C y → (1 ≤ y) × (y ≤ 21) × (where_c (suc (y - 1)) ≡ k)
found_c k y h e =
    let t : dec.T (back k (C y)) = subst (λ (q : Place). dec.T (back k q)) e (below (λ k. back k (place_at k)) 320 back_tested k h) in
    let range = both_left (both (leb 1 y) (leb y 21)) (eqb (carried_at (spot_c (y - 1))) k) t in
    let low : 1 ≤ y = leb→le 1 y (both_left (leb 1 y) (leb y 21) range) in
    let high : y ≤ 21 = leb→le y 21 (both_right (leb 1 y) (leb y 21) range) in
    (low, high, where_c_is (y - 1) (omega (arith, low, high)) ∙ eqb→eq (carried_at (spot_c (y - 1))) k (both_right (both (leb 1 y) (leb y 21)) (eqb (carried_at (spot_c (y - 1))) k) t))

pub found_d : (k y : ℕ) → k < 320 → place_at k ≡ D y → (1 ≤ y) × (y ≤ 260) × (where_d (suc (y - 1)) ≡ k)
found_d k y h e =
    let t : dec.T (back k (D y)) = subst (λ (q : Place). dec.T (back k q)) e (below (λ k. back k (place_at k)) 320 back_tested k h) in
    let range = both_left (both (leb 1 y) (leb y 260)) (eqb (carried_at (spot_d (y - 1))) k) t in
    let low : 1 ≤ y = leb→le 1 y (both_left (leb 1 y) (leb y 260) range) in
    let high : y ≤ 260 = leb→le y 260 (both_right (leb 1 y) (leb y 260) range) in
    (low, high, where_d_is (y - 1) (omega (arith, low, high)) ∙ eqb→eq (carried_at (spot_d (y - 1))) k (both_right (both (leb 1 y) (leb y 260)) (eqb (carried_at (spot_d (y - 1))) k) t))
