-- Sums of bit lists, place by place: their length, that they are bits, and that the sum is associative, can be swapped, and undoes itself.
use Rattle.std.specs.Prelude.{List, [], ◌∷◌, ◌++◌, ◌≡◌, refl, ℕ, zero, suc, ◌+◌, ◌≤◌, ◌<◌, length, get_or, take, drop, replicate}
use Rattle.std.proofs.Common.{sym, ap, ap₂, ◌∙◌, subst, not-suc-le-zero, le_of_suc-le-suc, arith, get_or-drop}
use Rattle.std.proofs.lemmas.List.{length-replicate}
use Rattle.bits.specs.Bits.{Bits, NoneOver, sum, add, zeros, ones}

-- ---- sums of bits
pub sum_assoc : (a b c : ℕ) → sum a (sum b c) ≡ sum (sum a b) c
sum_assoc a b c = omega arith

pub sum_swap : (a b c : ℕ) → sum a (sum b c) ≡ sum b (sum a c)
sum_swap a b c = omega arith

pub sum_twice : (a b : ℕ) → b ≤ 1 → sum a (sum a b) ≡ b
sum_twice a b h = omega arith

-- ---- zeros and ones
pub length_zeros : (n : ℕ) → length (zeros n) ≡ n
unfolding zeros
length_zeros n = length-replicate n 0

pub length_ones : (n : ℕ) → length (ones n) ≡ n
unfolding ones
length_ones n = length-replicate n 1

at_most_one : (n a : ℕ) → a ≤ 1 → Bits (replicate n a)
at_most_one zero a h k = omega arith
at_most_one (suc n) a h zero = h
at_most_one (suc n) a h (suc k) = at_most_one n a h k

pub bits_zeros : (n : ℕ) → Bits (zeros n)
unfolding zeros
bits_zeros n = at_most_one n 0 (omega arith)

pub bits_ones : (n : ℕ) → Bits (ones n)
unfolding ones
bits_ones n = at_most_one n 1 (omega arith)

pub bits_cons : (a : ℕ) (w : List ℕ) → a ≤ 1 → Bits w → Bits (a ∷ w)
bits_cons a w h bw zero = h
bits_cons a w h bw (suc k) = bw k

pub bits_append : (v w : List ℕ) → Bits v → Bits w → Bits (v ++ w)
bits_append [] w bv bw = bw
bits_append (a ∷ v) w bv bw = bits_cons a (v ++ w) (bv 0) (bits_append v w (λ k. bv (suc k)) bw)

pub over_take : (most n : ℕ) (w : List ℕ) → NoneOver most w → NoneOver most (take n w)
over_take most zero w nw k = omega arith
over_take most (suc n) [] nw k = nw k
over_take most (suc n) (b ∷ w) nw zero = nw 0
over_take most (suc n) (b ∷ w) nw (suc k) = over_take most n w (λ i. nw (suc i)) k

pub over_drop : (most n : ℕ) (w : List ℕ) → NoneOver most w → NoneOver most (drop n w)
over_drop most n w nw k = subst (λ (x : ℕ). x ≤ most) (sym (get_or-drop n w k 0)) (nw (n + k))

pub bits_take : (n : ℕ) (w : List ℕ) → Bits w → Bits (take n w)
bits_take n w bw = over_take 1 n w bw

pub bits_drop : (n : ℕ) (w : List ℕ) → Bits w → Bits (drop n w)
bits_drop n w bw = over_drop 1 n w bw

-- ---- add
pub length_add : (s w : List ℕ) → length (add s w) ≡ length w
unfolding add
length_add [] w = refl
length_add (a ∷ s) [] = refl
length_add (a ∷ s) (b ∷ w) = ap suc (length_add s w)

pub bits_add : (s w : List ℕ) → Bits w → Bits (add s w)
unfolding add
bits_add [] w bw k = bw k
bits_add (a ∷ s) [] bw k = bw k
bits_add (a ∷ s) (b ∷ w) bw zero = omega arith
bits_add (a ∷ s) (b ∷ w) bw (suc k) = bits_add s w (λ i. bw (suc i)) k

pub add_zeros : (n : ℕ) (w : List ℕ) → Bits w → add (zeros n) w ≡ w
unfolding add zeros
add_zeros zero w bw = refl
add_zeros (suc n) [] bw = refl
add_zeros (suc n) (b ∷ w) bw =
    let h : b ≤ 1 = bw 0 in
    let e : sum 0 b ≡ b = omega arith in
    ap₂ (λ (x : ℕ) (l : List ℕ). x ∷ l) e (add_zeros n w (λ k. bw (suc k)))

pub add_swap : (g w v : List ℕ) → add g (add w v) ≡ add w (add g v)
unfolding add
add_swap [] w v = refl
add_swap (x ∷ g) [] v = refl
add_swap (x ∷ g) (y ∷ w) [] = refl
add_swap (x ∷ g) (y ∷ w) (z ∷ v) = ap₂ (λ (a : ℕ) (l : List ℕ). a ∷ l) (sum_swap x y z) (add_swap g w v)

pub add_assoc : (g w v : List ℕ) → length w ≡ length v → add g (add w v) ≡ add (add g w) v
unfolding add
add_assoc [] w v e = refl
add_assoc (x ∷ g) [] [] e = refl
add_assoc (x ∷ g) [] (z ∷ v) e = let z : ⊥ = omega (arith, e) in absurd z
add_assoc (x ∷ g) (y ∷ w) [] e = refl
add_assoc (x ∷ g) (y ∷ w) (z ∷ v) e = ap₂ (λ (a : ℕ) (l : List ℕ). a ∷ l) (sum_assoc x y z) (add_assoc g w v (omega (arith, e)))

pub add_twice : (g w : List ℕ) → Bits w → add g (add g w) ≡ w
unfolding add
add_twice [] w bw = refl
add_twice (x ∷ g) [] bw = refl
add_twice (x ∷ g) (b ∷ w) bw = ap₂ (λ (a : ℕ) (l : List ℕ). a ∷ l) (sum_twice x b (bw 0)) (add_twice g w (λ k. bw (suc k)))

-- what is added to both sides drops out
pub add_cancel : (g w v : List ℕ) → length w ≡ length v → Bits v → add (add g w) (add g v) ≡ add w v
add_cancel g w v e bv =
    sym (add_assoc g w (add g v) (e ∙ sym (length_add g v)))
    ∙ ap (λ (l : List ℕ). add g l) (add_swap w g v)
    ∙ add_twice g (add w v) (bits_add w v bv)

-- a sum with something longer goes no further than itself
pub add_append : (s v w : List ℕ) → length s ≤ length v → add s (v ++ w) ≡ add s v ++ w
unfolding add
add_append [] v w h = refl
add_append (a ∷ s) [] w h = absurd (not-suc-le-zero h)
add_append (a ∷ s) (b ∷ v) w h = ap (λ (l : List ℕ). sum a b ∷ l) (add_append s v w (le_of_suc-le-suc h))

pub at_add : (s w : List ℕ) (k : ℕ) → k < length s → k < length w → get_or (add s w) k 0 ≡ sum (get_or s k 0) (get_or w k 0)
unfolding add
at_add [] w k h l = absurd (not-suc-le-zero h)
at_add (a ∷ s) [] k h l = absurd (not-suc-le-zero l)
at_add (a ∷ s) (b ∷ w) zero h l = refl
at_add (a ∷ s) (b ∷ w) (suc k) h l = at_add s w k (le_of_suc-le-suc h) (le_of_suc-le-suc l)

pub add_nothing : (n : ℕ) (w : List ℕ) → length w ≡ n → Bits w → add w (zeros n) ≡ w
unfolding add zeros
add_nothing zero [] e bw = refl
add_nothing zero (b ∷ w) e bw = let z : ⊥ = omega (arith, e) in absurd z
add_nothing (suc n) [] e bw = let z : ⊥ = omega (arith, e) in absurd z
add_nothing (suc n) (b ∷ w) e bw =
    let h : b ≤ 1 = bw 0 in
    let f : sum b 0 ≡ b = omega arith in
    ap₂ (λ (x : ℕ) (l : List ℕ). x ∷ l) f (add_nothing n w (omega (arith, e)) (λ k. bw (suc k)))

pub drop_add : (k : ℕ) (s w : List ℕ) → length s ≡ length w → drop k (add s w) ≡ add (drop k s) (drop k w)
unfolding add
drop_add zero s w e = refl
drop_add (suc k) [] [] e = refl
drop_add (suc k) [] (b ∷ w) e = let z : ⊥ = omega (arith, e) in absurd z
drop_add (suc k) (a ∷ s) [] e = let z : ⊥ = omega (arith, e) in absurd z
drop_add (suc k) (a ∷ s) (b ∷ w) e = drop_add k s w (omega (arith, e))

-- two lists whose sum is nothing are one
pub sum_nothing : (n : ℕ) (v w : List ℕ) → length v ≡ n → Bits v → Bits w → add v w ≡ zeros n → v ≡ w
sum_nothing n v w l bv bw e = sym (add_nothing n v l bv) ∙ ap (λ (x : List ℕ). add v x) (sym e) ∙ add_twice v w bw

-- what is added twice is gone
pub add_self : (w : List ℕ) → Bits w → add w w ≡ zeros (length w)
unfolding add zeros
add_self [] bw = refl
add_self (b ∷ w) bw =
    let h : b ≤ 1 = bw 0 in
    let e : sum b b ≡ 0 = omega arith in
    ap₂ (λ (x : ℕ) (l : List ℕ). x ∷ l) e (add_self w (λ k. bw (suc k)))

pub at_zeros : (n k : ℕ) → get_or (zeros n) k 0 ≡ 0
unfolding zeros
at_zeros zero k = refl
at_zeros (suc n) zero = refl
at_zeros (suc n) (suc k) = at_zeros n k
