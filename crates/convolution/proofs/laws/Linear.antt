-- The pairs of a sum are the sum of the pairs, once over the length.
use Rattle.std.specs.Prelude.{List, ◌≡◌}
use Rattle.std.proofs.Common.{⊎_elim, ap, ◌∙◌, subst, arith}
use Rattle.std.proofs.Math.Path.{sym}
use Prim.Native.Nat.{ℕ, ◌+◌, ◌-◌, ◌*◌, ◌/◌, ◌%◌, ◌≤◌, ◌<◌}
use Rattle.std.proofs.Math.Nat.{add-mod-mod, mod-add-mod}
use Rattle.std.proofs.Math.ListN.{length}
use Rattle.bits.specs.Bits.{sum, add, tab}
use Rattle.bits.proofs.laws.Cases.{lt_or_le}
use Rattle.bits.proofs.laws.Sum.{at_add, length_add}
use Rattle.bits.proofs.laws.Tab.{at_tab, is_tab, length_tab}
use Rattle.convolution.specs.Pairs.{back, first, second, coded_at, coded}
use Rattle.convolution.proofs.laws.Pairs.{back_early, back_late, coded_even, coded_odd}

-- sums may be taken modulo 2 late
late_two : (p q : ℕ) → (p % 2 + q % 2) % 2 ≡ (p + q) % 2
late_two p q = omega arith

late_more : (p q r : ℕ) → p % 2 ≡ q % 2 → (p + r % 2) % 2 ≡ (q + r) % 2
late_more p q r e = add-mod-mod p r 2 ∙ sym (mod-add-mod p 2 r) ∙ ap (λ (m : ℕ). (m + r) % 2) e ∙ mod-add-mod q 2 r

late_three : (p q r : ℕ) → (p % 2 + q % 2 + r % 2) % 2 ≡ (p + q + r) % 2
late_three p q r = late_more (p % 2 + q % 2) (p + q) r (late_two p q)

late_four : (p q r s : ℕ) → (p % 2 + q % 2 + r % 2 + s % 2) % 2 ≡ (p + q + r + s) % 2
late_four p q r s = late_more (p % 2 + q % 2 + r % 2) (p + q + r) s (late_three p q r)

three : (a b c x y z : ℕ) → (sum a x + sum b y + sum c z) % 2 ≡ sum ((a + b + c) % 2) ((x + y + z) % 2)
three a b c x y z =
    let e : a + x + (b + y) + (c + z) ≡ a + b + c + (x + y + z) = omega arith in
    late_three (a + x) (b + y) (c + z) ∙ ap (λ (n : ℕ). n % 2) e ∙ sym (late_two (a + b + c) (x + y + z))

four : (a b c d x y z w : ℕ) → (sum a x + sum b y + sum c z + sum d w) % 2 ≡ sum ((a + b + c + d) % 2) ((x + y + z + w) % 2)
four a b c d x y z w =
    let e : a + x + (b + y) + (c + z) + (d + w) ≡ a + b + c + d + (x + y + z + w) = omega arith in
    late_four (a + x) (b + y) (c + z) (d + w) ∙ ap (λ (n : ℕ). n % 2) e ∙ sym (late_two (a + b + c + d) (x + y + z + w))

module _ (u v : List ℕ) (e : length u ≡ length v) where
  back_sum : (k j : ℕ) → k < length u → back (add u v) k j ≡ sum (back u k j) (back v k j)
  back_sum k j h =
      ⊎_elim (λ (l : k < j). rw (back_early (add u v) k j l, back_early u k j l, back_early v k j l))
      (λ (l : j ≤ k). rw (back_late (add u v) k j l, back_late u k j l, back_late v k j l) (at_add u v (k - j) (omega arith) (omega (arith, e))))
      (lt_or_le k j)

  first_sum : (k : ℕ) → k < length u → first (add u v) k ≡ sum (first u k) (first v k)
  unfolding first
  first_sum k h =
      rw (back_sum k 0 h, back_sum k 3 h, back_sum k 4 h) (three (back u k 0) (back u k 3) (back u k 4) (back v k 0) (back v k 3) (back v k 4))

  second_sum : (k : ℕ) → k < length u → second (add u v) k ≡ sum (second u k) (second v k)
  unfolding second
  second_sum k h =
      rw (back_sum k 0 h, back_sum k 1 h, back_sum k 3 h, back_sum k 4 h)
      (four (back u k 0) (back u k 1) (back u k 3) (back u k 4) (back v k 0) (back v k 1) (back v k 3) (back v k 4))

  pub coded_at_sum : (i : ℕ) → i < 2 * length u → coded_at (add u v) i ≡ sum (coded_at u i) (coded_at v i)
  coded_at_sum i h =
      ⊎_elim (λ (l : i % 2 < 1).
      let k : i ≡ 2 * (i / 2) = omega arith in
      subst (λ (n : ℕ). coded_at (add u v) n ≡ sum (coded_at u n) (coded_at v n)) (sym k)
      (rw (coded_even (add u v) (i / 2), coded_even u (i / 2), coded_even v (i / 2)) (first_sum (i / 2) (omega arith))))
      (λ (l : 1 ≤ i % 2).
      let k : i ≡ 2 * (i / 2) + 1 = omega arith in
      subst (λ (n : ℕ). coded_at (add u v) n ≡ sum (coded_at u n) (coded_at v n)) (sym k)
      (rw (coded_odd (add u v) (i / 2), coded_odd u (i / 2), coded_odd v (i / 2)) (second_sum (i / 2) (omega arith))))
      (lt_or_le (i % 2) 1)

  pub coded_sum : coded (add u v) ≡ add (coded u) (coded v)
  unfolding coded
  coded_sum =
      let n : ℕ = 2 * length u in
      let a : length (add u v) ≡ length u = length_add u v ∙ sym e in
      let l : length (add (tab n (coded_at u)) (tab n (coded_at v))) ≡ n = length_add (tab n (coded_at u)) (tab n (coded_at v)) ∙ length_tab n (coded_at v) in
      rw (a, ← e)
      (sym (is_tab n (coded_at (add u v)) (add (tab n (coded_at u)) (tab n (coded_at v))) l
      (λ i h.
      at_add (tab n (coded_at u)) (tab n (coded_at v)) i (rw (length_tab n (coded_at u)) h) (rw (length_tab n (coded_at v)) h)
      ∙ rw (at_tab n (coded_at u) i h, at_tab n (coded_at v) i h) (sym (coded_at_sum i h)))))
