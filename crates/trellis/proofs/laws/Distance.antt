-- The distance fact, once over the length: the pairs of two different candidates differ in at least 7 places. So a candidate of whose pairs t bits are
-- altered and m are missing is the nearest, with the count t, where 2t + m is at most 6; three altered bits, where none is missing.
use Rattle.std.specs.Prelude.{Bool, ◌⊎◌, ◌≡◌, refl, T, leb, get_or}
use mathlib.Core.List.{List, [], ◌∷◌, ◌++◌, reverse, reverse-cons, reverse-reverse}
use Rattle.std.proofs.Common.{⊎_elim, inl, inr, ◌∙◌, subst, subst₂, arith, leb→le}
use Rattle.std.proofs.Math.Path.{sym, ap, ap₂}
use Prim.Native.Nat.{ℕ, zero, suc, ◌+◌, ◌-◌, ◌*◌, ◌/◌, ◌%◌, ◌≤◌, ◌<◌}
use Rattle.std.proofs.Math.ListN.{length}
use Rattle.std.proofs.lemmas.List.{length-reverse}
use Rattle.bits.specs.Bits.{add, zeros, total, is_missing, lost, missing, differ}
use Rattle.bits.proofs.laws.Sum.{length_add, bits_add, drop_add, sum_nothing}
use Rattle.bits.proofs.laws.Missing.{differ_sum, differ_between}
use Rattle.bits.proofs.laws.Total.{total_same, total_le, total_add}
use Rattle.bits.proofs.laws.Tab.{below, at_tab}
use Rattle.register.specs.Register.{NotAfter, next, state, path_cost}
use Rattle.register.proofs.laws.Distance.{AllZero, held}
use Rattle.register.proofs.laws.Steps.{itself}
use Rattle.convolution.specs.Pairs.{coded_at, coded, pair_of}
use Rattle.trellis.specs.Nearest.{disagreements, pair_cost, Candidate, Nearest, Found, nearest, nearest_count, longest}
use Rattle.trellis.proofs.laws.Candidates.{candidate_state, candidate_long}
use Rattle.convolution.proofs.laws.Linear.{coded_at_sum}
use Rattle.trellis.proofs.laws.Nearest.{nearest_is, nearest_once}
use Rattle.convolution.proofs.laws.Pairs.{coded_at_bit}
use Rattle.trellis.proofs.laws.Paths.{by_index, bits_reverse, path_cost_lem}

-- ---- the potential: how many ones at least are still to come on the way from a state back to state 0
potentials : List ℕ
potentials = 0 ∷ 2 ∷ 4 ∷ 2 ∷ 4 ∷ 5 ∷ 4 ∷ 2 ∷ 5 ∷ 5 ∷ 5 ∷ 5 ∷ 4 ∷ 4 ∷ 3 ∷ 3 ∷ []

potential : ℕ → ℕ
potential s = get_or potentials s 0

-- the ones of the pair that b makes in s: its disagreements with nothing but zeros
enough : ℕ → ℕ → Bool
enough s b = leb (potential s) (pair_cost [] 0 s b + potential (next 8 s b))

each : ℕ → Bool
each i = enough (i / 2) (i % 2)

tested : (s b : ℕ) → s < 16 → b ≤ 1 → T (enough s b)
unfolding each enough potential potentials pair_cost differ is_missing pair_of next
tested s b hs hb =
    let q : (2 * s + b) / 2 ≡ s = omega arith in
    let m : (2 * s + b) % 2 ≡ b = omega arith in
    subst₂ (λ (x y : ℕ). T (enough x y)) q m (below each 32 tt (2 * s + b) (omega arith))

falls : (k s b : ℕ) → s < 16 → b ≤ 1 → potential s ≤ pair_cost [] k s b + potential (next 8 s b)
unfolding enough pair_cost
falls k s b hs hb = leb→le (potential s) (pair_cost [] 0 s b + potential (next 8 s b)) (tested s b hs hb)

leaves : (k : ℕ) → 7 ≤ pair_cost [] k 0 1 + potential (next 8 0 1)
unfolding potential potentials pair_cost differ is_missing pair_of next
leaves k = leb→le 7 7 tt

-- ---- a sum of two candidates is a candidate, and is nothing only where the two are one
sum_candidate : (n : ℕ) (u v : List ℕ) → Candidate n u → Candidate n v → Candidate n (add u v)
unfolding zeros add
sum_candidate n u v a b =
    record {
      bits = bits_add u v b.bits;
      long = length_add u v ∙ b.long;
      ends = drop_add (n - 4) u v (a.long ∙ sym b.long) ∙ ap₂ add a.ends b.ends;
    }

all_zero : (h : List ℕ) → AllZero h → h ≡ zeros (length h)
unfolding zeros
all_zero [] z = refl
all_zero (b ∷ h) z = ap₂ (λ (x : ℕ) (l : List ℕ). x ∷ l) (z 0) (all_zero h (λ k. z (suc k)))

one_more : (n : ℕ) → zeros n ++ (0 ∷ []) ≡ 0 ∷ zeros n
unfolding zeros
one_more zero = refl
one_more (suc n) = ap (λ (l : List ℕ). 0 ∷ l) (one_more n)

pub turned_zeros : (n : ℕ) → reverse (zeros n) ≡ zeros n
unfolding zeros
turned_zeros zero = refl
turned_zeros (suc n) = reverse-cons 0 (zeros n) ∙ ap (λ (l : List ℕ). l ++ (0 ∷ [])) (turned_zeros n) ∙ one_more n

nothing : (w : List ℕ) → AllZero (reverse w) → w ≡ zeros (length w)
nothing w z =
    sym (reverse-reverse w) ∙ ap reverse (all_zero (reverse w) z) ∙ turned_zeros (length (reverse w)) ∙ ap zeros (length-reverse w)

-- ---- where two coded lists differ, their sum has a one
module _ (n : ℕ) (u v : List ℕ) (cu : Candidate n u) (cv : Candidate n v) where
  same_length : length u ≡ length v
  same_length = cu.long ∙ sym cv.long

  at_both : (i : ℕ) → i < 2 * length v → differ (coded_at v i) (get_or (coded u) i 0) ≡ differ (coded_at (add u v) i) 0
  unfolding coded
  at_both i h =
      let l : i < 2 * length u = omega (arith, same_length) in
      ap (differ (coded_at v i)) (at_tab (2 * length u) (coded_at u) i l)
      ∙ differ_sum (coded_at u i) (coded_at v i) (coded_at_bit u i) (coded_at_bit v i)
      ∙ ap (λ (x : ℕ). differ x 0) (sym (coded_at_sum u v same_length i l))

  weight : disagreements (coded u) (coded v) ≡ disagreements [] (coded (add u v))
  weight =
      by_index (coded u) v
      ∙ total_same (2 * length v) (λ i. differ (coded_at v i) (get_or (coded u) i 0)) (λ i. differ (coded_at (add u v) i) 0) at_both
      ∙ ap (λ (k : ℕ). total (2 * k) (λ i. differ (coded_at (add u v) i) 0)) (sym (length_add u v))
      ∙ sym (by_index [] (add u v))

  path : path_cost 8 (pair_cost []) (reverse (add u v)) ≡ disagreements (coded u) (coded v)
  path =
      path_cost_lem [] (reverse (add u v)) (bits_reverse (add u v) (bits_add u v cv.bits))
      ∙ ap (λ (w : List ℕ). disagreements [] (coded w)) (reverse-reverse (add u v))
      ∙ sym weight

  home : potential (state 8 (reverse (add u v))) ≡ 0
  unfolding potential potentials
  home = ap potential (candidate_state n (add u v) (sum_candidate n u v cu cv))

  pub distance : (u ≡ v) ⊎ (7 ≤ disagreements (coded u) (coded v))
  distance =
      ⊎_elim (λ (z : AllZero (reverse (add u v))). inl (sum_nothing (length v) u v same_length cu.bits cv.bits (nothing (add u v) z ∙ ap zeros (length_add u v))))
      (λ l. inr (omega (arith, l, path, home)))
      (held 8 (omega arith) (pair_cost []) potential 7 falls leaves (reverse (add u v)) (bits_reverse (add u v) (bits_add u v cv.bits)))

-- ---- what is received: where t bits are altered and m are missing
module _ (n : ℕ) (r u : List ℕ) (cu : Candidate n u) (lr : length r ≡ 2 * n) where
  off : List ℕ → ℕ → ℕ
  off w i = differ (coded_at w i) (get_or r i 0)

  gone : ℕ → ℕ
  gone i = lost (get_or r i 0)

  -- the triangle is over the present places: each missing one may hide a difference
  triangle : (v : List ℕ) → Candidate n v → disagreements (coded u) (coded v) ≤ disagreements r (coded u) + disagreements r (coded v) + missing r
  unfolding off gone coded missing
  triangle v cv =
      let e : length v ≡ length u = cv.long ∙ sym cu.long in
      let m : ℕ = 2 * length v in
      let long : length r ≡ m = lr ∙ ap (λ (k : ℕ). 2 * k) (sym cv.long) in
      let sums : disagreements r (coded u) + disagreements r (coded v) + total (length r) gone ≡ total m (λ i. off u i + off v i + gone i) =
      ap₂ (λ (x y : ℕ). x + y)
      (ap₂ (λ (x y : ℕ). x + y) (by_index r u ∙ ap (λ (k : ℕ). total (2 * k) (off u)) (sym e)) (by_index r v) ∙ sym (total_add m (off u) (off v)))
      (ap (λ (k : ℕ). total k gone) long)
      ∙ sym (total_add m (λ i. off u i + off v i) gone) in
      rw (by_index (coded u) v, sums)
      (total_le m (λ i. differ (coded_at v i) (get_or (coded u) i 0)) (λ i. off u i + off v i + gone i)
      (λ i h. rw (at_tab (2 * length u) (coded_at u) i (omega (arith, e))) (differ_between (coded_at u i) (coded_at v i) (get_or r i 0) (coded_at_bit u i))))

  -- 02, M-102: the candidate of whose pairs t bits were altered and m are missing is the nearest where 2t + m is at most 6
  pub corrects : 2 * disagreements r (coded u) + missing r ≤ 6 → Nearest r n u (disagreements r (coded u))
  corrects few =
      record {
        candidate = cu;
        counts = refl;
        fewest = λ v cv.
            ⊎_elim (λ (e : u ≡ v). subst (λ (w : List ℕ). disagreements r (coded u) ≤ disagreements r (coded w)) e (omega arith))
            (λ l. omega (arith, few, l, triangle v cv))
            (distance n u v cu cv);
        first = λ v cv e.
            ⊎_elim (λ (f : u ≡ v). subst (λ (w : List ℕ). NotAfter (reverse u) (reverse w)) f (itself (reverse u)))
            (λ l. let z : ⊥ = omega (arith, few, l, e, triangle v cv) in absurd z)
            (distance n u v cu cv);
      }

  pub corrected : n ≤ longest → 2 * disagreements r (coded u) + missing r ≤ 6 → Found r n u
  corrected short few = nearest_once r n (nearest r n) u (nearest_count r n) (disagreements r (coded u)) (nearest_is r n (candidate_long n u cu) short) (corrects few)
