-- Both sums of a pair contain the newest bit, so that a present one tells it from the bits before. That is shown of one pair; the rest is register's law of the
-- path that costs nothing.
use Rattle.std.specs.Prelude.{Bool, not, List, [], ◌∷◌, reverse, ◌⊎◌, ◌≡◌, refl, ℕ, suc, ◌+◌, ◌*◌, ◌/◌, ◌%◌, ◌≤◌, ◌<◌, T, take}
use Rattle.std.proofs.Math.Bool.{true, false}
use Rattle.std.proofs.lemmas.List.{reverse-reverse, length-reverse}
use Rattle.std.proofs.Math.Logic.{⊎_elim}
use Rattle.std.proofs.Common.{inl, inr, sym, ◌∙◌, subst, arith, ext_get_or, get_or-take, length-take-le}
use Rattle.std.proofs.Math.Path.{ap}
use Rattle.std.proofs.Math.ListN.{length, get_or}
use Rattle.bits.specs.Bits.{Bits, pick, both, all_below, is_missing, differ}
use Rattle.bits.proofs.laws.Missing.{missing_two, two_missing, present_bit, missing_agrees, differ_itself, differ_either}
use Rattle.bits.proofs.laws.Tab.{below, at_tab, is_tab, length_tab}
use Rattle.bits.proofs.laws.Total.{total_zero}
use Rattle.register.specs.Register.{NotAfter, Tells}
use Rattle.register.proofs.laws.Free.{one_free}
use Rattle.register.proofs.laws.Steps.{itself}
use Rattle.convolution.specs.Pairs.{coded_at, coded, pair_of}
use Rattle.convolution.proofs.laws.Pairs.{coded_at_bit, length_coded}
use Rattle.trellis.specs.Nearest.{disagreements, pair_cost, Candidate, Nearest, Found, nearest, nearest_count, longest}
use Rattle.trellis.specs.Lost.{OneOfEach, MissingIn, PairsTell, among, without, SentWithout}
use Rattle.trellis.proofs.laws.Candidates.{candidate_long}
use Rattle.trellis.proofs.laws.Nearest.{block_cost, nearest_is, nearest_once}
use Rattle.trellis.proofs.laws.Paths.{by_index, bits_reverse}

-- ---- the newest bit turns both bits of its pair over
first_half : (a b : ℕ) → b < 2 → (2 * a + b) / 2 ≡ a
first_half a b h = omega (arith, h)

second_half : (a b : ℕ) → b < 2 → (2 * a + b) % 2 ≡ b
second_half a b h = omega (arith, h)

turned : (m n : ℕ) → n ≡ suc m → m % 2 ≡ n % 2 → ⊥
turned m n e z = omega (arith, e, z)

module _ (s : ℕ) where
  abbrev one : ℕ → ℕ
  one b = b + s / 2 % 2 + s % 2

  abbrev other : ℕ → ℕ
  other b = b + s / 8 + s / 2 % 2 + s % 2

  bit_fits : (m : ℕ) → m % 2 < 2
  bit_fits m = omega arith

  first_turns : pair_of s 0 / 2 ≡ pair_of s 1 / 2 → ⊥
  unfolding pair_of
  first_turns z =
      turned (one 0) (one 1) (omega arith)
      (sym (first_half (one 0 % 2) (other 0 % 2) (bit_fits (other 0))) ∙ z ∙ first_half (one 1 % 2) (other 1 % 2) (bit_fits (other 1)))

  second_turns : pair_of s 0 % 2 ≡ pair_of s 1 % 2 → ⊥
  unfolding pair_of
  second_turns z =
      turned (other 0) (other 1) (omega arith)
      (sym (second_half (one 0 % 2) (other 0 % 2) (bit_fits (other 0))) ∙ z ∙ second_half (one 1 % 2) (other 1 % 2) (bit_fits (other 1)))

-- ---- so a pair of which one place is present tells its bit
module _ (n : ℕ) (gone : ℕ → Bool) (each : OneOfEach n gone) (r : List ℕ) (only : MissingIn n gone r) where
  pair_tells : (k : ℕ) → k < n → Tells 8 (pair_cost r) k
  unfolding pair_cost
  pair_tells k h s =
      ⊎_elim (λ p. omega (arith, differ_either (pair_of s 0 / 2) (pair_of s 1 / 2) (get_or r (2 * k) 0) (only (2 * k) (omega (arith, h)) p) (first_turns s)))
      (λ p. omega (arith, differ_either (pair_of s 0 % 2) (pair_of s 1 % 2) (get_or r (2 * k + 1) 0) (only (2 * k + 1) (omega (arith, h)) p) (second_turns s)))
      (each k h)

  -- and of all blocks of n bits, candidates or not, at most one disagrees in no present place
  pub only_one : (u v : List ℕ) → Bits u → Bits v → length u ≡ n → length v ≡ n → disagreements r (coded u) ≡ 0 → disagreements r (coded v) ≡ 0 → v ≡ u
  only_one u v bu bv lu lv eu ev =
      let long : length (reverse v) ≡ n = length-reverse v ∙ lv in
      sym (reverse-reverse v)
      ∙ ap reverse (one_free 8 (pair_cost r) n pair_tells (reverse v) (reverse u) (bits_reverse v bv) (bits_reverse u bu) (omega (arith, long)) (long ∙ sym (length-reverse u ∙ lu)) (block_cost r v bv ∙ ev) (block_cost r u bu ∙ eu))
      ∙ reverse-reverse u

  module _ (u : List ℕ) (cu : Candidate n u) (none : disagreements r (coded u) ≡ 0) where
    only_candidate : (v : List ℕ) → Candidate n v → disagreements r (coded v) ≡ 0 → v ≡ u
    only_candidate v cv e = only_one u v cu.bits cv.bits cu.long cv.long none e

    is_nearest : Nearest r n u 0
    is_nearest =
        record {
          candidate = cu;
          counts = none;
          fewest = λ v cv. omega arith;
          first = λ v cv e. subst (λ (w : List ℕ). NotAfter (reverse u) (reverse w)) (sym (only_candidate v cv e)) (itself (reverse u));
        }

    pub told : n ≤ longest → Found r n u
    told short =
        let once = nearest_once r n (nearest r n) u (nearest_count r n) 0 (nearest_is r n (candidate_long n u cu) short) is_nearest in
        (once.0, once.1 ∙ sym none)

pub pairs_tell : PairsTell
pairs_tell n gone each r only u cu none = (only_candidate n gone each r only u cu none, is_nearest n gone each r only u cu none)

-- ---- what is left of a list without the places of the set, by the index; it is the only list of its length that is missing there and is the same elsewhere
module _ (gone : ℕ → Bool) where
  pub length_without : (c : List ℕ) → length (without gone c) ≡ length c
  unfolding without
  length_without c = length_tab (length c) (λ i. pick (gone i) 2 (get_or c i 0))

  pub without_at : (c : List ℕ) (i : ℕ) → i < length c → get_or (without gone c) i 0 ≡ pick (gone i) 2 (get_or c i 0)
  unfolding without
  without_at c i h = at_tab (length c) (λ j. pick (gone j) 2 (get_or c j 0)) i h

  pub is_without : (r c : List ℕ) → length r ≡ length c
      → ((i : ℕ) → i < length c → gone i ≡ true → is_missing (get_or r i 0) ≡ true) → ((i : ℕ) → i < length c → gone i ≡ false → get_or r i 0 ≡ get_or c i 0)
      → r ≡ without gone c
  unfolding without
  is_without r c l lost same = is_tab (length c) (λ i. pick (gone i) 2 (get_or c i 0)) r l (λ i h. by_test i h (gone i) refl)
    where
      by_test : (i : ℕ) → i < length c → (b : Bool) → gone i ≡ b → get_or r i 0 ≡ pick b 2 (get_or c i 0)
      by_test i h true e = two_missing (get_or r i 0) (lost i h e)
      by_test i h false e = same i h e

  pub without_take : (n : ℕ) (c : List ℕ) → n ≤ length c → take n (without gone c) ≡ without gone (take n c)
  without_take n c h =
      let l : length (take n c) ≡ n = length-take-le n c h in
      let w : length (take n (without gone c)) ≡ n = length-take-le n (without gone c) (omega (arith, h, length_without c)) in
      ext_get_or 0 (take n (without gone c)) (without gone (take n c)) (w ∙ sym (length_without (take n c) ∙ l))
      (λ i k.
      let m : i < n = omega (arith, k, w) in
      get_or-take n (without gone c) i 0 m
      ∙ without_at c i (omega (arith, m, h))
      ∙ ap (pick (gone i) 2) (sym (get_or-take n c i 0 m))
      ∙ sym (without_at (take n c) i (omega (arith, m, l))))

-- ---- what is sent without the places of the set is missing there alone, and disagrees nowhere
module _ (n : ℕ) (gone : ℕ → Bool) (u : List ℕ) (long : length u ≡ n) where
  abbrev rest : List ℕ
  rest = without gone (coded u)

  rest_at : (i : ℕ) → i < 2 * n → get_or rest i 0 ≡ pick (gone i) 2 (coded_at u i)
  unfolding coded
  rest_at i h = without_at gone (coded u) i (omega (arith, h, long, length_coded u)) ∙ ap (pick (gone i) 2) (at_tab (2 * length u) (coded_at u) i (omega (arith, h, long)))

  pub rest_present : MissingIn n gone rest
  rest_present i h e = ap is_missing (rest_at i h ∙ ap (λ (b : Bool). pick b 2 (coded_at u i)) e) ∙ present_bit (coded_at u i) (coded_at_bit u i)

  agrees : (b : Bool) (x : ℕ) → differ x (pick b 2 x) ≡ 0
  agrees true x = missing_agrees x 2 missing_two
  agrees false x = differ_itself x

  pub none_disagrees : disagreements rest (coded u) ≡ 0
  none_disagrees =
      by_index rest u
      ∙ total_zero (2 * length u) (λ i. differ (coded_at u i) (get_or rest i 0)) (λ i h. ap (differ (coded_at u i)) (rest_at i (omega (arith, h, long))) ∙ agrees (gone i) (coded_at u i))

pub sent_without : SentWithout
sent_without n gone each u cu =
    (pairs_tell n gone each (without gone (coded u)) (rest_present n gone u cu.long) u cu (none_disagrees n gone u cu.long)).1

-- ---- a set that is given by a list is tested pair by pair
not_both : (a b : Bool) → T (not (both a b)) → (a ≡ false) ⊎ (b ≡ false)
not_both true true t = absurd t
not_both true false t = inr refl
not_both false b t = inl refl

pub one_of_each : (n : ℕ) (gone : ℕ → Bool) → T (all_below (λ k. not (both (gone (2 * k)) (gone (2 * k + 1)))) n) → OneOfEach n gone
one_of_each n gone t k h = not_both (gone (2 * k)) (gone (2 * k + 1)) (below (λ k. not (both (gone (2 * k)) (gone (2 * k + 1)))) n t k h)

-- 000, 5.3.2: an extended access burst of 21 pairs leaves these six places out, one of a pair at most
pub access_punctured : OneOfEach 21 (among (0 ∷ 2 ∷ 5 ∷ 37 ∷ 39 ∷ 41 ∷ []))
unfolding among
access_punctured = one_of_each 21 (among (0 ∷ 2 ∷ 5 ∷ 37 ∷ 39 ∷ 41 ∷ [])) tt
