-- The smallest place at which a test holds: it holds there, and at no smaller one. Once over the test and the list.
use Rattle.std.specs.Prelude.{Bool, true, false, ◌≡◌, ℕ, zero, suc, ◌≤◌, ◌<◌, length, get_or}
use mathlib.Core.List.{List, [], ◌∷◌}
use Rattle.std.proofs.Common.{⊎_elim, sym, ap₂, ◌∙◌, le_of_suc-le-suc, not-suc-le-zero, arith}
use Rattle.std.proofs.Math.Path.{refl}
use Rattle.bits.specs.Bits.{pick}
use Rattle.bits.proofs.laws.Cases.{lt_or_le, false_true}
use Rattle.hub.specs.Hub.{standing, first_where}

module _ (holds : ℕ → Bool) where
  -- is it true at place k of the list?
  abbrev pub holds_at : List ℕ → ℕ → Bool
  holds_at xs k = holds (standing (get_or xs k 0))

  pub record First (xs : List ℕ) (k : ℕ) : Type 0 where
    pub within : k ≤ length xs
    pub before : (j : ℕ) → j < k → holds_at xs j ≡ false
    pub here : k < length xs → holds_at xs k ≡ true

  step : (x : ℕ) (xs : List ℕ) (k : ℕ) → First xs k → (b : Bool) → holds (standing x) ≡ b → First (x ∷ xs) (pick b 0 (suc k))
  step x xs k f true e = record { within = omega arith; before = λ j h. absurd (not-suc-le-zero h); here = λ h. e }
  step x xs k f false e = record { within = omega (arith, f.within); before = earlier; here = λ h. f.here (le_of_suc-le-suc h) }
    where
      earlier : (j : ℕ) → j < suc k → holds_at (x ∷ xs) j ≡ false
      earlier zero h = e
      earlier (suc j) h = f.before j (le_of_suc-le-suc h)

  pub first : (xs : List ℕ) → First xs (first_where holds xs)
  unfolding first_where
  first [] = record { within = omega arith; before = λ j h. absurd (not-suc-le-zero h); here = λ h. absurd (not-suc-le-zero h) }
  first (x ∷ xs) = step x xs (first_where holds xs) (first xs) (holds (standing x)) refl

  -- where it holds, the smallest is not larger
  pub first_some : (xs : List ℕ) (k : ℕ) → holds_at xs k ≡ true → first_where holds xs ≤ k
  first_some xs k here =
      ⊎_elim (λ (l : k < first_where holds xs). absurd (false_true (sym ((first xs).before k l) ∙ here))) (λ (l : first_where holds xs ≤ k). l) (lt_or_le k (first_where holds xs))

  -- there is one such place
  pub first_is : (xs : List ℕ) (k : ℕ) → First xs k → first_where holds xs ≡ k
  first_is xs k f =
      ⊎_elim (λ (l : first_where holds xs < k). let in_list : first_where holds xs < length xs = omega (arith, l, f.within) in
      absurd (false_true (sym (f.before (first_where holds xs) l) ∙ (first xs).here in_list)))
      (λ (l : k ≤ first_where holds xs). ⊎_elim (λ (m : k < first_where holds xs). let in_list : k < length xs = omega (arith, m, (first xs).within) in
      absurd (false_true (sym ((first xs).before k m) ∙ f.here in_list)))
      (λ (m : first_where holds xs ≤ k). omega (arith, l, m)) (lt_or_le k (first_where holds xs)))
      (lt_or_le (first_where holds xs) k)

-- two tests that say the same of everybody find the same place
pub first_same : (f g : ℕ → Bool) → ((x : ℕ) → f (standing x) ≡ g (standing x)) → (xs : List ℕ) → first_where f xs ≡ first_where g xs
unfolding first_where
first_same f g same [] = refl
first_same f g same (x ∷ xs) = ap₂ (λ (b : Bool) (k : ℕ). pick b 0 (suc k)) (same x) (first_same f g same xs)
