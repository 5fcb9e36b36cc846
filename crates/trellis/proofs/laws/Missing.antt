-- Where all of a block is missing (02, M-102), every candidate ties, and the rule gives the one of zeros, with count 0.
use Rattle.std.specs.Prelude.{true, List, reverse, ◌≡◌, refl, ℕ, zero, suc, ◌-◌, ◌*◌, ◌≤◌, ◌<◌, length, get_or, drop}
use Rattle.std.proofs.Common.{sym, ap, ◌∙◌, subst, arith}
use Rattle.std.proofs.lemmas.List.{length-reverse}
use Rattle.bits.specs.Bits.{zeros, is_missing, differ}
use Rattle.bits.proofs.laws.Missing.{missing_agrees}
use Rattle.bits.proofs.laws.Sum.{length_zeros, bits_zeros}
use Rattle.bits.proofs.laws.Total.{total_zero}
use Rattle.register.specs.Register.{NotAfter}
use Rattle.register.proofs.laws.Steps.{zeros_first}
use Rattle.convolution.specs.Pairs.{coded_at, coded}
use Rattle.trellis.specs.Nearest.{disagreements, Candidate, Nearest, nearest, nearest_count, longest}
use Rattle.trellis.proofs.laws.Distance.{turned_zeros}
use Rattle.trellis.proofs.laws.Nearest.{nearest_is, nearest_once}
use Rattle.trellis.proofs.laws.Paths.{by_index}

-- ---- zeros are a candidate
end_zeros : (n : ℕ) → 4 ≤ n → drop (n - 4) (zeros n) ≡ zeros 4
unfolding zeros
end_zeros zero h = let z : ⊥ = omega arith in absurd z
end_zeros (suc zero) h = let z : ⊥ = omega arith in absurd z
end_zeros (suc (suc zero)) h = let z : ⊥ = omega arith in absurd z
end_zeros (suc (suc (suc zero))) h = let z : ⊥ = omega arith in absurd z
end_zeros (suc (suc (suc (suc zero)))) h = refl
end_zeros (suc (suc (suc (suc (suc n))))) h =
    let e : suc (suc (suc (suc (suc n)))) - 4 ≡ suc (suc (suc (suc (suc n))) - 4) = omega arith in
    ap (λ (k : ℕ). drop k (zeros (suc (suc (suc (suc (suc n))))))) e ∙ end_zeros (suc (suc (suc (suc n)))) (omega arith)

zeros_candidate : (n : ℕ) → 4 ≤ n → Candidate n (zeros n)
zeros_candidate n h = record { bits = bits_zeros n; long = length_zeros n; ends = end_zeros n h }

-- ---- every pair of the block is missing
module _ (r : List ℕ) (n : ℕ) (long : 4 ≤ n) (lost : (i : ℕ) → i < 2 * n → is_missing (get_or r i 0) ≡ true) where
  none : (u : List ℕ) → length u ≡ n → disagreements r (coded u) ≡ 0
  none u l =
      by_index r u
      ∙ total_zero (2 * length u) (λ i. differ (coded_at u i) (get_or r i 0)) (λ i h. missing_agrees (coded_at u i) (get_or r i 0) (lost i (omega (arith, h, l))))

  zeros_nearest : Nearest r n (zeros n) 0
  zeros_nearest =
      record {
        candidate = zeros_candidate n long;
        counts = none (zeros n) (length_zeros n);
        fewest = λ v c. omega arith;
        first = λ v c e. subst (λ (w : List ℕ). NotAfter w (reverse v)) (sym (turned_zeros n)) (zeros_first n (reverse v) (length-reverse v ∙ c.long));
      }

  pub all_missing : n ≤ longest → (nearest r n ≡ zeros n) × (nearest_count r n ≡ 0)
  all_missing short = nearest_once r n (nearest r n) (zeros n) (nearest_count r n) 0 (nearest_is r n long short) zeros_nearest
