-- The nearest block is what 01 says, and there is only one; the trellis view's numbers likewise.
use mathlib.Core.List.{List, [], ◌∷◌, reverse, reverse-reverse}
use Rattle.std.specs.Prelude.{◌⊎◌, ◌≡◌, length, get_or}
use Rattle.std.proofs.Math.Logic.{⊎_elim, inl, inr}
use Rattle.std.proofs.Math.Path.{refl, sym, ap, subst}
use Rattle.std.proofs.Common.{ap₂, ◌∙◌, arith}
use Prim.Native.Nat.{ℕ, zero, suc, ◌+◌, ◌*◌, ◌/◌, ◌%◌, ◌≤◌, ◌<◌}
use Rattle.std.proofs.Math.ListN.{length-reverse}
use Rattle.bits.specs.Bits.{Bits, zeros}
use Rattle.bits.proofs.laws.Missing.{differ_le}
use Rattle.bits.proofs.laws.Sum.{length_zeros, bits_zeros}
use Rattle.register.specs.Register.{NotAfter, next, state, path_cost, Least, way, best, walk}
use Rattle.register.proofs.laws.Nearest.{good}
use Rattle.register.proofs.laws.Steps.{same_path}
use Rattle.convolution.specs.Pairs.{coded, state_at, pair_of}
use Rattle.trellis.specs.Nearest.{disagreements, pair_cost, Nearest, Ends, Reached, Fewest, row_at, nearest, nearest_count, longest}
use Rattle.trellis.proofs.laws.Candidates.{candidate_state, path_candidate}
use Rattle.trellis.proofs.laws.Paths.{bits_reverse, path_state, path_cost_lem}

-- ---- a path costs at most two a pair
pub cost_le : (r : List ℕ) (k s b : ℕ) → pair_cost r k s b ≤ 2
unfolding pair_cost
cost_le r k s b = omega (arith, differ_le (pair_of s b / 2) (get_or r (2 * k) 0), differ_le (pair_of s b % 2) (get_or r (2 * k + 1) 0))

path_le : (r h : List ℕ) → path_cost 8 (pair_cost r) h ≤ 2 * length h
unfolding path_cost
path_le r [] = omega arith
path_le r (b ∷ h) = omega (arith, path_le r h, cost_le r (length h) (state 8 h) b)

light : (r h : List ℕ) → Bits h → length h ≤ longest → path_cost 8 (pair_cost r) h < 65535
light r h bh l = omega (arith, path_le r h)

module _ (r : List ℕ) where
  fact : (t : ℕ) → t ≤ longest → (s : ℕ) → s < 16 → Least 8 (pair_cost r) t s (best 8 (pair_cost r) 65535 t s) (walk 8 (pair_cost r) 65535 t s)
      ⊎ ((best 8 (pair_cost r) 65535 t s ≡ 65535) × ((h : List ℕ) → Bits h → length h ≡ t → state 8 h ≡ s → ⊥))
  fact t l s h = good 8 (omega arith) (pair_cost r) 65535 longest (light r) t l s h

  -- ---- a block as the path that it is
  block_state : (u : List ℕ) → Bits u → state 8 (reverse u) ≡ state_at u (length u)
  block_state u bu = path_state (reverse u) (bits_reverse u bu) ∙ ap₂ state_at (reverse-reverse u) (length-reverse u)

  pub block_cost : (u : List ℕ) → Bits u → path_cost 8 (pair_cost r) (reverse u) ≡ disagreements r (coded u)
  block_cost u bu = path_cost_lem r (reverse u) (bits_reverse u bu) ∙ ap (λ (v : List ℕ). disagreements r (coded v)) (reverse-reverse u)

  -- ---- the trellis view
  turned_ends : (t s : ℕ) (u : List ℕ) → Ends t s u → state 8 (reverse u) ≡ s
  turned_ends t s u e = block_state u e.bits ∙ ap (state_at u) e.long ∙ e.ends

  pub row_fewest : (t s : ℕ) → t ≤ longest → s < 16 → Fewest r t s (row_at r t s)
  unfolding row_at
  row_fewest t s l h =
      ⊎_elim (λ (w : Least 8 (pair_cost r) t s (best 8 (pair_cost r) 65535 t s) (walk 8 (pair_cost r) 65535 t s)).
      let p = walk 8 (pair_cost r) 65535 t s in
      inl (record {
        path = reverse p;
        ends = record {
          bits = bits_reverse p w.bits;
          long = length-reverse p ∙ w.long;
          ends = ap (state_at (reverse p)) (sym w.long) ∙ sym (path_state p w.bits) ∙ w.ends;
        };
        counts = sym (path_cost_lem r p w.bits) ∙ w.costs;
        fewest = λ u e. subst (λ (x : ℕ). best 8 (pair_cost r) 65535 t s ≤ x) (block_cost u e.bits)
            (w.fewest (reverse u) (bits_reverse u e.bits) (length-reverse u ∙ e.long) (turned_ends t s u e));
      }))
      (λ q. inr (q.0, λ u e. q.1 (reverse u) (bits_reverse u e.bits) (length-reverse u ∙ e.long) (turned_ends t s u e)))
      (fact t l s h)

  -- at most one number is that
  pub fewest_once : (t s v w : ℕ) → Fewest r t s v → Fewest r t s w → v ≡ w
  fewest_once t s v w a b =
      ⊎_elim (λ (p : Reached r t s v).
      ⊎_elim (λ (q : Reached r t s w). omega (arith, p.counts, q.counts, p.fewest q.path q.ends, q.fewest p.path p.ends))
      (λ q. absurd (q.1 p.path p.ends))
      b)
      (λ p. ⊎_elim (λ (q : Reached r t s w). absurd (p.1 q.path q.ends)) (λ q. p.0 ∙ sym q.0) b)
      a

  -- ---- THE nearest block
  zero_path : (n : ℕ) → state 8 (zeros n) ≡ 0
  unfolding state next zeros
  zero_path zero = refl
  zero_path (suc n) = rw (zero_path n) (omega arith)

  back_to_zero : (n : ℕ) → n ≤ longest → Least 8 (pair_cost r) n 0 (best 8 (pair_cost r) 65535 n 0) (walk 8 (pair_cost r) 65535 n 0)
  back_to_zero n l = ⊎_elim (λ w. w) (λ q. absurd (q.1 (zeros n) (bits_zeros n) (length_zeros n) (zero_path n))) (fact n l 0 (omega arith))

  -- a count is at most two a pair
  pub count_most : (n : ℕ) → n ≤ longest → nearest_count r n ≤ 2 * n
  unfolding nearest_count row_at
  count_most n l =
      let w = back_to_zero n l in
      omega (arith, w.costs, w.long, path_le r (walk 8 (pair_cost r) 65535 n 0))

  pub nearest_is : (n : ℕ) → 4 ≤ n → n ≤ longest → Nearest r n (nearest r n) (nearest_count r n)
  unfolding nearest nearest_count row_at
  nearest_is n h l =
      let w = back_to_zero n l in
      let p = walk 8 (pair_cost r) 65535 n 0 in
      record {
        candidate = path_candidate n p h w.bits w.long w.ends;
        counts = sym (path_cost_lem r p w.bits) ∙ w.costs;
        fewest = λ v c. subst (λ (x : ℕ). best 8 (pair_cost r) 65535 n 0 ≤ x) (block_cost v c.bits)
            (w.fewest (reverse v) (bits_reverse v c.bits) (length-reverse v ∙ c.long) (candidate_state n v c));
        first = λ v c e. subst (λ (q : List ℕ). NotAfter q (reverse v)) (sym (reverse-reverse p))
            (w.first (reverse v) (bits_reverse v c.bits) (length-reverse v ∙ c.long) (candidate_state n v c) (block_cost v c.bits ∙ e));
      }

  pub nearest_once : (n : ℕ) (u v : List ℕ) (c d : ℕ) → Nearest r n u c → Nearest r n v d → (u ≡ v) × (c ≡ d)
  nearest_once n u v c d a b =
      let e : c ≡ d = omega (arith, a.counts, b.counts, a.fewest v b.candidate, b.fewest u a.candidate) in
      let l : length (reverse u) ≡ length (reverse v) = length-reverse u ∙ a.candidate.long ∙ sym b.candidate.long ∙ sym (length-reverse v) in
      let same : reverse u ≡ reverse v =
      same_path (reverse u) (reverse v) l (a.first v b.candidate (b.counts ∙ sym e)) (b.first u a.candidate (a.counts ∙ e)) in
      (sym (reverse-reverse u) ∙ ap reverse same ∙ reverse-reverse v, e)

-- a count fits 16 bits
pub count_fits : (r : List ℕ) (n : ℕ) → nearest_count r n ≤ 65535
unfolding nearest_count row_at best way
count_fits r zero = omega arith
count_fits r (suc n) = omega arith
