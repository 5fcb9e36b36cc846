-- A path of the register, newest bit first, and the block that it is, first bit first: the state and the disagreements are the same.
use mathlib.Core.List.{List, [], ◌∷◌, ◌++◌, reverse, reverse-cons}
use Rattle.std.proofs.Common.{⊎_elim, ◌∙◌, add-one, length-append}
use Rattle.std.specs.Prelude.{◌≡◌, refl, get_or}
use Rattle.std.proofs.Math.Path.{sym, ap, ap₂}
use Prim.Native.Nat.{ℕ, suc, ◌+◌, ◌-◌, ◌*◌, ◌/◌, ◌≤◌, ◌<◌}
use native.Mathlib.Omega.{arith}
use Rattle.std.proofs.Math.ListN.{length, get_or-append}
use Rattle.std.proofs.lemmas.List.{length-reverse}
use Rattle.bits.specs.Bits.{Bits, total, differ}
use Rattle.bits.proofs.laws.Cases.{lt_or_le}
use Rattle.bits.proofs.laws.Sum.{bits_append, bits_cons}
use Rattle.bits.proofs.laws.Total.{total_same}
use Rattle.bits.proofs.laws.Tab.{at_tab, at_right}
use Rattle.register.specs.Register.{next, state, path_cost}
use Rattle.convolution.specs.Pairs.{back, first, second, coded_at, coded, state_at, pair_of}
use Rattle.trellis.specs.Nearest.{disagreements, pair_cost}
use Rattle.convolution.proofs.laws.Pairs.{back_early, back_late, length_coded, state_start, state_next, pair_first, pair_second}

-- the disagreements with the pairs of u, by the index
pub by_index : (r u : List ℕ) → disagreements r (coded u) ≡ total (2 * length u) (λ i. differ (coded_at u i) (get_or r i 0))
unfolding disagreements coded
by_index r u =
    ap (λ (n : ℕ). total n (λ i. differ (get_or (coded u) i 0) (get_or r i 0))) (length_coded u)
    ∙ total_same (2 * length u) (λ i. differ (get_or (coded u) i 0) (get_or r i 0)) (λ i. differ (coded_at u i) (get_or r i 0))
    (λ i l. ap (λ (x : ℕ). differ x (get_or r i 0)) (at_tab (2 * length u) (coded_at u) i l))

-- ---- one bit more at the end changes nothing before
module _ (u : List ℕ) (b : ℕ) where
  back_kept : (k j : ℕ) → k - j < length u → back (u ++ (b ∷ [])) k j ≡ back u k j
  back_kept k j h =
      ⊎_elim (λ (l : k < j). back_early (u ++ (b ∷ [])) k j l ∙ sym (back_early u k j l))
      (λ (l : j ≤ k). back_late (u ++ (b ∷ [])) k j l ∙ get_or-append u (b ∷ []) 0 (k - j) h ∙ sym (back_late u k j l))
      (lt_or_le k j)

  later_kept : 0 < length u → state_at (u ++ (b ∷ [])) (length u) ≡ state_at u (length u)
  unfolding state_at
  later_kept h = rw (back_kept (length u) 1 (omega arith), back_kept (length u) 2 (omega arith), back_kept (length u) 3 (omega arith), back_kept (length u) 4 (omega arith))

  first_kept : (k : ℕ) → k < length u → first (u ++ (b ∷ [])) k ≡ first u k
  unfolding first
  first_kept k h = rw (back_kept k 0 (omega arith), back_kept k 3 (omega arith), back_kept k 4 (omega arith))

  second_kept : (k : ℕ) → k < length u → second (u ++ (b ∷ [])) k ≡ second u k
  unfolding second
  second_kept k h = rw (back_kept k 0 (omega arith), back_kept k 1 (omega arith), back_kept k 3 (omega arith), back_kept k 4 (omega arith))

  coded_kept : (i : ℕ) → i < 2 * length u → coded_at (u ++ (b ∷ [])) i ≡ coded_at u i
  unfolding coded_at
  coded_kept i h = rw (first_kept (i / 2) (omega arith), second_kept (i / 2) (omega arith))

  newest : get_or (u ++ (b ∷ [])) (length u) 0 ≡ b
  newest = at_right u (b ∷ []) (length u) 0 (length u) refl (omega arith)

state_kept : (u : List ℕ) (b : ℕ) → state_at (u ++ (b ∷ [])) (length u) ≡ state_at u (length u)
state_kept [] b = state_start (b ∷ []) ∙ sym (state_start [])
state_kept (a ∷ u) b = later_kept (a ∷ u) b (omega arith)

module _ (r u : List ℕ) (b : ℕ) (bv : Bits (u ++ (b ∷ []))) where
  -- the state after one bit more
  snoc_state : state_at (u ++ (b ∷ [])) (length u + 1) ≡ next 8 (state_at u (length u)) b
  unfolding next
  snoc_state =
      state_next (u ++ (b ∷ [])) bv (length u)
      ∙ ap₂ (λ (x s : ℕ). 8 * x + s / 2) (newest u b) (state_kept u b)

  -- the disagreements of one pair more
  abbrev off : List ℕ → ℕ → ℕ
  off v i = differ (coded_at v i) (get_or r i 0)

  snoc_pair : pair_of (state_at u (length u)) b ≡ pair_of (state_at (u ++ (b ∷ [])) (length u)) (get_or (u ++ (b ∷ [])) (length u) 0)
  snoc_pair = ap₂ pair_of (sym (state_kept u b)) (sym (newest u b))

  snoc_cost : disagreements r (coded (u ++ (b ∷ []))) ≡ disagreements r (coded u) + pair_cost r (length u) (state_at u (length u)) b
  unfolding total pair_cost
  snoc_cost =
      let v = u ++ (b ∷ []) in
      let k = length u in
      let p = pair_of (state_at u k) b in
      let n : 2 * length v ≡ suc (suc (2 * k)) = rw (length-append u (b ∷ [])) (omega arith) in
      let j : suc (2 * k) ≡ 2 * k + 1 = omega arith in
      by_index r v
      ∙ ap (λ (m : ℕ). total m (off v)) n
      ∙ ap₂ (λ (x y : ℕ). x + off v (2 * k) + y)
      (total_same (2 * k) (off v) (off u) (λ i l. ap (λ (x : ℕ). differ x (get_or r i 0)) (coded_kept u b i l)) ∙ sym (by_index r u))
      (ap (off v) j)
      ∙ ap₂ (λ (x y : ℕ). disagreements r (coded u) + differ x (get_or r (2 * k) 0) + differ y (get_or r (2 * k + 1) 0))
      (sym (pair_first v bv k p snoc_pair)) (sym (pair_second v bv k p snoc_pair))
      ∙ omega arith

-- ---- the path h is the block reverse h
pub bits_reverse : (h : List ℕ) → Bits h → Bits (reverse h)
bits_reverse [] bh = bh
bits_reverse (b ∷ h) bh = rw (reverse-cons b h) (bits_append (reverse h) (b ∷ []) (bits_reverse h (λ k. bh (suc k))) (bits_cons b [] (bh 0) (λ k. omega arith)))

pub path_state : (h : List ℕ) → Bits h → state 8 h ≡ state_at (reverse h) (length h)
unfolding state
path_state [] bh = sym (state_start [])
path_state (b ∷ h) bh =
    let u = reverse h in
    let l : length u ≡ length h = length-reverse h in
    let bv : Bits (u ++ (b ∷ [])) = rw (reverse-cons b h) at (bits_reverse (b ∷ h) bh) in
    ap (λ (s : ℕ). next 8 s b) (path_state h (λ k. bh (suc k)) ∙ ap (state_at u) (sym l))
    ∙ sym (snoc_state [] u b bv)
    ∙ ap₂ state_at (sym (reverse-cons b h)) (ap (λ (n : ℕ). n + 1) l ∙ add-one (length h))

pub path_cost_lem : (r h : List ℕ) → Bits h → path_cost 8 (pair_cost r) h ≡ disagreements r (coded (reverse h))
unfolding path_cost total
path_cost_lem r [] bh = sym (by_index r [])
path_cost_lem r (b ∷ h) bh =
    let u = reverse h in
    let l : length u ≡ length h = length-reverse h in
    let bv : Bits (u ++ (b ∷ [])) = rw (reverse-cons b h) at (bits_reverse (b ∷ h) bh) in
    ap₂ (λ (x s : ℕ). x + pair_cost r (length h) s b) (path_cost_lem r h (λ k. bh (suc k))) (path_state h (λ k. bh (suc k)))
    ∙ ap (λ (k : ℕ). disagreements r (coded u) + pair_cost r k (state_at u k) b) (sym l)
    ∙ sym (snoc_cost r u b bv)
    ∙ ap (λ (v : List ℕ). disagreements r (coded v)) (sym (reverse-cons b h))
