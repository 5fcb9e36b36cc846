-- The nearest-path fact, once over the register, the cost of each step and the length: after t steps the row holds the fewest that any
-- path into each state costs, and the walk back gives, of those that cost as little, the first in the tie order.
use mathlib.Core.List.{List, [], ◌∷◌}
use Rattle.std.specs.Prelude.{◌⊎◌, ◌≡◌, length}
use Rattle.std.proofs.Math.Logic.{⊎_elim, inl, inr}
use Rattle.std.proofs.Math.Path.{refl, sym, ap, ap₂, subst}
use Rattle.std.proofs.Common.{◌∙◌, lt-ltb, le-ltb, ne_eqb}
use Prim.Native.Nat.{ℕ, zero, suc, ◌+◌, ◌*◌, ◌%◌, ◌≤◌, ◌<◌, min}
use native.Mathlib.Omega.{arith}
use Rattle.bits.specs.Bits.{Bits}
use Rattle.bits.proofs.laws.Cases.{lt_or_le}
use Rattle.bits.proofs.laws.Sum.{bits_cons}
use Rattle.register.specs.Register.{NotAfter, next, state, bit, from, path_cost, Least, way, best, choice, walk}
use Rattle.register.proofs.laws.Steps.{bit_bit, from_lt, from_next, goes, came_bit, came_from, state_lt, in_order}

-- n is the longest path, and no path that long costs as much as `none`
module _ (half : ℕ) (some : 0 < half) (cost : ℕ → ℕ → ℕ → ℕ) (none n : ℕ)
    (light : (h : List ℕ) → Bits h → length h ≤ n → path_cost half cost h < none) where
  -- no path of t bits ends in s
  abbrev pub Nowhere : ℕ → ℕ → Type 0
  Nowhere t s = (h : List ℕ) → Bits h → length h ≡ t → state half h ≡ s → ⊥

  abbrev pub Good : ℕ → ℕ → Type 0
  Good t s = Least half cost t s (best half cost none t s) (walk half cost none t s) ⊎ ((best half cost none t s ≡ none) × Nowhere t s)

  -- the path by the way o into s, and its price
  abbrev path : ℕ → ℕ → ℕ → List ℕ
  path t s o = bit half s ∷ walk half cost none t (from half s o)

  abbrev price : ℕ → ℕ → ℕ → ℕ
  price t s o = way half cost none (best half cost none t) t s o

  -- a path into s comes by one of the two ways
  pub record By (t s o : ℕ) (h : List ℕ) : Type 0 where
    pub bits : Bits h
    pub long : length h ≡ t
    pub ends : state half h ≡ from half s o

  -- a way that some path takes, and a way that none takes
  pub record Open (t s o : ℕ) : Type 0 where
    pub least : Least half cost t (from half s o) (best half cost none t (from half s o)) (walk half cost none t (from half s o))
    pub worth : price t s o ≡ best half cost none t (from half s o) + cost t (from half s o) (bit half s)
    pub small : price t s o < none

  pub record Shut (t s o : ℕ) : Type 0 where
    pub worth : price t s o ≡ none
    pub empty : (h : List ℕ) → By t s o h → ⊥

  module _ (t s : ℕ) (short : suc t ≤ n) (hs : s < 2 * half) where
    -- ---- a path into s comes by one of the two
    two : (h : List ℕ) (o : ℕ) → o < 2 → By t s o h → By t s 0 h ⊎ By t s 1 h
    two h zero l b = inl b
    two h (suc zero) l b = inr b
    two h (suc (suc o)) l b = let z : ⊥ = omega arith in absurd z

    split : (k : List ℕ) → Bits k → length k ≡ suc t → state half k ≡ s → (h : List ℕ) × (k ≡ bit half s ∷ h) × (By t s 0 h ⊎ By t s 1 h)
    unfolding state
    split [] bk e f = let z : ⊥ = omega (arith, e) in absurd z
    split (b ∷ h) bk e f =
        let bh : Bits h = λ i. bk (suc i) in
        let l = state_lt half some h bh in (
          h,
          ap (λ (x : ℕ). x ∷ h) (sym (came_bit half (state half h) b s l (bk 0) f)),
          two h (state half h % 2) (omega arith) (record { bits = bh; long = omega (arith, e); ends = sym (came_from half (state half h) b s l (bk 0) f) }),
        )

    -- ---- one way, whichever it is
    module _ (o : ℕ) (ho : o ≤ 1) where
      -- what a path by this way costs: what it cost before, and this step
      step : (h : List ℕ) → By t s o h → path_cost half cost (bit half s ∷ h) ≡ path_cost half cost h + cost t (from half s o) (bit half s)
      unfolding path_cost
      step h b = ap₂ (λ (k p : ℕ). path_cost half cost h + cost k p (bit half s)) b.long b.ends

      pub opens : Least half cost t (from half s o) (best half cost none t (from half s o)) (walk half cost none t (from half s o)) → Open t s o
      unfolding way
      opens l =
          let w = walk half cost none t (from half s o) in
          let e = step w (record { bits = l.bits; long = l.long; ends = l.ends }) in
          let c : path_cost half cost (bit half s ∷ w) < none = light (bit half s ∷ w) (bits_cons (bit half s) w (bit_bit half s) l.bits) (omega (arith, l.long)) in
          record { least = l; worth = omega (arith, e, c, l.costs); small = omega (arith, e, c, l.costs) }

      pub shuts : best half cost none t (from half s o) ≡ none → Nowhere t (from half s o) → Shut t s o
      unfolding way
      shuts e f = record { worth = rw e (omega arith); empty = λ h b. f h b.bits b.long b.ends }

      pub taken : Good t (from half s o) → Open t s o ⊎ Shut t s o
      taken g = ⊎_elim (λ l. inl (opens l)) (λ q. inr (shuts q.0 q.1)) g

      -- no path by an open way is cheaper than its price, and of those that cost it the walked one stands first
      dear : Open t s o → (h : List ℕ) → By t s o h → price t s o ≤ path_cost half cost (bit half s ∷ h)
      dear w h b =
          let e = step h b in
          omega (arith, e, w.worth, w.least.fewest h b.bits b.long b.ends)

      pub dear_or : Open t s o ⊎ Shut t s o → (h : List ℕ) → By t s o h → price t s o ≤ path_cost half cost (bit half s ∷ h)
      dear_or d h b = ⊎_elim (λ w. dear w h b) (λ (x : Shut t s o). absurd (x.empty h b)) d

      pub level : Open t s o → (h : List ℕ) → By t s o h → path_cost half cost (bit half s ∷ h) ≡ price t s o → NotAfter (path t s o) (bit half s ∷ h)
      unfolding NotAfter
      level w h b e =
          inr (refl, w.least.first h b.bits b.long b.ends (let f = step h b in omega (arith, e, f, w.worth)))

      -- the walked path by this way, and all that is asked of it but to be the first
      pub whole : Open t s o → ((h : List ℕ) → By t s 0 h ⊎ By t s 1 h → price t s o ≤ path_cost half cost (bit half s ∷ h))
          → ((h : List ℕ) → By t s 0 h ⊎ By t s 1 h → path_cost half cost (bit half s ∷ h) ≡ price t s o → NotAfter (path t s o) (bit half s ∷ h))
          → Least half cost (suc t) s (price t s o) (path t s o)
      unfolding state
      whole w cheap firsts = record {
        bits = bits_cons (bit half s) (walk half cost none t (from half s o)) (bit_bit half s) w.least.bits;
        long = ap suc w.least.long;
        ends = ap (λ (p : ℕ). next half p (bit half s)) w.least.ends ∙ goes half s o hs ho;
        costs = omega (arith, step (walk half cost none t (from half s o)) (record { bits = w.least.bits; long = w.least.long; ends = w.least.ends }), w.worth, w.least.costs);
        fewest = λ k bk lk ek.
            let q = split k bk lk ek in
            subst (λ (l : List ℕ). price t s o ≤ path_cost half cost l) (sym q.1) (cheap q.0 q.2);
        first = λ k bk lk ek ck.
            let q = split k bk lk ek in
            subst (λ (l : List ℕ). NotAfter (path t s o) l) (sym q.1) (firsts q.0 q.2 (ap (path_cost half cost) (sym q.1) ∙ ck));
      }

    at_most : (o : ℕ) → price t s o ≤ none
    unfolding way
    at_most o = omega arith

    -- ---- both ways: the second is kept only where it is cheaper
    module _ (d₀ : Open t s 0 ⊎ Shut t s 0) (d₁ : Open t s 1 ⊎ Shut t s 1) where
      second_kept : price t s 1 < price t s 0 → Least half cost (suc t) s (price t s 1) (path t s 1)
      second_kept l =
          ⊎_elim (λ (w : Open t s 1).
          whole 1 (omega arith) w
          (λ h b. ⊎_elim (λ b₀. omega (arith, dear_or 0 (omega arith) d₀ h b₀)) (λ b₁. dear_or 1 (omega arith) d₁ h b₁) b)
          (λ h b e.
          ⊎_elim (λ b₀. let z : ⊥ = omega (arith, dear_or 0 (omega arith) d₀ h b₀) in absurd z)
          (λ b₁. level 1 (omega arith) w h b₁ e)
          b))
          (λ (x : Shut t s 1). let z : ⊥ = omega (arith, x.worth, at_most 0) in absurd z)
          d₁

      later : Open t s 0 → (h : List ℕ) → By t s 1 h → NotAfter (path t s 0) (bit half s ∷ h)
      unfolding NotAfter
      later w h b =
          inr (
            refl,
            in_order half some (walk half cost none t (from half s 0)) h w.least.bits b.bits (w.least.long ∙ sym b.long)
                (omega (arith, w.least.ends, b.ends, from_next half s)),
          )

      first_kept : price t s 0 ≤ price t s 1 → Open t s 0 → Least half cost (suc t) s (price t s 0) (path t s 0)
      first_kept l w =
          whole 0 (omega arith) w
          (λ h b. ⊎_elim (λ b₀. dear_or 0 (omega arith) d₀ h b₀) (λ b₁. omega (arith, dear_or 1 (omega arith) d₁ h b₁)) b)
          (λ h b e. ⊎_elim (λ b₀. level 0 (omega arith) w h b₀ e) (λ b₁. later w h b₁) b)

      neither : price t s 0 ≤ price t s 1 → Shut t s 0 → Nowhere (suc t) s
      neither l x k bk lk ek =
          let q = split k bk lk ek in
          ⊎_elim (λ b₀. x.empty q.0 b₀)
          (λ b₁. ⊎_elim (λ (w : Open t s 1). omega (arith, w.small, x.worth)) (λ (y : Shut t s 1). y.empty q.0 b₁) d₁)
          q.2

      pub joined : Good (suc t) s
      unfolding best choice walk
      joined =
          ⊎_elim (λ (l : price t s 1 < price t s 0).
          let m : min (price t s 0) (price t s 1) ≡ price t s 1 = omega arith in
          inl (rw (lt-ltb (price t s 1) (price t s 0) l, m) (second_kept l)))
          (λ (l : price t s 0 ≤ price t s 1).
          let m : min (price t s 0) (price t s 1) ≡ price t s 0 = omega arith in
          ⊎_elim (λ (w : Open t s 0). inl (rw (le-ltb (price t s 1) (price t s 0) l, m) (first_kept l w)))
          (λ (x : Shut t s 0). inr (m ∙ x.worth, neither l x))
          d₀)
          (lt_or_le (price t s 1) (price t s 0))

  elsewhere : (s : ℕ) → Nowhere 0 (suc s)
  unfolding state
  elsewhere s [] bh e f = omega (arith, f)
  elsewhere s (b ∷ h) bh e f = omega (arith, e)

  start : (s : ℕ) → Good 0 s
  unfolding best walk state path_cost NotAfter
  start zero = inl (record {
    bits = λ k. omega arith;
    long = refl;
    ends = refl;
    costs = refl;
    fewest = λ h bh e f. omega arith;
    first = λ h bh e f g. tt;
  })
  start (suc s) = inr (rw (ne_eqb (suc s) 0 (λ (q : suc s ≡ 0). omega (arith, q))), elsewhere s)

  -- ---- the fact
  pub good : (t : ℕ) → t ≤ n → (s : ℕ) → s < 2 * half → Good t s
  good zero h s hs = start s
  good (suc t) h s hs =
      joined t s h hs
      (taken t s h hs 0 (omega arith) (good t (omega arith) (from half s 0) (from_lt half s 0 hs (omega arith))))
      (taken t s h hs 1 (omega arith) (good t (omega arith) (from half s 1) (from_lt half s 1 hs (omega arith))))
