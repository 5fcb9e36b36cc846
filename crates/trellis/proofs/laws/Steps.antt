-- What one pair does to a row, as the code has it: the sixteen numbers and the sixteen choices, packed into one word.
use Rattle.std.specs.Prelude.{Bool, true, false, ◌≡◌, T, ltb, eqb, length, get_or}
use mathlib.Core.List.{List, [], ◌∷◌, ◌++◌, append_assoc, append-nil}
use Rattle.std.proofs.Math.Logic.{⊎_elim}
use Rattle.std.proofs.Math.Path.{refl, ap, subst}
use Rattle.std.proofs.Common.{sym, ap₂, subst₂, ◌∙◌, arith, eqb→eq, pow_mono, lt_of_lt_of_le, mod-eq_of_lt, length-append, lt-ltb, le-ltb}
use Prim.Native.Nat.{ℕ, suc, ◌+◌, ◌-◌, ◌*◌, ◌/◌, ◌%◌, ◌^◌, ◌≤◌, ◌<◌, min}
use Rattle.std.specs.Int.Bits.{bit_or, or_shifted_r}
use Rattle.bits.proofs.laws.Tab.{below, bits_tab}
use Rattle.bits.proofs.laws.Sum.{bits_append, bits_cons}
use Rattle.bits.proofs.laws.Value.{value_lt, value_snoc}
use Rattle.bits.proofs.laws.Cases.{lt_or_le, each_symbol}
use Rattle.bits.specs.Bits.{Bits, pick, tab, tab_from, value, differ}
use Rattle.register.specs.Register.{from, bit}
use Rattle.convolution.specs.Pairs.{pair_of}
use Rattle.trellis.specs.laws.Steps.{turned, way_of, chosen_at, cost_table, cost_into, step_at}

-- ---- for s below 16 the state behind it is 2(s mod 8) and one more, and the bit is s div 8
module _ (s : ℕ) (h : s < 16) where
  pub behind : (o : ℕ) → from 8 s o ≡ 2 * (s % 8) + o
  unfolding from
  behind o = ⊎_elim (λ (l : s < 8). rw (lt-ltb s 8 l) (omega arith)) (λ (l : 8 ≤ s). rw (le-ltb s 8 l) (omega arith)) (lt_or_le s 8)

  pub newest : bit 8 s ≡ s / 8
  unfolding bit
  newest = ⊎_elim (λ (l : s < 8). rw (lt-ltb s 8 l) (omega arith)) (λ (l : 8 ≤ s). rw (le-ltb s 8 l) (omega arith)) (lt_or_le s 8)

-- ---- the first way into a state makes the pair that the second way into the state eight further on makes: one computed test
abbrev across : ℕ → ℕ → ℕ
across s o = (s + 8 + 8 * o) % 16

same_pair : ℕ → Bool
same_pair i = eqb (pair_of (from 8 (across (i / 2) (i % 2)) 1) (bit 8 (across (i / 2) (i % 2)))) (pair_of (from 8 (i / 2) (i % 2)) (bit 8 (i / 2)))

tested : (i : ℕ) → i < 32 → T (same_pair i)
unfolding same_pair pair_of from bit
tested i h = below same_pair 32 tt i h

pub other_way : (s o : ℕ) → s < 16 → o ≤ 1 → pair_of (from 8 ((s + 8 + 8 * o) % 16) 1) (bit 8 ((s + 8 + 8 * o) % 16)) ≡ pair_of (from 8 s o) (bit 8 s)
unfolding same_pair
other_way s o hs ho =
    let q : (2 * s + o) / 2 ≡ s = omega arith in
    let m : (2 * s + o) % 2 ≡ o = omega arith in
    let i : ℕ = 2 * s + o in
    subst₂ (λ (x y : ℕ). pair_of (from 8 (across x y) 1) (bit 8 (across x y)) ≡ pair_of (from 8 x y) (bit 8 x)) q m
    (eqb→eq (pair_of (from 8 (across (i / 2) (i % 2)) 1) (bit 8 (across (i / 2) (i % 2)))) (pair_of (from 8 (i / 2) (i % 2)) (bit 8 (i / 2))) (tested i (omega arith)))

-- ---- what the sixteen calls of `pair_cost` make
pub costs_are : (x y c0 c1 c2 c3 c4 c5 c6 c7 c8 c9 c10 c11 c12 c13 c14 c15 : ℕ)
    → c0 ≡ differ (pair_of 1 0 / 2) x + differ (pair_of 1 0 % 2) y
    → c1 ≡ differ (pair_of 3 0 / 2) x + differ (pair_of 3 0 % 2) y
    → c2 ≡ differ (pair_of 5 0 / 2) x + differ (pair_of 5 0 % 2) y
    → c3 ≡ differ (pair_of 7 0 / 2) x + differ (pair_of 7 0 % 2) y
    → c4 ≡ differ (pair_of 9 0 / 2) x + differ (pair_of 9 0 % 2) y
    → c5 ≡ differ (pair_of 11 0 / 2) x + differ (pair_of 11 0 % 2) y
    → c6 ≡ differ (pair_of 13 0 / 2) x + differ (pair_of 13 0 % 2) y
    → c7 ≡ differ (pair_of 15 0 / 2) x + differ (pair_of 15 0 % 2) y
    → c8 ≡ differ (pair_of 1 1 / 2) x + differ (pair_of 1 1 % 2) y
    → c9 ≡ differ (pair_of 3 1 / 2) x + differ (pair_of 3 1 % 2) y
    → c10 ≡ differ (pair_of 5 1 / 2) x + differ (pair_of 5 1 % 2) y
    → c11 ≡ differ (pair_of 7 1 / 2) x + differ (pair_of 7 1 % 2) y
    → c12 ≡ differ (pair_of 9 1 / 2) x + differ (pair_of 9 1 % 2) y
    → c13 ≡ differ (pair_of 11 1 / 2) x + differ (pair_of 11 1 % 2) y
    → c14 ≡ differ (pair_of 13 1 / 2) x + differ (pair_of 13 1 % 2) y
    → c15 ≡ differ (pair_of 15 1 / 2) x + differ (pair_of 15 1 % 2) y
    → c0 ∷ c1 ∷ c2 ∷ c3 ∷ c4 ∷ c5 ∷ c6 ∷ c7 ∷ c8 ∷ c9 ∷ c10 ∷ c11 ∷ c12 ∷ c13 ∷ c14 ∷ c15 ∷ [] ≡ tab 16 (cost_into x y)
unfolding tab tab_from cost_into from bit
costs_are x y c0 c1 c2 c3 c4 c5 c6 c7 c8 c9 c10 c11 c12 c13 c14 c15 e0 e1 e2 e3 e4 e5 e6 e7 e8 e9 e10 e11 e12 e13 e14 e15 = rw (e0, e1, e2, e3, e4, e5, e6, e7, e8, e9, e10, e11, e12, e13, e14, e15)

-- what the nine calls of `costs` make
pub table_is : (r0 r1 r2 r3 r4 r5 r6 r7 r8 : List ℕ)
    → r0 ≡ tab 16 (cost_into 0 0)
    → r1 ≡ tab 16 (cost_into 0 1)
    → r2 ≡ tab 16 (cost_into 0 2)
    → r3 ≡ tab 16 (cost_into 1 0)
    → r4 ≡ tab 16 (cost_into 1 1)
    → r5 ≡ tab 16 (cost_into 1 2)
    → r6 ≡ tab 16 (cost_into 2 0)
    → r7 ≡ tab 16 (cost_into 2 1)
    → r8 ≡ tab 16 (cost_into 2 2)
    → r0 ∷ r1 ∷ r2 ∷ r3 ∷ r4 ∷ r5 ∷ r6 ∷ r7 ∷ r8 ∷ [] ≡ cost_table
unfolding cost_table
table_is r0 r1 r2 r3 r4 r5 r6 r7 r8 e0 e1 e2 e3 e4 e5 e6 e7 e8 = rw (e0, e1, e2, e3, e4, e5, e6, e7, e8)

-- the costs of a pair are found in the table
abbrev Found : ℕ → ℕ → Type 0
Found x y = get_or cost_table (3 * x + y) [] ≡ tab 16 (cost_into x y)

pub costs_found : (x y : ℕ) → x ≤ 2 → y ≤ 2 → get_or cost_table (3 * x + y) [] ≡ tab 16 (cost_into x y)
unfolding cost_table
costs_found x y hx hy =
    each_symbol (λ i. Found i y)
    (each_symbol (Found 0) refl refl refl y hy)
    (each_symbol (Found 1) refl refl refl y hy)
    (each_symbol (Found 2) refl refl refl y hy)
    x
    hx

-- ---- choices are put into a word one by one, the first in the highest bit
packed : List ℕ → ℕ → ℕ
packed [] n = n
packed (k ∷ ks) n = packed ks (bit_or k (n * 2 % 65536))

-- below 2 ^ 15 a shift by one doubles the word and leaves its lowest bit free
put : (word choice : ℕ) → word < 32768 → choice ≤ 1 → bit_or choice (word * 2 % 65536) ≡ 2 * word + choice
put word choice h l =
    let d : word * 2 % 65536 ≡ word * 2 = mod-eq_of_lt (omega arith) in
    ap (λ (x : ℕ). bit_or choice x) d ∙ or_shifted_r word 1 choice (omega arith) ∙ omega arith

packed_is : (ks done : List ℕ) → Bits done → Bits ks → length done + length ks ≤ 16 → packed ks (value done) ≡ value (done ++ ks)
unfolding packed
packed_is [] done bd bk l = ap value (sym (append-nil done))
packed_is (k ∷ ks) done bd bk l =
    let short : length done ≤ 15 = omega arith in
    let small : value done < 2 ^ 15 = lt_of_lt_of_le (value_lt done bd) (pow_mono short) in
    let one : k ≤ 1 = bk 0 in
    ap (packed ks) (put (value done) k small one ∙ sym (value_snoc done k))
    ∙ packed_is ks (done ++ (k ∷ [])) (bits_append done (k ∷ []) bd (bits_cons k [] one (λ i. omega arith))) (λ i. bk (suc i)) (rw (length-append done (k ∷ [])) (omega (arith, l)))
    ∙ ap value (append_assoc done (k ∷ []) ks)

-- the last one is put on top of the fifteen before
on_top : (top first : ℕ) (ks : List ℕ) → Bits (top ∷ first ∷ ks) → length ks ≡ 14 → bit_or (packed ks first) (top * 32768 % 65536) ≡ value (top ∷ first ∷ ks)
unfolding value
on_top top first ks bits l =
    let one : top ≤ 1 = bits 0 in
    let below : Bits (first ∷ ks) = λ i. bits (suc i) in
    let alone : first ≡ value (first ∷ []) = omega arith in
    let is : packed ks first ≡ value (first ∷ ks) = ap (packed ks) alone ∙ packed_is ks (first ∷ []) (bits_cons first [] (bits 1) (λ i. omega arith)) (λ i. bits (suc (suc i))) (omega (arith, l)) in
    let fits : length (first ∷ ks) ≡ 15 = ap suc l in
    let small : value (first ∷ ks) < 2 ^ 15 = subst (λ (k : ℕ). value (first ∷ ks) < 2 ^ k) fits (value_lt (first ∷ ks) below) in
    let d : top * 32768 % 65536 ≡ top * 32768 = mod-eq_of_lt (omega arith) in
    ap₂ bit_or is d ∙ or_shifted_r top 15 (value (first ∷ ks)) small ∙ ap (λ (k : ℕ). top * 2 ^ k + value (first ∷ ks)) (sym fits)

either : (t : Bool) → pick t 1 0 ≤ 1
either true = omega arith
either false = omega arith

module _ (f w : List ℕ) where
  -- what the sixteen calls of `join` make
  pub row_is : (r0 r1 r2 r3 r4 r5 r6 r7 r8 r9 r10 r11 r12 r13 r14 r15 : ℕ)
      → r0 ≡ min (min (get_or f 0 0 + get_or w 8 0) 65535) (min (get_or f 1 0 + get_or w 0 0) 65535)
      → r1 ≡ min (min (get_or f 2 0 + get_or w 9 0) 65535) (min (get_or f 3 0 + get_or w 1 0) 65535)
      → r2 ≡ min (min (get_or f 4 0 + get_or w 10 0) 65535) (min (get_or f 5 0 + get_or w 2 0) 65535)
      → r3 ≡ min (min (get_or f 6 0 + get_or w 11 0) 65535) (min (get_or f 7 0 + get_or w 3 0) 65535)
      → r4 ≡ min (min (get_or f 8 0 + get_or w 12 0) 65535) (min (get_or f 9 0 + get_or w 4 0) 65535)
      → r5 ≡ min (min (get_or f 10 0 + get_or w 13 0) 65535) (min (get_or f 11 0 + get_or w 5 0) 65535)
      → r6 ≡ min (min (get_or f 12 0 + get_or w 14 0) 65535) (min (get_or f 13 0 + get_or w 6 0) 65535)
      → r7 ≡ min (min (get_or f 14 0 + get_or w 15 0) 65535) (min (get_or f 15 0 + get_or w 7 0) 65535)
      → r8 ≡ min (min (get_or f 0 0 + get_or w 0 0) 65535) (min (get_or f 1 0 + get_or w 8 0) 65535)
      → r9 ≡ min (min (get_or f 2 0 + get_or w 1 0) 65535) (min (get_or f 3 0 + get_or w 9 0) 65535)
      → r10 ≡ min (min (get_or f 4 0 + get_or w 2 0) 65535) (min (get_or f 5 0 + get_or w 10 0) 65535)
      → r11 ≡ min (min (get_or f 6 0 + get_or w 3 0) 65535) (min (get_or f 7 0 + get_or w 11 0) 65535)
      → r12 ≡ min (min (get_or f 8 0 + get_or w 4 0) 65535) (min (get_or f 9 0 + get_or w 12 0) 65535)
      → r13 ≡ min (min (get_or f 10 0 + get_or w 5 0) 65535) (min (get_or f 11 0 + get_or w 13 0) 65535)
      → r14 ≡ min (min (get_or f 12 0 + get_or w 6 0) 65535) (min (get_or f 13 0 + get_or w 14 0) 65535)
      → r15 ≡ min (min (get_or f 14 0 + get_or w 7 0) 65535) (min (get_or f 15 0 + get_or w 15 0) 65535)
      → r0 ∷ r1 ∷ r2 ∷ r3 ∷ r4 ∷ r5 ∷ r6 ∷ r7 ∷ r8 ∷ r9 ∷ r10 ∷ r11 ∷ r12 ∷ r13 ∷ r14 ∷ r15 ∷ [] ≡ tab 16 (step_at f w)
  unfolding tab tab_from step_at way_of from bit
  row_is r0 r1 r2 r3 r4 r5 r6 r7 r8 r9 r10 r11 r12 r13 r14 r15 e0 e1 e2 e3 e4 e5 e6 e7 e8 e9 e10 e11 e12 e13 e14 e15 = rw (e0, e1, e2, e3, e4, e5, e6, e7, e8, e9, e10, e11, e12, e13, e14, e15)

  chosen_bit : (s : ℕ) → chosen_at f w s ≤ 1
  unfolding chosen_at
  chosen_bit s = either (ltb (way_of f w s 1) (way_of f w s 0))

  -- what the sixteen calls of `cheaper` make, put together
  pub word_is : (k14 k13 k12 k11 k10 k9 k8 k7 k6 k5 k4 k3 k2 k1 k0 k15 : ℕ)
      → k14 ≡ pick (ltb (min (get_or f 13 0 + get_or w 14 0) 65535) (min (get_or f 12 0 + get_or w 6 0) 65535)) 1 0
      → k13 ≡ pick (ltb (min (get_or f 11 0 + get_or w 13 0) 65535) (min (get_or f 10 0 + get_or w 5 0) 65535)) 1 0
      → k12 ≡ pick (ltb (min (get_or f 9 0 + get_or w 12 0) 65535) (min (get_or f 8 0 + get_or w 4 0) 65535)) 1 0
      → k11 ≡ pick (ltb (min (get_or f 7 0 + get_or w 11 0) 65535) (min (get_or f 6 0 + get_or w 3 0) 65535)) 1 0
      → k10 ≡ pick (ltb (min (get_or f 5 0 + get_or w 10 0) 65535) (min (get_or f 4 0 + get_or w 2 0) 65535)) 1 0
      → k9 ≡ pick (ltb (min (get_or f 3 0 + get_or w 9 0) 65535) (min (get_or f 2 0 + get_or w 1 0) 65535)) 1 0
      → k8 ≡ pick (ltb (min (get_or f 1 0 + get_or w 8 0) 65535) (min (get_or f 0 0 + get_or w 0 0) 65535)) 1 0
      → k7 ≡ pick (ltb (min (get_or f 15 0 + get_or w 7 0) 65535) (min (get_or f 14 0 + get_or w 15 0) 65535)) 1 0
      → k6 ≡ pick (ltb (min (get_or f 13 0 + get_or w 6 0) 65535) (min (get_or f 12 0 + get_or w 14 0) 65535)) 1 0
      → k5 ≡ pick (ltb (min (get_or f 11 0 + get_or w 5 0) 65535) (min (get_or f 10 0 + get_or w 13 0) 65535)) 1 0
      → k4 ≡ pick (ltb (min (get_or f 9 0 + get_or w 4 0) 65535) (min (get_or f 8 0 + get_or w 12 0) 65535)) 1 0
      → k3 ≡ pick (ltb (min (get_or f 7 0 + get_or w 3 0) 65535) (min (get_or f 6 0 + get_or w 11 0) 65535)) 1 0
      → k2 ≡ pick (ltb (min (get_or f 5 0 + get_or w 2 0) 65535) (min (get_or f 4 0 + get_or w 10 0) 65535)) 1 0
      → k1 ≡ pick (ltb (min (get_or f 3 0 + get_or w 1 0) 65535) (min (get_or f 2 0 + get_or w 9 0) 65535)) 1 0
      → k0 ≡ pick (ltb (min (get_or f 1 0 + get_or w 0 0) 65535) (min (get_or f 0 0 + get_or w 8 0) 65535)) 1 0
      → k15 ≡ pick (ltb (min (get_or f 15 0 + get_or w 15 0) 65535) (min (get_or f 14 0 + get_or w 7 0) 65535)) 1 0
      → bit_or (bit_or k0 ((bit_or k1 ((bit_or k2 ((bit_or k3 ((bit_or k4 ((bit_or k5 ((bit_or k6 ((bit_or k7 ((bit_or k8 ((bit_or k9 ((bit_or k10 ((bit_or k11 ((bit_or k12 ((bit_or k13 (k14 * 2 % 65536)) * 2 % 65536)) * 2 % 65536)) * 2 % 65536)) * 2 % 65536)) * 2 % 65536)) * 2 % 65536)) * 2 % 65536)) * 2 % 65536)) * 2 % 65536)) * 2 % 65536)) * 2 % 65536)) * 2 % 65536)) * 2 % 65536)) (k15 * 32768 % 65536) ≡ value (tab 16 (turned (chosen_at f w)))
  unfolding tab tab_from chosen_at way_of from bit packed
  word_is k14 k13 k12 k11 k10 k9 k8 k7 k6 k5 k4 k3 k2 k1 k0 k15 e14 e13 e12 e11 e10 e9 e8 e7 e6 e5 e4 e3 e2 e1 e0 e15 =
      let ks : List ℕ = k13 ∷ k12 ∷ k11 ∷ k10 ∷ k9 ∷ k8 ∷ k7 ∷ k6 ∷ k5 ∷ k4 ∷ k3 ∷ k2 ∷ k1 ∷ k0 ∷ [] in
      let all : k15 ∷ k14 ∷ ks ≡ tab 16 (turned (chosen_at f w)) = rw (e14, e13, e12, e11, e10, e9, e8, e7, e6, e5, e4, e3, e2, e1, e0, e15) in
      let bits : Bits (k15 ∷ k14 ∷ ks) = subst Bits (sym all) (bits_tab 16 (turned (chosen_at f w)) (λ i. chosen_bit (15 - i))) in
      on_top k15 k14 ks bits refl ∙ ap value all
