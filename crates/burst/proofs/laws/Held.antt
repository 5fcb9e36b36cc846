-- A block out of the held bursts: what is gathered are its coded bits; and those of its flags that say b, put one by one into a number, fit
-- eight bits, and the number has as many ones as flags say b.
use Rattle.std.specs.Prelude.{Bool, true, false, ◌≡◌, eqb, get_or}
use mathlib.Core.List.{List}
use Rattle.std.proofs.Math.Path.{refl, ap, ap₂}
use Rattle.std.proofs.Common.{◌∙◌, subst, add-one, pow_mono}
use Prim.Native.Nat.{ℕ, zero, suc, ◌+◌, ◌*◌, ◌%◌, ◌^◌, ◌≤◌, ◌<◌}
use native.Mathlib.Omega.{arith}
use Rattle.std.specs.Int.Count.{ones, ones_cat}
use Rattle.std.proofs.Math.ListN.{length}
use Rattle.bits.specs.Bits.{pick, symbol, tab, tab_from, total, value}
use Rattle.bits.proofs.laws.Tab.{at_tab, length_tab, tab_same, tab_more, bits_tab}
use Rattle.bits.proofs.laws.Value.{value_lt, value_snoc}
use Rattle.burst.specs.Numbers.{first_burst}
use Rattle.places.specs.Places.{e_at}
use Rattle.burst.specs.Ring.{in_order}
use Rattle.burst.specs.Held.{held_block_at, held_block, saying, sayers, held_flag_at, held_flags}
use Rattle.places.proofs.laws.Places.{every_bit}
use Rattle.burst.proofs.laws.Ring.{in_order_at}
use Rattle.places.specs.laws.Table.{placed_in}

-- ---- the coded bits of block n, of the bursts w in order and what is gathered of them
module _ (held : List ℕ) (n : ℕ) (lh : length held ≡ 928) where
  found : (k : ℕ) → k < 456 → symbol (placed_in (in_order held (first_burst n)) k) ≡ held_block_at held n k
  unfolding placed_in held_block_at
  found k h = in_order_at held (first_burst n) (k % 8) (e_at k) lh (omega arith) (every_bit k h).within

  pub held_block_is : (b : ℕ) (w c z : List ℕ) → b ≡ first_burst n → w ≡ in_order held b → c ≡ tab 456 (placed_in w) → z ≡ tab (length c) (λ k. symbol (get_or c k 0))
      → z ≡ held_block held n
  unfolding held_block
  held_block_is b w c z eb ew ec ez =
      let s = in_order held (first_burst n) in
      let is : c ≡ tab 456 (placed_in s) = ec ∙ ap (λ (v : List ℕ). tab 456 (placed_in v)) (ew ∙ ap (in_order held) eb) in
      let long : length c ≡ 456 = ap length is ∙ length_tab 456 (placed_in s) in
      ez
      ∙ ap (λ (m : ℕ). tab m (λ k. symbol (get_or c k 0))) long
      ∙ tab_same 456 (λ k. symbol (get_or c k 0)) (held_block_at held n)
      (λ k h. ap (λ (v : List ℕ). symbol (get_or v k 0)) is ∙ ap symbol (at_tab 456 (placed_in s) k h) ∙ found k h)

-- ---- flags, one by one into a number of n bits
module _ (f : ℕ → ℕ) where
  one_more : (n : ℕ) → value (tab (suc n) f) ≡ 2 * value (tab n f) + f n
  one_more n = ap value (tab_more n f) ∙ value_snoc (tab n f) (f n)

  pub flags_more : (n v b : ℕ) → v ≡ value (tab n f) → b ≡ f n → 2 * v + b ≡ value (tab (n + 1) f)
  flags_more n v b ev eb = rw (add-one n, one_more n, ev, eb)

one_bit : (b : ℕ) → b ≤ 1 → ones b ≡ b
unfolding ones
one_bit zero h = refl
one_bit (suc zero) h = refl
one_bit (suc (suc b)) h = let z : ⊥ = omega arith in absurd z

module _ (f : ℕ → ℕ) (bits : (i : ℕ) → f i ≤ 1) where
  pub ones_of_flags : (n : ℕ) → ones (value (tab n f)) ≡ total n f
  unfolding total tab tab_from value ones
  ones_of_flags zero = refl
  ones_of_flags (suc n) =
      let cat : 2 * value (tab n f) + f n ≡ value (tab n f) * 2 ^ 1 + f n = omega arith in
      ap ones (one_more f n ∙ cat)
      ∙ ones_cat 1 (value (tab n f)) (f n) (omega (arith, bits n))
      ∙ ap₂ (λ (x y : ℕ). x + y) (ones_of_flags n) (one_bit (f n) (bits n))

  -- eight flags fit eight bits
  pub flags_room : (n v b : ℕ) → n < 8 → v ≡ value (tab n f) → b ≤ 1 → 2 * v + b < 256
  flags_room n v b h ev l =
      let below : value (tab n f) < 2 ^ n = subst (λ (k : ℕ). value (tab n f) < 2 ^ k) (length_tab n f) (value_lt (tab n f) (bits_tab n f bits)) in
      let few : n ≤ 7 = omega arith in
      let most : 2 ^ n ≤ 2 ^ 7 = pow_mono few in
      omega (arith, below, most, ev)

-- ---- the votes
-- 02, M-102: a missing flag has no vote
pub missing_says_neither : (b : ℕ) → b ≤ 1 → saying b 2 ≡ 0
unfolding saying
missing_says_neither zero h = refl
missing_says_neither (suc zero) h = refl
missing_says_neither (suc (suc b)) h = let z : ⊥ = omega arith in absurd z

-- whether a flag says b is a bit, so that the number of those that do has as many ones as there are
pub saying_bit : (b flag : ℕ) → saying b flag ≤ 1
unfolding saying
saying_bit b flag = either (eqb flag b)
  where
    either : (t : Bool) → pick t 1 0 ≤ 1
    either true = omega arith
    either false = omega arith

pub sayers_ones : (b : ℕ) (flag : ℕ → ℕ) → ones (sayers b flag) ≡ total 8 (λ i. saying b (flag i))
unfolding sayers
sayers_ones b flag = ones_of_flags (λ i. saying b (flag i)) (λ i. saying_bit b (flag i)) 8

pub held_ones : (b : ℕ) (held : List ℕ) (n : ℕ) → ones (held_flags b held n) ≡ total 8 (λ i. saying b (held_flag_at held n i))
unfolding held_flags
held_ones b held n = sayers_ones b (held_flag_at held n)
