-- A block that was coded, and that the search finds in what arrived, is heard as it was, once over its length, the generator and the colour.
use Rattle.std.specs.Prelude.{true, false, ◌≡◌, drop}
use mathlib.Core.List.{List, ◌++◌, append_assoc}
use Rattle.std.proofs.Math.Path.{refl, sym, ap, ap₂, subst}
use Rattle.std.proofs.Common.{◌∙◌, arith}
use Prim.Native.Nat.{ℕ, ◌+◌, ◌-◌, ◌*◌, ◌≤◌}
use Rattle.std.proofs.Math.ListN.{length, take, length-append}
use Rattle.std.proofs.Math.Seq.{take_at, drop_at}
use borrow.Author.Tests.{eq-eqb, eqb-true}
use Rattle.bits.specs.Bits.{Bits, missing, add, digits, value, ones, zeros}
use Rattle.bits.proofs.laws.Cases.{not_true}
use Rattle.bits.proofs.laws.Sum.{length_ones, length_zeros, bits_ones, bits_zeros, bits_append, length_add, bits_add, add_assoc, add_twice, add_self, add_nothing, sum_nothing}
use Rattle.bits.proofs.laws.Value.{length_digits, bits_digits, digits_value}
use Rattle.parity.specs.Division.{parity, remainder}
use Rattle.parity.proofs.laws.Division.{length_parity, bits_parity, parity_leaves, parity_only, remainder_after}
use Rattle.trellis.specs.Nearest.{Candidate, Found, disagreements, nearest, longest}
use Rattle.convolution.specs.Pairs.{coded}
use Rattle.trellis.proofs.laws.Distance.{corrected}
use Rattle.coder.specs.Received.{all_ones, block_heard}

-- ---- a list of bits by its number
pub same_value : (v w : List ℕ) → length v ≡ length w → Bits v → Bits w → value v ≡ value w → v ≡ w
same_value v w l bv bw e = sym (digits_value v bv) ∙ ap₂ digits l e ∙ digits_value w bw

-- ---- the verdict's number is that of all ones exactly where the remainder is all ones
module _ (g d q : List ℕ) (lq : length q ≡ length g) (bd : Bits d) (bq : Bits q) where
  pub ones_good : remainder g (d ++ q) ≡ ones (length g) → all_ones g (d ++ q) ≡ true
  unfolding all_ones
  ones_good e = eq-eqb _ _ (ap value e)

  pub good_ones : all_ones g (d ++ q) ≡ true → remainder g (d ++ q) ≡ ones (length g)
  unfolding all_ones
  good_ones e =
      let x : List ℕ = remainder g (d ++ zeros (length g)) in
      let r : remainder g (d ++ q) ≡ add x q = remainder_after g d q lq bd bq in
      let lr : length (remainder g (d ++ q)) ≡ length (ones (length g)) = ap length r ∙ length_add x q ∙ lq ∙ sym (length_ones (length g)) in
      let br : Bits (remainder g (d ++ q)) = subst Bits (sym r) (bits_add x q bq) in
      same_value (remainder g (d ++ q)) (ones (length g)) lr br (bits_ones (length g)) (eqb-true (value (remainder g (d ++ q))) (value (ones (length g))) e)

-- ---- the verdict over the parity bits of d, to which two colours are added: good only where they are one
module _ (g d : List ℕ) (bd : Bits d) where
  abbrev p : List ℕ
  p = parity g d

  module _ (b : List ℕ) (lb : length b ≡ length g) (bb : Bits b) where
    twice : add (add p b) b ≡ p
    twice =
        let lp : length p ≡ length g = length_parity g d bd in
        sym (add_assoc p b b refl) ∙ ap (add p) (add_self b bb) ∙ ap (λ (k : ℕ). add p (zeros k)) lb ∙ add_nothing (length g) p lp (bits_parity g d bd)

    pub same_colour : all_ones g (d ++ add (add p b) b) ≡ true
    unfolding all_ones
    same_colour = eq-eqb _ _ (ap (λ (w : List ℕ). value (remainder g (d ++ w))) twice ∙ ap value (parity_leaves g d bd))

  module _ (a b : List ℕ) (la : length a ≡ length g) (lb : length b ≡ length g) (ba : Bits a) (bb : Bits b) where
    sum_is : add (add p a) b ≡ p → a ≡ b
    sum_is e =
        let lp : length p ≡ length g = length_parity g d bd in
        let nothing : add a b ≡ zeros (length g) =
        sym (add_twice p (add a b) (bits_add a b bb)) ∙ ap (add p) (add_assoc p a b (la ∙ sym lb) ∙ e) ∙ add_self p (bits_parity g d bd) ∙ ap zeros lp in
        sum_nothing (length g) a b la ba bb nothing

    pub other_colour : (a ≡ b → ⊥) → all_ones g (d ++ add (add p a) b) ≡ false
    other_colour n =
        let q : List ℕ = add (add p a) b in
        let lq : length q ≡ length g = length_add (add p a) b ∙ lb in
        let bq : Bits q = bits_add (add p a) b bb in
        not_true (all_ones g (d ++ q)) (λ (e : all_ones g (d ++ q) ≡ true). n (sum_is (parity_only g d bd q lq bq (good_ones g d q lq bd bq e))))

-- ---- u of a block d with its parity bits over g, to which colour a is added
unfoldable pub coloured : List ℕ → List ℕ → List ℕ → List ℕ
coloured g a d = d ++ (add (parity g d) a ++ zeros 4)

module _ (g a d : List ℕ) (bd : Bits d) (la : length a ≡ length g) (ba : Bits a) where
  abbrev n : ℕ
  n = length d + length g + 4

  abbrev checks : List ℕ
  checks = add (parity g d) a

  checks_long : length checks ≡ length g
  checks_long = length_add (parity g d) a ∙ la

  front : coloured g a d ≡ (d ++ checks) ++ zeros 4
  unfolding coloured
  front = sym (append_assoc d checks (zeros 4))

  front_long : length (d ++ checks) ≡ n - 4
  front_long = length-append d checks ∙ ap (λ (k : ℕ). length d + k) checks_long ∙ omega arith

  pub coloured_candidate : Candidate (length d + length g + 4) (coloured g a d)
  unfolding coloured
  coloured_candidate = record {
    bits = bits_append d (checks ++ zeros 4) bd (bits_append checks (zeros 4) (bits_add (parity g d) a ba) (bits_zeros 4));
    long = rw (length-append d (checks ++ zeros 4), length-append checks (zeros 4), checks_long, length_zeros 4) (omega arith);
    ends = ap (drop (n - 4)) front ∙ drop_at (d ++ checks) (zeros 4) (n - 4) front_long;
  }

  -- 02, M-102: where t bits were altered and m are missing, 2t + m at most 6, it is found
  pub bears_few : (c : List ℕ) → length d + length g + 4 ≤ longest → length c ≡ 2 * (length d + length g + 4) → 2 * disagreements c (coded (coloured g a d)) + missing c ≤ 6
      → Found c (length d + length g + 4) (coloured g a d)
  bears_few c short lc few = corrected n c (coloured g a d) coloured_candidate lc short few

  module _ (c : List ℕ) (found : Found c (length d + length g + 4) (coloured g a d)) where
    -- the bits and the count
    pub restored_bits : (j : ℕ) → (block_heard g j (length d) c).bits ≡ d
    unfolding block_heard coloured
    restored_bits j = ap (take (length d)) found.0 ∙ take_at d (checks ++ zeros 4) (length d) refl

    pub restored_count : (j : ℕ) → (block_heard g j (length d) c).count ≡ disagreements c (coded (coloured g a d))
    unfolding block_heard
    restored_count j = found.1

    -- the verdict
    verdict_of : (j : ℕ) → (block_heard g j (length d) c).good ≡ all_ones g (d ++ add checks (digits (length g) j))
    unfolding block_heard coloured
    verdict_of j =
        let tail : take (length g) (drop (length d) (nearest c n)) ≡ checks =
        ap (λ (u : List ℕ). take (length g) (drop (length d) u)) found.0
        ∙ ap (take (length g)) (drop_at d (checks ++ zeros 4) (length d) refl)
        ∙ take_at checks (zeros 4) (length g) checks_long in
        ap₂ (λ (x y : List ℕ). all_ones g (x ++ add y (digits (length g) j)))
        (ap (take (length d)) found.0 ∙ take_at d (checks ++ zeros 4) (length d) refl) tail

    pub restored_good : (j : ℕ) → a ≡ digits (length g) j → (block_heard g j (length d) c).good ≡ true
    restored_good j e =
        verdict_of j
        ∙ ap (λ (x : List ℕ). all_ones g (d ++ add (add (parity g d) x) (digits (length g) j))) e
        ∙ same_colour g d bd (digits (length g) j) (length_digits (length g) j) (bits_digits (length g) j)

    pub restored_bad : (j : ℕ) → (a ≡ digits (length g) j → ⊥) → (block_heard g j (length d) c).good ≡ false
    restored_bad j other =
        verdict_of j ∙ other_colour g d bd a (digits (length g) j) la (length_digits (length g) j) ba (bits_digits (length g) j) other
