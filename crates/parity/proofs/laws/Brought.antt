-- The same remainder with the bits brought down one by one: what the loop of `parity::along` holds, as a list and as a number.
use Rattle.std.specs.Prelude.{List, [], ◌∷◌, ◌++◌, ◌≡◌, refl, ℕ, zero, suc, ◌+◌, ◌-◌, ◌*◌, ◌/◌, ◌^◌, ◌≤◌, ◌<◌, length, get_or, take, drop, replicate}
use Rattle.std.proofs.Common.{append_assoc, append-nil, ⊎_elim, sym, ap, ap₂, ◌∙◌, subst, add-one, arith, length-append, length-drop, take-append-drop, length-take-le, take-suc, lt-ltb, le-ltb}
use Rattle.std.proofs.Math.Nat.{pow-succ', div-eq_of_lt}
use Rattle.std.proofs.Math.Arith.{digits_div}
use Rattle.std.specs.Int.Bits.{bit_xor, xor_self, xor_zero_r}
use Rattle.std.proofs.lemmas.Nat.{xor_block, xor_comm, xor_lt}
use Rattle.std.proofs.Math.Seq.{append_snoc}
use Rattle.bits.specs.Bits.{Bits, add, zeros, value}
use Rattle.bits.proofs.laws.Sum.{add_append, length_add, length_zeros, bits_add, bits_zeros, bits_append, bits_cons}
use Rattle.bits.proofs.laws.Cases.{lt_or_le}
use Rattle.bits.proofs.laws.Value.{value_lt, value_snoc, value_add}
use Rattle.parity.specs.Division.{divide, remainder}
use Rattle.parity.specs.laws.Brought.{brought_down}

-- bit b is brought down behind the bits s that are held; a leading 1 is struck out by the generator
unfoldable pub bring_down : List ℕ → List ℕ → ℕ → List ℕ
bring_down g [] b = []
bring_down g (zero ∷ s) b = s ++ (b ∷ [])
bring_down g (suc a ∷ s) b = add g (s ++ (b ∷ []))

unfoldable pub along : List ℕ → List ℕ → List ℕ → List ℕ
along g s [] = s
along g s (b ∷ w) = along g (bring_down g s b) w

none : Bits []
none k = omega arith

pub length_bring : (g s : List ℕ) (b : ℕ) → length (bring_down g s b) ≡ length s
unfolding bring_down
length_bring g [] b = refl
length_bring g (zero ∷ s) b = length-append s (b ∷ []) ∙ omega arith
length_bring g (suc a ∷ s) b = length_add g (s ++ (b ∷ [])) ∙ length-append s (b ∷ []) ∙ omega arith

bits_bring : (g s : List ℕ) (b : ℕ) → Bits s → b ≤ 1 → Bits (bring_down g s b)
unfolding bring_down
bits_bring g [] b bs h k = bs k
bits_bring g (zero ∷ s) b bs h k = bits_append s (b ∷ []) (λ i. bs (suc i)) (bits_cons b [] h none) k
bits_bring g (suc a ∷ s) b bs h k = bits_add g (s ++ (b ∷ [])) (bits_append s (b ∷ []) (λ i. bs (suc i)) (bits_cons b [] h none)) k

divide_along : (g s w : List ℕ) → 0 < length g → length s ≡ length g → divide g (length w) (s ++ w) ≡ along g s w
unfolding divide along bring_down
divide_along g s [] l e = append-nil s
divide_along g [] (b ∷ w) l e = let z : ⊥ = omega (arith, e) in absurd z
divide_along g (zero ∷ s) (b ∷ w) l e =
    rw (← append_snoc s b w) (divide_along g (s ++ (b ∷ [])) w l (length-append s (b ∷ []) ∙ omega (arith, e)))
divide_along g (suc a ∷ s) (b ∷ w) l e =
    let n : length (s ++ (b ∷ [])) ≡ length g = length-append s (b ∷ []) ∙ omega (arith, e) in
    rw (← append_snoc s b w, add_append g (s ++ (b ∷ [])) w (omega (arith, n)))
    (divide_along g (add g (s ++ (b ∷ []))) w l (length_add g (s ++ (b ∷ [])) ∙ n))

along_append : (g s v w : List ℕ) → along g s (v ++ w) ≡ along g (along g s v) w
unfolding along
along_append g s [] w = refl
along_append g s (b ∷ v) w = along_append g (bring_down g s b) v w

-- bits that are brought down behind zeros only take their places
shift_in : (g s w : List ℕ) → along g (zeros (length w) ++ s) w ≡ s ++ w
unfolding along bring_down zeros
shift_in g s [] = sym (append-nil s)
shift_in g s (b ∷ w) =
    rw (append_assoc (replicate (length w) 0) s (b ∷ [])) (shift_in g (s ++ (b ∷ [])) w ∙ append_snoc s b w)

pub remainder_along : (g w : List ℕ) → 0 < length g → length g ≤ length w → remainder g w ≡ along g (zeros (length g)) w
unfolding remainder
remainder_along g w l h =
    let r = length g in
    let tr : length (take r w) ≡ r = length-take-le r w h in
    let dr : length (drop r w) ≡ length w - r = length-drop r w in
    let first : along g (zeros r) (take r w) ≡ take r w =
    ap (λ (z : List ℕ). along g z (take r w)) (sym (append-nil (zeros r)) ∙ ap (λ (n : ℕ). zeros n ++ []) (sym tr)) ∙ shift_in g [] (take r w) in
    ap (λ (n : ℕ). divide g n w) (sym dr)
    ∙ ap (divide g (length (drop r w))) (sym (take-append-drop r w))
    ∙ divide_along g (take r w) (drop r w) l tr
    ∙ ap (λ (s : List ℕ). along g s (drop r w)) (sym first)
    ∙ sym (along_append g (zeros r) (take r w) (drop r w))
    ∙ ap (along g (zeros r)) (take-append-drop r w)

-- one bit more is brought down behind the remainder
pub remainder_more : (g w : List ℕ) (b : ℕ) → 0 < length g → length g ≤ length w → remainder g (w ++ (b ∷ [])) ≡ bring_down g (remainder g w) b
unfolding along
remainder_more g w b l h =
    remainder_along g (w ++ (b ∷ [])) l (rw (length-append w (b ∷ [])) (omega (arith, h)))
    ∙ along_append g (zeros (length g)) w (b ∷ [])
    ∙ ap (λ (s : List ℕ). bring_down g s b) (sym (remainder_along g w l h))

unfoldable pub along_n : ℕ → ℕ → ℕ → List ℕ → ℕ
along_n g top h [] = h
along_n g top h (b ∷ w) = along_n g top (brought_down g top h b) w

bring_low : (g top h b x : ℕ) → 2 * h + b ≡ x → x < top → x ≡ brought_down g top h b
unfolding brought_down
bring_low g top h b x e l = rw (e, lt-ltb x top l)

bring_high : (g top h b x : ℕ) → 2 * h + b ≡ top + x → bit_xor g x ≡ brought_down g top h b
unfolding brought_down
bring_high g top h b x e =
    let d : 2 * h + b - top ≡ x = omega arith in
    rw (d, le-ltb (2 * h + b) top (omega arith))

pub times_bit : (m q : ℕ) → q ≤ 1 → m * q ≤ m
times_bit m zero h = omega arith
times_bit m (suc zero) h = omega arith
times_bit m (suc (suc q)) h = let z : ⊥ = omega arith in absurd z

-- ---- the quotient's next bit, 0 or 1, and so often the divisor taken away
module _ (g k h b : ℕ) (lh : h < 2 ^ k) (lb : b ≤ 1) where
  abbrev brought : ℕ
  brought = 2 * h + b

  quotient_0 : brought < 2 ^ k → brought / 2 ^ k ≡ 0
  quotient_0 l = div-eq_of_lt l

  quotient_1 : (x : ℕ) → brought ≡ 2 ^ k + x → x < 2 ^ k → brought / 2 ^ k ≡ 1
  quotient_1 x e l = let s : brought ≡ 1 * 2 ^ k + x = omega arith in ap (λ (y : ℕ). y / 2 ^ k) s ∙ digits_div 1 l

  pub quotient_bit : brought / 2 ^ k ≤ 1
  quotient_bit =
      ⊎_elim (λ (l : brought < 2 ^ k). rw (quotient_0 l) (omega arith))
      (λ (l : 2 ^ k ≤ brought). rw (quotient_1 (brought - 2 ^ k) (omega arith) (omega arith)) (omega arith))
      (lt_or_le brought (2 ^ k))

  pub bring_times : g < 2 ^ k → bit_xor brought ((2 ^ k + g) * (brought / 2 ^ k)) ≡ brought_down g (2 ^ k) h b
  bring_times lg =
      ⊎_elim (λ (l : brought < 2 ^ k).
      let z : (2 ^ k + g) * (brought / 2 ^ k) ≡ 0 = ap (λ (q : ℕ). (2 ^ k + g) * q) (quotient_0 l) ∙ omega arith in
      ap (bit_xor brought) z ∙ xor_zero_r brought ∙ bring_low g (2 ^ k) h b brought refl l)
      (λ (l : 2 ^ k ≤ brought).
      let x : ℕ = brought - 2 ^ k in
      let lx : x < 2 ^ k = omega arith in
      let e : brought ≡ 2 ^ k + x = omega arith in
      let m : brought ≡ 1 * 2 ^ k + x = omega arith in
      let one : (2 ^ k + g) * (brought / 2 ^ k) ≡ 1 * 2 ^ k + g = ap (λ (q : ℕ). (2 ^ k + g) * q) (quotient_1 x e lx) ∙ omega arith in
      let off : bit_xor 1 1 * 2 ^ k + bit_xor x g ≡ bit_xor x g = ap (λ (y : ℕ). y * 2 ^ k + bit_xor x g) (xor_self 1) ∙ omega arith in
      ap₂ bit_xor m one ∙ xor_block k 1 1 x g lx lg ∙ off ∙ xor_comm x g ∙ bring_high g (2 ^ k) h b x e)
      (lt_or_le brought (2 ^ k))

bring_value : (g s : List ℕ) (b : ℕ) → 0 < length g → length s ≡ length g → Bits g → Bits s → b ≤ 1
    → value (bring_down g s b) ≡ brought_down (value g) (2 ^ length g) (value s) b
unfolding bring_down value
bring_value g [] b l e bg bs h = let z : ⊥ = omega (arith, e) in absurd z
bring_value g (zero ∷ s) b l e bg bs h =
    let n : length (s ++ (b ∷ [])) ≡ length g = length-append s (b ∷ []) ∙ omega (arith, e) in
    let t : value (s ++ (b ∷ [])) < 2 ^ length g = rw n at (value_lt (s ++ (b ∷ [])) (bits_append s (b ∷ []) (λ i. bs (suc i)) (bits_cons b [] h none))) in
    bring_low (value g) (2 ^ length g) (0 * 2 ^ length s + value s) b (value (s ++ (b ∷ []))) (omega (arith, value_snoc s b)) t
bring_value g (suc zero ∷ s) b l e bg bs h =
    let n : length (s ++ (b ∷ [])) ≡ length g = length-append s (b ∷ []) ∙ omega (arith, e) in
    let p : 2 ^ length g ≡ 2 * 2 ^ length s = ap (λ (k : ℕ). 2 ^ k) (sym e) ∙ pow-succ' 2 (length s) in
    value_add g (s ++ (b ∷ [])) (sym n) bg (bits_append s (b ∷ []) (λ i. bs (suc i)) (bits_cons b [] h none))
    ∙ bring_high (value g) (2 ^ length g) (1 * 2 ^ length s + value s) b (value (s ++ (b ∷ []))) (omega (arith, value_snoc s b, p))
bring_value g (suc (suc a) ∷ s) b l e bg bs h = let i : suc (suc a) ≤ 1 = bs 0 in let z : ⊥ = omega arith in absurd z

along_value : (g s w : List ℕ) → 0 < length g → length s ≡ length g → Bits g → Bits s → Bits w
    → value (along g s w) ≡ along_n (value g) (2 ^ length g) (value s) w
unfolding along along_n
along_value g s [] l e bg bs bw = refl
along_value g s (b ∷ w) l e bg bs bw =
    along_value g (bring_down g s b) w l (length_bring g s b ∙ e) bg (bits_bring g s b bs (bw 0)) (λ k. bw (suc k))
    ∙ ap (λ (x : ℕ). along_n (value g) (2 ^ length g) x w) (bring_value g s b l e bg bs (bw 0))

value_zeros : (n : ℕ) → value (zeros n) ≡ 0
unfolding value zeros
value_zeros zero = refl
value_zeros (suc n) = omega (arith, value_zeros n)

-- ---- what the loop needs
pub remainder_value : (g w : List ℕ) → 0 < length g → length g ≤ length w → Bits g → Bits w
    → along_n (value g) (2 ^ length g) 0 w ≡ value (remainder g w)
remainder_value g w l h bg bw =
    ap (λ (x : ℕ). along_n (value g) (2 ^ length g) x w) (sym (value_zeros (length g)))
    ∙ sym (along_value g (zeros (length g)) w l (length_zeros (length g)) bg (bits_zeros (length g)) bw)
    ∙ ap value (sym (remainder_along g w l h))

along_n_append : (g top h : ℕ) (v w : List ℕ) → along_n g top h (v ++ w) ≡ along_n g top (along_n g top h v) w
unfolding along_n
along_n_append g top h [] w = refl
along_n_append g top h (b ∷ v) w = along_n_append g top (brought_down g top h b) v w

pub along_n_more : (g top h : ℕ) (w : List ℕ) (i : ℕ) → i < length w → along_n g top h (take (i + 1) w) ≡ brought_down g top (along_n g top h (take i w)) (get_or w i 0)
unfolding along_n
along_n_more g top h w i l =
    rw (add-one i, take-suc w i 0 l) (along_n_append g top h (take i w) (get_or w i 0 ∷ []))

pub brought_down_lt : (g k h b : ℕ) → g < 2 ^ k → h < 2 ^ k → b ≤ 1 → brought_down g (2 ^ k) h b < 2 ^ k
brought_down_lt g k h b lg lh lb = ⊎_elim (λ (l : 2 * h + b < 2 ^ k). subst (λ (x : ℕ). x < 2 ^ k) (bring_low g (2 ^ k) h b (2 * h + b) refl l) l)
    (λ (l : 2 ^ k ≤ 2 * h + b). let x : ℕ = 2 * h + b - 2 ^ k in
    subst (λ (x : ℕ). x < 2 ^ k) (bring_high g (2 ^ k) h b x (omega arith)) (xor_lt k g x lg (omega arith)))
    (lt_or_le (2 * h + b) (2 ^ k))
