-- The two tables of places, by one computed test over the entries of each; and that what is filled and gathered by them is as defined.
use Rattle.std.specs.Prelude.{Bool, true, false, List, ◌++◌, ◌≡◌, refl, ℕ, ◌+◌, ◌-◌, ◌*◌, ◌/◌, ◌%◌, ◌≤◌, ◌<◌, T, eqb, length, get_or, set}
use Rattle.std.proofs.Common.{⊎_elim, sym, ap, ap₂, ◌∙◌, eqb→eq, lit<, length-set, get_or-set_same, get_or-set_other, eqb-true, eq-eqb, ne_eqb}
use native.Mathlib.Omega.{arith}
use Rattle.std.proofs.lemmas.Bool.{eqb-false}
use Rattle.bits.specs.Bits.{pick, both, all_below, tab}
use Rattle.bits.proofs.laws.Cases.{lt_or_le}
use Rattle.bits.proofs.laws.Parts.{put, put_four}
use Rattle.bits.proofs.laws.Tab.{below, both_left, both_right, is_tab, at_tab, length_tab, at_left, at_right}
use Rattle.places.specs.Places.{place_of, e_of, e_at, place_at, bit_at, flag_in, cell, burst, four, gathered_at}
use Rattle.places.proofs.laws.Places.{every_bit}
use Rattle.places.specs.laws.Table.{bit_table, burst_of_twice, placed_in, laid, four_of_twice, in_row, bit_in, places}

agrees : ℕ → ℕ → Bool
agrees row x = eqb (in_row places row x) (116 * x + e_at (8 * row + x))

place_right : (row x : ℕ) → row < 57 → x < 8 → in_row places row x ≡ 116 * x + e_at (8 * row + x)
unfolding agrees places place_of e_of e_at
place_right row x hr hx = eqb→eq (in_row places row x) (116 * x + e_at (8 * row + x)) (below (agrees row) 8 (below (λ r. all_below (agrees r) 8) 57 tt row hr) x hx)

module _ (t : List (List ℕ)) (et : t ≡ places) (row x : ℕ) (hr : row < 57) (hx : x < 8) where
  is : in_row t row x ≡ 116 * x + e_at (8 * row + x)
  is = rw et (place_right row x hr hx)

  pub place_in : in_row t row x < 928
  place_in = omega (arith, is, (every_bit (8 * row + x) (omega arith)).within)

  pub placed : (bursts : List ℕ) → get_or bursts (in_row t row x) 0 ≡ placed_in bursts (8 * row + x)
  unfolding placed_in
  placed bursts =
      let e : (8 * row + x) % 8 ≡ x = omega arith in
      rw (is, e)

-- ---- a list twice: an index past the first copy finds the second
module _ (c : List ℕ) (n : ℕ) (l : length c ≡ n) where
  pub twice_first : (k : ℕ) → k < n → get_or (c ++ c) k 0 ≡ get_or c k 0
  twice_first k h = at_left c c k (omega (arith, l))

  pub twice_second : (k i : ℕ) → i ≡ n + k → get_or (c ++ c) i 0 ≡ get_or c k 0
  twice_second k i e = at_right c c n k i l e

-- four bursts that stand twice are a block's first four and its last four
pub placed_twice : (e : List ℕ) (k : ℕ) → length e ≡ 464 → k < 456 → placed_in (e ++ e) k ≡ gathered_at e k
unfolding placed_in gathered_at
placed_twice e k l h = ⊎_elim early late (lt_or_le (k % 8) 4)
  where
    early : k % 8 < 4 → get_or (e ++ e) (116 * (k % 8) + e_at k) 0 ≡ get_or e (116 * (k % 4) + e_at k) 0
    early f =
        let r : k % 8 ≡ k % 4 = omega (arith, f) in
        let x = (every_bit k h).within in
        twice_first e 464 l (116 * (k % 8) + e_at k) (omega (arith, f, x)) ∙ ap (λ (i : ℕ). get_or e (116 * i + e_at k) 0) r

    late : 4 ≤ k % 8 → get_or (e ++ e) (116 * (k % 8) + e_at k) 0 ≡ get_or e (116 * (k % 4) + e_at k) 0
    late f =
        let q : k % 8 % 4 ≡ k % 4 = omega arith in
        let r : k % 8 ≡ 4 + k % 8 % 4 = omega (arith, f) in
        twice_second e 464 l (116 * (k % 4) + e_at k) (116 * (k % 8) + e_at k) (omega (arith, q, r))

bit_agrees : ℕ → Bool
bit_agrees x = both (eqb (bit_in x) (bit_at 0 (place_at x))) (eqb (x % 2) (place_at x % 2))

bit_tested : (x : ℕ) → x < 116 → T (bit_agrees x)
unfolding bit_agrees bit_table place_at bit_at
bit_tested x h = below bit_agrees 116 tt x h

bit_right : (x : ℕ) → x < 116 → bit_in x ≡ bit_at 0 (place_at x)
unfolding bit_agrees
bit_right x h = eqb→eq (bit_in x) (bit_at 0 (place_at x)) (both_left (eqb (bit_in x) (bit_at 0 (place_at x))) (eqb (x % 2) (place_at x % 2)) (bit_tested x h))

side_right : (x : ℕ) → x < 116 → x % 2 ≡ place_at x % 2
unfolding bit_agrees
side_right x h = eqb→eq (x % 2) (place_at x % 2) (both_right (eqb (bit_in x) (bit_at 0 (place_at x))) (eqb (x % 2) (place_at x % 2)) (bit_tested x h))

in_block : (x : ℕ) → x < 116 → bit_in x < 456
unfolding bit_at
in_block x h = let e = bit_right x h in omega (arith, e)

further : (m i : ℕ) → (m % 456 + 57 * i) % 456 ≡ (m + 57 * i) % 456
further m i = omega arith

bit_further : (i j : ℕ) → (bit_at 0 j + 57 * i) % 456 ≡ bit_at i j
unfolding bit_at
bit_further i j =
    let e : 57 * (0 + 4 * (j % 2)) + 64 * (j / 2) + 57 * i ≡ 57 * (i + 4 * (j % 2)) + 64 * (j / 2) = omega arith in
    further (57 * (0 + 4 * (j % 2)) + 64 * (j / 2)) i ∙ ap (λ (x : ℕ). x % 456) e

-- a burst's byte but for its flags
unfoldable unflagged : ℕ → List ℕ → List ℕ → ℕ → ℕ
unflagged i a b x = pick (eqb (place_at x % 2) 0) (get_or a (bit_at i (place_at x)) 0) (get_or b (bit_at i (place_at x)) 0)

-- of the two bits of a row the first is at the even place and the second at the odd one
module _ (t : List (List ℕ)) (et : t ≡ bit_table) (i k : ℕ) where
  even : bit_in (2 * k) ≡ in_row t k 0
  even =
      let q : 2 * k / 2 ≡ k = omega arith in
      let r : 2 * k % 2 ≡ 0 = omega arith in
      rw (q, r, et)

  odd : bit_in (2 * k + 1) ≡ in_row t k 1
  odd =
      let q : (2 * k + 1) / 2 ≡ k = omega arith in
      let r : (2 * k + 1) % 2 ≡ 1 = omega arith in
      rw (q, r, et)

  pub bit_in_lem : i < 4 → k < 58 → (in_row t k 0 + 57 * i < 912) × (in_row t k 1 + 57 * i < 912)
  bit_in_lem hi hk = (omega (arith, even, in_block (2 * k) (omega arith)), omega (arith, odd, in_block (2 * k + 1) (omega arith)))

  pub laid_even : (a b : List ℕ) → get_or a (in_row t k 0 + 57 * i) 0 ≡ laid i a b (2 * k)
  unfolding laid
  laid_even a b = let r : 2 * k % 2 ≡ 0 = omega arith in rw (eq-eqb (2 * k % 2) 0 r, even)

  pub laid_odd : (a b : List ℕ) → get_or b (in_row t k 1 + 57 * i) 0 ≡ laid i a b (2 * k + 1)
  unfolding laid
  laid_odd a b = rw (ne_eqb ((2 * k + 1) % 2) 0 (λ (z : (2 * k + 1) % 2 ≡ 0). omega arith), odd)

round : (m : ℕ) → 456 ≤ m → m < 912 → m % 456 ≡ m - 456
round m h l = omega arith

around : (c : List ℕ) (m : ℕ) → length c ≡ 456 → m < 912 → get_or (c ++ c) m 0 ≡ get_or c (m % 456) 0
around c m l h =
    ⊎_elim (λ (f : m < 456). let e : m % 456 ≡ m = omega arith in twice_first c 456 l m f ∙ ap (λ (k : ℕ). get_or c k 0) (sym e))
    (λ (f : 456 ≤ m). let e : m ≡ 456 + (m - 456) = omega arith in
    twice_second c 456 l (m - 456) m e ∙ ap (λ (k : ℕ). get_or c k 0) (sym (round m f h)))
    (lt_or_le m 456)

stands : (i : ℕ) (a b : List ℕ) → i < 4 → length a ≡ 456 → length b ≡ 456 → (x : ℕ) → x < 116 → laid i (a ++ a) (b ++ b) x ≡ unflagged i a b x
unfolding laid unflagged
stands i a b hi la lb x h =
    let n : ℕ = bit_in x + 57 * i in
    let fits : n < 912 = let l = in_block x h in omega (arith, l, hi) in
    let k : n % 456 ≡ bit_at i (place_at x) = ap (λ (m : ℕ). (m + 57 * i) % 456) (bit_right x h) ∙ bit_further i (place_at x) in
    ap₂ (pick (eqb (x % 2) 0)) (around a n la fits) (around b n lb fits)
    ∙ ap₂ (λ (s m : ℕ). pick (eqb s 0) (get_or a m 0) (get_or b m 0)) (side_right x h) k

-- the flags are set last
flags_set : (e : List ℕ) (q p x v : ℕ) → length e ≡ 116 → get_or e x 0 ≡ v → get_or (set (set e 57 q) 58 p) x 0 ≡ pick (eqb x 57) q (pick (eqb x 58) p v)
flags_set e q p x v l is = by_tests (eqb x 57) (eqb x 58) refl refl
  where
    by_tests : (f g : Bool) → eqb x 57 ≡ f → eqb x 58 ≡ g → get_or (set (set e 57 q) 58 p) x 0 ≡ pick f q (pick g p v)
    by_tests true g ef eg =
        let at : x ≡ 57 = eqb-true x 57 ef in
        let here : 57 < length e = omega (arith, l) in
        get_or-set_other (set e 57 q) 58 x p 0 (λ (z : x ≡ 58). omega (arith, at, z))
        ∙ ap (λ (k : ℕ). get_or (set e 57 q) k 0) at ∙ get_or-set_same e 57 q 0 here
    by_tests false true ef eg =
        let at : x ≡ 58 = eqb-true x 58 eg in
        let here : 58 < length (set e 57 q) = rw (length-set e 57 q) (omega (arith, l)) in
        ap (λ (k : ℕ). get_or (set (set e 57 q) 58 p) k 0) at ∙ get_or-set_same (set e 57 q) 58 p 0 here
    by_tests false false ef eg = get_or-set_other (set e 57 q) 58 x p 0 (eqb-false x 58 eg) ∙ get_or-set_other e 57 x q 0 (eqb-false x 57 ef) ∙ is

pub length_twice : (i : ℕ) (a b : List ℕ) (flags : ℕ) → length (burst_of_twice i a b flags) ≡ 116
unfolding burst_of_twice
length_twice i a b flags =
    let e = tab 116 (laid i a b) in
    length-set (set e 57 (flag_in flags (2 * i))) 58 (flag_in flags (2 * i + 1)) ∙ length-set e 57 (flag_in flags (2 * i)) ∙ length_tab 116 (laid i a b)

module _ (a b : List ℕ) (flags : ℕ) (la : length a ≡ 456) (lb : length b ≡ 456) where
  burst_at : (i x : ℕ) → i < 4 → x < 116 → get_or (burst_of_twice i (a ++ a) (b ++ b) flags) x 0 ≡ cell i a b flags x
  unfolding burst_of_twice cell unflagged
  burst_at i x hi h =
      let two = laid i (a ++ a) (b ++ b) in
      flags_set (tab 116 two) (flag_in flags (2 * i)) (flag_in flags (2 * i + 1)) x (unflagged i a b x)
      (length_tab 116 two) (at_tab 116 two x h ∙ stands i a b hi la lb x h)

  burst_twice : (i : ℕ) → i < 4 → burst_of_twice i (a ++ a) (b ++ b) flags ≡ burst i a b flags
  unfolding burst
  burst_twice i hi =
      is_tab 116 (cell i a b flags) (burst_of_twice i (a ++ a) (b ++ b) flags) (length_twice i (a ++ a) (b ++ b) flags) (λ x h. burst_at i x hi h)

pub parts_twice : (a b : List ℕ) (flags : ℕ) (e w x y z : List ℕ) → length e ≡ 464
    → w ≡ burst_of_twice 0 a b flags → x ≡ burst_of_twice 1 a b flags → y ≡ burst_of_twice 2 a b flags → z ≡ burst_of_twice 3 a b flags
    → put 348 116 z (put 232 116 y (put 116 116 x (put 0 116 w e))) ≡ four_of_twice a b flags
unfolding four_of_twice
parts_twice a b flags e w x y z l ew ex ey ez =
    put_four 116 e w x y z l (ap length ew ∙ length_twice 0 a b flags) (ap length ex ∙ length_twice 1 a b flags) (ap length ey ∙ length_twice 2 a b flags)
    ∙ rw (ew, ex, ey, ez)

pub four_twice : (a b : List ℕ) (flags : ℕ) → length a ≡ 456 → length b ≡ 456 → four_of_twice (a ++ a) (b ++ b) flags ≡ four a b flags
unfolding four_of_twice four
four_twice a b flags la lb =
    let is = burst_twice a b flags la lb in
    rw (is 0 (lit< tt), is 1 (lit< tt), is 2 (lit< tt), is 3 (lit< tt))
