-- One law over the length: a table that passes a computed test is a permutation. And what a permutation fetched is put back.
use Rattle.std.specs.Prelude.{zero, Bool, List, [], ◌∷◌, ◌≡◌, refl, ℕ, suc, ◌-◌, ◌≤◌, ◌<◌, T, eqb, leb, ltb, length}
use Rattle.std.proofs.Math.Path.{sym, ap}
use Rattle.std.proofs.Common.{◌∙◌, arith, leb→le, ltb→lt}
use Rattle.std.proofs.Math.Dec.{eqb→eq}
use Rattle.std.proofs.Math.ListN.{get_or}
use Rattle.bits.specs.Bits.{NoneOver, both, all_below, tab, tab_from}
use Rattle.bits.proofs.laws.Tab.{below, both_left, both_right, length_tab, at_tab, is_tab, over_tab}
use Rattle.order.specs.Order.{from1, Within, fetched, place_in, Permutation, put_back}

-- ---- an example: three numbers that a table turns round, and back
turned : fetched (2 ∷ 3 ∷ 1 ∷ []) (7 ∷ 8 ∷ 9 ∷ []) ≡ 8 ∷ 9 ∷ 7 ∷ []
unfolding fetched tab tab_from
turned = refl

turned_back : put_back (2 ∷ 3 ∷ 1 ∷ []) (8 ∷ 9 ∷ 7 ∷ []) ≡ 7 ∷ 8 ∷ 9 ∷ []
unfolding put_back place_in tab tab_from
turned_back = refl

-- ---- the test: at place k stands a number from 1 to n, for the first time; and k + 1 stands at one of n places
abbrev pub inside : ℕ → List ℕ → ℕ → Bool
inside n table k = both (leb 1 (get_or table k 0)) (leb (get_or table k 0) n)

abbrev pub first_time : List ℕ → ℕ → Bool
first_time table k = eqb (place_in table (get_or table k 0)) k

abbrev pub stands : ℕ → List ℕ → ℕ → Bool
stands n table k = both (ltb (place_in table (suc k)) n) (eqb (get_or table (place_in table (suc k)) 0) (suc k))

unfoldable pub permutes : ℕ → List ℕ → Bool
permutes n table = both (eqb (length table) n) (both (all_below (inside n table) n) (both (all_below (first_time table) n) (all_below (stands n table) n)))

-- the part of it that a table needs of which nothing is put back
unfoldable pub places : ℕ → List ℕ → Bool
places n table = all_below (inside n table) (length table)

pub is_within : (n : ℕ) (table : List ℕ) → T (places n table) → Within n table
unfolding places
is_within n table t k h =
    let x : ℕ = get_or table k 0 in
    let s : T (inside n table k) = below (inside n table) (length table) t k h in
    (leb→le 1 x (both_left (leb 1 x) (leb x n) s), leb→le x n (both_right (leb 1 x) (leb x n) s))

-- ---- the law
module _ (n : ℕ) (table : List ℕ) (t : T (permutes n table)) where
  abbrev ins : Bool
  ins = all_below (inside n table) n

  abbrev firsts : Bool
  firsts = all_below (first_time table) n

  abbrev alls : Bool
  alls = all_below (stands n table) n

  long : length table ≡ n
  unfolding permutes
  long = eqb→eq (length table) n (both_left (eqb (length table) n) (both ins (both firsts alls)) t)

  tests : T (both ins (both firsts alls))
  unfolding permutes
  tests = both_right (eqb (length table) n) (both ins (both firsts alls)) t

  within : Within n table
  unfolding places
  within = is_within n table (rw long (both_left ins (both firsts alls) tests))

  -- where an entry stands, it stands for the first time
  first : (k : ℕ) → k < n → place_in table (get_or table k 0) ≡ k
  first k h = eqb→eq (place_in table (get_or table k 0)) k (below (first_time table) n (both_left firsts alls (both_right ins (both firsts alls) tests)) k h)

  every : (x : ℕ) → 1 ≤ x → x ≤ n → (place_in table x < n) × (get_or table (place_in table x) 0 ≡ x)
  every zero h l = elim h [ ]
  every (suc k) h l =
      let p : ℕ = place_in table (suc k) in
      let s : T (stands n table k) = below (stands n table) n (both_right firsts alls (both_right ins (both firsts alls) tests)) k l in
      (ltb→lt p n (both_left (ltb p n) (eqb (get_or table p 0) (suc k)) s), eqb→eq (get_or table p 0) (suc k) (both_right (ltb p n) (eqb (get_or table p 0) (suc k)) s))

  pub permutation : Permutation n table
  permutation = record {
    long = long;
    within = within;
    every = every;
    once = λ k l hk hl e. sym (first k hk) ∙ ap (place_in table) e ∙ first l hl;
  }

-- ---- there and back, and back and there
pub from_suc : (w : List ℕ) (i : ℕ) → from1 w (suc i) ≡ get_or w i 0
from_suc w i = let e : suc i - 1 ≡ i = omega arith in ap (λ (j : ℕ). get_or w j 0) e

pub length_fetched : (table w : List ℕ) → length (fetched table w) ≡ length table
unfolding fetched
length_fetched table w = length_tab (length table) (λ k. from1 w (get_or table k 0))

pub at_fetched : (table w : List ℕ) (k : ℕ) → k < length table → get_or (fetched table w) k 0 ≡ from1 w (get_or table k 0)
unfolding fetched
at_fetched table w k h = at_tab (length table) (λ k. from1 w (get_or table k 0)) k h

pub over_fetched : (most : ℕ) (table w : List ℕ) → NoneOver most w → NoneOver most (fetched table w)
unfolding fetched
over_fetched most table w nw = over_tab most (length table) (λ k. from1 w (get_or table k 0)) (λ k. nw (get_or table k 0 - 1))

pub length_put_back : (table d : List ℕ) → length (put_back table d) ≡ length table
unfolding put_back
length_put_back table d = length_tab (length table) (λ i. get_or d (place_in table (suc i)) 0)

pub over_put_back : (most : ℕ) (table d : List ℕ) → NoneOver most d → NoneOver most (put_back table d)
unfolding put_back
over_put_back most table d nd = over_tab most (length table) (λ i. get_or d (place_in table (suc i)) 0) (λ i. nd (place_in table (suc i)))

module _ (n : ℕ) (table : List ℕ) (p : Permutation n table) where
  -- w(x) is the bit that comes where x stands
  pub at_put_back : (d : List ℕ) (x : ℕ) → 1 ≤ x → x ≤ n → from1 (put_back table d) x ≡ get_or d (place_in table x) 0
  unfolding put_back
  at_put_back d zero h l = elim h [ ]
  at_put_back d (suc i) h l = from_suc (put_back table d) i ∙ at_tab (length table) (λ i. get_or d (place_in table (suc i)) 0) i (omega (arith, p.long, l))

  -- every entry stands at its own place
  pub place_of_lem : (k : ℕ) → k < n → place_in table (get_or table k 0) ≡ k
  place_of_lem k h =
      let x : ℕ = get_or table k 0 in
      let within = p.within k (omega (arith, p.long, h)) in
      let e = p.every x within.0 within.1 in
      p.once (place_in table x) k e.0 h e.1

  -- what was fetched out of w is put back as w
  pub there_and_back : (w : List ℕ) → length w ≡ n → put_back table (fetched table w) ≡ w
  unfolding put_back
  there_and_back w l =
      sym (is_tab (length table) (λ i. get_or (fetched table w) (place_in table (suc i)) 0) w (l ∙ sym p.long)
      (λ i h. let e = p.every (suc i) (omega arith) (omega (arith, p.long, h)) in
      sym (at_fetched table w (place_in table (suc i)) (omega (arith, e.0, p.long)) ∙ ap (from1 w) e.1 ∙ from_suc w i)))

  -- and what was put back is fetched again
  pub back_and_there : (d : List ℕ) → length d ≡ n → fetched table (put_back table d) ≡ d
  unfolding fetched
  back_and_there d l =
      sym (is_tab (length table) (λ k. from1 (put_back table d) (get_or table k 0)) d (l ∙ sym p.long)
      (λ k h. let within = p.within k h in
      sym (at_put_back d (get_or table k 0) within.0 within.1 ∙ ap (λ (j : ℕ). get_or d j 0) (place_of_lem k (omega (arith, p.long, h))))))
