-- What the loops need: the entries of a table by their rows; and a loop that puts bits back, each at the place that the table says: its invariant, its start, its
-- turn and its end.
use Rattle.std.specs.Prelude.{List, [], ◌≡◌, ℕ, suc, ◌+◌, ◌-◌, ◌*◌, ◌/◌, ◌%◌, ◌≤◌, ◌<◌, length, set}
use Rattle.std.proofs.Math.Path.{sym, ap}
use Rattle.std.proofs.Common.{ap₂, ◌∙◌, subst, arith, not-suc-le-zero, length-set, get_or-set_same, get_or-set_other, below_more}
use Rattle.std.proofs.Math.ListN.{get_or}
use Rattle.bits.proofs.laws.Tab.{length_tab, at_tab, is_tab}
use Rattle.order.specs.Order.{from1, entries, Within, place_in, Permutation, put_back}
use Rattle.order.proofs.laws.Order.{from_suc}

-- ---- an entry by its row
pub length_entries : (rows : List (List ℕ)) → length (entries rows) ≡ 5 * length rows
unfolding entries
length_entries rows = length_tab (5 * length rows) (λ k. get_or (get_or rows (k / 5) []) (k % 5) 0)

pub in_row : (rows : List (List ℕ)) (row x : ℕ) → row < length rows → x < 5 → get_or (entries rows) (5 * row + x) 0 ≡ get_or (get_or rows row []) x 0
unfolding entries
in_row rows row x hr hx =
    let q : (5 * row + x) / 5 ≡ row = omega arith in
    let r : (5 * row + x) % 5 ≡ x = omega arith in
    at_tab (5 * length rows) (λ k. get_or (get_or rows (k / 5) []) (k % 5) 0) (5 * row + x) (omega (arith, hr, hx)) ∙ ap₂ (λ (i j : ℕ). get_or (get_or rows i []) j 0) q r

pub row_within : (n : ℕ) (rows : List (List ℕ)) → Within n (entries rows) → (row x : ℕ) → row < length rows → x < 5
    → (1 ≤ get_or (get_or rows row []) x 0) × (get_or (get_or rows row []) x 0 ≤ n)
row_within n rows within row x hr hx =
    let both = within (5 * row + x) (omega (arith, length_entries rows, hr, hx)) in
    (subst (λ (k : ℕ). 1 ≤ k) (in_row rows row x hr hx) both.0, subst (λ (k : ℕ). k ≤ n) (in_row rows row x hr hx) both.1)

-- a place that is said in another way
pub same_place : (P : ℕ → Type 0) (x y : ℕ) → x ≡ y → P x → P y
same_place P x y e h = subst P e h

-- ---- the first x bits are at their places
abbrev pub Returned : ℕ → List ℕ → List ℕ → ℕ → List ℕ → Type 0
Returned n table d x w = (x ≤ n) × (length w ≡ n) × ((y : ℕ) → y < x → from1 w (get_or table y 0) ≡ get_or d y 0)

module _ (n : ℕ) (table d : List ℕ) (p : Permutation n table) where
  -- an entry is a place of w
  pub place_within : (x : ℕ) → x < n → (1 ≤ get_or table x 0) × (get_or table x 0 ≤ n)
  place_within x l = p.within x (omega (arith, p.long, l))

  pub returned_none : (w : List ℕ) → length w ≡ n → Returned n table d 0 w
  returned_none w l = (omega arith, l, λ y h. absurd (not-suc-le-zero h))

  -- no two bits have one place
  apart : (x y : ℕ) → y < x → x < n → get_or table y 0 - 1 ≡ get_or table x 0 - 1 → ⊥
  apart x y h l e =
      let a : 1 ≤ get_or table y 0 = (place_within y (omega (arith, h, l))).0 in
      let b : 1 ≤ get_or table x 0 = (place_within x l).0 in
      let same : get_or table y 0 ≡ get_or table x 0 = omega (arith, a, b, e) in
      omega (arith, h, p.once y x (omega (arith, h, l)) l same)

  pub returned_more : (x v : ℕ) (w : List ℕ) → Returned n table d x w → x < n → v ≡ get_or d x 0 → Returned n table d (x + 1) (set w (get_or table x 0 - 1) v)
  returned_more x v w inv l e =
      let in_w_lem : get_or table x 0 - 1 < length w = omega (arith, inv.1, (place_within x l).0, (place_within x l).1) in (
        omega arith,
        length-set w (get_or table x 0 - 1) v ∙ inv.1,
        below_more (λ (y : ℕ). from1 (set w (get_or table x 0 - 1) v) (get_or table y 0) ≡ get_or d y 0) x
            (λ y lt. get_or-set_other w (get_or table x 0 - 1) (get_or table y 0 - 1) v 0 (apart x y lt l) ∙ inv.2 y lt)
            (get_or-set_same w (get_or table x 0 - 1) v 0 in_w_lem ∙ e),
      )

  pub returned_all : (x : ℕ) (w : List ℕ) → Returned n table d x w → n ≤ x → w ≡ put_back table d
  unfolding put_back
  returned_all x w inv l =
      is_tab (length table) (λ i. get_or d (place_in table (suc i)) 0) w (inv.1 ∙ sym p.long)
      (λ i h. let e = p.every (suc i) (omega arith) (omega (arith, h, p.long)) in
      sym (from_suc w i) ∙ ap (from1 w) (sym e.1) ∙ inv.2 (place_in table (suc i)) (omega (arith, e.0, l)))
