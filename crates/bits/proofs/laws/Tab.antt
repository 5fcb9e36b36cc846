-- A tabulated list has its length and its entries, and is the only list that has them; and what a filling loop needs of them.
use Rattle.std.specs.Prelude.{Bool, true, false, List, [], ◌∷◌, ◌++◌, ◌≡◌, refl, ℕ, zero, suc, ◌+◌, ◌-◌, ◌*◌, ◌/◌, ◌%◌, ◌≤◌, ◌<◌, T, eqb, length, get_or, set}
use Rattle.std.proofs.Common.{⊎_elim, sym, ap, ap₂, ◌∙◌, subst, add-zero, zero-add, add-suc, suc-add, le_of_suc-le-suc, not-suc-le-zero, eq-or-lt_of_le, arith, length-set, length-append, ext_get_or, get_or-set_same, get_or-set_other, get_or-append-add, below_more, eq-eqb, ne_eqb}
use Rattle.std.proofs.Math.ListN.{get_or-append, get_or-eq_default}
use Rattle.bits.specs.Bits.{Bits, NoneOver, pick, tab, tab_from, both, all_below}
use Rattle.bits.proofs.laws.Cases.{lt_or_le, both_first, both_second, false_true}

-- ---- one computed test over a range gives the rule at each number
pub both_left : (a b : Bool) → T (both a b) → T a
both_left true b t = tt
both_left false b t = t

pub both_right : (a b : Bool) → T (both a b) → T b
both_right true b t = t
both_right false b t = absurd t

pub below : (f : ℕ → Bool) (n : ℕ) → T (all_below f n) → (k : ℕ) → k < n → T (f k)
below f zero t k h = absurd (not-suc-le-zero h)
below f (suc n) t k h =
    ⊎_elim (λ e. subst (λ (m : ℕ). T (f m)) (sym e) (both_left (f n) (all_below f n) t))
    (λ l. below f n (both_right (f n) (all_below f n) t) k l)
    (eq-or-lt_of_le (le_of_suc-le-suc h))

-- the same test by its value: it holds at each place, and if it does, it holds
pub all_at : (f : ℕ → Bool) (n : ℕ) → all_below f n ≡ true → (k : ℕ) → k < n → f k ≡ true
all_at f zero t k h = absurd (not-suc-le-zero h)
all_at f (suc n) t k h =
    ⊎_elim (λ e. subst (λ (m : ℕ). f m ≡ true) (sym e) (both_first (f n) (all_below f n) t))
    (λ l. all_at f n (both_second (f n) (all_below f n) t) k l)
    (eq-or-lt_of_le (le_of_suc-le-suc h))

pub all_true : (f : ℕ → Bool) (n : ℕ) → ((k : ℕ) → k < n → f k ≡ true) → all_below f n ≡ true
all_true f zero each = refl
all_true f (suc n) each = ap (λ (b : Bool). both b (all_below f n)) (each n (omega arith)) ∙ all_true f n (λ k h. each k (omega (arith, h)))

pub all_same : (f g : ℕ → Bool) (n : ℕ) → ((k : ℕ) → k < n → f k ≡ g k) → all_below f n ≡ all_below g n
all_same f g zero each = refl
all_same f g (suc n) each = ap₂ both (each n (omega arith)) (all_same f g n (λ k h. each k (omega (arith, h))))

-- where it does not hold, it fails at some place
pub record Fails (f : ℕ → Bool) (n : ℕ) : Type 0 where
  pub place : ℕ
  pub below : place < n
  pub fails : f place ≡ false

pub one_fails : (f : ℕ → Bool) (n : ℕ) → all_below f n ≡ false → Fails f n
one_fails f zero e = absurd (false_true (sym e))
one_fails f (suc n) e = go (f n) refl (λ q. one_fails f n (ap (λ (b : Bool). both b (all_below f n)) (sym q) ∙ e))
  where
    go : (b : Bool) → f n ≡ b → (f n ≡ true → Fails f n) → Fails f (suc n)
    go false q less = record { place = n; below = omega arith; fails = q }
    go true q less = record { place = (less q).place; below = omega (arith, (less q).below); fails = (less q).fails }

-- ---- tab
length_from : (i n : ℕ) (f : ℕ → ℕ) → length (tab_from i n f) ≡ n
unfolding tab_from
length_from i zero f = refl
length_from i (suc n) f = ap suc (length_from (suc i) n f)

at_from : (i n : ℕ) (f : ℕ → ℕ) (k : ℕ) → k < n → get_or (tab_from i n f) k 0 ≡ f (i + k)
unfolding tab_from
at_from i zero f k h = absurd (not-suc-le-zero h)
at_from i (suc n) f zero h = ap f (sym (add-zero i))
at_from i (suc n) f (suc k) h = at_from (suc i) n f k (le_of_suc-le-suc h) ∙ ap f (suc-add i k ∙ sym (add-suc i k))

pub length_tab : (n : ℕ) (f : ℕ → ℕ) → length (tab n f) ≡ n
unfolding tab
length_tab n f = length_from 0 n f

pub at_tab : (n : ℕ) (f : ℕ → ℕ) (k : ℕ) → k < n → get_or (tab n f) k 0 ≡ f k
unfolding tab
at_tab n f k h = at_from 0 n f k h ∙ ap f (zero-add k)

pub is_tab : (n : ℕ) (f : ℕ → ℕ) (xs : List ℕ) → length xs ≡ n → ((k : ℕ) → k < n → get_or xs k 0 ≡ f k) → xs ≡ tab n f
is_tab n f xs l h =
    ext_get_or 0 xs (tab n f) (l ∙ sym (length_tab n f))
    (λ k lt. let m : k < n = omega (arith, l) in h k m ∙ sym (at_tab n f k m))

pub tab_same : (n : ℕ) (f g : ℕ → ℕ) → ((k : ℕ) → k < n → f k ≡ g k) → tab n f ≡ tab n g
tab_same n f g h = is_tab n g (tab n f) (length_tab n f) (λ k lt. at_tab n f k lt ∙ h k lt)

pub over_tab : (most n : ℕ) (f : ℕ → ℕ) → ((k : ℕ) → f k ≤ most) → NoneOver most (tab n f)
over_tab most n f h k =
    ⊎_elim (λ (l : k < n). rw (at_tab n f k l) (h k))
    (λ (l : n ≤ k). rw (get_or-eq_default (tab n f) 0 {n = k} (rw (length_tab n f) l)) (omega arith))
    (lt_or_le k n)

pub bits_tab : (n : ℕ) (f : ℕ → ℕ) → ((k : ℕ) → f k ≤ 1) → Bits (tab n f)
bits_tab n f h = over_tab 1 n f h

-- ---- a loop that fills out[x] = f x for rising x, up to n: its invariant, its start, its turn and its end
abbrev pub Filled : (ℕ → ℕ) → ℕ → ℕ → List ℕ → Type 0
Filled f n x out = (x ≤ n) × (length out ≡ n) × ((y : ℕ) → y < x → get_or out y 0 ≡ f y)

pub filled_none : (f : ℕ → ℕ) (n : ℕ) (out : List ℕ) → length out ≡ n → Filled f n 0 out
filled_none f n out l = (omega arith, l, λ y h. absurd (not-suc-le-zero h))

pub filled_more : (f : ℕ → ℕ) (n x v : ℕ) (out : List ℕ) → Filled f n x out → x < n → v ≡ f x → Filled f n (x + 1) (set out x v)
filled_more f n x v out inv l e = (
  omega arith,
  length-set out x v ∙ inv.1,
  below_more (λ (y : ℕ). get_or (set out x v) y 0 ≡ f y) x
      (λ y lt. get_or-set_other out x y v 0 (λ (q : y ≡ x). omega (arith, q, lt)) ∙ inv.2 y lt)
      (get_or-set_same out x v 0 (omega (arith, inv.1)) ∙ e),
)

-- two places at a time: the even ones have f, the odd ones g
pub even_place : (f g : ℕ → ℕ) (k : ℕ) → pick (eqb (2 * k % 2) 0) (f (2 * k / 2)) (g (2 * k / 2)) ≡ f k
even_place f g k =
    let e : 2 * k / 2 ≡ k = omega arith in
    let z : 2 * k % 2 ≡ 0 = omega arith in
    rw (eq-eqb (2 * k % 2) 0 z, e)

pub odd_place : (f g : ℕ → ℕ) (k : ℕ) → pick (eqb ((2 * k + 1) % 2) 0) (f ((2 * k + 1) / 2)) (g ((2 * k + 1) / 2)) ≡ g k
odd_place f g k =
    let e : (2 * k + 1) / 2 ≡ k = omega arith in
    rw (ne_eqb ((2 * k + 1) % 2) 0 (λ (q : (2 * k + 1) % 2 ≡ 0). omega arith), e)

pub filled_pair : (f : ℕ → ℕ) (n k x y : ℕ) (out : List ℕ) → Filled f n (2 * k) out → 2 * k + 1 < n → x ≡ f (2 * k) → y ≡ f (2 * k + 1)
    → Filled f n (2 * (k + 1)) (set (set out (2 * k) x) (2 * k + 1) y)
filled_pair f n k x y out inv l ex ey =
    let e : 2 * k + 1 + 1 ≡ 2 * (k + 1) = omega arith in
    subst (λ (i : ℕ). Filled f n i (set (set out (2 * k) x) (2 * k + 1) y)) e
    (filled_more f n (2 * k + 1) y (set out (2 * k) x) (filled_more f n (2 * k) x out inv (omega arith) ex) l ey)

pub filled_all : (f : ℕ → ℕ) (n x : ℕ) (out : List ℕ) → Filled f n x out → n ≤ x → out ≡ tab n f
filled_all f n x out inv l = is_tab n f out inv.1 (λ k lt. inv.2 k (omega arith))

-- ---- get_or through ++, by an index given as an equation
pub at_left : (xs ys : List ℕ) (k : ℕ) → k < length xs → get_or (xs ++ ys) k 0 ≡ get_or xs k 0
at_left xs ys k h = get_or-append xs ys 0 k h

pub at_right : (xs ys : List ℕ) (n k i : ℕ) → length xs ≡ n → i ≡ n + k → get_or (xs ++ ys) i 0 ≡ get_or ys k 0
at_right xs ys n k i l e = rw (e, ← l) (get_or-append-add xs ys k 0)

-- ---- one entry more, at the end
pub tab_more : (n : ℕ) (f : ℕ → ℕ) → tab (suc n) f ≡ tab n f ++ (f n ∷ [])
tab_more n f =
    let long : length (tab n f ++ (f n ∷ [])) ≡ suc n = length-append (tab n f) (f n ∷ []) ∙ omega (arith, length_tab n f) in
    sym (is_tab (suc n) f (tab n f ++ (f n ∷ [])) long each)
  where
    each : (k : ℕ) → k < suc n → get_or (tab n f ++ (f n ∷ [])) k 0 ≡ f k
    each k h =
        ⊎_elim (λ (e : k ≡ n). at_right (tab n f) (f n ∷ []) n 0 k (length_tab n f) (omega arith) ∙ ap f (sym e))
        (λ (l : k < n). at_left (tab n f) (f n ∷ []) k (rw (length_tab n f) l) ∙ at_tab n f k l)
        (eq-or-lt_of_le (le_of_suc-le-suc h))

-- ---- a list that goes on as the next b entries do is a + b of them
pub tab_then : (a b n : ℕ) (f : ℕ → ℕ) (v w : List ℕ) → v ≡ tab a f → w ≡ tab b (λ i. f (a + i)) → n ≡ a + b → v ++ w ≡ tab n f
tab_then a b n f v w ev ew en =
    let lv : length v ≡ a = ap length ev ∙ length_tab a f in
    let lw : length w ≡ b = ap length ew ∙ length_tab b (λ i. f (a + i)) in
    is_tab n f (v ++ w) (length-append v w ∙ omega (arith, lv, lw, en))
    (λ k h. ⊎_elim
    (λ (l : k < a). at_left v w k (rw lv l) ∙ ap (λ (x : List ℕ). get_or x k 0) ev ∙ at_tab a f k l)
    (λ (l : a ≤ k). let e : a + (k - a) ≡ k = omega arith in
    at_right v w a (k - a) k lv (sym e) ∙ ap (λ (x : List ℕ). get_or x (k - a) 0) ew ∙ at_tab b (λ i. f (a + i)) (k - a) (omega (arith, h, en, l)) ∙ ap f e)
    (lt_or_le k a))
