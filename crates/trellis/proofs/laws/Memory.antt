-- The row and the choices of the code are those of the register, and the walk back through the packed choices is the register's walk.
use Rattle.std.specs.Prelude.{Bool, true, false, ◌≡◌, refl, ltb, length, drop, set}
use mathlib.Core.List.{List, [], ◌∷◌, ◌++◌, reverse, reverse-cons}
use Rattle.std.proofs.Common.{sym, ◌∙◌, add-one, arith, length-set, drop-cons, drop-set-lt, get_or-set_same, get_or-set_other, below_more}
use Rattle.std.proofs.Math.Path.{ap, ap₂}
use Prim.Native.Nat.{ℕ, zero, suc, ◌+◌, ◌-◌, ◌*◌, ◌/◌, ◌%◌, ◌^◌, ◌≤◌, ◌<◌, min}
use Rattle.std.proofs.Math.ListN.{get_or}
use Rattle.std.proofs.Math.Seq.{append_snoc}
use Rattle.bits.specs.Bits.{Symbols, pick, tab, tab_from, value, differ}
use Rattle.bits.proofs.laws.Tab.{at_tab, tab_same, length_tab, bits_tab}
use Rattle.bits.proofs.laws.Value.{at_digit}
use Rattle.register.specs.Register.{bit, from, way, best, choice, walk}
use Rattle.register.proofs.laws.Steps.{from_lt}
use Rattle.trellis.specs.Nearest.{pair_cost, row_at, row, nearest, nearest_count}
use Rattle.trellis.specs.laws.Steps.{cost_into, cost_table, way_of, step_at, chosen_at, turned}
use Rattle.trellis.proofs.laws.Steps.{other_way, costs_found}
use Rattle.trellis.specs.laws.Memory.{bits_of, retrace, Remembers, word_of}

-- ---- one pair more, of which w are the costs
module _ (r : List ℕ) (t : ℕ) (w : List ℕ) (ew : w ≡ tab 16 (cost_into (get_or r (2 * t) 0) (get_or r (2 * t + 1) 0))) where
  cost_same : (s o : ℕ) → s < 16 → o ≤ 1 → get_or w ((s + 8 + 8 * o) % 16) 0 ≡ pair_cost r t (from 8 s o) (bit 8 s)
  unfolding cost_into pair_cost
  cost_same s o h l =
      ap (λ (v : List ℕ). get_or v ((s + 8 + 8 * o) % 16) 0) ew
      ∙ at_tab 16 (cost_into (get_or r (2 * t) 0) (get_or r (2 * t + 1) 0)) ((s + 8 + 8 * o) % 16) (omega arith)
      ∙ ap (λ (p : ℕ). differ (p / 2) (get_or r (2 * t) 0) + differ (p % 2) (get_or r (2 * t + 1) 0)) (other_way s o h l)

  way_same : (s o : ℕ) → s < 16 → o ≤ 1 → way_of (row r t) w s o ≡ way 8 (pair_cost r) 65535 (best 8 (pair_cost r) 65535 t) t s o
  unfolding way_of way row row_at
  way_same s o h l = ap₂ (λ (a c : ℕ). min (a + c) 65535) (at_tab 16 (row_at r t) (from 8 s o) (from_lt 8 s o h l)) (cost_same s o h l)

  step_same : (s : ℕ) → s < 16 → step_at (row r t) w s ≡ row_at r (suc t) s
  unfolding step_at row_at best
  step_same s h = ap₂ min (way_same s 0 h (omega arith)) (way_same s 1 h (omega arith))

  pub row_next : tab 16 (step_at (row r t) w) ≡ row r (suc t)
  unfolding row
  row_next = tab_same 16 (step_at (row r t) w) (row_at r (suc t)) step_same

  pub chosen_same : (s : ℕ) → s < 16 → chosen_at (row r t) w s ≡ choice 8 (pair_cost r) 65535 t s
  unfolding chosen_at choice
  chosen_same s h = rw (way_same s 0 h (omega arith), way_same s 1 h (omega arith))

-- ---- before the first pair: state 0 has 0, no bits end in the others, whatever is received
pub row_first : 0 ∷ 65535 ∷ 65535 ∷ 65535 ∷ 65535 ∷ 65535 ∷ 65535 ∷ 65535 ∷ 65535 ∷ 65535 ∷ 65535 ∷ 65535 ∷ 65535 ∷ 65535 ∷ 65535 ∷ 65535 ∷ [] ≡ row [] 0
unfolding row row_at best tab tab_from
row_first = refl

pub row_none : (r : List ℕ) → row [] 0 ≡ row r 0
unfolding row row_at best
row_none r = refl

-- ---- a choice is found again in its bit
word_bit : (f : ℕ → ℕ) → ((i : ℕ) → f i ≤ 1) → (s : ℕ) → s < 16 → value (tab 16 f) / 2 ^ (15 - s) % 2 ≡ f s
word_bit f h s l =
    let n = length_tab 16 f in
    sym (at_digit (tab 16 f) (bits_tab 16 f h) s (rw n l) ∙ ap (λ (k : ℕ). value (tab 16 f) / 2 ^ (k - 1 - s) % 2) n) ∙ at_tab 16 f s l

pub turned_bit : (f : ℕ → ℕ) → ((i : ℕ) → f i ≤ 1) → (s : ℕ) → s < 16 → value (tab 16 (turned f)) / 2 ^ s % 2 ≡ f s
turned_bit f h s l =
    let e : s ≡ 15 - (15 - s) = omega arith in
    ap (λ (k : ℕ). value (tab 16 (turned f)) / 2 ^ k % 2) e ∙ word_bit (turned f) (λ j. h (15 - j)) (15 - s) (omega arith) ∙ ap f (sym e)

pub choice_le : (r : List ℕ) (t s : ℕ) → choice 8 (pair_cost r) 65535 t s ≤ 1
unfolding choice
choice_le r t s = either (ltb (way 8 (pair_cost r) 65535 (best 8 (pair_cost r) 65535 t) t s 1) (way 8 (pair_cost r) 65535 (best 8 (pair_cost r) 65535 t) t s 0))
  where
    either : (b : Bool) → pick b 1 0 ≤ 1
    either true = omega arith
    either false = omega arith

pub retraced : (r : List ℕ) (g : ℕ → ℕ → ℕ) (n : ℕ) → ((t s : ℕ) → t < n → s < 16 → g t s ≡ choice 8 (pair_cost r) 65535 t s)
    → (s : ℕ) → s < 16 → retrace g n s ≡ walk 8 (pair_cost r) 65535 n s
unfolding retrace walk
retraced r g zero h s l = refl
retraced r g (suc n) h s l =
    let e = h n s (omega arith) l in
    ap (λ (w : List ℕ). bit 8 s ∷ w)
    (ap (λ (o : ℕ). retrace g n (from 8 s o)) e
    ∙ retraced r g n (λ t s' lt ls. h t s' (omega arith) ls) (from 8 s (choice 8 (pair_cost r) 65535 n s)) (from_lt 8 s (choice 8 (pair_cost r) 65535 n s) l (choice_le r n s)))

-- one bit of the walk is written, and the rest of the walk before it
pub retrace_more : (g : ℕ → ℕ → ℕ) (k s : ℕ) (u : List ℕ) (b : ℕ) → k < length u → b ≡ bit 8 s
    → reverse (retrace g k (from 8 s (g k s))) ++ drop k (set u k b) ≡ reverse (retrace g (suc k) s) ++ drop (suc k) u
unfolding retrace
retrace_more g k s u b h e =
    let w = retrace g k (from 8 s (g k s)) in
    let c : drop k (set u k b) ≡ b ∷ drop (suc k) u =
    drop-cons (set u k b) k 0 (rw (length-set u k b) h) ∙ ap₂ (λ (x : ℕ) (l : List ℕ). x ∷ l) (get_or-set_same u k b 0 h) (drop-set-lt (suc k) u k b (omega arith)) in
    ap (λ (l : List ℕ). reverse w ++ l) (c ∙ ap (λ (x : ℕ). x ∷ drop (suc k) u) e)
    ∙ sym (append_snoc (reverse w) (bit 8 s) (drop (suc k) u))
    ∙ ap (λ (l : List ℕ). l ++ drop (suc k) u) (sym (reverse-cons (bit 8 s) w))

pub walked : (m u : List ℕ) (t s b p : ℕ) (after : List ℕ) → 0 < t → t ≤ length u → b ≡ bit 8 s → p ≡ from 8 s (get_or m (t - 1) 0 / 2 ^ s % 2)
    → after ≡ reverse (retrace (bits_of m) (t - 1) p) ++ drop (t - 1) (set u (t - 1) b) → after ≡ reverse (retrace (bits_of m) t s) ++ drop t u
unfolding bits_of
walked m u zero s b p after h l eb ep ea = let z : ⊥ = omega arith in absurd z
walked m u (suc k) s b p after h l eb ep ea =
    let e : suc k - 1 ≡ k = omega arith in
    ea
    ∙ ap₂ (λ (i q : ℕ). reverse (retrace (bits_of m) i q) ++ drop i (set u i b)) e (ep ∙ ap (λ (i : ℕ). from 8 s (get_or m i 0 / 2 ^ s % 2)) e)
    ∙ retrace_more (bits_of m) k s u b l eb

pub stayed : (m u : List ℕ) (t s : ℕ) → t ≤ 0 → u ≡ reverse (retrace (bits_of m) t s) ++ drop t u
unfolding retrace
stayed m u zero s h = refl
stayed m u (suc t) s h = let z : ⊥ = omega arith in absurd z

-- ---- the search: one pair more, and all of it
pub remembers_none : (r m : List ℕ) → Remembers r 0 m
remembers_none r m t h = let z : ⊥ = omega arith in absurd z

pub costs_of : (r : List ℕ) → Symbols r → (table : List (List ℕ)) → table ≡ cost_table → (k at : ℕ) → at ≡ 3 * get_or r (2 * k) 0 + get_or r (2 * k + 1) 0
    → get_or table at [] ≡ tab 16 (cost_into (get_or r (2 * k) 0) (get_or r (2 * k + 1) 0))
costs_of r sr table e k at ea = ap₂ (λ (t : List (List ℕ)) (i : ℕ). get_or t i []) e ea ∙ costs_found (get_or r (2 * k) 0) (get_or r (2 * k + 1) 0) (sr (2 * k)) (sr (2 * k + 1))

pub word_is : (r f w : List ℕ) (k word : ℕ) → f ≡ row r k → w ≡ tab 16 (cost_into (get_or r (2 * k) 0) (get_or r (2 * k + 1) 0))
    → word ≡ value (tab 16 (turned (chosen_at f w))) → word ≡ word_of r k
word_is r f w k word ef ew e =
    e
    ∙ ap (λ (g : List ℕ). value (tab 16 (turned (chosen_at g w)))) ef
    ∙ ap value (tab_same 16 (turned (chosen_at (row r k) w)) (turned (choice 8 (pair_cost r) 65535 k)) (λ i l. chosen_same r k w ew (15 - i) (omega arith)))

pub remembers_more : (r m f w : List ℕ) (k word : ℕ) → k < length m → f ≡ row r k → w ≡ tab 16 (cost_into (get_or r (2 * k) 0) (get_or r (2 * k + 1) 0))
    → word ≡ value (tab 16 (turned (chosen_at f w))) → Remembers r k m → Remembers r (k + 1) (set m k word)
remembers_more r m f w k word h ef ew e old =
    below_more (λ (t : ℕ). get_or (set m k word) t 0 ≡ word_of r t) k
    (λ t l. get_or-set_other m k t word 0 (λ (q : t ≡ k). omega (arith, q, l)) ∙ old t l)
    (get_or-set_same m k word 0 h ∙ word_is r f w k word ef ew e)

pub row_more : (r f g w : List ℕ) (k : ℕ) → f ≡ row r k → w ≡ tab 16 (cost_into (get_or r (2 * k) 0) (get_or r (2 * k + 1) 0)) → g ≡ tab 16 (step_at f w) → g ≡ row r (k + 1)
row_more r f g w k ef ew eg = eg ∙ ap (λ (h : List ℕ). tab 16 (step_at h w)) ef ∙ row_next r k w ew ∙ ap (row r) (sym (add-one k))

-- ---- the whole: the walk through the remembered choices is the nearest block
pub found : (r m rest w : List ℕ) (n : ℕ) → Remembers r n m → w ≡ reverse (retrace (bits_of m) n 0) ++ rest → w ≡ nearest r n ++ rest
unfolding nearest bits_of
found r m rest w n mem ew =
    ew ∙ ap (λ (p : List ℕ). reverse p ++ rest)
    (retraced r (bits_of m) n
    (λ t s lt ls. ap (λ (x : ℕ). x / 2 ^ s % 2) (mem t lt) ∙ turned_bit (choice 8 (pair_cost r) 65535 t) (choice_le r t) s ls)
    0 (omega arith))

pub count_is : (r f : List ℕ) (n : ℕ) → f ≡ row r n → get_or f 0 0 ≡ nearest_count r n
unfolding nearest_count row
count_is r f n e = ap (λ (g : List ℕ). get_or g 0 0) e ∙ at_tab 16 (row_at r n) 0 (omega arith)
