-- A register with feedback taps holds what division leaves of the bits that entered, followed by zeros; so what is read off are the parity bits. Once over
-- the taps and the number of cells: a drawing is an instance.
use Rattle.std.specs.Prelude.{Bool, true, false, ◌≡◌, eqb, take, drop}
use mathlib.Core.List.{List, [], ◌∷◌, ◌++◌, append_assoc, append-nil}
use Rattle.std.proofs.Math.Logic.{⊎_elim}
use Rattle.std.proofs.Math.Path.{refl, sym, ap, ap₂}
use Rattle.std.proofs.Common.{◌∙◌, add-one, take-add, take-suc}
use Prim.Native.Nat.{ℕ, zero, suc, ◌+◌, ◌-◌, ◌%◌, ◌≤◌, ◌<◌}
use native.Mathlib.Omega.{arith}
use Rattle.std.specs.Int.Bits.{bit_xor}
use Rattle.std.proofs.Math.ListN.{length, get_or, length-append}
use Rattle.std.proofs.lemmas.List.{get_or-replicate}
use Rattle.std.proofs.Math.Seq.{append_snoc}
use Rattle.bits.specs.Bits.{Bits, pick, tab, tab_from, sum, add, zeros, ones}
use Rattle.bits.proofs.laws.Cases.{lt_or_le}
use Rattle.bits.proofs.laws.Sum.{add_nothing, at_add, at_zeros, bits_append, bits_cons, bits_zeros, length_add, length_ones, length_zeros}
use Rattle.bits.proofs.laws.Tab.{at_left, at_right, at_tab, bits_tab, is_tab, length_tab, tab_same}
use Rattle.bits.proofs.laws.Value.{xor_bits}
use Rattle.parity.specs.Division.{occurs, product, lower, remainder, divide, parity, crc, control_g, access_g}
use Rattle.drawing.specs.Drawing.{control_taps, is_tap, fed_back, from_below, cell_at, clocked, clocked_in, read_off}
use Rattle.parity.proofs.laws.Brought.{bring_down, length_bring, remainder_more}
use Rattle.parity.proofs.laws.Division.{remainder_after, parity_turned, length_crc, bits_crc}

-- ---- an example over D^3 + D + 1, three cells with taps into cells 0 and 1: three bits enter, and what is read off is their parity
three_clocks : clocked_in (0 ∷ 1 ∷ []) (zeros 3) (1 ∷ 0 ∷ 1 ∷ []) ≡ 0 ∷ 0 ∷ 1 ∷ []
unfolding clocked_in clocked cell_at fed_back from_below is_tap occurs tab tab_from zeros
three_clocks = refl

their_parity : read_off (0 ∷ 0 ∷ 1 ∷ []) ≡ parity (0 ∷ 1 ∷ 1 ∷ []) (1 ∷ 0 ∷ 1 ∷ [])
unfolding read_off tab tab_from parity remainder divide add ones
their_parity = refl

-- ---- the drawing of the control block: its taps are the generator's powers below D^40
pub control_taps_lem : lower 40 control_taps ≡ control_g
unfolding control_taps control_g lower product occurs tab tab_from
control_taps_lem = refl

access_taps : lower 6 (0 ∷ 1 ∷ 2 ∷ 3 ∷ 5 ∷ []) ≡ access_g
unfolding access_g lower occurs tab tab_from
access_taps = refl

-- ---- one clock keeps bits bits, and their number
pub length_clocked : (taps cells : List ℕ) (b : ℕ) → length (clocked taps cells b) ≡ length cells
unfolding clocked
length_clocked taps cells b = length_tab (length cells) (cell_at taps cells (fed_back cells b))

bits_below : (cells : List ℕ) → Bits cells → (i : ℕ) → from_below cells i ≤ 1
unfolding from_below
bits_below cells bc zero = omega arith
bits_below cells bc (suc i) = bc i

bits_cell : (taps cells : List ℕ) (fed : ℕ) → Bits cells → (i : ℕ) → cell_at taps cells fed i ≤ 1
unfolding cell_at
bits_cell taps cells fed bc i = go (is_tap taps i)
  where
    go : (t : Bool) → pick t (sum (from_below cells i) fed) (from_below cells i) ≤ 1
    go true = omega arith
    go false = bits_below cells bc i

pub bits_clocked : (taps cells : List ℕ) (b : ℕ) → Bits cells → Bits (clocked taps cells b)
unfolding clocked
bits_clocked taps cells b bc = bits_tab (length cells) (cell_at taps cells (fed_back cells b)) (bits_cell taps cells (fed_back cells b) bc)

-- ---- the last cell first, as division writes its bits, highest power first
unfoldable pub top_first : List ℕ → List ℕ
top_first cells = tab (length cells) (λ k. get_or cells (length cells - 1 - k) 0)

length_top : (cells : List ℕ) → length (top_first cells) ≡ length cells
unfolding top_first
length_top cells = length_tab (length cells) (λ k. get_or cells (length cells - 1 - k) 0)

at_top : (cells : List ℕ) (k : ℕ) → k < length cells → get_or (top_first cells) k 0 ≡ get_or cells (length cells - 1 - k) 0
unfolding top_first
at_top cells k h = at_tab (length cells) (λ k. get_or cells (length cells - 1 - k) 0) k h

-- ---- a cell after the clock, by what is fed back
pass_0 : (t : Bool) (z : ℕ) → z ≤ 1 → pick t (sum z 0) z ≡ z
pass_0 true z h = omega arith
pass_0 false z h = refl

pass_1 : (m z : ℕ) → m ≤ 1 → z ≤ 1 → sum m z ≡ pick (eqb m 1) (sum z 1) z
pass_1 zero z h l = omega arith
pass_1 (suc zero) z h l = omega arith
pass_1 (suc (suc m)) z h l = let e : ⊥ = omega arith in absurd e

-- ---- one clock is: add the bit to the highest, bring down a zero, and strike a leading 1 out with the generator
module _ (taps cells : List ℕ) (n : ℕ) (long : length cells ≡ suc n) (bc : Bits cells) where
  abbrev g : List ℕ
  g = lower (length cells) taps

  length_g : length g ≡ length cells
  unfolding lower
  length_g = length_tab (length cells) (λ k. occurs (length cells - 1 - k) taps % 2)

  at_g : (k : ℕ) → k < length cells → get_or g k 0 ≡ occurs (length cells - 1 - k) taps % 2
  unfolding lower
  at_g k h = at_tab (length cells) (λ k. occurs (length cells - 1 - k) taps % 2) k h

  -- t: the cells below the last, a zero brought down behind them
  module _ (a : ℕ) (t : List ℕ) (et : top_first cells ≡ a ∷ t) where
    long_t : length t ≡ n
    long_t = let l : suc (length t) ≡ suc n = ap length (sym et) ∙ length_top cells ∙ long in omega (arith, l)

    top : a ≡ get_or cells (length cells - 1) 0
    top =
        let e : length cells - 1 - 0 ≡ length cells - 1 = omega arith in
        ap (λ (w : List ℕ). get_or w 0 0) (sym et) ∙ at_top cells 0 (omega (arith, long)) ∙ ap (λ (i : ℕ). get_or cells i 0) e

    moved : (k : ℕ) → k < length cells → get_or (t ++ (0 ∷ [])) k 0 ≡ from_below cells (length cells - 1 - k)
    unfolding from_below
    moved k h =
        ⊎_elim (λ (l : k < n).
        let e : length cells - 1 - k ≡ suc (length cells - 1 - suc k) = omega (arith, long, l) in
        at_left t (0 ∷ []) k (omega (arith, long_t, l))
        ∙ ap (λ (w : List ℕ). get_or w (suc k) 0) (sym et) ∙ at_top cells (suc k) (omega (arith, long, l))
        ∙ ap (from_below cells) (sym e))
        (λ (l : n ≤ k).
        let e : length cells - 1 - k ≡ 0 = omega (arith, long, l) in
        at_right t (0 ∷ []) n 0 k long_t (omega (arith, long, l, h)) ∙ ap (from_below cells) (sym e))
        (lt_or_le k n)

    brought : (x : ℕ) → x ≤ 1 → (k : ℕ) → k < length cells → get_or (bring_down g (x ∷ t) 0) k 0 ≡ cell_at taps cells x (length cells - 1 - k)
    unfolding bring_down cell_at is_tap
    brought zero h k l = moved k l ∙ sym (pass_0 (is_tap taps (length cells - 1 - k)) (from_below cells (length cells - 1 - k)) (bits_below cells bc (length cells - 1 - k)))
    brought (suc zero) h k l =
        let i : ℕ = length cells - 1 - k in
        let lt : length (t ++ (0 ∷ [])) ≡ length cells = length-append t (0 ∷ []) ∙ omega (arith, long_t, long) in
        at_add g (t ++ (0 ∷ [])) k (omega (arith, length_g, l)) (omega (arith, lt, l))
        ∙ ap₂ sum (at_g k l) (moved k l)
        ∙ pass_1 (occurs i taps % 2) (from_below cells i) (omega arith) (bits_below cells bc i)
    brought (suc (suc x)) h k l = let z : ⊥ = omega arith in absurd z

    clock_step : (b : ℕ) → top_first (clocked taps cells b) ≡ bring_down g (add (b ∷ []) (a ∷ t)) 0
    unfolding top_first clocked fed_back add
    clock_step b =
        let x : ℕ = sum b a in
        let f : ℕ → ℕ = λ k. cell_at taps cells x (length cells - 1 - k) in
        let fed : sum b (get_or cells (length cells - 1) 0) ≡ x = ap (λ (y : ℕ). sum b y) (sym top) in
        let after : List ℕ = tab (length cells) (cell_at taps cells x) in
        let la : length after ≡ length cells = length_tab (length cells) (cell_at taps cells x) in
        rw (fed, la)
        (tab_same (length cells) (λ k. get_or after (length cells - 1 - k) 0) f (λ k h. at_tab (length cells) (cell_at taps cells x) (length cells - 1 - k) (omega (arith, h)))
        ∙ sym (is_tab (length cells) f (bring_down g (x ∷ t) 0) (length_bring g (x ∷ t) 0 ∙ ap suc long_t ∙ sym long) (brought x (omega arith))))

  -- and the bit added to the highest of what division leaves
  pub clock_brings : (b : ℕ) → top_first (clocked taps cells b) ≡ bring_down g (add (b ∷ []) (top_first cells)) 0
  clock_brings b = go (top_first cells) refl
    where
      go : (s : List ℕ) → top_first cells ≡ s → top_first (clocked taps cells b) ≡ bring_down g (add (b ∷ []) (top_first cells)) 0
      go [] e = let z : ⊥ = omega (arith, ap length (sym e) ∙ length_top cells ∙ long) in absurd z
      go (a ∷ t) e = clock_step a t e b ∙ ap (λ (s : List ℕ). bring_down g (add (b ∷ []) s) 0) (sym e)

-- ---- the same step of division: one bit more, followed by as many zeros
module _ (g d : List ℕ) (n : ℕ) (long : length g ≡ suc n) (bd : Bits d) where
  -- the bit and zeros behind d are added to what d, followed by zeros, leaves
  highest : (s : List ℕ) (b : ℕ) → length s ≡ suc n → Bits s → add s (b ∷ zeros n) ≡ add (b ∷ []) s
  unfolding add
  highest [] b l bs = let z : ⊥ = omega (arith, l) in absurd z
  highest (a ∷ t) b l bs =
      let e : sum a b ≡ sum b a = omega arith in
      ap₂ (λ (x : ℕ) (w : List ℕ). x ∷ w) e (add_nothing n t (omega (arith, l)) (λ k. bs (suc k)))

  last_zero : (m : ℕ) → zeros (suc m) ≡ zeros m ++ (0 ∷ [])
  unfolding zeros
  last_zero zero = refl
  last_zero (suc m) = ap (λ (w : List ℕ). 0 ∷ w) (last_zero m)

  pub crc_more : (b : ℕ) → b ≤ 1 → crc g (d ++ (b ∷ [])) ≡ bring_down g (add (b ∷ []) (crc g d)) 0
  unfolding crc
  crc_more b h =
      let w : List ℕ = d ++ (b ∷ zeros n) in
      let lw : length w ≡ length d + suc n = length-append d (b ∷ zeros n) ∙ ap (λ (k : ℕ). length d + suc k) (length_zeros n) in
      let shape : (d ++ (b ∷ [])) ++ zeros (length g) ≡ w ++ (0 ∷ []) =
      ap (λ (k : ℕ). (d ++ (b ∷ [])) ++ zeros k) long
      ∙ ap (λ (z : List ℕ). (d ++ (b ∷ [])) ++ z) (last_zero n)
      ∙ append_snoc d b (zeros n ++ (0 ∷ []))
      ∙ sym (append_assoc d (b ∷ zeros n) (0 ∷ [])) in
      let after : remainder g w ≡ add (remainder g (d ++ zeros (length g))) (b ∷ zeros n) =
      remainder_after g d (b ∷ zeros n) (ap suc (length_zeros n) ∙ sym long) bd (bits_cons b (zeros n) h (bits_zeros n)) in
      ap (remainder g) shape
      ∙ remainder_more g w 0 (omega (arith, long)) (omega (arith, long, lw))
      ∙ ap (λ (s : List ℕ). bring_down g s 0) (after ∙ highest (remainder g (d ++ zeros (length g))) b (length_crc g d bd ∙ long) (bits_crc g d bd))

-- ---- the register holds what is left of the bits that entered, followed by zeros
module _ (taps : List ℕ) (n : ℕ) where
  abbrev drawn : List ℕ
  drawn = lower (suc n) taps

  length_drawn : length drawn ≡ suc n
  unfolding lower
  length_drawn = length_tab (suc n) (λ k. occurs (suc n - 1 - k) taps % 2)

  along_cells : (d w cells : List ℕ) → length cells ≡ suc n → Bits cells → Bits d → Bits w → top_first cells ≡ crc drawn d → top_first (clocked_in taps cells w) ≡ crc drawn (d ++ w)
  unfolding clocked_in zeros
  along_cells d [] cells lc bc bd bw e = e ∙ ap (crc drawn) (sym (append-nil d))
  along_cells d (b ∷ w) cells lc bc bd bw e =
      let one : top_first (clocked taps cells b) ≡ crc drawn (d ++ (b ∷ [])) =
      clock_brings taps cells n lc bc b
      ∙ ap₂ (λ (r : ℕ) (s : List ℕ). bring_down (lower r taps) (add (b ∷ []) s) 0) lc e
      ∙ sym (crc_more drawn d n length_drawn bd b (bw 0)) in
      along_cells (d ++ (b ∷ [])) w (clocked taps cells b) (length_clocked taps cells b ∙ lc) (bits_clocked taps cells b bc)
      (bits_append d (b ∷ []) bd (bits_cons b [] (bw 0) (bits_zeros 0))) (λ k. bw (suc k)) one
      ∙ ap (crc drawn) (append_snoc d b w)

  none_entered : top_first (zeros (suc n)) ≡ crc drawn []
  unfolding top_first crc remainder divide
  none_entered =
      let m : ℕ = length (zeros (suc n)) in
      let none : length (zeros (length drawn)) - length drawn ≡ 0 = omega (arith, length_zeros (length drawn)) in
      tab_same m (λ k. get_or (zeros (suc n)) (m - 1 - k) 0) (λ k. 0) (λ k h. at_zeros (suc n) (m - 1 - k))
      ∙ sym (is_tab m (λ k. 0) (zeros (suc n)) refl (λ k h. at_zeros (suc n) k))
      ∙ ap zeros (sym length_drawn)
      ∙ ap (λ (k : ℕ). divide drawn k (zeros (length drawn))) (sym none)

  pub cells_leave : (d : List ℕ) → Bits d → top_first (clocked_in taps (zeros (suc n)) d) ≡ crc drawn d
  unfolding zeros
  cells_leave d bd = along_cells [] d (zeros (suc n)) (length_zeros (suc n)) (bits_zeros (suc n)) (bits_zeros 0) bd none_entered

-- ---- what enters in two parts; the cells stay bits, and as many
pub entered_append : (taps cells v w : List ℕ) → clocked_in taps cells (v ++ w) ≡ clocked_in taps (clocked_in taps cells v) w
unfolding clocked_in
entered_append taps cells [] w = refl
entered_append taps cells (b ∷ v) w = entered_append taps (clocked taps cells b) v w

pub entered_more : (taps cells d : List ℕ) (i : ℕ) → i < length d → clocked_in taps cells (take (i + 1) d) ≡ clocked taps (clocked_in taps cells (take i d)) (get_or d i 0)
unfolding clocked_in
entered_more taps cells d i h = rw (add-one i, take-suc d i 0 h) (entered_append taps cells (take i d) (get_or d i 0 ∷ []))

pub entered_part : (taps cells d : List ℕ) (a k : ℕ) → clocked_in taps cells (take (a + k) d) ≡ clocked_in taps (clocked_in taps cells (take a d)) (take k (drop a d))
entered_part taps cells d a k = ap (clocked_in taps cells) (take-add a k d) ∙ entered_append taps cells (take a d) (take k (drop a d))

pub length_entered : (taps cells d : List ℕ) → length (clocked_in taps cells d) ≡ length cells
unfolding clocked_in
length_entered taps cells [] = refl
length_entered taps cells (b ∷ d) = length_entered taps (clocked taps cells b) d ∙ length_clocked taps cells b

pub bits_entered : (taps cells d : List ℕ) → Bits cells → Bits (clocked_in taps cells d)
unfolding clocked_in
bits_entered taps cells [] bc = bc
bits_entered taps cells (b ∷ d) bc = bits_entered taps (clocked taps cells b) d (bits_clocked taps cells b bc)

-- ---- the complements
at_ones : (m k : ℕ) → k < m → get_or (ones m) k 0 ≡ 1
unfolding ones
at_ones m k h = get_or-replicate m k 1 0 h

complements : (cells : List ℕ) → Bits cells → read_off cells ≡ add (top_first cells) (ones (length cells))
unfolding read_off
complements cells bc =
    let m : ℕ = length cells in
    sym (is_tab m (λ k. 1 - get_or cells (m - 1 - k) 0) (add (top_first cells) (ones m)) (length_add (top_first cells) (ones m) ∙ length_ones m)
    (λ k h.
    let b : get_or cells (m - 1 - k) 0 ≤ 1 = bc (m - 1 - k) in
    at_add (top_first cells) (ones m) k (omega (arith, length_top cells, h)) (omega (arith, length_ones m, h))
    ∙ ap₂ sum (at_top cells k h) (at_ones m k h) ∙ omega (arith, b)))

-- ---- THE LAW: what is read off are the parity bits of division, for every list of taps and every number of cells
pub drawn_parity : (taps : List ℕ) (n : ℕ) (d : List ℕ) → Bits d → read_off (clocked_in taps (zeros (suc n)) d) ≡ parity (lower (suc n) taps) d
unfolding crc
drawn_parity taps n d bd =
    let g : List ℕ = lower (suc n) taps in
    let cells : List ℕ = clocked_in taps (zeros (suc n)) d in
    let lc : length cells ≡ length g = length_entered taps (zeros (suc n)) d ∙ length_zeros (suc n) ∙ sym (length_drawn taps n) in
    complements cells (bits_entered taps (zeros (suc n)) d (bits_zeros (suc n)))
    ∙ ap₂ (λ (s : List ℕ) (k : ℕ). add s (ones k)) (cells_leave taps n d bd) lc
    ∙ sym (parity_turned g d bd)

-- the control drawing
pub control_drawn : (d : List ℕ) → Bits d → read_off (clocked_in control_taps (zeros 40) d) ≡ parity control_g d
control_drawn d bd = drawn_parity control_taps 39 d bd ∙ ap (λ (g : List ℕ). parity g d) control_taps_lem

-- another drawing, which no code follows: the access parity, six cells with taps into 0, 1, 2, 3 and 5
pub access_drawn : (d : List ℕ) → Bits d → read_off (clocked_in (0 ∷ 1 ∷ 2 ∷ 3 ∷ 5 ∷ []) (zeros 6) d) ≡ parity access_g d
access_drawn d bd = drawn_parity (0 ∷ 1 ∷ 2 ∷ 3 ∷ 5 ∷ []) 5 d bd ∙ ap (λ (g : List ℕ). parity g d) access_taps

-- ---- the clock as the code has it, with the exclusive or of two bits for their sum: the sum in cell 0, then the other cells
abbrev pub enters : List ℕ → List ℕ → ℕ → ℕ → ℕ
enters taps cells x i = pick (is_tap taps i) (bit_xor (from_below cells i) x) (from_below cells i)

module _ (taps cells : List ℕ) (bit n : ℕ) (long : length cells ≡ suc n) (bc : Bits cells) (hb : bit ≤ 1) (first : is_tap taps 0 ≡ true) where
  abbrev fed : ℕ
  fed = fed_back cells bit

  bits_fed : fed ≤ 1
  unfolding fed_back
  bits_fed = omega arith

  fed_xor : bit_xor bit (get_or cells n 0) ≡ fed
  unfolding fed_back
  fed_xor =
      let e : length cells - 1 ≡ n = omega (arith, long) in
      xor_bits bit (get_or cells n 0) hb (bc n) ∙ ap (λ (i : ℕ). sum bit (get_or cells i 0)) (sym e)

  entering : (i : ℕ) → enters taps cells fed i ≡ cell_at taps cells fed i
  unfolding cell_at
  entering i = ap (λ (x : ℕ). pick (is_tap taps i) x (from_below cells i)) (xor_bits (from_below cells i) fed (bits_below cells bc i) bits_fed)

  from_same : (f g : ℕ → ℕ) → ((k : ℕ) → f k ≡ g k) → (i m : ℕ) → tab_from i m f ≡ tab_from i m g
  unfolding tab_from
  from_same f g h i zero = refl
  from_same f g h i (suc m) = ap₂ (λ (y : ℕ) (w : List ℕ). y ∷ w) (h i) (from_same f g h (suc i) m)

  cell_0 : fed ≡ cell_at taps cells fed 0
  unfolding cell_at from_below
  cell_0 = rw first (omega (arith, bits_fed))

  pub clock_is : (x : ℕ) → x ≡ bit_xor bit (get_or cells n 0) → x ∷ tab_from 1 n (enters taps cells x) ≡ clocked taps cells bit
  unfolding clocked tab tab_from
  clock_is x e =
      ap (λ (y : ℕ). y ∷ tab_from 1 n (enters taps cells y)) (e ∙ fed_xor)
      ∙ ap₂ (λ (y : ℕ) (w : List ℕ). y ∷ w) cell_0 (from_same (enters taps cells fed) (cell_at taps cells fed) entering 1 n)
      ∙ ap (λ (m : ℕ). tab_from 0 m (cell_at taps cells fed)) (sym long)
