-- The tables are what 000 says they are: the ordering is a permutation, its classes have 50, 132 and 78 bits, and what the CRC needs is protected.
use Rattle.std.specs.Prelude.{List, ◌≡◌, refl, ℕ, ◌*◌, ◌≤◌, T, length}
use Rattle.std.proofs.Common.{ap, ◌∙◌, arith}
use Rattle.bits.specs.Bits.{tab, tab_from}
use Rattle.order.specs.Order.{entries, place_in, Permutation, Within}
use Rattle.order.proofs.laws.Order.{permutes, permutation, places, is_within}
use Rattle.tables.specs.Tables.{important, class1a, class1b, class2, spread, ordering}
use Rattle.tables.specs.laws.Tables.{important_rows, ordering_rows}

ordering_tested : T (permutes 260 ordering)
unfolding permutes ordering spread class1a class1b class2 tab tab_from place_in
ordering_tested = tt

pub ordering_permutes : Permutation 260 ordering
ordering_permutes = permutation 260 ordering ordering_tested

pub important_long : length important ≡ 65
unfolding important
important_long = refl

important_tested : T (places 244 important)
unfolding places important
important_tested = tt

pub important_within : Within 244 important
important_within = is_within 244 important important_tested

-- 000: 50 bits are of class 1a, 132 of class 1b, 78 of class 2
pub classes : (length (spread class1a) ≡ 50) × (length (spread class1b) ≡ 132) × (length (spread class2) ≡ 78)
unfolding spread class1a class1b class2 tab tab_from
classes = (refl, refl, refl)

pub important_entries : entries important_rows ≡ important
unfolding entries important_rows important tab tab_from
important_entries = refl

pub ordering_entries : entries ordering_rows ≡ ordering
unfolding entries ordering_rows ordering spread class1a class1b class2 tab tab_from
ordering_entries = refl

important_13 : length important_rows ≡ 13
unfolding important_rows
important_13 = refl

ordering_52 : length ordering_rows ≡ 52
unfolding ordering_rows
ordering_52 = refl

-- ---- what fetching by a table that is one of the two asks, and putting back
pub important_asked : (rows : List (List ℕ)) (s b : List ℕ) → rows ≡ important_rows → length s ≡ 244 → length b ≡ 65
    → Within (length s) (entries rows) × (length s ≤ 65535) × (length b ≡ 5 * length rows)
important_asked rows s b er ls lb =
    let long : length rows ≡ 13 = ap length er ∙ important_13 in
    (rw (er, important_entries, ls) important_within, omega (arith, ls), omega (arith, lb, long))

pub ordering_fetches : (rows : List (List ℕ)) (w d : List ℕ) → rows ≡ ordering_rows → length w ≡ 260 → length d ≡ 260
    → Within (length w) (entries rows) × (length w ≤ 65535) × (length d ≡ 5 * length rows)
ordering_fetches rows w d er lw ld =
    let long : length rows ≡ 52 = ap length er ∙ ordering_52 in
    (rw (er, ordering_entries, lw) ordering_permutes.within, omega (arith, lw), omega (arith, ld, long))

pub ordering_puts_back : (rows : List (List ℕ)) (d w : List ℕ) → rows ≡ ordering_rows → length d ≡ 260 → length w ≡ 260
    → Permutation (5 * length rows) (entries rows) × (length w ≤ 65535) × (length w ≡ 5 * length rows) × (length d ≡ 5 * length rows)
ordering_puts_back rows d w er ld lw =
    let long : length rows ≡ 52 = ap length er ∙ ordering_52 in
    let all : 5 * length rows ≡ 260 = omega (arith, long) in
    (rw (all, er, ordering_entries) ordering_permutes, omega (arith, lw), omega (arith, lw, long), omega (arith, ld, long))
