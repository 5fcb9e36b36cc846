-- Table 2 is what 000 says it is: a permutation of the 260 bits, whose classes have 50, 132 and 78; and the table of the code has the same entries.
use Rattle.std.specs.Prelude.{List, ◌≡◌, refl, ℕ, ◌*◌, ◌≤◌, T, length}
use Rattle.std.proofs.Common.{ap, ◌∙◌, arith}
use Rattle.bits.specs.Bits.{tab, tab_from, total}
use Rattle.order.specs.Order.{entries, place_in, Permutation, Within}
use Rattle.order.proofs.laws.Order.{permutes, permutation}
use Rattle.tables.specs.FullRate.{widths, output, checked, unchecked, unprotected, numbers, listed, importance}
use Rattle.tables.specs.laws.FullRate.{importance_rows}

-- GSM 06.10: 76 parameters, and as many bits come before a 77th as there are: 260. D1 is the least significant bit of the first, D6 its most significant one
pub parameters : (length widths ≡ 76) × (output 77 0 ≡ 261) × (output 1 0 ≡ 1) × (output 1 5 ≡ 6)
unfolding widths output total
parameters = (refl, refl, refl, refl)

-- 000: class 1 has 50 bits with parity check, d0 to d49, and 132 without, d50 to d181; class 2 has 78, d182 to d259
pub full_rate_classes : (length (listed checked) ≡ 50) × (length (listed unchecked) ≡ 132) × (length (listed unprotected) ≡ 78)
unfolding listed numbers output widths total checked unchecked unprotected tab tab_from
full_rate_classes = (refl, refl, refl)

pub importance_entries : entries importance_rows ≡ importance
unfolding entries importance_rows importance listed numbers output widths total checked unchecked unprotected tab tab_from
importance_entries = refl

importance_52 : length importance_rows ≡ 52
unfolding importance_rows
importance_52 = refl

-- every bit stands in it once
rows_tested : T (permutes 260 (entries importance_rows))
unfolding permutes entries importance_rows tab tab_from place_in
rows_tested = tt

pub importance_permutes : Permutation 260 importance
importance_permutes = rw (← importance_entries) (permutation 260 (entries importance_rows) rows_tested)

-- ---- what fetching by a table that is this one asks, and putting back
pub importance_fetches : (rows : List (List ℕ)) (w d : List ℕ) → rows ≡ importance_rows → length w ≡ 260 → length d ≡ 260
    → Within (length w) (entries rows) × (length w ≤ 65535) × (length d ≡ 5 * length rows)
importance_fetches rows w d er lw ld =
    let long : length rows ≡ 52 = ap length er ∙ importance_52 in
    (rw (er, importance_entries, lw) importance_permutes.within, omega (arith, lw), omega (arith, ld, long))

pub importance_puts_back : (rows : List (List ℕ)) (d w : List ℕ) → rows ≡ importance_rows → length d ≡ 260 → length w ≡ 260
    → Permutation (5 * length rows) (entries rows) × (length w ≤ 65535) × (length w ≡ 5 * length rows) × (length d ≡ 5 * length rows)
importance_puts_back rows d w er ld lw =
    let long : length rows ≡ 52 = ap length er ∙ importance_52 in
    let all : 5 * length rows ≡ 260 = omega (arith, long) in
    (rw (all, er, importance_entries) importance_permutes, omega (arith, lw), omega (arith, lw, long), omega (arith, ld, long))
