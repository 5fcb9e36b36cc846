-- Bits that are packed are unpacked as they were, and octets that are unpacked are packed as they were.
use Rattle.std.specs.Prelude.{List, ◌≡◌, ℕ, suc, ◌+◌, ◌*◌, ◌/◌, ◌%◌, ◌^◌, ◌≤◌, ◌<◌, length, get_or, take, drop}
use Rattle.std.proofs.Common.{sym, ap, ap₂, ◌∙◌, arith, lit<, take_all, get_or-take, get_or-drop, ext_get_or, take-suc, length-take-le}
use Rattle.std.proofs.Math.Nat.{pow-le-pow_right}
use Rattle.bits.specs.Bits.{Bits, NoneOver, value, digits}
use Rattle.bits.proofs.laws.Parts.{length_lent}
use Rattle.bits.proofs.laws.Sum.{bits_take, bits_drop}
use Rattle.bits.proofs.laws.Tab.{length_tab, at_tab, bits_tab}
use Rattle.bits.proofs.laws.Value.{value_lt, value_snoc, digits_value, value_digits, length_digits, bits_digits}
use Rattle.frames.specs.Octets.{packed, unpacked}

-- ---- lengths and places
abbrev pub bit_of : List ℕ → ℕ → ℕ
bit_of x k = get_or (digits 8 (get_or x (k / 8) 0)) (k % 8) 0

pub length_packed : (f : List ℕ) (n : ℕ) → length f ≡ 8 * n → length (packed f) ≡ n
unfolding packed
length_packed f n l = length_tab (length f / 8) (λ o. value (take 8 (drop (8 * o) f))) ∙ omega (arith, l)

pub at_packed : (f : List ℕ) (n o : ℕ) → length f ≡ 8 * n → o < n → get_or (packed f) o 0 ≡ value (take 8 (drop (8 * o) f))
unfolding packed
at_packed f n o l h = at_tab (length f / 8) (λ o. value (take 8 (drop (8 * o) f))) o (omega (arith, l, h))

pub length_unpacked : (x : List ℕ) → length (unpacked x) ≡ 8 * length x
unfolding unpacked
length_unpacked x = length_tab (8 * length x) (bit_of x)

pub at_unpacked : (x : List ℕ) (k : ℕ) → k < 8 * length x → get_or (unpacked x) k 0 ≡ get_or (digits 8 (get_or x (k / 8) 0)) (k % 8) 0
unfolding unpacked
at_unpacked x k h = at_tab (8 * length x) (bit_of x) k h

pub bits_unpacked : (x : List ℕ) → Bits (unpacked x)
unfolding unpacked
bits_unpacked x = bits_tab (8 * length x) (bit_of x) (λ k. bits_digits 8 (get_or x (k / 8) 0) (k % 8))

-- a bit of an octet, by octet and bit
pub bit_at : (x : List ℕ) (o i : ℕ) → i < 8 → bit_of x (8 * o + i) ≡ get_or (digits 8 (get_or x o 0)) i 0
bit_at x o i h =
    let q : (8 * o + i) / 8 ≡ o = omega arith in
    let r : (8 * o + i) % 8 ≡ i = omega arith in
    ap₂ (λ (p j : ℕ). get_or (digits 8 (get_or x p 0)) j 0) q r

pub bit_of_lem : (x : List ℕ) (o i : ℕ) → o < length x → i < 8 → get_or (unpacked x) (8 * o + i) 0 ≡ get_or (digits 8 (get_or x o 0)) i 0
bit_of_lem x o i ho hi = at_unpacked x (8 * o + i) (omega (arith, ho, hi)) ∙ bit_at x o i hi

-- ---- there and back
pub unpack_pack : (f : List ℕ) (n : ℕ) → Bits f → length f ≡ 8 * n → unpacked (packed f) ≡ f
unpack_pack f n bf l =
    let long : length (unpacked (packed f)) ≡ length f = length_unpacked (packed f) ∙ omega (arith, length_packed f n l, l) in
    ext_get_or 0 (unpacked (packed f)) f long (λ k h. each k (omega (arith, h, long, l)))
  where
    eight : (o : ℕ) → o < n → digits 8 (value (take 8 (drop (8 * o) f))) ≡ take 8 (drop (8 * o) f)
    eight o h =
        let e : length (take 8 (drop (8 * o) f)) ≡ 8 = length_lent f (8 * o) 8 (omega (arith, h, l)) in
        ap (λ (m : ℕ). digits m (value (take 8 (drop (8 * o) f)))) (sym e) ∙ digits_value (take 8 (drop (8 * o) f)) (bits_take 8 (drop (8 * o) f) (bits_drop (8 * o) f bf))

    each : (k : ℕ) → k < 8 * n → get_or (unpacked (packed f)) k 0 ≡ get_or f k 0
    each k h =
        let ho : k / 8 < n = omega (arith, h) in
        let hi : k % 8 < 8 = omega arith in
        let e : 8 * (k / 8) + k % 8 ≡ k = omega arith in
        at_unpacked (packed f) k (omega (arith, h, length_packed f n l))
        ∙ ap (λ (v : ℕ). get_or (digits 8 v) (k % 8) 0) (at_packed f n (k / 8) l ho)
        ∙ ap (λ (w : List ℕ). get_or w (k % 8) 0) (eight (k / 8) ho)
        ∙ get_or-take 8 (drop (8 * (k / 8)) f) (k % 8) 0 hi
        ∙ get_or-drop (8 * (k / 8)) f (k % 8) 0
        ∙ ap (λ (j : ℕ). get_or f j 0) e

-- ---- back and there
pub pack_unpack : (x : List ℕ) → NoneOver 255 x → packed (unpacked x) ≡ x
pack_unpack x nx =
    let long : length (packed (unpacked x)) ≡ length x = length_packed (unpacked x) (length x) (length_unpacked x) in
    ext_get_or 0 (packed (unpacked x)) x long (λ o h. each o (omega (arith, h, long)))
  where
    eight : (o : ℕ) → o < length x → take 8 (drop (8 * o) (unpacked x)) ≡ digits 8 (get_or x o 0)
    eight o h =
        let u : List ℕ = unpacked x in
        let long : length (take 8 (drop (8 * o) u)) ≡ 8 = length_lent u (8 * o) 8 (omega (arith, h, length_unpacked x)) in
        ext_get_or 0 (take 8 (drop (8 * o) u)) (digits 8 (get_or x o 0)) (long ∙ sym (length_digits 8 (get_or x o 0)))
        (λ i l. let hi : i < 8 = omega (arith, l, long) in get_or-take 8 (drop (8 * o) u) i 0 hi ∙ get_or-drop (8 * o) u i 0 ∙ bit_of_lem x o i h hi)

    each : (o : ℕ) → o < length x → get_or (packed (unpacked x)) o 0 ≡ get_or x o 0
    each o h =
        at_packed (unpacked x) (length x) o (length_unpacked x) h
        ∙ ap value (eight o h)
        ∙ value_digits 8 (get_or x o 0) (omega (arith, nx o))

-- ---- what the loop over an octet's bits needs: one bit more, the whole, and a bound
pub value_more : (w : List ℕ) (i : ℕ) → i < length w → value (take (i + 1) w) ≡ 2 * value (take i w) + get_or w i 0
value_more w i h =
    let e : i + 1 ≡ suc i = omega arith in
    ap (λ (n : ℕ). value (take n w)) e ∙ ap value (take-suc w i 0 h) ∙ value_snoc (take i w) (get_or w i 0)

pub value_whole : (w : List ℕ) (i : ℕ) → length w ≡ 8 → 8 ≤ i → value (take i w) ≡ value w
value_whole w i l h = ap value (take_all i w (omega (arith, l, h)))

pub value_less : (w : List ℕ) (i : ℕ) → Bits w → length w ≡ 8 → i < 8 → value (take i w) ≤ 127
value_less w i bw l h =
    let short : length (take i w) ≤ 7 = omega (arith, length-take-le i w (omega (arith, l, h)), h) in
    let p : 2 ^ length (take i w) ≤ 128 = pow-le-pow_right (lit< tt) short in
    omega (arith, value_lt (take i w) (bits_take i w bw), p)
