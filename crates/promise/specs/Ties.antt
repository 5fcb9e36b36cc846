-- What 02, M-101 buys: a block of whose flags as many are altered as are not, over the definitions that the contracts of `stream` cite. Proved in
-- proofs/laws/Ties. Where none is missing, that is four of eight; in general f altered and g missing with 2f + g = 8 (02, M-102).
use Rattle.std.specs.Prelude.{List, [], ◌++◌, ◌≡◌, ℕ, ◌+◌, ◌*◌, ◌≤◌, ◌<◌, length, get_or, take, drop}
use Rattle.bits.specs.Bits.{given_bits}
use Rattle.parity.specs.Division.{control_g}
use Rattle.coder.specs.Says.{BlockDecodes}
use Rattle.chart.specs.declared.Kind.TheVariants.{Speech, Facch}
use Rattle.promise.specs.Promise.{Lesson, made, Arrives, taken_at, block_bits, bits_altered, bits_missing, flags_altered, flags_missing, Brings}

-- Any lesson is sent and ended, and as many bytes arrive as were sent, whatever happened to other blocks.

-- A FACCH of whose flags f are altered and g are missing, 2f + g at most 8, and of whose coded bits t are altered and m are missing, 2t + m at most 6, comes out
-- as FACCH, with its bits and the count t.
abbrev pub FacchTies : Type 0
FacchTies =
    (ds : List (List ℕ)) → Lesson ds → (lent : ℕ → List ℕ) → ((i : ℕ) → length (lent i) ≡ 464)
    → (rx : List ℕ) (out : ℕ → List ℕ) → Arrives (4 * length ds + 4) rx out
    → (n : ℕ) → n < length ds → length (get_or ds n []) ≡ 184
    → 2 * bits_altered (get_or ds n []) (made lent ds) rx n + bits_missing (get_or ds n []) rx n ≤ 6 → 2 * flags_altered (made lent ds) rx n + flags_missing rx n ≤ 8
    → Brings (taken_at rx out (4 * n + 7)) Facch n (bits_altered (get_or ds n []) (made lent ds) rx n) (get_or ds n [] ++ drop 184 (out (4 * n + 7)))

-- A speech block of whose flags f are altered and g are missing, 2f + g = 8, and of whose protected bits t are altered and m are missing, 2t + m at most 6, is
-- looked at as a control block first: THE nearest one to its 456 bits as they arrived. Where that is bad, it comes out as speech, with its protected bits as
-- sent, the others as received, missing ones 0, and the count t; where that happens to be good, as FACCH, with that block's bits and count.
abbrev pub SpeechTies : Type 0
SpeechTies =
    (ds : List (List ℕ)) → Lesson ds → (lent : ℕ → List ℕ) → ((i : ℕ) → length (lent i) ≡ 464)
    → (rx : List ℕ) (out : ℕ → List ℕ) → Arrives (4 * length ds + 4) rx out
    → (n : ℕ) → n < length ds → length (get_or ds n []) ≡ 260
    → 2 * bits_altered (get_or ds n []) (made lent ds) rx n + bits_missing (get_or ds n []) rx n ≤ 6 → 2 * flags_altered (made lent ds) rx n + flags_missing rx n ≡ 8
    → BlockDecodes control_g 0 184 228 (block_bits rx n)
    (λ count bits. Brings (taken_at rx out (4 * n + 7)) Facch n count (bits ++ drop 184 (out (4 * n + 7))))
    (λ count. Brings (taken_at rx out (4 * n + 7)) Speech n (bits_altered (get_or ds n []) (made lent ds) rx n) (take 182 (get_or ds n []) ++ drop 378 (given_bits (block_bits rx n))))
