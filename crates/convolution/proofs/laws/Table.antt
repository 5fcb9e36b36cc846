-- The printed table's rule: one computed test over its 32 entries, and the rule at each.
use Rattle.std.specs.Prelude.{Bool, List, [], ◌∷◌, ◌≡◌, ℕ, ◌+◌, ◌*◌, ◌/◌, ◌%◌, ◌≤◌, ◌<◌, eqb, get_or}
use Rattle.std.proofs.Common.{sym, ap₂, ◌∙◌, arith, eqb→eq}
use Rattle.bits.proofs.laws.Tab.{below}
use Rattle.convolution.specs.Pairs.{pair_of}

-- the pairs as printed: for each state, for next bit 0 and for next bit 1
unfoldable pub printed : List (List ℕ)
printed =
    (0b00 ∷ 0b11 ∷ []) ∷
    (0b11 ∷ 0b00 ∷ []) ∷
    (0b11 ∷ 0b00 ∷ []) ∷
    (0b00 ∷ 0b11 ∷ []) ∷
    (0b00 ∷ 0b11 ∷ []) ∷
    (0b11 ∷ 0b00 ∷ []) ∷
    (0b11 ∷ 0b00 ∷ []) ∷
    (0b00 ∷ 0b11 ∷ []) ∷
    (0b01 ∷ 0b10 ∷ []) ∷
    (0b10 ∷ 0b01 ∷ []) ∷
    (0b10 ∷ 0b01 ∷ []) ∷
    (0b01 ∷ 0b10 ∷ []) ∷
    (0b01 ∷ 0b10 ∷ []) ∷
    (0b10 ∷ 0b01 ∷ []) ∷
    (0b10 ∷ 0b01 ∷ []) ∷
    (0b01 ∷ 0b10 ∷ []) ∷ []

agrees : ℕ → Bool
agrees i = eqb (get_or (get_or printed (i / 2) []) (i % 2) 0) (pair_of (i / 2) (i % 2))

-- the table agrees with the two polynomials
pub printed_right : (s b : ℕ) → s < 16 → b ≤ 1 → get_or (get_or printed s []) b 0 ≡ pair_of s b
unfolding printed agrees pair_of
printed_right s b hs hb =
    let q : (2 * s + b) / 2 ≡ s = omega arith in
    let r : (2 * s + b) % 2 ≡ b = omega arith in
    ap₂ (λ (x y : ℕ). get_or (get_or printed x []) y 0) (sym q) (sym r)
    ∙ eqb→eq (get_or (get_or printed ((2 * s + b) / 2) []) ((2 * s + b) % 2) 0) (pair_of ((2 * s + b) / 2) ((2 * s + b) % 2)) (below agrees 32 tt (2 * s + b) (omega arith))
    ∙ ap₂ pair_of q r
