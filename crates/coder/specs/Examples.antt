-- 01, Handbook examples: those marked P, as one table over the definitions, and its one proof.
use Rattle.std.specs.Prelude.{Bool, true, false, List, [], ◌∷◌, ◌≡◌, refl, ℕ, suc, ◌%◌, eqb}
use Rattle.bits.specs.Bits.{pick, both, largest, none_over, is_missing, tab, tab_from, add, zeros, ones, digits, differ}
use Rattle.parity.specs.Division.{occurs, product, lower, divide, remainder, parity, speech_g, access_g}
use Rattle.convolution.specs.Pairs.{back, first, second, coded_at, coded, pair_of}
use Rattle.register.specs.Register.{from, bit, way, best}
use Rattle.trellis.specs.Nearest.{pair_cost, row_at, row}
use Rattle.places.specs.Places.{place_of, e_of, e_at}
use Rattle.answers.specs.Answers.{sent_or, tells}
use Rattle.coder.specs.Entries.{judged, unreached, trellis_viewed}
use Rattle.coder.specs.Blocks.{speech_p, speech_u_at, speech_u, speech_block, colour, access_u, access_burst}

abbrev pub same : List ℕ → List ℕ → Bool
same [] [] = true
same [] (b ∷ w) = false
same (a ∷ v) [] = false
same (a ∷ v) (b ∷ w) = both (eqb a b) (same v w)

-- where the ones of a list stand, the first place being n
abbrev pub ones_from : ℕ → List ℕ → List ℕ
ones_from n [] = []
ones_from n (b ∷ w) = pick (eqb b 1) (n ∷ ones_from (suc n) w) (ones_from (suc n) w)

-- bit k of a speech block: burst, place, e-index; and of a SACCH message: burst, place
abbrev pub stream_place : ℕ → List ℕ
stream_place k = k % 8 ∷ place_of k ∷ e_at k ∷ []

abbrev pub sacch_place : ℕ → List ℕ
sacch_place k = k % 4 ∷ place_of k ∷ []

-- a line of the table: what is computed, and what 01 says it is
pub record Example : Type 0 where
  pub computed : List ℕ
  pub said : List ℕ

abbrev pub is : List ℕ → List ℕ → Example
is a b = record { computed = a; said = b }

unfoldable pub table : List Example
table =
    is (colour 0 (zeros 8)) (1 ∷ 1 ∷ 1 ∷ 1 ∷ 1 ∷ 1 ∷ [])
    ∷ is (colour 63 (zeros 8)) (0 ∷ 0 ∷ 0 ∷ 0 ∷ 0 ∷ 0 ∷ [])
    ∷ is (access_burst 63 (zeros 8)) (zeros 36)
    ∷ is (colour 0 (0 ∷ 0 ∷ 0 ∷ 0 ∷ 0 ∷ 0 ∷ 0 ∷ 1 ∷ [])) (0 ∷ 1 ∷ 0 ∷ 0 ∷ 0 ∷ 0 ∷ [])
    ∷ is (speech_p (zeros 260)) (1 ∷ 1 ∷ 1 ∷ [])
    ∷ is (ones_from 0 (speech_block (zeros 260))) (182 ∷ 183 ∷ 184 ∷ 186 ∷ 188 ∷ 194 ∷ 195 ∷ [])
    ∷ is (stream_place 0) (0 ∷ 0 ∷ 0 ∷ [])
    ∷ is (stream_place 1) (1 ∷ 98 ∷ 100 ∷ [])
    ∷ is (stream_place 4) (4 ∷ 51 ∷ 51 ∷ [])
    ∷ is (stream_place 8) (0 ∷ 100 ∷ 102 ∷ [])
    ∷ is (stream_place 455) (7 ∷ 17 ∷ 17 ∷ [])
    ∷ is (sacch_place 4) (0 ∷ 51 ∷ [])
    ∷ is (sacch_place 455) (3 ∷ 17 ∷ [])
    ∷ is (trellis_viewed (1 ∷ 1 ∷ [])).left (tab 16 (λ s. pick (eqb s 0) 2 (pick (eqb s 8) 0 65535)))
    ∷ is (trellis_viewed []).left (tab 16 (λ s. pick (eqb s 0) 0 65535))
    ∷ []

unfoldable pub all_hold : List Example → Bool
all_hold [] = true
all_hold (x ∷ xs) = both (same x.computed x.said) (all_hold xs)

pub examples : all_hold table ≡ true
unfolding all_hold table tab tab_from add zeros ones digits occurs product lower divide remainder parity speech_g access_g back first second coded_at coded place_of e_of e_at speech_p speech_u_at speech_u speech_block colour access_u access_burst from bit way best pair_of differ pair_cost row_at row judged tells sent_or none_over largest is_missing unreached trellis_viewed
examples = refl
