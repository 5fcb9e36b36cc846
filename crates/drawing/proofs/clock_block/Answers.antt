-- `drawing::clock_block` is right: after i turns the first i octets have entered.
use Rattle.std.proofs.Common.{◌≡◌, ℕ, zero, suc, ◌+◌, ◌*◌, ◌/◌, ◌<◌, List, [], length, get_or, take, drop, refl, sym, ap, ap₂, subst, ◌∙◌, arith}
use Rattle.std.proofs.lemmas.List.{drop-drop}
use Rattle.std.specs.Simd.{first_chunks}
use Rattle.bits.specs.Bits.{Bits, zeros}
use Rattle.bits.proofs.laws.Sum.{bits_drop, bits_take, bits_zeros}
use Rattle.drawing.specs.Drawing.{control_taps, clocked_in}
use Rattle.drawing.proofs.laws.Drawing.{bits_entered, entered_part}
use Rattle.drawing.proofs.clock_block.Goals as goal

-- octet k of n
octet_at : (n k : ℕ) (d : List ℕ) → k < n → get_or (first_chunks 8 n d) k [] ≡ take 8 (drop (8 * k) d)
octet_at zero k d h = absurd (omega arith)
octet_at (suc n) zero d h = refl
octet_at (suc n) (suc k) d h =
    let e : 8 + 8 * k ≡ 8 * suc k = omega arith in
    octet_at n k (drop 8 d) (omega arith) ∙ ap (take 8) (drop-drop (8 * k) 8 d ∙ ap (λ (i : ℕ). drop i d) e)

-- one octet more
octet_more : (d octet cells next : List ℕ) (i : ℕ) → octet ≡ take 8 (drop (8 * i) d) → cells ≡ clocked_in control_taps (zeros 40) (take (8 * i) d)
    → next ≡ clocked_in control_taps cells octet → next ≡ clocked_in control_taps (zeros 40) (take (8 * (i + 1)) d)
octet_more d octet cells next i eo ec en =
    let e : 8 * i + 8 ≡ 8 * (i + 1) = omega arith in
    en
    ∙ ap₂ (clocked_in control_taps) ec eo
    ∙ sym (entered_part control_taps (zeros 40) d (8 * i) 8)
    ∙ ap (λ (k : ℕ). clocked_in control_taps (zeros 40) (take k d)) e

pub loop-octet-init : goal.loop-octet-init
unfolding clocked_in zeros
loop-octet-init c = refl

pub clock_octet-next-requires : goal.clock_octet-next-requires
clock_octet-next-requires c =
    let d = c.args.d.now in
    let l = c.loop-octet in
    let e = ap (λ (w : List (List ℕ)). get_or w l.octet-index []) c.as_chunks.ensures.front ∙ octet_at (length d / 8) l.octet-index d (omega (arith, c.as_chunks.ensures.front_len)) in (
      subst Bits (sym l.invariant) (bits_entered control_taps (zeros 40) (take (8 * l.octet-index) d) (bits_zeros 40)),
      subst Bits (sym e) (bits_take 8 (drop (8 * l.octet-index) d) (bits_drop (8 * l.octet-index) d c.requires.0)),
    )

pub loop-octet-preserved : goal.loop-octet-preserved
loop-octet-preserved c =
    let d = c.args.d.now in
    let l = c.loop-octet in
    let e = ap (λ (w : List (List ℕ)). get_or w l.octet-index []) c.as_chunks.ensures.front ∙ octet_at (length d / 8) l.octet-index d (omega (arith, c.as_chunks.ensures.front_len)) in
    octet_more d _ l.cells c.clock_octet-next.result l.octet-index e l.invariant c.clock_octet-next.ensures
