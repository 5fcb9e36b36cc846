-- `frames::layout::lay_out` is right: it fills the frame in turn, the sixteen zeros and then a group at a time.
use Rattle.std.proofs.Common.{List, ◌∷◌, ◌≡◌, ℕ, ◌+◌, ◌-◌, ◌*◌, sym, ap, ◌∙◌, subst, arith, length, get_or, take, drop}
use Rattle.std.proofs.lemmas.List.{length-replicate}
use Rattle.std.proofs.Math.ListN.{get_or-replicate}
use Rattle.std.specs.Prelude.{replicate}
use Rattle.bits.proofs.laws.Parts.{put, length_lent, filled_part}
use Rattle.bits.proofs.laws.Tab.{Filled, filled_none, filled_all}
use Rattle.frames.specs.laws.Layout.{laid_at, laid_out}
use Rattle.frames.proofs.laws.Layout.{laid_first, laid_group}
use Rattle.frames.proofs.layout.lay_out.Goals as goal

pub loop-group-init : goal.loop-group-init
loop-group-init c =
    let p = c.args.carried.now in
    let y = c.fill.new.self in
    let long : length (take 16 c.args.frame.now) ≡ 16 = length_lent c.args.frame.now 0 16 (omega (arith, c.requires.1)) in
    let same : y ≡ replicate 16 0 = c.fill.ensures.after (λ b h. h) ∙ ap (λ (n : ℕ). replicate n 0) long in
    filled_part (laid_at p) 320 0 16 y c.args.frame.now (filled_none (laid_at p) 320 c.args.frame.now c.requires.1) (omega arith) (omega arith)
    (ap length same ∙ length-replicate {A = ℕ} 16 0)
    (λ i h. ap (λ (w : List ℕ). get_or w i 0) same ∙ get_or-replicate 16 i 0 0 h ∙ sym (laid_first p (0 + i) (omega (arith, h))))

pub loop-group-preserved : goal.loop-group-preserved
loop-group-preserved c =
    let l = c.loop-group in
    let g = l.group in
    let taken = c.loop-group-test.true in
    let p = c.args.carried.now in
    let y = c.put_group.new.sixteen in
    let e : 15 * g + 15 - 15 * g ≡ 15 = omega arith in
    let n : 16 ≡ 16 * g + 32 - (16 * g + 16) = omega arith in
    let next : 16 * g + 32 ≡ 16 * (g + 1) + 16 = omega arith in
    let same : y ≡ 1 ∷ take 15 (drop (15 * g) p) = c.put_group.ensures ∙ ap (λ (k : ℕ). 1 ∷ take k (drop (15 * g) p)) e in
    subst (λ (m : ℕ). Filled (laid_at p) 320 m (put (16 * g + 16) (16 * g + 32 - (16 * g + 16)) y l.frame)) next
    (filled_part (laid_at p) 320 (16 * g + 16) (16 * g + 32) y l.frame l.invariant (omega arith) (omega (arith, taken))
    (ap length same ∙ omega (arith, length_lent p (15 * g) 15 (omega (arith, c.requires.0, taken)), n))
    (λ i h. ap (λ (w : List ℕ). get_or w i 0) same ∙ laid_group p g i (omega (arith, h))))

pub returns : goal.returns
unfolding laid_out
returns c =
    let l = c.loop-group in
    filled_all (laid_at c.args.carried.now) 320 (16 * l.group + 16) l.frame l.invariant (omega arith)
