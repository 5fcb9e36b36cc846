-- `frames::carry` is right: three parts.
use Rattle.std.proofs.Common.{List, ◌++◌, ℕ, ◌≡◌, refl, sym, ap, ap₂, ◌∙◌, arith, length, take, drop, length-drop, take_all}
use Rattle.bits.specs.Bits.{ones}
use Rattle.bits.proofs.laws.Parts.{put_three, length_lent}
use Rattle.frames.proofs.laws.Layout.{length_data}
use Rattle.frames.proofs.carry.Goals as goal

pub copy_from_slice-requires : goal.copy_from_slice-requires
copy_from_slice-requires c = length_lent c.args.carried.now 0 15 (omega (arith, c.requires.2)) ∙ sym (length_lent c.args.c.now 0 15 (omega (arith, c.requires.0)))

pub returns : goal.returns
returns c =
    let control = c.args.c.now in
    let copied = c.copy_from_slice in
    let placed = c.put_data in
    let ended = c.put_end in
    let long : length copied.new.self ≡ 15 = ap length copied.ensures.after ∙ length_lent control 0 15 (omega (arith, c.requires.0)) in
    let last : take 6 (drop 15 control) ≡ drop 15 control = take_all 6 (drop 15 control) (omega (arith, length-drop 15 control, c.requires.0)) in
    put_three c.args.carried.now copied.new.self placed.new.w ended.new.end 15 260 10 15 275 long refl (ap length placed.ensures ∙ length_data c.args.d.now) refl c.requires.2
    ∙ ap₂ (λ (x y : List ℕ). x ++ y) copied.ensures.after (ap₂ (λ (x y : List ℕ). x ++ y) placed.ensures (ended.ensures ∙ ap (λ (x : List ℕ). x ++ ones 4) last))
