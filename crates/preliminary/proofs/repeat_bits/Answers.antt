-- `preliminary::repeat_bits` is right: four parts of s, each with its repeated bit.
use Rattle.preliminary.proofs.laws.Parts.{repeats_laid}
use Rattle.preliminary.proofs.repeat_bits.Goals as goal

pub returns : goal.returns
returns c =
    let y₁ = c.put_part in
    let y₂ = c.put_part-2 in
    let y₃ = c.put_part-3 in
    let y₄ = c.put_part-4 in
    repeats_laid c.args.s.now c.requires.0 c.args.w.now y₁.new.w y₂.new.w y₃.new.w y₄.new.w c.requires.1
    y₁.ensures y₂.ensures y₃.ensures y₄.ensures
