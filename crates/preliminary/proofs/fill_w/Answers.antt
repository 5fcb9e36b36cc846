-- `preliminary::fill_w` is right: the repeated bits, the rest of s, and the CRC.
use Rattle.preliminary.proofs.laws.Parts.{w_laid}
use borrow.Author.Rules.{rules}
use Rattle.preliminary.proofs.fill_w.Goals as goal

pub returns : goal.returns
returns c =
    let y₁ = c.repeat_bits in
    let y₂ = c.copy_from_slice in
    let y₃ = c.put_crc in
    w_laid c.args.s.now c.requires.1 c.requires.0 c.args.w.now y₁.new.w y₂.new.self y₃.new.p (search rules) y₁.ensures y₂.ensures.after y₃.ensures
