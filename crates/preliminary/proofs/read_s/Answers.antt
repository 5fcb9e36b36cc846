-- `preliminary::read_s` is right: five parts of w, one after another.
use Rattle.preliminary.proofs.laws.Parts.{s_laid}
use borrow.Author.Rules.{rules}
use Rattle.preliminary.proofs.read_s.Goals as goal

pub returns : goal.returns
returns c =
    let y₁ = c.copy_from_slice in
    let y₂ = c.copy_from_slice-2 in
    let y₃ = c.copy_from_slice-3 in
    let y₄ = c.copy_from_slice-4 in
    let y₅ = c.copy_from_slice-5 in
    s_laid c.args.w.now (search rules) c.args.s.now y₁.new.self y₂.new.self y₃.new.self y₄.new.self y₅.new.self c.requires
    y₁.ensures.after y₂.ensures.after y₃.ensures.after y₄.ensures.after y₅.ensures.after
