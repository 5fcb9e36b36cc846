-- `preliminary::fill_word` is right: the 65 bits, then the eight.
use Rattle.preliminary.proofs.laws.Parts.{word_laid}
use borrow.Author.Rules.{rules}
use Rattle.preliminary.proofs.fill_word.Goals as goal

pub returns : goal.returns
returns c =
    let x = c.fetch_important in
    let y = c.copy_from_slice in
    word_laid c.args.s.now c.args.behind.now c.args.word.now x.new.b y.new.self (search rules) x.ensures y.ensures.after
