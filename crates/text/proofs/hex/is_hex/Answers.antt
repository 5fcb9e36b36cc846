-- `is_hex` is right: each character is a digit. Assumes nothing.
use Rattle.std.proofs.Common.{rules, ◌∙◌, leb}
use Rattle.std.proofs.lemmas.Iterator.{YieldsList-from_slice}
use Rattle.std.proofs.lemmas.Iterator.Search.{all_from_yields_List}
use borrow.Author.Tests.{eq-eqb, ne_eqb}
use Rattle.text.specs.Hexadecimal.{hex_digit, is_hex}
use Rattle.text.proofs.laws.Hexadecimal.{all_pass}
use Rattle.text.proofs.hex.is_hex.Goals as goal

pub returns-then-text-eq0 : goal.returns-then-text-eq0
unfolding is_hex
returns-then-text-eq0 c =
    rw (eq-eqb _ 0 c.if-text-eq0.true)
    (all_from_yields_List (λ x. leb (hex_digit x) 15) _ _ _ c.all.ensures.ran (YieldsList-from_slice c.args.text.now cc) (λ x b q k. search rules)
    ∙ all_pass c.args.text.now)

pub returns-else-text-eq0 : goal.returns-else-text-eq0
unfolding is_hex
returns-else-text-eq0 c = rw (ne_eqb _ 0 c.if-text-eq0.false)
