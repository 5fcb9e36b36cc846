-- `frames::layout::is_framed` is right: it looks at the first sixteen bits, and at the first of each group.
use Rattle.std.proofs.Common.{true, ◌≡◌, ◌≢◌, refl, get_or, take, ◌*◌, sym, ◌∙◌, rules, tests}
use Rattle.std.proofs.lemmas.Iterator.{cases_from_all, YieldsList-from_range}
use Rattle.bits.proofs.laws.Cases.{not_true, false_true}
use Rattle.bits.specs.Bits.{none_over}
use Rattle.frames.specs.Frame.{fixed_right}
use Rattle.frames.proofs.laws.Layout.{sync_right, framed}
use Rattle.frames.proofs.layout.is_framed.Goals as goal

pub returns-then-none_over : goal.returns-then-none_over
returns-then-none_over c =
    let f = c.args.frame.now in
    let sync : none_over 0 (take 16 f) ≡ true = sym c.none_over.ensures ∙ c.if-none_over.true in
    framed f sync c.all.result
    (cases_from_all _ _ _ (λ g. get_or f (16 * g) 0 ≡ 1) (λ g. get_or f (16 * g) 0 ≢ 1) c.all.ensures.ran (YieldsList-from_range 1 20 19 refl refl) (λ x q k. search (rules, tests)) (λ x q k. search (rules, tests)))

pub returns-else-none_over : goal.returns-else-none_over
returns-else-none_over c =
    let f = c.args.frame.now in
    c.if-none_over.false ∙ sym (not_true (fixed_right f) (λ (t : fixed_right f ≡ true). false_true (sym c.if-none_over.false ∙ c.none_over.ensures ∙ sync_right f t)))
