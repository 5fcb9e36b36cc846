-- `efr::send_efr` is right: the preliminary stage, then the speech entry.
use mathlib.Core.Path.{refl, sym, ◌∙◌}
use Rattle.bits.proofs.laws.Check.{none_over_lem}
use Rattle.efr.proofs.laws.Entries.{sent_length, sent_lent, sent_not_bits, sent_done}
use Rattle.efr.proofs.send_efr.Goals.{then-s-ne244-via-then-s-ne244, then-s-ne244-via-else-s-ne244+then-c-ne456}
use Rattle.efr.proofs.send_efr.Goals as goal

pub returns-then-s-ne244 : goal.returns-then-s-ne244
returns-then-s-ne244 c =
    elim c.then-s-ne244.branch [
      | then-s-ne244-via-then-s-ne244 w ↦ sent_length c.args.s.now c.args.c.now w.if-s-ne244.true
      | then-s-ne244-via-else-s-ne244+then-c-ne456 w ↦ sent_lent c.args.s.now c.args.c.now w.if-c-ne456.true
    ]

pub returns-then-not-none_over : goal.returns-then-not-none_over
returns-then-not-none_over c =
    let s = c.args in
    sent_not_bits s.s.now s.c.now c.if-s-ne244.false c.if-c-ne456.false (sym c.none_over.ensures ∙ c.if-not-none_over.true)

pub arrange-requires : goal.arrange-requires
arrange-requires c =
    let s = c.args in
    (none_over_lem 1 s.s.now (sym c.none_over.ensures ∙ c.if-not-none_over.false), c.if-s-ne244.false, refl)

pub returns : goal.returns
returns c =
    let s = c.args in
    let bits = c.none_over in
    let made = c.arrange in
    let sent = c.send_speech in
    sent_done s.s.now s.c.now c.if-s-ne244.false c.if-c-ne456.false (none_over_lem 1 s.s.now (sym bits.ensures ∙ c.if-not-none_over.false))
    made.new.d sent.result sent.new.c made.ensures sent.ensures
