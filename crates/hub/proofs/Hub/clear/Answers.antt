-- `hub::Hub::clear` is right: each answer is the one to which the tests on the way lead.
use Rattle.std.proofs.Common.{sym, ◌∙◌, arith}
use Rattle.hub.specs.Hub.{who_at, stands_now}
use Rattle.hub.proofs.laws.Answers.{removes_over, removes_none, removes}
use Rattle.hub.proofs.laws.Standing.{standing_within}
use Rattle.hub.proofs.Hub.clear.Goals as goal

pub returns-then-place-gt29 : goal.returns-then-place-gt29
returns-then-place-gt29 c = sym (removes_over c.args.self.now c.args.place (omega (arith, c.if-place-gt29.true)))

pub returns-then-standing-eq-NOBODY : goal.returns-then-standing-eq-NOBODY
unfolding who_at
returns-then-standing-eq-NOBODY c =
    sym (removes_none c.args.self.now c.args.place (omega (arith, c.if-place-gt29.false)) (omega (arith, c.standing.ensures, c.if-standing-eq-NOBODY.true)))

pub returns : goal.returns
unfolding who_at stands_now
returns c =
    sym (removes c.args.self.now c.args.place (omega (arith, c.if-place-gt29.false)) (standing_within _ (λ e. c.if-standing-eq-NOBODY.false (c.standing.ensures ∙ e))))
