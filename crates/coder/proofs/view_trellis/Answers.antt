-- `coder::view_trellis` is right: each refusal is the case of `judged` to which the tests on the way lead, and else the row is seen.
use native.Mathlib.Omega.{arith}
use borrow.Author.Tests.{eq-eqb, ne_eqb, le-leb, lt-leb}
use Rattle.coder.specs.Entries.{judged}
use Rattle.answers.specs.declared.Refusal.TheVariants.{Length, NotBits}
use Rattle.coder.proofs.laws.Entries.{view_refused, view_done}
use Rattle.bits.proofs.laws.Check.{none_over_lem}
use mathlib.Core.Path.{sym, ◌∙◌}
use Rattle.coder.proofs.view_trellis.Goals as goal

pub returns-then-r-ne0 : goal.returns-then-r-ne0
unfolding judged
returns-then-r-ne0 c =
    let s = c.args in
    let v = c.unseen in
    view_refused s.r.now Length v.result.told v.result.row v.ensures.0 v.ensures.1 (simp (ne_eqb _ _ c.if-r-ne0.true))

pub returns-then-r : goal.returns-then-r
unfolding judged
returns-then-r c =
    let s = c.args in
    let v = c.unseen-then-r in
    view_refused s.r.now Length v.result.told v.result.row v.ensures.0 v.ensures.1 (simp (eq-eqb _ _ c.if-r-ne0.false, lt-leb _ _ c.if-r.true))

pub returns-then-not-none_over : goal.returns-then-not-none_over
unfolding judged
returns-then-not-none_over c =
    let s = c.args in
    let v = c.unseen-then-not-none_over in
    let b = c.none_over in
    view_refused s.r.now NotBits v.result.told v.result.row v.ensures.0 v.ensures.1
    (simp (eq-eqb _ _ c.if-r-ne0.false, le-leb _ _ c.if-r.false, ← b.ensures, c.if-not-none_over.true))

pub view-requires : goal.view-requires
view-requires c =
    let s = c.args in
    let b = c.none_over in
    let short = c.if-r.false in (
      omega (arith, short),
      c.if-r-ne0.false,
      none_over_lem 2 s.r.now (sym b.ensures ∙ c.if-not-none_over.false),
    )

pub returns : goal.returns
unfolding judged
returns c =
    let s = c.args in
    let b = c.none_over in
    view_done s.r.now c.view.result c.view.ensures
    (simp (eq-eqb _ _ c.if-r-ne0.false, le-leb _ _ c.if-r.false, ← b.ensures, c.if-not-none_over.false))
