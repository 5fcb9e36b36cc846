-- `marking::judge` is right: each answer is the case of `judged` to which the tests on the way lead.
use borrow.Author.Tests.{eq-eqb, ne_eqb}
use Rattle.coder.specs.Entries.{judged}
use Rattle.marking.proofs.judge.Goals as goal

pub returns-then-r-reads : goal.returns-then-r-reads
unfolding judged
returns-then-r-reads c = simp (ne_eqb _ _ c.if-r-reads.true)

pub returns-then-not-none_over : goal.returns-then-not-none_over
unfolding judged
returns-then-not-none_over c = simp (eq-eqb _ _ c.if-r-reads.false, ← c.none_over.ensures, c.if-not-none_over.true)

pub returns-then-not-none_over-2 : goal.returns-then-not-none_over-2
unfolding judged
returns-then-not-none_over-2 c =
    simp (
      eq-eqb _ _ c.if-r-reads.false,
      ← c.none_over.ensures,
      c.if-not-none_over.false,
      ← c.none_over-2.ensures,
      c.if-not-none_over-2.true,
    )

pub returns : goal.returns
unfolding judged
returns c =
    simp (
      eq-eqb _ _ c.if-r-reads.false,
      ← c.none_over.ensures,
      c.if-not-none_over.false,
      ← c.none_over-2.ensures,
      c.if-not-none_over-2.false,
    )
