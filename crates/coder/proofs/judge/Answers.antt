-- `coder::judge` is right: each answer is the case of `judged` to which the tests on the way lead.
use borrow.Author.Tests.{eq-eqb, ne_eqb, le-leb, lt-leb}
use Rattle.coder.specs.Entries.{judged}
use Rattle.coder.proofs.judge.Goals.{then-d-reads-via-then-d-reads, then-d-reads-via-else-d-reads+then-out-writes}
use Rattle.coder.proofs.judge.Goals as goal

pub returns-then-d-reads : goal.returns-then-d-reads
unfolding judged
returns-then-d-reads c =
    elim c.then-d-reads.branch [
      | then-d-reads-via-then-d-reads w ↦ simp (ne_eqb _ _ w.if-d-reads.true)
      | then-d-reads-via-else-d-reads+then-out-writes w ↦ simp (eq-eqb _ _ w.if-d-reads.false, ne_eqb _ _ w.if-out-writes.true)
    ]

pub returns-then-not-none_over : goal.returns-then-not-none_over
unfolding judged
returns-then-not-none_over c = simp (eq-eqb _ _ c.if-d-reads.false, eq-eqb _ _ c.if-out-writes.false, ← c.none_over.ensures, c.if-not-none_over.true)

pub returns-then-identity-gt63 : goal.returns-then-identity-gt63
unfolding judged
returns-then-identity-gt63 c = simp (eq-eqb _ _ c.if-d-reads.false, eq-eqb _ _ c.if-out-writes.false, ← c.none_over.ensures, c.if-not-none_over.false, lt-leb _ _ c.if-identity-gt63.true)

pub returns : goal.returns
unfolding judged
returns c = simp (eq-eqb _ _ c.if-d-reads.false, eq-eqb _ _ c.if-out-writes.false, ← c.none_over.ensures, c.if-not-none_over.false, le-leb _ _ c.if-identity-gt63.false)
