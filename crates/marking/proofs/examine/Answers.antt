-- `marking::examine` is right: each answer names the first thing asked that fails on the way to it.
use native.Mathlib.Omega.{arith}
use Rattle.marking.specs.Marks.{Deserves}
use Rattle.marking.proofs.laws.Marks.{tail_found, tail_wrong, at_most_fewest, fewest_at_most}
use borrow.Author.Rules.{rules}
use Rattle.marking.proofs.examine.Goals as goal

pub returns-then-u-n : goal.returns-then-u-n
unfolding Deserves
returns-then-u-n c = search rules

pub returns-then-not-ends_in_zeros : goal.returns-then-not-ends_in_zeros
unfolding Deserves
returns-then-not-ends_in_zeros c =
    let s = c.args in
    let long = c.if-u-n.false in
    let zero = c.ends_in_zeros in
    (long, tail_wrong s.n s.u.now zero.result zero.ensures long c.if-not-ends_in_zeros.true)

pub returns-then-count-true_count : goal.returns-then-count-true_count
unfolding Deserves
returns-then-count-true_count c =
    let s = c.args in
    let long = c.if-u-n.false in
    let zero = c.ends_in_zeros in
    (long, tail_found s.n s.u.now zero.result zero.ensures long c.requires.0 c.if-not-ends_in_zeros.false, λ e. omega (arith, e, c.true_count.ensures, c.if-count-true_count.true))

pub returns-then-fewest-count : goal.returns-then-fewest-count
unfolding Deserves
returns-then-fewest-count c =
    let s = c.args in
    let long = c.if-u-n.false in
    let zero = c.ends_in_zeros in
    let own = c.true_count in
    let fewest = c.fewest in (
      long,
      tail_found s.n s.u.now zero.result zero.ensures long c.requires.0 c.if-not-ends_in_zeros.false,
      omega (arith, c.if-count-true_count.false, own.ensures),
      λ f. omega (arith, fewest_at_most s.c.now s.n s.count c.requires.0 c.requires.1 f, fewest.ensures, c.if-fewest-count.true),
    )

pub returns : goal.returns
unfolding Deserves
returns c =
    let s = c.args in
    let long = c.if-u-n.false in
    let zero = c.ends_in_zeros in
    let own = c.true_count in
    let fewest = c.fewest in (
      long,
      tail_found s.n s.u.now zero.result zero.ensures long c.requires.0 c.if-not-ends_in_zeros.false,
      omega (arith, c.if-count-true_count.false, own.ensures),
      at_most_fewest s.c.now s.n s.count c.requires.0 c.requires.1 (omega (arith, fewest.ensures, c.if-fewest-count.false)),
    )
