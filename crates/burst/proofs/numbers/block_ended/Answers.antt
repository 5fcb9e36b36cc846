-- `burst::numbers::block_ended` is right: before burst 7 and off the fourth of four none is ended, else the block whose last burst it is.
use Prim.Native.Nat.{◌%◌}
use borrow.Author.Tests.{eq-eqb, ne_eqb, le-leb, lt-leb}
use Rattle.burst.specs.Numbers.{ended}
use Rattle.burst.proofs.numbers.block_ended.Goals as goal
use Rattle.burst.proofs.numbers.block_ended.Goals.{then-b-lt7-via-then-b-lt7, then-b-lt7-via-else-b-lt7+then-b-ne3}

pub returns-then-b-lt7 : goal.returns-then-b-lt7
unfolding ended
returns-then-b-lt7 c =
    let b = c.args.b.0 in
    elim c.then-b-lt7.branch [
      | then-b-lt7-via-then-b-lt7 w ↦ rw (lt-leb 7 b w.if-b-lt7.true)
      | then-b-lt7-via-else-b-lt7+then-b-ne3 w ↦ rw (le-leb 7 b w.if-b-lt7.false, ne_eqb (b % 4) 3 w.if-b-ne3.true)
    ]

pub returns : goal.returns
unfolding ended
returns c =
    let b = c.args.b.0 in
    rw (le-leb 7 b c.if-b-lt7.false, eq-eqb (b % 4) 3 c.if-b-ne3.false)
