-- `hub::standing` is right: a byte of at most 63 is an identity, and any other is nobody.
use borrow.Author.Tests.{le-leb, lt-leb}
use Rattle.hub.specs.Hub.{standing}
use Rattle.hub.proofs.standing.Goals as goal

pub returns-then-byte-le63 : goal.returns-then-byte-le63
unfolding standing
returns-then-byte-le63 c = simp (le-leb _ _ c.if-byte-le63.true)

pub returns-else-byte-le63 : goal.returns-else-byte-le63
unfolding standing
returns-else-byte-le63 c = simp (lt-leb _ _ c.if-byte-le63.false)
