-- `trellis::search::newest` is right: below 16 the newest bit is the state's highest.
use mathlib.Core.Path.{sym}
use Rattle.trellis.proofs.laws.Steps.{newest}
use Rattle.trellis.proofs.search.newest.Goals as goal

pub returns : goal.returns
returns c = sym (newest c.args.s c.requires)
