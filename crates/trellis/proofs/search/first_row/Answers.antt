-- `trellis::search::first_row` is right: the sixteen numbers are written out.
use Rattle.trellis.proofs.laws.Memory.{row_first}
use Rattle.trellis.proofs.search.first_row.Goals as goal

pub returns : goal.returns
returns c = row_first
