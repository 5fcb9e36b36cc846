-- `trellis::search::fewest` is right: the number of state 0 after all pairs is that of the nearest block.
use Rattle.trellis.proofs.laws.Memory.{count_is}
use Rattle.trellis.proofs.search.fewest.Goals as goal

pub returns : goal.returns
returns c =
    let s = c.args in
    let last = c.search-row in
    count_is s.c.now last.result s.n last.ensures.row
