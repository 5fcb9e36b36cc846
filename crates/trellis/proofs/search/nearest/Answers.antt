-- `trellis::search::nearest` is right: it walks back from state 0 through the choices that the search remembered.
use Rattle.trellis.proofs.laws.Memory.{found, count_is}
use Rattle.std.proofs.Common.{rules}
use Rattle.trellis.proofs.search.nearest.Goals as goal

pub returns : goal.returns
returns c =
    let s = c.args in
    let searched = c.search-row in (
      found s.c.now searched.new.memory _ c.walk.new.u s.n searched.ensures.kept c.walk.ensures,
      count_is s.c.now searched.result s.n searched.ensures.row,
      search rules,
    )
