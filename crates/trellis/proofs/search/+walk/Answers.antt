-- `trellis::search::walk` is right: it writes the newest bit of its walk, and its call of itself, one pair earlier, those before.
use Rattle.std.proofs.Common.{arith}
use Rattle.trellis.proofs.laws.Memory.{walked, stayed}
use Rattle.trellis.proofs.search.+walk.Goals as goal

pub returns-then-t-gt0 : goal.returns-then-t-gt0
returns-then-t-gt0 t c =
    let s = c.args in
    walked s.memory.now s.u.now s.t s.s c.newest.result c.earlier.result c.walk.new.u c.if-t-gt0.true (omega arith) c.newest.ensures
    c.earlier.ensures.0 c.walk.ensures

pub returns-else-t-gt0 : goal.returns-else-t-gt0
returns-else-t-gt0 t c =
    let s = c.args in
    stayed s.memory.now s.u.now s.t s.s c.if-t-gt0.false
