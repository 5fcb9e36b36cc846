-- `burst::ring::hold` is right: the part that is burst B's is written, and the rest stands.
use Rattle.burst.proofs.laws.Ring.{kept_is}
use Rattle.burst.proofs.ring.hold.Goals as goal

pub returns : goal.returns
returns c =
    let s = c.args in
    let from = c.held_at-from in
    let copy = c.copy_from_slice in
    kept_is s.held.now s.e.now copy.new.self s.b.0 from.result from.ensures.0 copy.ensures.after
