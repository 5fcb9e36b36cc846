-- `frames::octets::unpack` is right: it fills the bits in turn, eight at a time.
use Rattle.std.proofs.Common.{◌*◌, length, arith}
use Rattle.bits.proofs.laws.Tab.{filled_all}
use Rattle.frames.specs.Octets.{unpacked}
use Rattle.frames.proofs.laws.Octets.{bit_of}
use Rattle.frames.proofs.octets.unpack.Goals as goal

pub returns : goal.returns
unfolding unpacked
returns c =
    let l = c.loop-o in
    let x = c.args.octets.now in
    filled_all (bit_of x) (8 * length x) (8 * l.o) l.bits l.invariant (omega arith)
