-- `frames::octets::octet_of` is right: each bit is one more at the low end.
use Rattle.std.proofs.Common.{refl, arith}
use Rattle.bits.specs.Bits.{value}
use Rattle.frames.proofs.laws.Octets.{value_more, value_less}
use Rattle.frames.proofs.octets.octet_of.Goals as goal

pub loop-bit-init : goal.loop-bit-init
unfolding value
loop-bit-init c = refl

pub overflow_mul-x : goal.overflow_mul-x
overflow_mul-x c =
    let l = c.loop-bit in
    record { fits = omega (arith, l.invariant, value_less c.args.eight.now l.bit-index c.requires.1 c.requires.0 (omega (arith, c.requires.0))) }

pub overflow_add-x : goal.overflow_add-x
overflow_add-x c =
    let l = c.loop-bit in
    record { fits = omega (arith, l.invariant, value_less c.args.eight.now l.bit-index c.requires.1 c.requires.0 (omega (arith, c.requires.0)), c.requires.1 l.bit-index) }

pub loop-bit-preserved : goal.loop-bit-preserved
loop-bit-preserved c =
    let l = c.loop-bit in
    omega (arith, value_more c.args.eight.now l.bit-index c.loop-bit-test.true, l.invariant)
