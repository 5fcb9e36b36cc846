-- `coder::block::protect` is right: what d followed by ones leaves is d's parity, and it takes the place of the ones.
use native.Mathlib.Omega.{arith}
use Rattle.coder.proofs.laws.Protected.{front_divisible, protected}
use Rattle.coder.proofs.block.protect.Goals as goal

pub remainder-p-requires : goal.remainder-p-requires
remainder-p-requires c =
    let s = c.args in
    let laid = c.append_ones in
    front_divisible s.f.generator s.f.degree s.colour s.d.now s.u.now laid.new.u s.f.generates c.requires.0 (omega (arith, c.requires.1, c.requires.2)) laid.ensures

pub returns : goal.returns
returns c =
    let s = c.args in
    let laid = c.append_ones in
    let divided = c.remainder-p in
    let placed = c.put_digits in
    protected s.f.generator s.f.degree s.colour s.d.now s.u.now laid.new.u s.f.generates c.requires.0 (omega (arith, c.requires.1, c.requires.2)) laid.ensures
    divided.result placed.new.out divided.ensures placed.ensures
