-- `coder::block::receive` is right: the nearest block is judged by its parity bits, and handed over where they are good.
use Rattle.coder.specs.Received.{block_heard}
use Rattle.coder.specs.laws.Format.{generator_of}
use Rattle.coder.proofs.laws.Heard.{heard_divisible, heard_bits, heard_count, heard_good, handed_good, handed_bad}
use mathlib.Core.Path.{◌∙◌}
use Rattle.coder.proofs.block.receive.Goals as goal

pub leaves_ones-requires : goal.leaves_ones-requires
leaves_ones-requires c =
    let s = c.args in
    let found = c.decode-count in
    heard_divisible s.f s.colour s.c.now s.d.now _ found.new.u c.requires.0 found.ensures.0

pub returns-then-leaves_ones : goal.returns-then-leaves_ones
returns-then-leaves_ones c =
    let s = c.args in
    let found = c.decode-count in
    let held = c.leaves_ones in
    let copied = c.copy_from_slice in
    handed_good (block_heard (generator_of s.f) s.colour s.f.bits s.c.now) s.d.now
    held.result (heard_good s.f s.colour s.c.now s.d.now _ found.new.u c.requires.0 found.ensures.0 c.requires.1 held.result held.ensures)
    found.result (heard_count s.f s.colour s.c.now s.d.now _ found.new.u c.requires.0 found.ensures.0 found.result found.ensures.1)
    copied.new.self c.if-leaves_ones.true (copied.ensures.after ∙ heard_bits s.f s.colour s.c.now s.d.now _ found.new.u c.requires.0 found.ensures.0)

pub returns : goal.returns
returns c =
    let s = c.args in
    let found = c.decode-count in
    let held = c.leaves_ones in
    handed_bad (block_heard (generator_of s.f) s.colour s.f.bits s.c.now) s.d.now
    held.result (heard_good s.f s.colour s.c.now s.d.now _ found.new.u c.requires.0 found.ensures.0 c.requires.1 held.result held.ensures)
    found.result (heard_count s.f s.colour s.c.now s.d.now _ found.new.u c.requires.0 found.ensures.0 found.result found.ensures.1)
    c.if-leaves_ones.false
