-- `coder::control::receive` is right: the nearest block is judged by working its parity bits out again, and handed over where they are there.
use mathlib.Core.Path.{◌∙◌}
use Rattle.parity.specs.Division.{control_g}
use Rattle.coder.specs.Received.{block_heard}
use Rattle.coder.proofs.laws.Control.{control_asked, control_bits, control_count, control_good}
use Rattle.coder.proofs.laws.Heard.{handed_good, handed_bad}
use Rattle.coder.proofs.control.receive.Goals as goal

pub is_control-requires : goal.is_control-requires
is_control-requires c =
    let found = c.nearest-count in
    control_asked c.args.c.now _ found.new.u c.requires.reads found.ensures.0

pub returns-then-is_control : goal.returns-then-is_control
returns-then-is_control c =
    let s = c.args in
    let found = c.nearest-count in
    let judged = c.is_control in
    let copied = c.copy_from_slice in
    handed_good (block_heard control_g 0 184 s.c.now) s.d.now
    judged.result (control_good s.c.now _ found.new.u c.requires.reads found.ensures.0 judged.result judged.ensures.0 judged.ensures.1)
    found.result (control_count s.c.now _ found.new.u c.requires.reads found.ensures.0 found.result found.ensures.1)
    copied.new.self c.if-is_control.true
    (copied.ensures.after ∙ control_bits s.c.now _ found.new.u c.requires.reads found.ensures.0)

pub returns : goal.returns
returns c =
    let s = c.args in
    let found = c.nearest-count in
    let judged = c.is_control in
    handed_bad (block_heard control_g 0 184 s.c.now) s.d.now
    judged.result (control_good s.c.now _ found.new.u c.requires.reads found.ensures.0 judged.result judged.ensures.0 judged.ensures.1)
    found.result (control_count s.c.now _ found.new.u c.requires.reads found.ensures.0 found.result found.ensures.1)
    c.if-is_control.false
