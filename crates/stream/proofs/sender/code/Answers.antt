-- `stream::sender::code` is right: what coder's entry of the kind writes is the block, and no refusal applies.
use Rattle.stream.proofs.laws.Sending.{control_done, speech_done, control_coded, speech_coded}
use Rattle.stream.proofs.sender.code.Goals as goal

pub unwrap-requires : goal.unwrap-requires
unwrap-requires c =
    let s = c.args in
    let call = c.send_control in
    control_done s.d.now s.c.now c.requires.0 c.requires.2 call.result call.new.c c.if-d-eq184.true call.ensures

pub unwrap-requires-else-d-eq184 : goal.unwrap-requires-else-d-eq184
unwrap-requires-else-d-eq184 c =
    let s = c.args in
    let call = c.send_speech in
    speech_done s.d.now s.c.now c.requires.0 c.requires.2 call.result call.new.c c.requires.1 c.if-d-eq184.false call.ensures

pub returns-then-d-eq184 : goal.returns-then-d-eq184
returns-then-d-eq184 c =
    let s = c.args in
    let call = c.send_control in
    control_coded s.d.now s.c.now c.requires.0 c.requires.2 call.result call.new.c c.if-d-eq184.true call.ensures

pub returns-else-d-eq184 : goal.returns-else-d-eq184
returns-else-d-eq184 c =
    let s = c.args in
    let call = c.send_speech in
    speech_coded s.d.now s.c.now c.requires.0 c.requires.2 call.result call.new.c c.requires.1 c.if-d-eq184.false call.ensures
