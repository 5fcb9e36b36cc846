-- `coder::receive_control` is right: where every test holds, the nearest block is read and judged; else the buffer stands as before.
use Rattle.coder.specs.Received.{control_received}
use Rattle.coder.proofs.laws.Entries.{given}
use Rattle.coder.proofs.laws.Heard.{received_on, received_none}
use Rattle.coder.proofs.receive_control.Goals as goal

pub receive-requires : goal.receive-requires
receive-requires c = given 0 c.judge.ensures c.in_ok-judge.was

pub returns : goal.returns
unfolding control_received
returns c = received_on 456 184 0 _ _ _ c.judge.ensures c.in_ok-judge.was c.receive.ensures

pub returns-in_err-judge : goal.returns-in_err-judge
unfolding control_received
returns-in_err-judge c = received_none 456 184 0 _ _ _ c.judge.ensures c.in_err-judge.was c.from_residual.ensures.1
