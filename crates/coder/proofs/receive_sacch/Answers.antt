-- `coder::receive_sacch` is right: where every test holds, the message's control block is read and judged; else the buffer stands as before.
use Rattle.coder.specs.Received.{sacch_received}
use Rattle.coder.proofs.laws.Entries.{given}
use Rattle.coder.proofs.laws.Heard.{received_on, received_none}
use Rattle.coder.proofs.receive_sacch.Goals as goal

pub receive-requires : goal.receive-requires
receive-requires c = given 0 c.judge.ensures c.in_ok-judge.was

pub returns : goal.returns
unfolding sacch_received
returns c = received_on 464 184 0 _ _ _ c.judge.ensures c.in_ok-judge.was c.receive.ensures

pub returns-in_err-judge : goal.returns-in_err-judge
unfolding sacch_received
returns-in_err-judge c = received_none 464 184 0 _ _ _ c.judge.ensures c.in_err-judge.was c.from_residual.ensures.1
