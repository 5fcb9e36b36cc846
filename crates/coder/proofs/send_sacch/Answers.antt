-- `coder::send_sacch` is right: where every test holds, the SACCH message is written; else the buffer stands as before.
use Rattle.coder.specs.Entries.{sacch_sent}
use Rattle.coder.proofs.laws.Entries.{given, sent_on, sent_none}
use Rattle.coder.proofs.send_sacch.Goals as goal

pub code-requires : goal.code-requires
code-requires c = given 0 c.judge.ensures c.in_ok-judge.was

pub returns : goal.returns
unfolding sacch_sent
returns c = sent_on 184 464 0 _ _ _ c.judge.ensures c.in_ok-judge.was c.code.ensures

pub returns-in_err-judge : goal.returns-in_err-judge
unfolding sacch_sent
returns-in_err-judge c = sent_none 184 464 0 _ _ _ c.judge.ensures c.in_err-judge.was c.from_residual.ensures.1
