-- `coder::send_speech` is right: where every test holds, the speech block is written; else the buffer stands as before.
use Rattle.coder.specs.Entries.{speech_sent}
use Rattle.coder.proofs.laws.Entries.{given, sent_on, sent_none}
use Rattle.coder.proofs.send_speech.Goals as goal

pub code-requires : goal.code-requires
code-requires c = given 0 c.judge.ensures c.in_ok-judge.was

pub returns : goal.returns
unfolding speech_sent
returns c = sent_on 260 456 0 _ _ _ c.judge.ensures c.in_ok-judge.was c.code.ensures

pub returns-in_err-judge : goal.returns-in_err-judge
unfolding speech_sent
returns-in_err-judge c = sent_none 260 456 0 _ _ _ c.judge.ensures c.in_err-judge.was c.from_residual.ensures.1
