-- `coder::send_sch` is right: where every test holds, the SCH burst is written; else the buffer stands as before.
use Rattle.coder.specs.Entries.{sch_sent, Given}
use Rattle.coder.proofs.laws.Blocks.{sch_is}
use Rattle.coder.proofs.laws.Entries.{given, sent_on, sent_none}
use Rattle.coder.proofs.send_sch.Goals as goal

pub code-requires : goal.code-requires
code-requires c = given 0 c.judge.ensures c.in_ok-judge.was

pub returns : goal.returns
unfolding sch_sent
returns c =
    let given_so : Given 1 25 78 c.args.d.now c.args.e.now = given 0 c.judge.ensures c.in_ok-judge.was in
    sent_on 25 78 0 _ _ _ c.judge.ensures c.in_ok-judge.was (sch_is c.args.d.now given_so.bits c.code.new.c c.code.ensures)

pub returns-in_err-judge : goal.returns-in_err-judge
unfolding sch_sent
returns-in_err-judge c = sent_none 25 78 0 _ _ _ c.judge.ensures c.in_err-judge.was c.from_residual.ensures.1
