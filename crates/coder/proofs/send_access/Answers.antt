-- `coder::send_access` is right: where every test holds, the access burst is written; else the buffer stands as before.
use Rattle.coder.specs.Entries.{access_sent, Given}
use Rattle.coder.proofs.laws.Blocks.{access_is}
use Rattle.coder.proofs.laws.Entries.{given, done_identity, sent_on, sent_none}
use Rattle.coder.proofs.send_access.Goals as goal

pub code-requires : goal.code-requires
code-requires c = given c.args.identity c.judge.ensures c.in_ok-judge.was

pub returns : goal.returns
unfolding access_sent
returns c =
    let given_so : Given 1 8 36 c.args.d.now c.args.e.now = given c.args.identity c.judge.ensures c.in_ok-judge.was in
    sent_on 8 36 c.args.identity _ _ _ c.judge.ensures c.in_ok-judge.was (access_is c.args.d.now given_so.bits c.args.identity (done_identity 1 c.args.d.now c.args.e.now 8 36 c.args.identity _ c.judge.ensures c.in_ok-judge.was) c.code.new.c c.code.ensures)

pub returns-in_err-judge : goal.returns-in_err-judge
unfolding access_sent
returns-in_err-judge c = sent_none 8 36 c.args.identity _ _ _ c.judge.ensures c.in_err-judge.was c.from_residual.ensures.1
