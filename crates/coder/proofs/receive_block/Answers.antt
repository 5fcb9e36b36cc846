-- `coder::receive_block` is right: where every test holds, the nearest block is received and judged; else the buffer stands as before.
use Rattle.coder.proofs.laws.Entries.{given, done_identity}
use Rattle.coder.proofs.laws.Format.{fits, identity_fits}
use Rattle.coder.proofs.laws.Heard.{received_on, received_none}
use Rattle.coder.proofs.receive_block.Goals as goal

pub receive-requires : goal.receive-requires
receive-requires c =
    let s = c.args in
    let told = c.in_ok-judge.was in
    (given s.identity c.judge.ensures told, identity_fits (fits s.f) (done_identity 2 s.c.now s.d.now s.f.coded s.f.bits s.identity _ c.judge.ensures told))

pub returns : goal.returns
returns c = received_on c.args.f.coded c.args.f.bits c.args.identity _ _ _ c.judge.ensures c.in_ok-judge.was c.receive.ensures

pub returns-in_err-judge : goal.returns-in_err-judge
returns-in_err-judge c = received_none c.args.f.coded c.args.f.bits c.args.identity _ _ _ c.judge.ensures c.in_err-judge.was c.from_residual.ensures.1
