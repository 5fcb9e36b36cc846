-- `coder::receive_sch` is right: the number in the code is its generator.
use Rattle.parity.proofs.laws.Generators.{sch_number}
use Rattle.coder.specs.Received.{sch_received}
use Rattle.coder.proofs.laws.Heard.{same_reception}
use Rattle.coder.proofs.receive_sch.Goals as goal

pub returns : goal.returns
unfolding sch_received
returns c =
    let s = c.args in
    let heard = c.receive_block in
    same_reception sch_number 25 78 0 s.e.now s.d.now heard.result heard.new.d heard.ensures
