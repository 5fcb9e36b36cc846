-- `coder::receive_access` is right: the number in the code is its generator.
use Rattle.parity.proofs.laws.Generators.{access_number}
use Rattle.coder.specs.Received.{access_received}
use Rattle.coder.proofs.laws.Heard.{same_reception}
use Rattle.coder.proofs.receive_access.Goals as goal

pub returns : goal.returns
unfolding access_received
returns c =
    let s = c.args in
    let heard = c.receive_block in
    same_reception access_number 8 36 s.identity s.e.now s.d.now heard.result heard.new.d heard.ensures
