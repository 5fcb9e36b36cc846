-- `coder::speech::put_parity` is right: what the first 50 bits followed by ones leave is their parity.
use Rattle.coder.proofs.laws.Speech.{first_divisible, parity_put}
use Rattle.coder.proofs.speech.put_parity.Goals as goal

pub remainder-requires : goal.remainder-requires
remainder-requires c =
    let laid = c.append_ones in
    first_divisible c.args.d.now c.requires.0 c.requires.1 laid.new.u laid.ensures

pub returns : goal.returns
returns c =
    let laid = c.append_ones in
    let divided = c.remainder in
    let placed = c.put_digits in
    parity_put c.args.d.now c.requires.0 c.requires.1 laid.new.u laid.ensures divided.result _ placed.new.out divided.ensures c.requires.2 placed.ensures
