-- `hub::Hub::enrol` is right: what is said, and the next hub.
use Rattle.hub.proofs.laws.Answers.{enrol_met}
use Rattle.hub.proofs.Hub.enrol.Goals as goal

pub returns : goal.returns
returns c = enrol_met c.args.self _ c.args.identity c.seat-said.ensures
