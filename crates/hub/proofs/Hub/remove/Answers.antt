-- `hub::Hub::remove` is right: what is said, and the next hub.
use Rattle.hub.proofs.laws.Answers.{remove_met}
use Rattle.hub.proofs.Hub.remove.Goals as goal

pub returns : goal.returns
returns c = remove_met c.args.self _ c.args.place c.clear-said.ensures
