-- Each call's contract settles what is said, the next hub and every byte of the lent buffer: two results that it allows are equal.
use Rattle.answers.proofs.laws.Answers.{Settled, meets_once}
use Rattle.hub.specs.Hub.{Call, hub_answer}
use Rattle.hub.specs.declared.Hub.{Hub}

pub hub_settled : (h : Hub) (c : Call) → Settled (hub_answer h c)
hub_settled h c = meets_once (hub_answer h c)
