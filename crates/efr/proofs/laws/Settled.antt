-- Each entry's contract settles its result and every byte of the lent buffer: two that it allows are equal.
use Rattle.std.specs.Prelude.{List, ℕ}
use Rattle.answers.proofs.laws.Answers.{Settled, meets_once}
use Rattle.efr.specs.Entries.{efr_sent, efr_received}

module _ (s c : List ℕ) where
  pub efr_settled : Settled (efr_sent s c)
  efr_settled = meets_once (efr_sent s c)

  pub efr_heard_settled : Settled (efr_received c s)
  efr_heard_settled = meets_once (efr_received c s)
