-- Each entry's contract settles its result and every byte of the lent buffer: two that it allows are equal.
use Rattle.std.specs.Prelude.{List, ◌≡◌, ℕ}
use Rattle.std.proofs.Common.{sym, ◌∙◌}
use Rattle.answers.proofs.laws.Answers.{Settled, meets_once}
use Rattle.coder.specs.Entries.{speech_sent, control_sent, sacch_sent, access_sent, sch_sent, trellis_viewed}
use Rattle.coder.specs.Whose.{Whose, access_whose, any_access_received}
use Rattle.coder.specs.Received.{speech_received, control_received, sacch_received, access_received, sch_received}

module _ (identity : ℕ) (d c : List ℕ) where
  pub speech_settled : Settled (speech_sent d c)
  speech_settled = meets_once (speech_sent d c)

  pub control_settled : Settled (control_sent d c)
  control_settled = meets_once (control_sent d c)

  pub sacch_settled : Settled (sacch_sent d c)
  sacch_settled = meets_once (sacch_sent d c)

  pub access_settled : Settled (access_sent identity d c)
  access_settled = meets_once (access_sent identity d c)

  pub sch_settled : Settled (sch_sent d c)
  sch_settled = meets_once (sch_sent d c)

  pub view_settled : Settled (trellis_viewed d)
  view_settled = meets_once (trellis_viewed d)

  pub speech_heard_settled : Settled (speech_received c d)
  speech_heard_settled = meets_once (speech_received c d)

  pub control_heard_settled : Settled (control_received c d)
  control_heard_settled = meets_once (control_received c d)

  pub sacch_heard_settled : Settled (sacch_received c d)
  sacch_heard_settled = meets_once (sacch_received c d)

  pub sch_heard_settled : Settled (sch_received c d)
  sch_heard_settled = meets_once (sch_received c d)

  pub access_heard_settled : Settled (access_received identity c d)
  access_heard_settled = meets_once (access_received identity c d)

  pub any_access_settled : Settled (any_access_received c d)
  any_access_settled = meets_once (any_access_received c d)

-- where nothing is written the result is all
pub whose_settled : (e : List ℕ) (r s : Whose) → r ≡ access_whose e → s ≡ access_whose e → r ≡ s
whose_settled e r s f g = f ∙ sym g
