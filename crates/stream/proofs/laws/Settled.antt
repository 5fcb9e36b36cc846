-- Each call's contract settles what is told, the next stream and every byte of the lent buffer: two results that it allows are equal.
use Rattle.std.specs.Prelude.{List, ℕ, ◌≡◌}
use Rattle.std.proofs.Common.{sym, ◌∙◌}
use Rattle.answers.proofs.laws.Answers.{Settled, meets_once}
use Rattle.chart.specs.declared.totals.Totals.{Totals}
use Rattle.stream.specs.Receiving.{take_answer}
use Rattle.stream.specs.Sending.{send_answer, end_answer}
use Rattle.stream.specs.declared.receiver.Receiver.{Receiver}
use Rattle.stream.specs.declared.sender.Sender.{Sender}

pub send_settled : (s : Sender) (d e : List ℕ) → Settled (send_answer s d e)
send_settled s d e = meets_once (send_answer s d e)

pub end_settled : (s : Sender) (e : List ℕ) → Settled (end_answer s e)
end_settled s e = meets_once (end_answer s e)

pub take_settled : (s : Receiver) (b : ℕ) (e d : List ℕ) → Settled (take_answer s b e d)
take_settled s b e d = meets_once (take_answer s b e d)

pub totals_settled : (s : Receiver) (r q : Totals) → r ≡ s.totals → q ≡ s.totals → r ≡ q
totals_settled s r q e f = e ∙ sym f
