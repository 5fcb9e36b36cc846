-- The chart's totals (02, M-100), over the definitions that the contracts of `stream` cite. Proved in proofs/laws/Totals.
use Rattle.std.specs.Prelude.{List, map, ◌≡◌, ◌+◌, ◌*◌, ◌≤◌}
use Rattle.answers.specs.Answers.{Answer}
use Rattle.answers.specs.Calls.{handed_back}
use Rattle.chart.specs.Answers.{of_taken}
use Rattle.chart.specs.Says.{totals_of}
use Rattle.chart.specs.declared.Values.{Values}
use Rattle.chart.specs.declared.totals.Totals.{Totals}
use Rattle.stream.specs.Calls.{TakeCall, ReceiverGave}
use Rattle.stream.specs.Receiving.{fresh_receiver}
use Rattle.stream.specs.declared.receiver.Received.{Received}
use Rattle.stream.specs.declared.receiver.Receiver.{Receiver}

-- the stream after some calls: the one that the last of them handed back
abbrev pub receiver_after : Receiver → List (Answer Received) → Receiver
receiver_after s given = handed_back (λ (r : Received). r.next) s given

-- what they were answered, in 01's numbers and values
abbrev pub answered : List (Answer Received) → List Values
answered given = map (λ (a : Answer Received). of_taken a.result.told) given

-- none of the numbers is near its limit, 4,294,967,295: there are at most 16,383 blocks, and a good one disagrees in at most 456 places
pub record FarFromFull (t : Totals) : Type 0 where
  pub blocks : t.speech + t.facch + t.refused ≤ 16383
  pub counts : t.counts ≤ 456 * (t.speech + t.facch)

-- THE TOTALS: a fresh receiver is called any number of times, with any burst numbers, bytes and buffers of any lengths, and each call is answered as
-- its contract says. Then its four numbers are the totals taken over all answers, the refused ones among them.
abbrev pub TotalsPromise : Type 0
TotalsPromise =
    (calls : List TakeCall) (given : List (Answer Received)) → ReceiverGave calls given
    → ((receiver_after fresh_receiver given).totals ≡ totals_of (answered given)) × FarFromFull (totals_of (answered given))
