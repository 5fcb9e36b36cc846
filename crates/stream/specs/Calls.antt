-- A call of a stream, with all that it is given: a call is answered by one definition, whichever it is.
use Rattle.std.specs.Prelude.{List, ℕ}
use Rattle.answers.specs.Answers.{Answer}
use Rattle.answers.specs.Calls.{answers_to, Happened}
use Rattle.stream.specs.Receiving.{fresh_receiver, take_answer}
use Rattle.stream.specs.Sending.{fresh_sender, send_answer, end_answer}
use Rattle.stream.specs.declared.receiver.Received.{Received}
use Rattle.stream.specs.declared.receiver.Receiver.{Receiver}
use Rattle.stream.specs.declared.sender.Sender.{Sender}
use Rattle.stream.specs.declared.sender.Sent.{Sent}

-- a block to send and what the lent buffer held; or an end and what the lent buffer held
pub data SenderCall : Type 0 where
  send : List ℕ → List ℕ → SenderCall
  end : List ℕ → SenderCall

unfoldable pub sender_answer : Sender → SenderCall → Answer Sent
sender_answer s (send d e) = send_answer s d e
sender_answer s (end e) = end_answer s e

-- a burst's number, its bytes, and what the lent buffer held
pub record TakeCall : Type 0 where
  pub number : ℕ
  pub burst : List ℕ
  pub lent : List ℕ

unfoldable pub receiver_answer : Receiver → TakeCall → Answer Received
receiver_answer s c = take_answer s c.number c.burst c.lent

-- any calls, one after another, from a fresh stream: what the definitions answer, and what happened by the contracts
abbrev pub sender_answers : List SenderCall → List (Answer Sent)
sender_answers calls = answers_to sender_answer (λ r. r.next) fresh_sender calls

abbrev pub SenderGave : List SenderCall → List (Answer Sent) → Type 0
SenderGave calls given = Happened sender_answer (λ r. r.next) fresh_sender calls given

abbrev pub receiver_answers : List TakeCall → List (Answer Received)
receiver_answers calls = answers_to receiver_answer (λ r. r.next) fresh_receiver calls

abbrev pub ReceiverGave : List TakeCall → List (Answer Received) → Type 0
ReceiverGave calls given = Happened receiver_answer (λ r. r.next) fresh_receiver calls given
