-- For any list of calls from a fresh stream, every answer is the definition's.
use Rattle.std.specs.Prelude.{List, ◌≡◌}
use Rattle.answers.specs.Answers.{Answer}
use Rattle.answers.proofs.laws.Calls.{every_order}
use Rattle.stream.specs.Calls.{SenderCall, sender_answer, sender_answers, SenderGave, TakeCall, receiver_answer, receiver_answers, ReceiverGave}
use Rattle.stream.specs.Receiving.{fresh_receiver}
use Rattle.stream.specs.Sending.{fresh_sender}
use Rattle.stream.specs.declared.receiver.Received.{Received}
use Rattle.stream.specs.declared.sender.Sent.{Sent}

pub sender_order : (calls : List SenderCall) (given : List (Answer Sent)) → SenderGave calls given → given ≡ sender_answers calls
sender_order calls given h = every_order sender_answer (λ r. r.next) fresh_sender calls given h

pub receiver_order : (calls : List TakeCall) (given : List (Answer Received)) → ReceiverGave calls given → given ≡ receiver_answers calls
receiver_order calls given h = every_order receiver_answer (λ r. r.next) fresh_receiver calls given h
