-- `stream::sender::Sender::try_send` is right: where every test holds, the block begins and the stream goes on with it; else all stands as before.
use mathlib.Core.List.{List}
use mathlib.Core.Path.{◌≡◌, ap, ap₂, ◌∙◌}
use Prim.Native.Nat.{ℕ, ◌+◌}
use native.Mathlib.Omega.{arith}
use lib.ListN.{length}
use Rattle.places.specs.Places.{four, flags_of}
use Rattle.std.proofs.lemmas.Result.{err_from_is_err_and}
use Rattle.stream.specs.Sending.{is_facch, block_of, flag_of, send_told, sent_bursts, sent_next, send_answer}
use Rattle.stream.proofs.laws.Sending.{flag_is, send_able, done_afterwards, refused_afterwards}
use Rattle.stream.specs.declared.sender.Sender.{Sender}
use borrow.Author.Rules.{rules}
use Rattle.stream.proofs.sender.Sender.try_send.Goals as goal

next_is : (s : Sender) (d c : List ℕ) (n : ℕ) → c ≡ block_of d → n ≡ s.sent.0 + 1
    → ◌≡◌ {A = Sender} (record { sent = record { 0 = n }; ended = s.ended; facch = is_facch (length d); last = c }) (sent_next s d)
unfolding sent_next
next_is s d c n e en = ap₂ (λ (m : ℕ) (l : List ℕ). record { sent = record { 0 = m }; ended = s.ended; facch = is_facch (length d); last = l }) en e

pub begin-requires : goal.begin-requires
begin-requires c =
    let s = c.args in
    let j = c.judge_send in
    let able = send_able s.self.now s.d.now s.e.now j.result j.ensures c.in_ok-judge_send.was in
    let held : length s.self.now.last ≡ 456 = search rules in
    (record { bits = able.bits; reads = able.reads; held = held; coded = search rules; writes = able.writes }, (flag_is s.self.now.facch c.from.result c.from.ensures).1)

pub next_block-self-requires : goal.next_block-self-requires
next_block-self-requires c =
    let s = c.args in
    let j = c.judge_send in
    let able = send_able s.self.now s.d.now s.e.now j.result j.ensures c.in_ok-judge_send.was in
    omega (arith, able.room)

pub returns : goal.returns
unfolding sent_bursts send_answer
returns c =
    let s = c.args in
    let j = c.judge_send in
    let b = c.begin in
    done_afterwards (send_told s.self.now s.d.now s.e.now) (sent_bursts s.self.now s.d.now) (sent_next s.self.now s.d.now) s.e.now s.self.now j.result j.ensures
    _ _ c.in_ok-judge_send.was
    (b.ensures.1 ∙ ap (λ (q : ℕ). four (block_of s.d.now) s.self.now.last (flags_of (flag_of (is_facch (length s.d.now))) q)) (flag_is s.self.now.facch c.from.result c.from.ensures).0)
    (next_is s.self.now s.d.now b.new.block c.next_block-self.result.0 b.ensures.0 c.next_block-self.ensures)

pub returns-in_err-judge_send : goal.returns-in_err-judge_send
unfolding send_answer
returns-in_err-judge_send c =
    let s = c.args in
    let j = c.judge_send in
    let p = err_from_is_err_and c.from_residual.result c.from_residual.ensures.1 in
    rw (p.1, p.2) (refused_afterwards (send_told s.self.now s.d.now s.e.now) (sent_bursts s.self.now s.d.now) (sent_next s.self.now s.d.now) s.e.now s.self.now j.result j.ensures c.in_err-judge_send.field-0.0 c.in_err-judge_send.was)
