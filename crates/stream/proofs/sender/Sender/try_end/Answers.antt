-- `stream::sender::Sender::try_end` is right: where every test holds, the last block goes on alone; else all stands as before.
use mathlib.Core.Path.{◌≡◌, refl, ap, ◌∙◌}
use lib.ListN.{length}
use Rattle.bits.specs.Bits.{zeros}
use Rattle.places.specs.Places.{four, flags_of}
use Rattle.std.proofs.lemmas.Result.{err_from_is_err_and}
use Rattle.stream.specs.Sending.{end_told, end_bursts, end_next, end_answer}
use Rattle.stream.proofs.laws.Sending.{flag_is, end_able, done_afterwards, refused_afterwards}
use borrow.Author.Rules.{rules}
use Rattle.stream.proofs.sender.Sender.try_end.Goals as goal

pub fill_four-requires : goal.fill_four-requires
fill_four-requires c =
    let s = c.args in
    let j = c.judge_end in
    let held : length s.self.now.last ≡ 456 = search rules in
    (refl, held, (end_able s.self.now s.e.now j.result j.ensures c.in_ok-judge_end.was).writes)

pub returns : goal.returns
unfolding end_bursts end_next end_answer zeros
returns c =
    let s = c.args in
    let j = c.judge_end in
    done_afterwards (end_told s.self.now s.e.now) (end_bursts s.self.now) (end_next s.self.now) s.e.now s.self.now j.result j.ensures
    _ _ c.in_ok-judge_end.was
    (c.fill_four.ensures ∙ ap (four (zeros 456) s.self.now.last) (c.flags_of.ensures ∙ ap (flags_of 0) (flag_is s.self.now.facch c.from.result c.from.ensures).0))
    refl

pub returns-in_err-judge_end : goal.returns-in_err-judge_end
unfolding end_answer
returns-in_err-judge_end c =
    let s = c.args in
    let j = c.judge_end in
    let p = err_from_is_err_and c.from_residual.result c.from_residual.ensures.1 in
    rw (p.1, p.2) (refused_afterwards (end_told s.self.now s.e.now) (end_bursts s.self.now) (end_next s.self.now) s.e.now s.self.now j.result j.ensures c.in_err-judge_end.field-0.0 c.in_err-judge_end.was)
