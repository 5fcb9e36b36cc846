-- `stream::receiver::Receiver::try_take` is right: where every test holds, the burst is held and brings its answer; else all stands as before.
use mathlib.Core.List.{List}
use mathlib.Core.Path.{◌≡◌, ap₂, subst, ◌∙◌, ap}
use Prim.Native.Nat.{ℕ, ◌+◌}
use native.Mathlib.Omega.{arith}
use lib.ListN.{length}
use Rattle.std.proofs.lemmas.Result.{err_from_is_err_and}
use Rattle.answers.specs.Answers.{Answer, Meets}
use Rattle.burst.specs.Ring.{kept}
use Rattle.stream.specs.Receiving.{burst_answer, take_told, taken_next, take_answer}
use Rattle.stream.proofs.laws.Receiving.{take_able, done_taking, refused_taking}
use Rattle.chart.specs.Totals.{counted}
use Rattle.chart.specs.Answers.{Take}
use Rattle.chart.specs.declared.totals.Totals.{Totals}
use Rattle.stream.specs.declared.receiver.Receiver.{Receiver}
use borrow.Author.Rules.{rules}
use Rattle.stream.proofs.receiver.Receiver.try_take.Goals as goal

-- the code counts by the number that was given, which is the next one
module _ (s : Receiver) (b : ℕ) (e d y : List ℕ) (turn : b ≡ s.next.0) (ey : y ≡ kept s.held b e) where
  in_turn : y ≡ kept s.held s.next.0 e
  in_turn = ey ∙ ap (λ (n : ℕ). kept s.held n e) turn

  said_in_turn : burst_answer y b d ≡ burst_answer (kept s.held s.next.0 e) s.next.0 d
  said_in_turn = ap₂ (λ (x : List ℕ) (n : ℕ). burst_answer x n d) in_turn turn

  next_in_turn : (t : Take) (m : ℕ) (z : Totals) → m ≡ b + 1 → z ≡ counted s.totals t
      → ◌≡◌ {A = Receiver} (record { next = record { 0 = m }; held = y; totals = z }) (taken_next s e t)
  unfolding taken_next
  next_in_turn t m z em ez =
      ap₂ (λ (n : ℕ) (x : List ℕ). record { next = record { 0 = n }; held = x; totals = z }) (em ∙ ap (λ (n : ℕ). n + 1) turn) in_turn
      ∙ ap (λ (x : Totals). record { next = record { 0 = s.next.0 + 1 }; held = kept s.held s.next.0 e; totals = x }) ez

pub hold-requires : goal.hold-requires
hold-requires c =
    let s = c.args in
    let j = c.judge_take in
    let able = take_able s.self.now s.b.0 s.e.now s.d.now j.result j.ensures c.in_ok-judge_take.was in
    let held : length s.self.now.held ≡ 928 = search rules in
    (able.reads, held)

pub answer-told-requires : goal.answer-told-requires
answer-told-requires c =
    let s = c.args in
    let j = c.judge_take in
    let able = take_able s.self.now s.b.0 s.e.now s.d.now j.result j.ensures c.in_ok-judge_take.was in
    let held : length c.hold.new.held ≡ 928 = search rules in
    (omega (arith, able.room, able.turn), held, able.writes)

pub next_burst-self-requires : goal.next_burst-self-requires
next_burst-self-requires c =
    let s = c.args in
    let j = c.judge_take in
    let able = take_able s.self.now s.b.0 s.e.now s.d.now j.result j.ensures c.in_ok-judge_take.was in
    omega (arith, able.room, able.turn)

pub returns : goal.returns
unfolding take_answer
returns c =
    let s = c.args in
    let j = c.judge_take in
    let able = take_able s.self.now s.b.0 s.e.now s.d.now j.result j.ensures c.in_ok-judge_take.was in
    let y = c.hold.new.held in
    let k = c.hold.ensures in
    let said = c.answer-told in
    done_taking (take_told s.self.now s.b.0 s.e.now s.d.now) s.self.now s.e.now s.d.now j.result j.ensures said.result said.new.d _ c.in_ok-judge_take.was
    (subst (λ (a : Answer Take). Meets a said.result said.new.d) (said_in_turn s.self.now s.b.0 s.e.now s.d.now y able.turn k) said.ensures)
    (next_in_turn s.self.now s.b.0 s.e.now s.d.now y able.turn k said.result c.next_burst-self.result.0 c.counted-self.result c.next_burst-self.ensures c.counted-self.ensures)

pub returns-in_err-judge_take : goal.returns-in_err-judge_take
unfolding take_answer
returns-in_err-judge_take c =
    let s = c.args in
    let j = c.judge_take in
    let p = err_from_is_err_and c.from_residual.result c.from_residual.ensures.1 in
    rw (p.1, p.2) (refused_taking (take_told s.self.now s.b.0 s.e.now s.d.now) s.self.now s.e.now s.d.now j.result j.ensures c.in_err-judge_take.field-0.0 c.in_err-judge_take.was)
