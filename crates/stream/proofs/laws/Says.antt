-- What send, end and take answer is what Says has, for every value of a stream.
use Rattle.std.proofs.Math.Bool.{Bool}
use Rattle.std.specs.Prelude.{true, List, ◌≡◌, ℕ, ◌+◌, ◌*◌, eqb, length, Some, Ok, Err, Option}
use Rattle.std.proofs.Math.Path.{refl, ap}
use Rattle.std.proofs.Common.{sym, ◌∙◌, arith}
use borrow.Author.Tests.{eqb-true, eq-eqb, ne_eqb, le-leb, lt-leb}
use Rattle.bits.specs.Bits.{both, none_over}
use Rattle.bits.proofs.laws.Cases.{both_first, both_second, not_true}
use Rattle.bits.proofs.laws.Check.{none_over_lem, over_none}
use Rattle.answers.specs.Answers.{Answer, number_of, of_told, Told}
use Rattle.answers.specs.declared.Refusal.{Refusal}
use Rattle.answers.specs.declared.Refusal.TheVariants.{Length, NotBits, OutOfTurn, Full, NothingSent, Ended}
use Rattle.burst.specs.Held.{held_flags, held_block}
use Rattle.burst.specs.Numbers.{ended}
use Rattle.burst.specs.Ring.{kept}
use Rattle.burst.specs.declared.numbers.BlockNumber.{BlockNumber}
use Rattle.burst.proofs.laws.Held.{held_ones}
use Rattle.burst.proofs.laws.Numbers.{ended_block, ended_none}
use Rattle.coder.proofs.laws.Says.{told_done}
use Rattle.kinds.specs.Kinds.{vote, by_kind}
use Rattle.kinds.proofs.laws.Says.{block_says}
use Rattle.chart.specs.Totals.{more, counted}
use Rattle.chart.proofs.laws.Totals.{adds_says}
use Rattle.chart.specs.Answers.{Take, of_taken}
use Rattle.stream.specs.Receiving.{fresh_receiver, take_judged, take_told, block_answer, at_ending, burst_answer, taken_next, after_taking, take_answer}
use Rattle.stream.specs.Says.{SentReturns, FreshSays, SendSays, EndSays, TakeReturns, Takeable, flags_saying, refuses, TakeSays}
use Rattle.stream.specs.Sending.{fresh_sender, is_block, send_judged, send_told, sent_bursts, sent_next, send_answer, end_judged, end_told, end_bursts, end_next, end_answer, afterwards}
use Rattle.stream.proofs.laws.Receiving.{take_able, takes_on}
use Rattle.stream.proofs.laws.Sending.{send_able, sends_on, end_able, ends_on}
use Rattle.chart.specs.declared.Taken.TheVariants as taken
use Rattle.chart.specs.declared.Untaken.TheVariants as untaken
use Rattle.stream.specs.declared.receiver.Received.{Received}
use Rattle.stream.specs.declared.receiver.Receiver.{Receiver}
use Rattle.stream.specs.declared.sender.Sender.{Sender}
use Rattle.stream.specs.declared.sender.Sent.{Sent}

-- ---- send and end: what is told is what was judged; an answer that is this one returns this
told_so : (t : Told) (bursts e : List ℕ) (next s : Sender) → (afterwards t bursts next e s).result.told ≡ t
unfolding afterwards
told_so (Ok tt) bursts e next s = refl
told_so (Err x) bursts e next s = refl

returns_so : (a : Answer Sent) (t : Told) (left : List ℕ) (next : Sender) → a ≡ record { result = record { told = t; next = next }; left = left }
    → (of_told a.result.told ≡ of_told t) × (a.left ≡ left) × (a.result.next ≡ next)
returns_so a t left next e = (ap (λ (x : Answer Sent). of_told x.result.told) e, ap (λ (x : Answer Sent). x.left) e, ap (λ (x : Answer Sent). x.result.next) e)

pub fresh_says : FreshSays
unfolding fresh_sender fresh_receiver
fresh_says = record { sent = refl; unended = refl; next = refl; totals = refl }

module _ (s : Sender) (d e : List ℕ) where
  send_refused : (x : Refusal) → send_told s d e ≡ Err x → SentReturns (send_answer s d e) (Some (number_of x)) e s
  unfolding send_answer afterwards
  send_refused x f = returns_so (send_answer s d e) (Err x) e s (ap (λ (t : Told). afterwards t (sent_bursts s d) (sent_next s d) e s) f)

  send_told_lem : (send_answer s d e).result.told ≡ send_told s d e
  unfolding send_answer
  send_told_lem = told_so (send_told s d e) (sent_bursts s d) e (sent_next s d) s

  pub send_says : SendSays s d e
  unfolding send_told send_judged sent_next
  send_says =
      let lengths : Bool = both (is_block (length d)) (eqb (length e) 464) in
      record {
        one = λ h. send_refused Length (rw (not_true lengths (λ (f : lengths ≡ true). h (both_first (is_block (length d)) (eqb (length e) 464) f, eqb-true (length e) 464 (both_second (is_block (length d)) (eqb (length e) 464) f)))) refl);
        two = λ reads writes h. send_refused NotBits (rw (reads, eq-eqb (length e) 464 writes, not_true (none_over 1 d) (λ (f : none_over 1 d ≡ true). h (none_over_lem 1 d f))) refl);
        seven = λ reads writes bits h. send_refused Ended (rw (reads, eq-eqb (length e) 464 writes, over_none 1 d bits, h) refl);
        five = λ reads writes bits unended h. send_refused Full (rw (reads, eq-eqb (length e) 464 writes, over_none 1 d bits, unended, le-leb 16383 s.sent.0 h) refl);
        done = λ a. returns_so (send_answer s d e) (Ok tt) (sent_bursts s d) (sent_next s d) (sends_on s d e a);
        counts = (refl, refl);
        only = λ f. send_able s d e (send_told s d e) refl (sym send_told_lem ∙ told_done (send_answer s d e).result.told f);
      }

module _ (s : Sender) (e : List ℕ) where
  end_refused : (x : Refusal) → end_told s e ≡ Err x → SentReturns (end_answer s e) (Some (number_of x)) e s
  unfolding end_answer afterwards
  end_refused x f = returns_so (end_answer s e) (Err x) e s (ap (λ (t : Told). afterwards t (end_bursts s) (end_next s) e s) f)

  end_told_lem : (end_answer s e).result.told ≡ end_told s e
  unfolding end_answer
  end_told_lem = told_so (end_told s e) (end_bursts s) e (end_next s) s

  pub end_says : EndSays s e
  unfolding end_told end_judged end_next
  end_says = record {
    one = λ h. end_refused Length (rw (ne_eqb (length e) 464 h) refl);
    seven = λ writes h. end_refused Ended (rw (eq-eqb (length e) 464 writes, h) refl);
    six = λ writes unended h. end_refused NothingSent (rw (eq-eqb (length e) 464 writes, unended, eq-eqb s.sent.0 0 h) refl);
    done = λ a. returns_so (end_answer s e) (Ok tt) (end_bursts s) (end_next s) (ends_on s e a);
    counts = (refl, refl);
    only = λ f. end_able s e (end_told s e) refl (sym end_told_lem ∙ told_done (end_answer s e).result.told f);
  }

-- ---- take
module _ (s : Receiver) (b : ℕ) (e d : List ℕ) where
  take_so : (t : Take) (left : List ℕ) (next : Receiver) → take_answer s b e d ≡ record { result = record { told = t; next = next }; left = left }
      → TakeReturns (take_answer s b e d) (of_taken t) left next
  take_so t left next f =
      (ap (λ (x : Answer Received). of_taken x.result.told) f, ap (λ (x : Answer Received). x.left) f, ap (λ (x : Answer Received). x.result.next) f)

  take_refused : (x : Refusal) → take_told s b e d ≡ Err x → TakeReturns (take_answer s b e d) (refuses (number_of x)) d s
  unfolding take_answer after_taking
  take_refused x f = take_so (Err (untaken.Refused x)) d s (ap (λ (t : Told). after_taking t s e d) f)

  abbrev held : List ℕ
  held = kept s.held b e

  -- a burst that is taken, by what it brings
  brings : Takeable s b e d → (t : Take) (left : List ℕ) → burst_answer held b d ≡ record { result = t; left = left }
      → TakeReturns (take_answer s b e d) (of_taken t) left (taken_next s e t)
  brings a t left f =
      take_so t left (taken_next s e t) (takes_on s b e d a ∙ ap (λ (x : Answer Take). record { result = record { told = x.result; next = taken_next s e x.result }; left = x.left }) f)

  -- the same, the next stream by what is told
  brings_told : Takeable s b e d → (t : Take) (left : List ℕ) → burst_answer held b d ≡ record { result = t; left = left }
      → TakeReturns (take_answer s b e d) (of_taken t) left (taken_next s e (take_answer s b e d).result.told)
  brings_told a t left f =
      let so = brings a t left f in
      let told : (take_answer s b e d).result.told ≡ t = ap (λ (x : Answer Received). x.result.told) (takes_on s b e d a) ∙ ap (λ (x : Answer Take). x.result) f in
      (so.0, so.1, so.2 ∙ ap (taken_next s e) (sym told))

  waits : ((n : ℕ) → b ≡ 4 * n + 7 → ⊥) → burst_answer held b d ≡ record { result = Ok taken.Waiting; left = d }
  unfolding burst_answer at_ending
  waits other = ap (λ (x : Option BlockNumber). at_ending x held d) (ended_none b other)

  brought : (n : ℕ) → b ≡ 4 * n + 7 → burst_answer held b d ≡ by_kind (vote (held_flags 1 held n) (held_flags 0 held n)) n (held_block held n) d
  unfolding burst_answer at_ending block_answer
  brought n is = ap (λ (x : Option BlockNumber). at_ending x held d) (ap ended is ∙ ended_block n)

  taken_only : (t : Told) → (after_taking t s e d).result.next.next.0 ≡ s.next.0 + 1 → t ≡ (Ok tt)
  unfolding after_taking
  taken_only (Ok tt) f = refl
  taken_only (Err x) f = let w : ⊥ = omega (arith, f) in absurd w

  next_only : (take_answer s b e d).result.next.next.0 ≡ s.next.0 + 1 → take_told s b e d ≡ (Ok tt)
  unfolding take_answer
  next_only f = taken_only (take_told s b e d) f

  pub take_says : TakeSays s b e d
  unfolding take_told take_judged taken_next counted
  take_says =
      let lengths : Bool = both (eqb (length e) 116) (eqb (length d) 260) in
      record {
        one = λ h. take_refused Length (rw (not_true lengths (λ (f : lengths ≡ true). h (eqb-true (length e) 116 (both_first (eqb (length e) 116) (eqb (length d) 260) f), eqb-true (length d) 260 (both_second (eqb (length e) 116) (eqb (length d) 260) f)))) refl);
        two = λ reads writes h. take_refused NotBits (rw (eq-eqb (length e) 116 reads, eq-eqb (length d) 260 writes, not_true (none_over 2 e) (λ (f : none_over 2 e ≡ true). h (none_over_lem 2 e f))) refl);
        five = λ reads writes bits h. take_refused Full (rw (eq-eqb (length e) 116 reads, eq-eqb (length d) 260 writes, over_none 2 e bits, le-leb 65536 s.next.0 h) refl);
        four = λ reads writes bits room h. take_refused OutOfTurn (rw (eq-eqb (length e) 116 reads, eq-eqb (length d) 260 writes, over_none 2 e bits, lt-leb 65536 s.next.0 room, ne_eqb b s.next.0 h) refl);
        waiting = λ a other. brings a (Ok taken.Waiting) d (waits other);
        block = λ a n is. block_says (held_flags 1 held n) (held_flags 0 held n) n (held_block held n) d (λ v left. TakeReturns (take_answer s b e d) v left (taken_next s e (take_answer s b e d).result.told)) (λ t left f. brings_told a t left (brought n is ∙ f)) (flags_saying 1 held n) (flags_saying 0 held n) (held_ones 1 held n) (held_ones 0 held n);
        counts = λ t. refl;
        totals = λ t. ap (more s.totals) (adds_says t);
        only = λ f. take_able s b e d (take_told s b e d) refl (next_only f);
      }
