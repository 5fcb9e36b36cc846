-- What holds where a send or an end is done, and how each ends.
use Rattle.std.specs.Int.{from_bool}
use Rattle.std.specs.Prelude.{Bool, List, ◌≡◌, ℕ, zero, suc, ◌≤◌, ◌<◌, leb, Ok, Err, IsOk}
use Rattle.std.proofs.Math.Bool.{true, false}
use Rattle.std.proofs.Math.Path.{refl, ap}
use Rattle.std.proofs.Common.{sym, ◌∙◌, arith, lit≤, subst, rules}
use Rattle.std.proofs.Math.Dec.{eqb}
use Rattle.std.proofs.Math.ListN.{length}
use borrow.Author.Tests.{eqb-true, eqb-false, leb-false, eq-eqb, ne_eqb, lt-leb}
use Rattle.bits.specs.Bits.{Bits, pick, both, none_over}
use Rattle.bits.proofs.laws.Cases.{both_first, both_second}
use Rattle.bits.proofs.laws.Check.{none_over_lem, over_none}
use Rattle.answers.specs.Answers.{Answer, Meets, Told}
use Rattle.answers.specs.declared.Refusal.{Refusal}
use Rattle.coder.specs.Blocks.{speech_block, control_block}
use Rattle.coder.specs.Entries.{speech_sent, control_sent}
use Rattle.coder.proofs.laws.Entries.{sends}
use Rattle.stream.specs.Says.{Sendable, Endable}
use Rattle.stream.specs.Sending.{is_facch, is_block, block_of, flag_of, send_judged, send_told, sent_bursts, sent_next, send_answer, end_judged, end_told, end_bursts, end_next, end_answer, afterwards}
use Rattle.stream.specs.declared.sender.Sender.{Sender}

-- ---- done means that every test of `send_judged` held
pub record SendHeld (l b x f : Bool) : Type 0 where
  pub lengths : l ≡ true
  pub bits : b ≡ true
  pub unended : x ≡ false
  pub room : f ≡ false

done_held : (l b x f : Bool) → send_judged l b x f ≡ (Ok tt) → SendHeld l b x f
unfolding send_judged
done_held true true false false e = record { lengths = refl; bits = refl; unended = refl; room = refl }
done_held true true false true e = absurd (cc)
done_held true true true f e = absurd (cc)
done_held true false x f e = absurd (cc)
done_held false b x f e = absurd (cc)

pub send_able : (s : Sender) (d e : List ℕ) (r : Told) → r ≡ send_told s d e → r ≡ (Ok tt) → Sendable s d e
unfolding send_told
send_able s d e r h f =
    let l : Bool = both (is_block (length d)) (eqb (length e) 464) in
    let held = done_held l (none_over 1 d) s.ended (leb 16383 s.sent.0) (sym h ∙ f) in
    record {
      reads = both_first (is_block (length d)) (eqb (length e) 464) held.lengths;
      writes = eqb-true (length e) 464 (both_second (is_block (length d)) (eqb (length e) 464) held.lengths);
      bits = none_over_lem 1 d held.bits;
      unended = held.unended;
      room = leb-false 16383 s.sent.0 held.room;
    }

pub record EndHeld (l x z : Bool) : Type 0 where
  pub lengths : l ≡ true
  pub unended : x ≡ false
  pub some : z ≡ false

end_held : (l x z : Bool) → end_judged l x z ≡ (Ok tt) → EndHeld l x z
unfolding end_judged
end_held true false false e = record { lengths = refl; unended = refl; some = refl }
end_held true false true e = absurd (cc)
end_held true true z e = absurd (cc)
end_held false x z e = absurd (cc)

pub end_able : (s : Sender) (e : List ℕ) (r : Told) → r ≡ end_told s e → r ≡ (Ok tt) → Endable s e
unfolding end_told
end_able s e r h f =
    let held = end_held (eqb (length e) 464) s.ended (eqb s.sent.0 0) (sym h ∙ f) in
    let more : s.sent.0 ≡ 0 → ⊥ = eqb-false s.sent.0 0 held.some in
    record { writes = eqb-true (length e) 464 held.lengths; unended = held.unended; some = not_zero s.sent.0 more }
  where
    not_zero : (k : ℕ) → (k ≡ 0 → ⊥) → 0 < k
    not_zero zero h = absurd (h refl)
    not_zero (suc k) h = omega arith

-- ---- the flag, as the code has it
pub flag_is : (facch : Bool) (q : ℕ) → q ≡ from_bool facch → (q ≡ flag_of facch) × (q ≤ 1)
flag_is true q e = (e, omega (arith, e))
flag_is false q e = (e, omega (arith, e))

-- ---- the two ways in which a send or an end ends
module _ (t : Told) (bursts : List ℕ) (next : Sender) (e : List ℕ) (s : Sender) (r : Told) (h : r ≡ t) where
  pub done_afterwards : (after : List ℕ) (n : Sender) → r ≡ (Ok tt) → after ≡ bursts → n ≡ next → Meets (afterwards t bursts next e s) (record { told = Ok tt; next = n }) after
  unfolding afterwards
  done_afterwards after n f ea en = rw (← h, f) (record { result = ap (λ (x : Sender). record { told = (Ok tt); next = x }) en; left = ea })

  pub refused_afterwards : (x : Refusal) → r ≡ Err x → Meets (afterwards t bursts next e s) (record { told = Err x; next = s }) e
  unfolding afterwards
  refused_afterwards x f = rw (← h, f) (record { result = refl; left = refl })

-- ---- what coder's entries write
done_ok : (r : Told) → r ≡ Ok tt → IsOk r
done_ok r e = subst (λ (t : Told). IsOk t) (sym e) (search rules)

module _ (d c : List ℕ) (bd : Bits d) (lc : length c ≡ 456) where
  control_sends : length d ≡ 184 → control_sent d c ≡ record { result = Ok tt; left = control_block d }
  unfolding control_sent
  control_sends ld = sends 184 456 0 d c (lit≤ tt) (record { reads = ld; bits = bd; lends = lc }) (control_block d)

  speech_sends : length d ≡ 260 → speech_sent d c ≡ record { result = Ok tt; left = speech_block d }
  unfolding speech_sent
  speech_sends ld = sends 260 456 0 d c (lit≤ tt) (record { reads = ld; bits = bd; lends = lc }) (speech_block d)

  is_speech_lem : is_block (length d) ≡ true → (length d ≡ 184 → ⊥) → length d ≡ 260
  is_speech_lem reads other = by_test (eqb (length d) 260) refl
    where
      by_test : (b : Bool) → eqb (length d) 260 ≡ b → length d ≡ 260
      by_test true e = eqb-true (length d) 260 e
      by_test false e = absurd (other (eqb-true (length d) 184 (sym (ap (λ (b : Bool). pick b true (is_facch (length d))) e) ∙ reads)))

  -- no refusal applies
  pub control_done : (r : Told) (after : List ℕ) → length d ≡ 184 → Meets (control_sent d c) r after → IsOk r
  control_done r after ld m = done_ok r (m.result ∙ ap (λ (a : Answer Told). a.result) (control_sends ld))

  pub speech_done : (r : Told) (after : List ℕ) → is_block (length d) ≡ true → (length d ≡ 184 → ⊥) → Meets (speech_sent d c) r after → IsOk r
  speech_done r after reads other m = done_ok r (m.result ∙ ap (λ (a : Answer Told). a.result) (speech_sends (is_speech_lem reads other)))

  pub control_coded : (r : Told) (after : List ℕ) → length d ≡ 184 → Meets (control_sent d c) r after → after ≡ block_of d
  unfolding block_of
  control_coded r after ld m = m.left ∙ ap (λ (a : Answer Told). a.left) (control_sends ld) ∙ rw (eq-eqb (length d) 184 ld) refl

  pub speech_coded : (r : Told) (after : List ℕ) → is_block (length d) ≡ true → (length d ≡ 184 → ⊥) → Meets (speech_sent d c) r after → after ≡ block_of d
  unfolding block_of
  speech_coded r after reads other m =
      m.left ∙ ap (λ (a : Answer Told). a.left) (speech_sends (is_speech_lem reads other))
      ∙ rw (ne_eqb (length d) 184 other) refl

-- ---- a stream that is open and has room sends what may be sent, and ends where a block was sent
pub sends_on : (s : Sender) (d e : List ℕ) → Sendable s d e → send_answer s d e ≡ record { result = record { told = (Ok tt); next = sent_next s d }; left = sent_bursts s d }
unfolding send_answer send_told send_judged afterwards
sends_on s d e a =
    rw (a.reads, eq-eqb (length e) 464 a.writes, over_none 1 d a.bits, a.unended, lt-leb 16383 s.sent.0 a.room) refl

pub ends_on : (s : Sender) (e : List ℕ) → Endable s e → end_answer s e ≡ record { result = record { told = (Ok tt); next = end_next s }; left = end_bursts s }
unfolding end_answer end_told end_judged afterwards
ends_on s e a =
    let more : s.sent.0 ≡ 0 → ⊥ = λ (z : s.sent.0 ≡ 0). omega (arith, a.some, z) in
    rw (eq-eqb (length e) 464 a.writes, a.unended, ne_eqb s.sent.0 0 more) refl
