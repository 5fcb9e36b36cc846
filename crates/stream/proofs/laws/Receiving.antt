-- What the receiver's functions need: the block that is gathered, and how a take ends.
use Rattle.std.specs.Prelude.{Bool, true, false, List, ◌≡◌, ℕ, ◌+◌, ◌*◌, ◌%◌, eqb, leb, length, get_or, Option, Ok, Err}
use Rattle.std.proofs.Math.Path.{refl, ap}
use Rattle.std.proofs.Common.{sym, ap₂, ◌∙◌, subst, eqb-true, leb-false, eq-eqb}
use Rattle.std.proofs.lemmas.Bool.{lt-leb}
use Rattle.bits.specs.Bits.{Symbols, both, none_over}
use Rattle.bits.proofs.laws.Cases.{both_first, both_second}
use Rattle.bits.proofs.laws.Check.{none_over_lem, over_none}
use Rattle.bits.proofs.laws.Missing.{symbol_le}
use Rattle.bits.proofs.laws.Tab.{over_tab, length_tab}
use Rattle.answers.specs.Answers.{Answer, Meets, Told}
use Rattle.answers.specs.declared.Refusal.{Refusal}
use Rattle.burst.specs.Held.{held_block_at, held_block, held_flags}
use Rattle.burst.specs.Numbers.{first_burst, ended}
use Rattle.burst.specs.declared.numbers.BlockNumber.{BlockNumber}
use Rattle.burst.specs.Ring.{held_bit, kept}
use Rattle.stream.specs.Says.{Takeable}
use Rattle.stream.specs.Receiving.{take_judged, take_told, block_answer, at_ending, burst_answer, taken_next, after_taking, take_answer}
use Rattle.places.specs.Places.{e_at}
use Rattle.kinds.specs.Kinds.{vote, by_kind}
use Rattle.chart.specs.declared.Kind.{Kind}
use Rattle.chart.specs.Answers.{Take}
use Rattle.chart.specs.declared.Untaken.TheVariants as untaken
use Rattle.stream.specs.declared.receiver.Receiver.{Receiver}

-- ---- the block that is gathered
held_bits : (held : List ℕ) (n : ℕ) → Symbols (held_block held n)
unfolding held_block held_block_at held_bit
held_bits held n = over_tab 2 456 (held_block_at held n) (λ k. symbol_le (get_or held (116 * ((first_burst n + k % 8) % 8) + e_at k) 0))

held_long : (held : List ℕ) (n : ℕ) → length (held_block held n) ≡ 456
unfolding held_block
held_long held n = length_tab 456 (held_block_at held n)

pub held_given : (held d c : List ℕ) (n : ℕ) → c ≡ held_block held n → length d ≡ 260 → (length c ≡ 456) × Symbols c × (length d ≡ 260)
held_given held d c n e ld = (ap length e ∙ held_long held n, subst Symbols (sym e) (held_bits held n), ld)

-- ---- the block that is held, and the block that the burst ends
pub block_brought : (held d c : List ℕ) (n ones zeros : ℕ) → c ≡ held_block held n → ones ≡ held_flags 1 held n → zeros ≡ held_flags 0 held n
    → (r : Take) (after : List ℕ) → Meets (by_kind (vote ones zeros) n c d) r after → Meets (block_answer held n d) r after
unfolding block_answer
block_brought held d c n ones zeros ec ef es r after = subst (λ (a : Answer Take). Meets a r after) (ap₂ (λ (k : Kind) (x : List ℕ). by_kind k n x d) (ap₂ vote ef es) ec)

pub at_ending_lem : (held d : List ℕ) (b : ℕ) (x y : Option BlockNumber) → x ≡ y → x ≡ ended b → at_ending y held d ≡ burst_answer held b d
unfolding burst_answer
at_ending_lem held d b x y e ex = ap (λ (z : Option BlockNumber). at_ending z held d) (sym e ∙ ex)

-- ---- done means that every test of `take_judged` held
pub record TakeHeld (l b f t : Bool) : Type 0 where
  pub lengths : l ≡ true
  pub bits : b ≡ true
  pub room : f ≡ false
  pub turn : t ≡ true

done_held : (l b f t : Bool) → take_judged l b f t ≡ (Ok tt) → TakeHeld l b f t
unfolding take_judged
done_held true true false true e = record { lengths = refl; bits = refl; room = refl; turn = refl }
done_held true true false false e = absurd (cc)
done_held true true true t e = absurd (cc)
done_held true false f t e = absurd (cc)
done_held false b f t e = absurd (cc)

pub take_able : (s : Receiver) (b : ℕ) (e d : List ℕ) (r : Told) → r ≡ take_told s b e d → r ≡ (Ok tt) → Takeable s b e d
unfolding take_told
take_able s b e d r h f =
    let l : Bool = both (eqb (length e) 116) (eqb (length d) 260) in
    let held = done_held l (none_over 2 e) (leb 65536 s.next.0) (eqb b s.next.0) (sym h ∙ f) in
    record {
      reads = eqb-true (length e) 116 (both_first (eqb (length e) 116) (eqb (length d) 260) held.lengths);
      writes = eqb-true (length d) 260 (both_second (eqb (length e) 116) (eqb (length d) 260) held.lengths);
      bits = none_over_lem 2 e held.bits;
      room = leb-false 65536 s.next.0 held.room;
      turn = eqb-true b s.next.0 held.turn;
    }

-- ---- the two ways in which a take ends
module _ (t : Told) (s : Receiver) (e d : List ℕ) (r : Told) (h : r ≡ t) where
  pub done_taking : (said : Take) (after : List ℕ) (n : Receiver) → r ≡ (Ok tt) → Meets (burst_answer (kept s.held s.next.0 e) s.next.0 d) said after → n ≡ taken_next s e said
      → Meets (after_taking t s e d) (record { told = said; next = n }) after
  unfolding after_taking
  done_taking said after n f m en = rw (← h, f) (record { result = ap (λ (y : Receiver). record { told = said; next = y }) en ∙ ap (λ (x : Take). record { told = x; next = taken_next s e x }) m.result; left = m.left })

  pub refused_taking : (x : Refusal) → r ≡ Err x → Meets (after_taking t s e d) (record { told = Err (untaken.Refused x); next = s }) d
  unfolding after_taking
  refused_taking x f = rw (← h, f) (record { result = refl; left = refl })

-- ---- a burst in turn is taken
pub takes_on : (s : Receiver) (b : ℕ) (e d : List ℕ) → Takeable s b e d
    → take_answer s b e d ≡ record { result = record { told = (burst_answer (kept s.held b e) b d).result; next = taken_next s e (burst_answer (kept s.held b e) b d).result }; left = (burst_answer (kept s.held b e) b d).left }
unfolding take_answer take_told take_judged after_taking
takes_on s b e d a =
    rw (a.turn, eq-eqb (length e) 116 a.reads, eq-eqb (length d) 260 a.writes, over_none 2 e a.bits, lt-leb 65536 s.next.0 a.room, eq-eqb s.next.0 s.next.0 refl) refl
