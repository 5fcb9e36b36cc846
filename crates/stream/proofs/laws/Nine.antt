-- 9 is given in no other case than Says has (02, M-101): by what is judged, by what the burst ends, and by the block.
use Rattle.std.specs.Prelude.{Bool, true, false, ◌≡◌, refl, eqb, leb, length, Ok, Err, Option}
use mathlib.Core.List.{List}
use Rattle.std.proofs.Math.Path.{sym, ap, subst₂}
use Rattle.std.proofs.Common.{◌∙◌, arith, eqb-true, leb-true, leb-false}
use Prim.Native.Nat.{ℕ, ◌+◌, ◌-◌, ◌*◌, ◌/◌, ◌%◌}
use Rattle.bits.specs.Bits.{both, none_over}
use Rattle.std.proofs.lemmas.Bool.{eqb-false}
use Rattle.answers.specs.Answers.{Answer, number_of, or_none, of_told, Told}
use Rattle.answers.specs.declared.Refusal.{Refusal}
use Rattle.burst.specs.Held.{held_flags, held_block}
use Rattle.burst.specs.Numbers.{ended}
use Rattle.burst.specs.Ring.{kept}
use Rattle.burst.specs.declared.numbers.BlockNumber.{BlockNumber}
use Rattle.burst.proofs.laws.Held.{held_ones}
use Rattle.burst.proofs.laws.Numbers.{ended_block, ended_none}
use Rattle.kinds.specs.Kinds.{vote, by_kind}
use Rattle.kinds.specs.Says.{BothBad}
use Rattle.kinds.proofs.laws.Says.{given, of_flags}
use Rattle.stream.specs.Receiving.{take_judged, take_told, block_answer, at_ending, burst_answer, after_taking, take_answer}
use Rattle.stream.specs.Says.{Takeable, Nine, NineOnly}
use Rattle.stream.specs.declared.receiver.Received.{Received}
use Rattle.stream.specs.declared.receiver.Receiver.{Receiver}
use Rattle.stream.proofs.laws.Receiving.{take_able, takes_on}

-- ---- a call that is refused has another
abbrev of_told_lem : Told → ℕ
of_told_lem t = or_none (of_told t).number

judged_other : (l b f t : Bool) (r : Refusal) → take_judged l b f t ≡ Err r → number_of r ≡ 9 → ⊥
unfolding take_judged
judged_other false b f t r e z = omega (arith, ap of_told_lem e, z)
judged_other true false f t r e z = omega (arith, ap of_told_lem e, z)
judged_other true true true t r e z = omega (arith, ap of_told_lem e, z)
judged_other true true false false r e z = omega (arith, ap of_told_lem e, z)
judged_other true true false true r e z = omega (arith, ap of_told_lem e, z)

-- ---- a burst, by what it ends
module _ (s : Receiver) (b : ℕ) (e d : List ℕ) (takes : Takeable s b e d) where
  abbrev held : List ℕ
  held = kept s.held b e

  ends_block : (n : ℕ) → b ≡ 4 * n + 7 → given (burst_answer held b d).result ≡ 9 → Nine s b e d
  unfolding burst_answer at_ending block_answer
  ends_block n is z =
      let c : List ℕ = held_block held n in
      let brought : given (at_ending (ended b) held d).result ≡ given (by_kind (vote (held_flags 1 held n) (held_flags 0 held n)) n c d).result =
      ap (λ (x : Option BlockNumber). given (at_ending x held d).result) (ap ended is ∙ ended_block n) in
      let bad = of_flags n c d (held_flags 1 held n) (held_flags 0 held n) (sym brought ∙ z) in
      record {
        takes = takes;
        n = n;
        ends = is;
        bad = subst₂ (λ (f s : ℕ). BothBad f s c) (held_ones 1 held n) (held_ones 0 held n) bad;
      }

  ends_none : ((n : ℕ) → b ≡ 4 * n + 7 → ⊥) → given (burst_answer held b d).result ≡ 9 → Nine s b e d
  unfolding burst_answer at_ending
  ends_none other z =
      let w : given (at_ending (ended b) held d).result ≡ 0 = ap (λ (x : Option BlockNumber). given (at_ending x held d).result) (ended_none b other) in
      absurd (omega (arith, w, z))

  by_burst : given (burst_answer held b d).result ≡ 9 → Nine s b e d
  by_burst z = by_tests (leb 7 b) (eqb (b % 4) 3) refl refl
    where
      by_tests : (l m : Bool) → leb 7 b ≡ l → eqb (b % 4) 3 ≡ m → Nine s b e d
      by_tests true true hl hm = ends_block ((b - 7) / 4) (omega (arith, leb-true 7 b hl, eqb-true (b % 4) 3 hm)) z
      by_tests true false hl hm = ends_none (λ n is. omega (arith, is, eqb-false (b % 4) 3 hm)) z
      by_tests false m hl hm = ends_none (λ n is. omega (arith, is, leb-false 7 b hl)) z

-- ---- any call
module _ (s : Receiver) (b : ℕ) (e d : List ℕ) (nine : given (take_answer s b e d).result.told ≡ 9) where
  refused : (r : Refusal) → take_told s b e d ≡ Err r → number_of r ≡ 9
  unfolding take_answer after_taking
  refused r h = sym (ap (λ (t : Told). given (after_taking t s e d).result.told) h) ∙ nine

  not_refused : (r : Refusal) → take_told s b e d ≡ Err r → ⊥
  unfolding take_told
  not_refused r h = judged_other (both (eqb (length e) 116) (eqb (length d) 260)) (none_over 2 e) (leb 65536 s.next.0) (eqb b s.next.0) r h (refused r h)

  by_told : (t : Told) → take_told s b e d ≡ t → Nine s b e d
  by_told (Ok tt) h =
      let takes = take_able s b e d (take_told s b e d) refl h in
      by_burst s b e d takes (sym (ap (λ (x : Answer Received). given x.result.told) (takes_on s b e d takes)) ∙ nine)
  by_told (Err r) h = absurd (not_refused r h)

pub nine_only : NineOnly
nine_only s b e d z = by_told s b e d (ap or_none z) (take_told s b e d) refl
