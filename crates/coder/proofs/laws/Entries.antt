-- What holds where an entry is done, how it ends, and that it is done where it is given what it should be.
use Rattle.std.specs.Prelude.{Bool, false, IsErrAnd, ◌≡◌, refl, ℕ, ◌*◌, ◌/◌, ◌%◌, ◌≤◌, ◌<◌, eqb, leb, length, Ok, Err}
use Rattle.std.proofs.Math.Bool.{true}
use mathlib.Core.List.{List}
use Rattle.std.proofs.Math.Path.{sym, ap, subst}
use Rattle.std.proofs.Common.{◌∙◌, arith}
use Rattle.std.proofs.Math.ListN.{get_or}
use borrow.Author.Tests.{eqb-true, leb-true, eq-eqb, le-leb}
use Rattle.std.proofs.lemmas.Result.{err_from_is_err_and}
use Rattle.bits.specs.Bits.{none_over}
use Rattle.bits.proofs.laws.Cases.{both_first, both_second}
use Rattle.bits.proofs.laws.Check.{none_over_lem, over_none}
use Rattle.bits.proofs.laws.Tab.{at_tab}
use Rattle.trellis.specs.Nearest.{row, row_at, Fewest}
use Rattle.trellis.proofs.laws.Nearest.{row_fewest}
use Rattle.answers.specs.Answers.{Meets, sent_or, tells, Told}
use Rattle.answers.specs.declared.Refusal.{Refusal}
use Rattle.answers.proofs.laws.Answers.{known, tells_done, tells_refused}
use Rattle.coder.specs.Entries.{judged, lengths, Given, entry, viewed, view_length, unreached, trellis_viewed}

-- done means that every test held
pub record AllHeld (l b i : Bool) : Type 0 where
  pub lengths : l ≡ true
  pub bits : b ≡ true
  pub identity : i ≡ true

pub done_held : (l b i : Bool) → judged l b i ≡ (Ok tt) → AllHeld l b i
unfolding judged
done_held true true true e = record { lengths = refl; bits = refl; identity = refl }
done_held true true false e = record { lengths = refl; bits = refl; identity = let z : ◌≡◌ {A = ℕ} 0 1 = cc in let w : ⊥ = omega arith in absurd w }
done_held true false i e = let z : ◌≡◌ {A = ℕ} 0 1 = cc in let w : ⊥ = omega arith in absurd w
done_held false b i e = let z : ◌≡◌ {A = ℕ} 0 1 = cc in let w : ⊥ = omega arith in absurd w

-- what then holds of what an entry read, of n bits into m bytes
module _ (most : ℕ) (d c : List ℕ) (n m i : ℕ) (r : Told) (e : r ≡ judged (lengths d n c m) (none_over most d) (leb i 63)) (f : r ≡ (Ok tt)) where
  held : AllHeld (lengths d n c m) (none_over most d) (leb i 63)
  held = done_held (lengths d n c m) (none_over most d) (leb i 63) (sym e ∙ f)

  pub done_given : Given most n m d c
  done_given = record {
    reads = eqb-true (length d) n (both_first (eqb (length d) n) (eqb (length c) m) held.lengths);
    bits = none_over_lem most d held.bits;
    lends = eqb-true (length c) m (both_second (eqb (length d) n) (eqb (length c) m) held.lengths);
  }

  pub done_identity : i ≤ 63
  done_identity = leb-true i 63 held.identity

-- ---- the two ways in which an entry ends
module _ (n m i : ℕ) (d sent c : List ℕ) (r : Told) (e : r ≡ judged (lengths d n c m) (none_over 1 d) (leb i 63)) where
  pub entry_done : (after : List ℕ) → r ≡ (Ok tt) → after ≡ sent → Meets (entry n m i d sent c) r after
  unfolding entry
  entry_done after f g = tells_done (judged (lengths d n c m) (none_over 1 d) (leb i 63)) sent c r e after f g

  pub entry_refused : (x : Refusal) → r ≡ Err x → Meets (entry n m i d sent c) r c
  unfolding entry
  entry_refused x f = tells_refused (judged (lengths d n c m) (none_over 1 d) (leb i 63)) sent c r e x f

-- ---- an entry that goes on with `?` where it is judged: what it is given, its end, and its refusal
pub given : (i : ℕ) {most n m : ℕ} {d c : List ℕ} {r : Told} → r ≡ judged (lengths d n c m) (none_over most d) (leb i 63) → r ≡ Ok tt → Given most n m d c
given i {most} {n} {m} {d} {c} {r} e f = done_given most d c n m i r e f

pub sent_on : (n m i : ℕ) (d sent c : List ℕ) {after : List ℕ} {r : Told} → r ≡ judged (lengths d n c m) (none_over 1 d) (leb i 63) → r ≡ Ok tt → after ≡ sent
    → Meets (entry n m i d sent c) (Ok tt) after
sent_on n m i d sent c {after} {r} e f g = known f (entry_done n m i d sent c r e after f g)

pub sent_none : (n m i : ℕ) (d sent c : List ℕ) {r out : Told} {x : Refusal} → r ≡ judged (lengths d n c m) (none_over 1 d) (leb i 63) → r ≡ Err x
    → IsErrAnd out (λ y. y ≡ x) → Meets (entry n m i d sent c) out c
sent_none n m i d sent c {r} {out} {x} e f h =
    let p = err_from_is_err_and out h in
    rw (p.1, p.2) (known f (entry_refused n m i d sent c r e x f))

-- ---- an entry that is given what it should be is done
pub done : (most n m i : ℕ) (d c : List ℕ) → i ≤ 63 → Given most n m d c → judged (lengths d n c m) (none_over most d) (leb i 63) ≡ (Ok tt)
unfolding judged
done most n m i d c h g = rw (eq-eqb (length d) n g.reads, eq-eqb (length c) m g.lends, over_none most d g.bits, le-leb i 63 h) refl

pub sends : (n m i : ℕ) (d c : List ℕ) → i ≤ 63 → Given 1 n m d c → (sent : List ℕ) → entry n m i d sent c ≡ record { result = (Ok tt); left = sent }
unfolding entry tells sent_or
sends n m i d c h g sent = ap (λ (t : Told). tells t sent c) (done 1 n m i d c h g)

-- ---- the two ways in which the trellis view ends
module _ (r : List ℕ) where
  pub view_refused : (x : Refusal) (told : Told) (seen : List ℕ) → told ≡ Err x → seen ≡ unreached → judged (view_length r) (none_over 2 r) true ≡ Err x → Meets (trellis_viewed r) told seen
  unfolding trellis_viewed tells sent_or
  view_refused x told seen e f g = record { result = e ∙ sym g; left = f ∙ ap (λ (s : Told). sent_or s (row r (length r / 2)) unreached) (sym g) }

  pub view_done : (seen : List ℕ) → seen ≡ row r (length r / 2) → judged (view_length r) (none_over 2 r) true ≡ (Ok tt) → Meets (trellis_viewed r) (Ok tt) seen
  unfolding trellis_viewed tells sent_or
  view_done seen f g = record { result = sym g; left = f ∙ ap (λ (s : Told). sent_or s (row r (length r / 2)) unreached) (sym g) }

  -- what is seen is what 01 says: the fewest disagreements of any bits that end in state s, and 65,535 where none do
  pub view_fewest : (seen : List ℕ) → Meets (trellis_viewed r) (Ok tt) seen → (s : ℕ) → s < 16 → Fewest r (length r / 2) s (get_or seen s 0)
  unfolding trellis_viewed tells sent_or row
  view_fewest seen m s h =
      let held = done_held (view_length r) (none_over 2 r) true (sym m.result) in
      let short = leb-true (length r) (2 * viewed) (both_second (eqb (length r % 2) 0) (leb (length r) (2 * viewed)) held.lengths) in
      let is_row : seen ≡ row r (length r / 2) = m.left ∙ ap (λ (t : Told). sent_or t (row r (length r / 2)) unreached) (sym m.result) in
      subst (Fewest r (length r / 2) s) (sym (ap (λ (w : List ℕ). get_or w s 0) is_row ∙ at_tab 16 (row_at r (length r / 2)) s h)) (row_fewest r (length r / 2) s (omega (arith, short)) h)
