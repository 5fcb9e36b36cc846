-- What is said is settled: each thing that is asked can be told by a test, and so two answers that are allowed are equal.
use Rattle.std.specs.Prelude.{Bool, true, false, List, ◌⊎◌, ◌≡◌, ℕ, ◌-◌, ◌≤◌, eqb, length, get_or, drop, Ok, Err}
use Rattle.std.proofs.Common.{⊎_elim, inl, inr, sym, ap, ◌∙◌, subst, arith, length-drop, ext_get_or}
use Rattle.std.proofs.Math.Path.{refl}
use Rattle.std.proofs.Math.Dec.{leb}
use borrow.Author.Tests.{eqb-true, leb-true, eq-eqb, ne_eqb, le-leb}
use Rattle.bits.specs.Bits.{Bits, Symbols, both, none_over, zeros}
use Rattle.bits.proofs.laws.Cases.{both_first, both_second, not_true, false_true}
use Rattle.bits.proofs.laws.Check.{none_over_lem, over_none}
use Rattle.bits.proofs.laws.Sum.{length_zeros, at_zeros}
use Rattle.convolution.specs.Pairs.{coded}
use Rattle.trellis.specs.Nearest.{disagreements, nearest, nearest_count, longest}
use Rattle.trellis.proofs.laws.Nearest.{nearest_is}
use Rattle.answers.specs.declared.Refusal.{Refusal}
use Rattle.answers.specs.declared.Refusal.TheVariants as refusal
use Rattle.coder.specs.Entries.{judged}
use Rattle.coder.proofs.laws.Entries.{done_held}
use Rattle.marking.specs.Marks.{Mark, HasLength, HasTail, IsFewest, Deserves, counting, Marks}
use Rattle.marking.specs.Fair.{Channel}
use Rattle.marking.specs.declared.Fault.{Fault}
use Rattle.marking.specs.declared.Fault.TheVariants.{Length, Tail, Count, Fewest}
use Rattle.marking.specs.declared.No.TheVariants.{Wrong, Refused}
use Rattle.answers.specs.Answers.{Told}

-- ---- the final zeros, by a test
module _ (n : ℕ) (u : List ℕ) where
  pub zero_tail : 4 ≤ n → HasLength n u → none_over 0 (drop (n - 4) u) ≡ true → HasTail n u
  zero_tail four long e =
      ext_get_or 0 (drop (n - 4) u) (zeros 4) (length-drop (n - 4) u ∙ omega (arith, four, long) ∙ sym (length_zeros 4))
      (λ i h. let z = none_over_lem 0 (drop (n - 4) u) e i in let x : get_or (drop (n - 4) u) i 0 ≡ 0 = omega (arith, z) in x ∙ sym (at_zeros 4 i))

  pub tail_zero : HasTail n u → none_over 0 (drop (n - 4) u) ≡ true
  tail_zero e = over_none 0 (drop (n - 4) u) (λ k. let z : get_or (drop (n - 4) u) k 0 ≡ 0 = ap (λ (w : List ℕ). get_or w k 0) e ∙ at_zeros 4 k in omega (arith, z))

  module _ (t : Bool) (is : t ≡ none_over 0 (drop (length u - 4) u)) (long : HasLength n u) where
    same_tail : t ≡ none_over 0 (drop (n - 4) u)
    same_tail = is ∙ ap (λ (k : ℕ). none_over 0 (drop (k - 4) u)) long

    pub tail_found : 4 ≤ n → t ≡ true → HasTail n u
    tail_found four e = zero_tail four long (sym same_tail ∙ e)

    pub tail_wrong : t ≡ false → HasTail n u → ⊥
    tail_wrong e tail = false_true (sym e ∙ same_tail ∙ tail_zero tail)

-- ---- the fewest, by the count of the nearest block
module _ (c : List ℕ) (n count : ℕ) (four : 4 ≤ n) (short : n ≤ longest) where
  pub at_most_fewest : count ≤ nearest_count c n → IsFewest c n count
  at_most_fewest h v cv = omega (arith, h, (nearest_is c n four short).fewest v cv)

  pub fewest_at_most : IsFewest c n count → count ≤ nearest_count c n
  fewest_at_most h = let is = nearest_is c n four short in omega (arith, h (nearest c n) is.candidate, is.counts)

-- ---- what a block and its count deserve: the first of four tests that does not hold
first_of : Bool → Bool → Bool → Bool → Mark
first_of false t c f = Err (Wrong Length)
first_of true false c f = Err (Wrong Tail)
first_of true true false f = Err (Wrong Count)
first_of true true true false = Err (Wrong Fewest)
first_of true true true true = Ok tt

module _ (n : ℕ) (four : 4 ≤ n) (short : n ≤ longest) (c u : List ℕ) (count : ℕ) where
  abbrev tested : Mark
  tested = first_of (eqb (length u) n) (none_over 0 (drop (n - 4) u)) (eqb (disagreements c (coded u)) count) (leb count (nearest_count c n))

  as_tested : (m : Mark) → Deserves c n u count m → m ≡ tested
  unfolding Deserves first_of
  as_tested (Ok done) d =
      rw (eq-eqb (length u) n d.0, tail_zero n u d.1, eq-eqb (disagreements c (coded u)) count d.2, le-leb count (nearest_count c n) (fewest_at_most c n count four short d.3)) refl
  as_tested (Err (Wrong Length)) d = rw (ne_eqb (length u) n d) refl
  as_tested (Err (Wrong Tail)) d =
      rw (eq-eqb (length u) n d.0, not_true (none_over 0 (drop (n - 4) u)) (λ (e : none_over 0 (drop (n - 4) u) ≡ true). d.1 (zero_tail n u four d.0 e))) refl
  as_tested (Err (Wrong Count)) d = rw (eq-eqb (length u) n d.0, tail_zero n u d.1, ne_eqb (disagreements c (coded u)) count d.2) refl
  as_tested (Err (Wrong Fewest)) d =
      rw (
        eq-eqb (length u) n d.0,
        tail_zero n u d.1,
        eq-eqb (disagreements c (coded u)) count d.2,
        not_true (leb count (nearest_count c n)) (λ (e : leb count (nearest_count c n) ≡ true). d.3 (at_most_fewest c n count four short (leb-true count (nearest_count c n) e))),
      ) refl
  as_tested (Err (Refused why)) d = absurd d

  pub deserves_once : (m o : Mark) → Deserves c n u count m → Deserves c n u count o → m ≡ o
  deserves_once m o d e = as_tested m d ∙ sym (as_tested o e)

-- ---- which of two tests refuses
refusal_of : Told → Refusal
refusal_of (Ok tt) = refusal.Identity
refusal_of (Err x) = x

which_refuses : (l b : Bool) (why : Refusal) → judged l b true ≡ Err why
    → ((l ≡ false) × (refusal.Length ≡ why)) ⊎ ((l ≡ true) × (b ≡ false) × (refusal.NotBits ≡ why))
unfolding judged refusal_of
which_refuses false b why e = inl (refl, ap refusal_of e)
which_refuses true false why e = inr (refl, refl, ap refusal_of e)
which_refuses true true why e = let z : ◌≡◌ {A = ℕ} 0 1 = cc in let w : ⊥ = omega arith in absurd w

-- ---- neither a yes nor a no is a refusal
kind_of : Mark → ℕ
kind_of (Ok done) = 0
kind_of (Err (Wrong what)) = 1
kind_of (Err (Refused why)) = 2

pub yes_refused : {why : Refusal} → ◌≡◌ {A = Mark} (Ok tt) (Err (Refused why)) → ⊥
unfolding kind_of
yes_refused e = let z : ◌≡◌ {A = ℕ} 0 2 = ap kind_of e in omega (arith, z)

pub no_refused : {what : Fault} {why : Refusal} → ◌≡◌ {A = Mark} (Err (Wrong what)) (Err (Refused why)) → ⊥
unfolding kind_of
no_refused e = let z : ◌≡◌ {A = ℕ} 1 2 = ap kind_of e in omega (arith, z)

-- ---- a channel: the two tests before, and what is then deserved
module _ (reads n : ℕ) (r u : List ℕ) (count : ℕ) where
  abbrev length_test : Bool
  length_test = eqb (length r) reads

  abbrev bits_test : Bool
  bits_test = both (none_over 2 r) (none_over 1 u)

  bits_held : bits_test ≡ true → Symbols r × Bits u
  bits_held e = (none_over_lem 2 r (both_first (none_over 2 r) (none_over 1 u) e), none_over_lem 1 u (both_second (none_over 2 r) (none_over 1 u) e))

  held_bits : Symbols r × Bits u → bits_test ≡ true
  held_bits h = rw (over_none 2 r h.0, over_none 1 u h.1) refl

  -- neither refuses: what is said is what is deserved
  pub marks_deserved : (m : Mark) → length r ≡ reads → Symbols r → Bits u → Deserves (counting n r) n u count m → Marks reads n r u count m
  marks_deserved m l s b d = record {
    one = λ h. absurd (h l);
    two = λ l' h. absurd (h (s, b));
    marked = λ l' s' b'. d;
  }

  marks_one : (length r ≡ reads → ⊥) → Marks reads n r u count (Err (Refused refusal.Length))
  marks_one h = record { one = λ h'. refl; two = λ l h'. absurd (h l); marked = λ l s b. absurd (h l) }

  marks_two : length r ≡ reads → (Symbols r × Bits u → ⊥) → Marks reads n r u count (Err (Refused refusal.NotBits))
  marks_two l h = record { one = λ h'. absurd (h' l); two = λ l' h'. refl; marked = λ l' s b. absurd (h (s, b)) }

  -- ONE LAW for every channel: by the two tests, what is said is a refusal or what is deserved
  pub by_tests : (P : Type 0) → ((length r ≡ reads → ⊥) → P) → (length r ≡ reads → (Symbols r × Bits u → ⊥) → P) → (length r ≡ reads → Symbols r × Bits u → P) → P
  by_tests P one two else = by_length length_test refl
    where
      by_bits : (b : Bool) → bits_test ≡ b → length r ≡ reads → P
      by_bits true e l = else l (bits_held e)
      by_bits false e l = two l (λ (h : Symbols r × Bits u). false_true (sym e ∙ held_bits h))

      by_length : (b : Bool) → length_test ≡ b → P
      by_length true e = by_bits bits_test refl (eqb-true (length r) reads e)
      by_length false e = one (λ (l : length r ≡ reads). false_true (sym e ∙ eq-eqb (length r) reads l))

  pub marks_once : Channel reads n → (m o : Mark) → Marks reads n r u count m → Marks reads n r u count o → m ≡ o
  marks_once ch m o x y =
      by_tests (m ≡ o)
      (λ h. x.one h ∙ sym (y.one h))
      (λ l h. x.two l h ∙ sym (y.two l h))
      (λ l h. deserves_once n ch.tail ch.short (counting n r) u count m o (x.marked l h.0 h.1) (y.marked l h.0 h.1))

  -- ---- what `marking::mark` asks first
  module _ (t : Told) (is : t ≡ judged length_test bits_test true) where
    pub done_read : t ≡ (Ok tt) → (length r ≡ reads) × Symbols r × Bits u
    done_read e =
        let held = done_held length_test bits_test true (sym is ∙ e) in
        let bits = bits_held held.bits in
        (eqb-true (length r) reads held.lengths, bits.0, bits.1)

    pub marks_refused : (why : Refusal) → t ≡ Err why → Marks reads n r u count (Err (Refused why))
    marks_refused why e =
        ⊎_elim (λ x. subst (λ (y : Refusal). Marks reads n r u count (Err (Refused y))) x.1 (marks_one (λ (l : length r ≡ reads). false_true (sym x.0 ∙ eq-eqb (length r) reads l))))
        (λ x.
        subst (λ (y : Refusal). Marks reads n r u count (Err (Refused y))) x.2
        (marks_two (eqb-true (length r) reads x.0) (λ (h : Symbols r × Bits u). false_true (sym x.1 ∙ held_bits h))))
        (which_refuses length_test bits_test why (sym is ∙ e))
