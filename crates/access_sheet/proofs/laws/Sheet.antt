-- What a head says, and how an answer of the library is said.
use Rattle.std.specs.Prelude.{Bool, List, ◌++◌, map, ◌≡◌, ℕ, ◌≤◌, leb, length, get_or, take, drop, Some, None, Ok, Err}
use Rattle.std.proofs.Math.Bool.{true, false}
use Rattle.std.proofs.Math.Path.{refl, ap₂}
use Rattle.std.proofs.Common.{sym, ◌∙◌, subst, arith, eq-eqb, ne_eqb}
use Rattle.bits.specs.Bits.{pick, zeros, none_over}
use Rattle.text.specs.Text.{digit_of, bit_character, refused_as}
use Rattle.answers.specs.Answers.{Meets, tells, number_of, Told}
use Rattle.answers.specs.declared.Refusal.{Refusal}
use Rattle.answers.specs.declared.Refusal.TheVariants.{Length, NotBits, Identity}
use Rattle.coder.specs.Entries.{judged, lengths, entry, access_sent}
use Rattle.access_sheet.specs.Sheet.{is_head, two_digits, head_of, headed, identity_of, said_of, said, no_request, sheet_answer}

-- ---- the number of each refusal that an access burst can have is one digit
judged_few : (l b i : Bool) (x : Refusal) → judged l b i ≡ Err x → number_of x ≤ 9
unfolding judged
judged_few false b i x e = let f : Length ≡ x = cc in subst (λ (r : Refusal). number_of r ≤ 9) f (omega arith)
judged_few true false i x e = let f : NotBits ≡ x = cc in subst (λ (r : Refusal). number_of r ≤ 9) f (omega arith)
judged_few true true false x e = let f : Identity ≡ x = cc in subst (λ (r : Refusal). number_of r ≤ 9) f (omega arith)
judged_few true true true x e = let z : ◌≡◌ {A = ℕ} 0 1 = cc in let w : ⊥ = omega arith in absurd w

pub one_digit : (identity : ℕ) (d e after : List ℕ) (r : Told) (x : Refusal) → Meets (access_sent identity d e) r after → r ≡ Err x → number_of x ≤ 9
unfolding access_sent entry tells
one_digit identity d e after r x m f = judged_few (lengths d 8 e 36) (none_over 1 d) (leb identity 63) x (sym m.result ∙ f)

-- ---- a head that is read is one, with the identity that its digits write; a bad one is none
module _ (tens ones gap : ℕ) where
  pub head_read : (identity : ℕ) → head_of tens ones gap ≡ Some identity → (is_head tens ones gap ≡ true) × (identity ≡ two_digits tens ones)
  unfolding head_of
  head_read identity e = go (is_head tens ones gap) e
    where
      go : (t : Bool) → pick t (Some (two_digits tens ones)) None ≡ Some identity → (t ≡ true) × (identity ≡ two_digits tens ones)
      go true q = (refl, cc)
      go false q = (cc, cc)

  pub head_bad : head_of tens ones gap ≡ None → is_head tens ones gap ≡ false
  unfolding head_of
  head_bad e = go (is_head tens ones gap) e
    where
      go : (t : Bool) → pick t (Some (two_digits tens ones)) None ≡ None → t ≡ false
      go true q = cc
      go false q = refl

-- ---- the two ways in which an answer is said
module _ (identity : ℕ) (characters : List ℕ) (r : Told) (after : List ℕ) (m : Meets (access_sent identity (map digit_of characters) (zeros 36)) r after) where
  pub said_done : r ≡ (Ok tt) → map bit_character after ≡ said identity characters
  unfolding said said_of
  said_done e = ap₂ said_of (sym e ∙ m.result) m.left

  pub said_refused : (x : Refusal) → r ≡ Err x → refused_as (number_of x) ≡ said identity characters
  unfolding said said_of
  said_refused x e = ap₂ said_of (sym e ∙ m.result) m.left

-- ---- the three ways in which a line is answered
module _ (line : List ℕ) where
  pub answer_short : (length line ≡ 11 → ⊥) → no_request ≡ sheet_answer line
  unfolding sheet_answer headed
  answer_short h = rw (ne_eqb (length line) 11 h)

  pub answer_bad : length line ≡ 11 → head_of (get_or line 0 0) (get_or line 1 0) (get_or line 2 0) ≡ None → no_request ≡ sheet_answer line
  unfolding sheet_answer headed
  answer_bad l e = rw (eq-eqb (length line) 11 l, head_bad (get_or line 0 0) (get_or line 1 0) (get_or line 2 0) e)

  pub answer_said : (identity : ℕ) → length line ≡ 11 → head_of (get_or line 0 0) (get_or line 1 0) (get_or line 2 0) ≡ Some identity
      → take 3 line ++ said identity (drop 3 line) ≡ sheet_answer line
  unfolding sheet_answer headed identity_of
  answer_said identity l e =
      let h = head_read (get_or line 0 0) (get_or line 1 0) (get_or line 2 0) identity e in
      rw (eq-eqb (length line) 11 l, h.0, h.1)
