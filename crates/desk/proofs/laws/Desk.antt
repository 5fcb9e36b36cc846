-- Each contract settles the number and every byte of the lent buffer; and the number gives the identity, 01's number and the count back.
use Rattle.std.specs.Prelude.{Bool, true, false, List, ◌≡◌, ℕ, ◌+◌, ◌*◌, ◌/◌, ◌%◌, ◌≤◌, eqb, leb, Ok, Err}
use Rattle.std.proofs.Math.Path.{refl}
use Rattle.std.proofs.Common.{sym, ap, ◌∙◌, arith}
use Rattle.std.proofs.Math.Dec.{lit≤}
use Rattle.std.proofs.Math.ListN.{length}
use Rattle.bits.specs.Bits.{none_over}
use Rattle.parity.specs.Division.{access_g, control_g}
use Rattle.trellis.proofs.laws.Nearest.{count_fits}
use Rattle.answers.specs.Answers.{Answer, Meets, number_of, or_none, of_told, of_heard, hears, Told, Heard}
use Rattle.answers.specs.declared.Refusal.{Refusal}
use Rattle.answers.specs.declared.Returned.{Returned}
use Rattle.answers.proofs.laws.Answers.{Settled, meets_once, number_fits}
use Rattle.coder.specs.Entries.{judged, lengths, access_sent, control_sent}
use Rattle.coder.specs.Received.{access_received, control_received, Hearing, block_heard, verdict, judged_hearing, reception}
use Rattle.coder.specs.Whose.{Naming, block_named, naming, access_whose, Whose, named, of_whose, identity_of}
use Rattle.desk.specs.Desk.{one_number, in_one_number, with_identity}
use Rattle.answers.specs.declared.Unheard.TheVariants as unheard

module _ (identity : ℕ) (d c : List ℕ) where
  pub access_settled : Settled (in_one_number of_told (access_sent identity d c))
  access_settled = meets_once (in_one_number of_told (access_sent identity d c))

  pub control_settled : Settled (in_one_number of_told (control_sent d c))
  control_settled = meets_once (in_one_number of_told (control_sent d c))

  pub access_heard_settled : Settled (in_one_number of_heard (access_received identity c d))
  access_heard_settled = meets_once (in_one_number of_heard (access_received identity c d))

  pub control_heard_settled : Settled (in_one_number of_heard (control_received c d))
  control_heard_settled = meets_once (in_one_number of_heard (control_received c d))

-- where nothing is written the number is all
pub whose_settled : (e : List ℕ) (n m : ℕ) → n ≡ with_identity (access_whose e) → m ≡ with_identity (access_whose e) → n ≡ m
whose_settled e n m f g = f ∙ sym g

-- ---- the same answer in one number
pub in_one_number_lem : {A : Type 0} (of : A → Returned) (a : Answer A) (r : A) (x : Returned) (n : ℕ) (after : List ℕ)
    → n ≡ one_number x → x ≡ of r → Meets a r after → Meets (in_one_number of a) n after
in_one_number_lem {A} of a r x n after e f m = record { result = e ∙ ap one_number f ∙ ap (λ (y : A). one_number (of y)) m.result; left = m.left }

-- ---- the three parts of a number, which desk.h takes apart: the identity, 01's number, the count
module _ (r : Returned) (narrow : or_none r.number ≤ 255) (h : or_none r.count ≤ 65535) (i n : ℕ) (e : n ≡ 16777216 * i + one_number r) where
  pub identity_part : n / 16777216 ≡ i
  unfolding one_number
  identity_part = omega (arith, narrow, h, e)

  pub number_part : n / 65536 % 256 ≡ or_none r.number
  unfolding one_number
  number_part = omega (arith, narrow, h, e)

  pub count_part : n % 65536 ≡ or_none r.count
  unfolding one_number
  count_part = omega (arith, narrow, h, e)

-- a call that names none has identity 0
pub names_none : (r : Returned) → one_number r ≡ 16777216 * 0 + one_number r
names_none r = omega arith

-- ---- the identity, or the refusal, in one number
pub named_in_one : (w : Whose) (i k n : ℕ) → w ≡ Ok (named i k) → n ≡ 16777216 * i + k → n ≡ with_identity w
unfolding with_identity one_number
named_in_one w i k n e f = f ∙ omega arith ∙ ap with_identity (sym e)

pub refused_in_one : (w : Whose) (r : Refusal) (n : ℕ) → w ≡ Err r → n ≡ 65536 * number_of r → n ≡ with_identity w
unfolding with_identity one_number
refused_in_one w r n e f = f ∙ omega arith ∙ ap with_identity (sym e)

-- ---- every count fits the lower half
told_fits : (h : Hearing) → h.count ≤ 65535 → (b : Bool) → h.good ≡ b → or_none (of_heard (verdict h)).count ≤ 65535
unfolding verdict
told_fits h l true e = rw e l
told_fits h l false e = rw e l

hearing_fits : (t : Told) (h : Hearing) → h.count ≤ 65535 → or_none (of_heard (judged_hearing t h)).count ≤ 65535
unfolding judged_hearing
hearing_fits (Ok tt) h l = told_fits h l h.good refl
hearing_fits (Err r) h l = omega arith

module _ (identity : ℕ) (c d : List ℕ) where
  pub access_count_fits : or_none (of_heard (access_received identity c d).result).count ≤ 65535
  unfolding access_received reception hears block_heard
  access_count_fits = hearing_fits (judged (lengths c 36 d 8) (none_over 2 c) (leb identity 63)) (block_heard access_g identity 8 c) (count_fits c (8 + length access_g + 4))

  pub control_count_fits : or_none (of_heard (control_received c d).result).count ≤ 65535
  unfolding control_received reception hears block_heard
  control_count_fits = hearing_fits (judged (lengths c 456 d 184) (none_over 2 c) (leb 0 63)) (block_heard control_g 0 184 c) (count_fits c (184 + length control_g + 4))

-- ---- every number fits the middle part, and of `desk_whose_access` every part is what is said
pub told_number_fits : (t : Told) → or_none (of_told t).number ≤ 255
told_number_fits (Ok tt) = lit≤ tt
told_number_fits (Err r) = number_fits r

pub heard_number_fits : (h : Heard) → or_none (of_heard h).number ≤ 255
heard_number_fits (Ok k) = lit≤ tt
heard_number_fits (Err (unheard.Refused r)) = number_fits r
heard_number_fits (Err (unheard.Bad k)) = lit≤ tt

module _ (e : List ℕ) where
  whose_number_fits : (w : Whose) → or_none (of_whose w).number ≤ 255
  whose_number_fits (Ok x) = lit≤ tt
  whose_number_fits (Err r) = number_fits r

  naming_fits : (t : Told) (x : Naming) → x.count ≤ 65535 → or_none (of_whose (naming t x)).count ≤ 65535
  unfolding naming
  naming_fits (Ok tt) x l = l
  naming_fits (Err r) x l = lit≤ tt

  whose_count_fits : or_none (of_whose (access_whose e)).count ≤ 65535
  unfolding access_whose block_named
  whose_count_fits = naming_fits (judged (eqb (length e) 36) (none_over 2 e) true) (block_named access_g 8 e) (count_fits e (8 + length access_g + 4))

  pub whose_identity : with_identity (access_whose e) / 16777216 ≡ or_none (identity_of (access_whose e))
  unfolding with_identity
  whose_identity = identity_part (of_whose (access_whose e)) (whose_number_fits (access_whose e)) whose_count_fits (or_none (identity_of (access_whose e))) (with_identity (access_whose e)) refl

  pub whose_number : with_identity (access_whose e) / 65536 % 256 ≡ or_none (of_whose (access_whose e)).number
  unfolding with_identity
  whose_number = number_part (of_whose (access_whose e)) (whose_number_fits (access_whose e)) whose_count_fits (or_none (identity_of (access_whose e))) (with_identity (access_whose e)) refl

  pub whose_count : with_identity (access_whose e) % 65536 ≡ or_none (of_whose (access_whose e)).count
  unfolding with_identity
  whose_count = count_part (of_whose (access_whose e)) (whose_number_fits (access_whose e)) whose_count_fits (or_none (identity_of (access_whose e))) (with_identity (access_whose e)) refl
