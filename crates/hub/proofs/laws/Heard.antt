-- What coder's promises say of one decoding, by cases; and that every identity but the one that is named gets no request.
use Rattle.std.specs.Prelude.{Bool, true, false, List, ◌≡◌, refl, ℕ, ◌≤◌, ◌<◌, eqb, Option, None, Some, Ok, Err}
use Rattle.std.proofs.Common.{⊎_elim, ap₂, ◌∙◌, arith, eqb-true}
use Rattle.std.proofs.Math.Path.{ap}
use Rattle.std.proofs.lemmas.Bool.{eqb-false}
use Rattle.bits.proofs.laws.Cases.{lt_or_le}
use Rattle.answers.specs.Answers.{number_of, or_none, of_heard, Heard}
use Rattle.answers.specs.declared.Refusal.{Refusal}
use Rattle.answers.specs.declared.Returned.{Returned}
use Rattle.answers.proofs.laws.Answers.{number_once}
use Rattle.coder.specs.Entries.{Given}
use Rattle.coder.specs.Received.{access_received}
use Rattle.coder.specs.Whose.{Whose, named, Tells, HandsOver}
use Rattle.coder.proofs.laws.Says.{access_receives}
use Rattle.hub.specs.Hub.{is_good, accepts}
use Rattle.answers.specs.declared.Unheard.TheVariants as unheard

-- ---- what is told in numbers, by cases
pub tells_named : (w : Whose) (i k : ℕ) → Tells w None (Some i) (Some k) → w ≡ Ok (named i k)
tells_named (Ok x) i k t =
    ap₂ (λ (j n : ℕ). Ok (named j n)) (ap or_none t.1) (ap (λ (r : Returned). or_none r.count) t.0)
tells_named (Err r) i k t = let z : ◌≡◌ {A = ℕ} 0 1 = cc in let w : ⊥ = omega arith in absurd w

pub tells_refused : (w : Whose) (r : Refusal) → Tells w (Some (number_of r)) None None → w ≡ Err r
tells_refused (Ok x) r t = let z : ◌≡◌ {A = ℕ} 0 1 = cc in let w : ⊥ = omega arith in absurd w
tells_refused (Err s) r t = ap Err (number_once s r (ap (λ (x : Returned). or_none x.number) t.0))

-- good is what has no number
abbrev is_none : Option ℕ → Bool
is_none None = true
is_none (Some n) = false

pub good_by_number : (x : Heard) → is_good x ≡ is_none (of_heard x).number
good_by_number (Ok k) = refl
good_by_number (Err (unheard.Refused r)) = refl
good_by_number (Err (unheard.Bad k)) = refl

module _ (e d : List ℕ) (g : Given 2 36 8 e d) (x : HandsOver e) where
  by_number : (j : ℕ) (m : Option ℕ) → (of_heard (access_received j e d).result).number ≡ m → accepts e d j ≡ is_none m
  unfolding accepts
  by_number j m f = good_by_number (access_received j e d).result ∙ ap is_none f

  accepts_at : (j : ℕ) (b : Bool) → eqb j x.identity ≡ b → accepts e d j ≡ b
  accepts_at j true q =
      by_number j None (ap (λ (i : ℕ). (of_heard (access_received i e d).result).number) (eqb-true j x.identity q) ∙ ap (λ (r : Returned). r.number) (x.accepted d g.lends).0)
  accepts_at j false q =
      ⊎_elim (λ (over : 63 < j). by_number j (Some 3) (ap (λ (r : Returned). r.number) ((access_receives j e d).refused.three g over).0))
      (λ (h : j ≤ 63). by_number j (Some 8) (ap (λ (r : Returned). r.number) (x.refused d g.lends j h (eqb-false j x.identity q)).0))
      (lt_or_le 63 j)

  -- the access entry accepts under the identity that is named, and under no other, be it no identity at all
  pub accepts_one : (j : ℕ) → accepts e d j ≡ eqb j x.identity
  accepts_one j = accepts_at j (eqb j x.identity) refl
