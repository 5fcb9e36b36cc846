-- Two results that a contract allows are equal; and the ways in which a call ends.
use Rattle.std.specs.Prelude.{List, [], ◌∷◌, Ok, Err, ◌≡◌, refl, ℕ, ◌≤◌, get_or}
use Rattle.std.proofs.Common.{sym, ◌∙◌, lit≤}
use Rattle.std.proofs.Math.Path.{ap}
use Rattle.answers.specs.Answers.{Answer, Meets, Told, number_of, sent_or, tells}
use Rattle.answers.specs.declared.Refusal.{Refusal}
use Rattle.answers.specs.declared.Refusal.TheVariants.{Length, NotBits, Identity, OutOfTurn, Full, NothingSent, Ended, Parity, Flags, Crc, Taken, AllInUse, EmptyPlace, NoneAccepts, FixedBit, FrameType}

-- at most one result, and one content of the lent buffer, meets the answer a
abbrev pub Settled : {A : Type 0} → Answer A → Type 0
Settled {A} a = (r s : A) (x y : List ℕ) → Meets a r x → Meets a s y → (r ≡ s) × (x ≡ y)

-- once for every entry
pub meets_once : {A : Type 0} (a : Answer A) → Settled a
meets_once a r s x y m n = (m.result ∙ sym n.result, m.left ∙ sym n.left)

-- a result and a content that are the answer meet it
pub meets_as : {A : Type 0} (a : Answer A) (r : A) (x : List ℕ) → record { result = r; left = x } ≡ a → Meets a r x
meets_as {A} a r x e = record { result = ap (λ (b : Answer A). b.result) e; left = ap (λ (b : Answer A). b.left) e }

-- what a result meets, the same result under another name meets
pub known : {A : Type 0} {a : Answer A} {x : List ℕ} {r s : A} → r ≡ s → Meets a r x → Meets a s x
known e m = record { result = sym e ∙ m.result; left = m.left }

-- ---- no two refusals have one number: there is a way back from it, by a list in which each stands at its number; Length fills the numbers that none has
abbrev by_number : List Refusal
by_number =
    Length ∷ Length ∷ NotBits ∷ Identity ∷ OutOfTurn ∷ Full ∷ NothingSent ∷ Ended ∷ Parity ∷ Flags ∷ Crc ∷ Length ∷ Length ∷ Length
    ∷ Taken ∷ AllInUse ∷ EmptyPlace ∷ NoneAccepts ∷ FixedBit ∷ FrameType ∷ []

abbrev with_number : ℕ → Refusal
with_number n = get_or by_number n Length

way_back : (r : Refusal) → with_number (number_of r) ≡ r
way_back Length = refl
way_back NotBits = refl
way_back Identity = refl
way_back OutOfTurn = refl
way_back Full = refl
way_back NothingSent = refl
way_back Ended = refl
way_back Parity = refl
way_back Flags = refl
way_back Crc = refl
way_back Taken = refl
way_back AllInUse = refl
way_back EmptyPlace = refl
way_back NoneAccepts = refl
way_back FixedBit = refl
way_back FrameType = refl

pub number_once : (r s : Refusal) → number_of r ≡ number_of s → r ≡ s
number_once r s e = sym (way_back r) ∙ ap with_number e ∙ way_back s

-- every number fits a byte
pub number_fits : (r : Refusal) → number_of r ≤ 255
number_fits Length = lit≤ tt
number_fits NotBits = lit≤ tt
number_fits Identity = lit≤ tt
number_fits OutOfTurn = lit≤ tt
number_fits Full = lit≤ tt
number_fits NothingSent = lit≤ tt
number_fits Ended = lit≤ tt
number_fits Parity = lit≤ tt
number_fits Flags = lit≤ tt
number_fits Crc = lit≤ tt
number_fits Taken = lit≤ tt
number_fits AllInUse = lit≤ tt
number_fits EmptyPlace = lit≤ tt
number_fits NoneAccepts = lit≤ tt
number_fits FixedBit = lit≤ tt
number_fits FrameType = lit≤ tt

-- ---- the two ways in which a call ends that is judged first
module _ (t : Told) (sent before : List ℕ) (r : Told) (e : r ≡ t) where
  pub tells_done : (after : List ℕ) → r ≡ Ok tt → after ≡ sent → Meets (tells t sent before) r after
  unfolding tells sent_or
  tells_done after f g = record { result = e; left = g ∙ ap (λ (s : Told). sent_or s sent before) (sym f ∙ e) }

  pub tells_refused : (x : Refusal) → r ≡ Err x → Meets (tells t sent before) r before
  unfolding tells sent_or
  tells_refused x f = record { result = e; left = ap (λ (s : Told). sent_or s sent before) (sym f ∙ e) }
