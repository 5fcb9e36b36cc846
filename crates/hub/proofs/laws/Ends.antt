-- In which ways an enrolment and a removal end.
use Rattle.std.specs.Prelude.{◌⊎◌, ◌≡◌, refl, ℕ, ◌≤◌, ◌<◌, Ok}
use Rattle.std.proofs.Common.{inl, inr, ⊎_elim, arith}
use Rattle.bits.proofs.laws.Cases.{lt_or_le}
use Rattle.answers.specs.declared.Refusal.{Refusal}
use Rattle.answers.specs.declared.Refusal.TheVariants.{Identity, Taken, AllInUse, EmptyPlace}
use Rattle.hub.specs.Hub.{nobody, who_at, place_of, stands_now, enrol_answer, remove_answer}
use Rattle.hub.specs.Says.{Thirty, StandsAt, Absent, SmallestFree}
use Rattle.hub.specs.declared.Hub.{Hub}
use Rattle.hub.specs.declared.Said.TheVariants.{Place, Removed}
use Rattle.hub.specs.laws.Answers.{refuses}
use Rattle.hub.proofs.laws.Answers.{enrols_none, enrols_taken, enrols_full, enrols, removes_over, removes_none, removes}
use Rattle.hub.proofs.laws.Standing.{nowhere_absent, found_smallest}

-- ---- enrol: refused, or enrolled at the smallest free place
pub record NotEnrolled (h : Hub) (i : ℕ) : Type 0 where
  pub why : Refusal
  pub is : enrol_answer h i ≡ refuses why h

pub record Enrolled (h : Hub) (i : ℕ) : Type 0 where
  pub place : ℕ
  pub within : i ≤ 63
  pub absent : Absent h i
  pub free : SmallestFree h place
  pub is : enrol_answer h i ≡ record { said = Ok (Place place); next = stands_now h place i }

pub enrol_ends : (h : Hub) → Thirty h → (i : ℕ) → NotEnrolled h i ⊎ Enrolled h i
enrol_ends h thirty i =
    ⊎_elim (λ (over : 63 < i). inl (record { why = Identity; is = enrols_none h i over }))
    (λ (l : i ≤ 63). ⊎_elim (λ (m : place_of h i < 30). inl (record { why = Taken; is = enrols_taken h i l m }))
    (λ (m : 30 ≤ place_of h i). ⊎_elim (λ (n : place_of h nobody < 30).
    inr (record { place = place_of h nobody; within = l; absent = nowhere_absent h thirty i m; free = found_smallest h thirty n; is = enrols h i l m n }))
    (λ (n : 30 ≤ place_of h nobody). inl (record { why = AllInUse; is = enrols_full h i l m n })) (lt_or_le (place_of h nobody) 30))
    (lt_or_le (place_of h i) 30))
    (lt_or_le 63 i)

-- ---- remove: refused, since nobody stands there, or removed
pub record NotRemoved (h : Hub) (p : ℕ) : Type 0 where
  pub none : (i : ℕ) → StandsAt h p i → ⊥
  pub is : remove_answer h p ≡ refuses EmptyPlace h

pub record Freed (h : Hub) (p : ℕ) : Type 0 where
  pub stands : StandsAt h p (who_at h p)
  pub is : remove_answer h p ≡ record { said = Ok Removed; next = stands_now h p nobody }

pub remove_ends : (h : Hub) (p : ℕ) → NotRemoved h p ⊎ Freed h p
remove_ends h p =
    ⊎_elim (λ (l : p < 30). ⊎_elim (λ (empty : 63 < who_at h p).
    inl (record { none = λ i s. let z : ⊥ = omega (arith, s.there, s.identity, empty) in absurd z; is = removes_none h p l empty }))
    (λ (m : who_at h p ≤ 63). inr (record { stands = record { place = omega (arith, l); identity = m; there = refl }; is = removes h p l m })) (lt_or_le 63 (who_at h p)))
    (λ (over : 30 ≤ p). inl (record { none = λ i s. let z : ⊥ = omega (arith, s.place, over) in absurd z; is = removes_over h p over })) (lt_or_le p 30)
