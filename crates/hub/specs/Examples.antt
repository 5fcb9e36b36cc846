-- Examples, worked out by the checker: a class of thirty.
use Rattle.std.specs.Prelude.{List, [], ◌∷◌, ◌++◌, map, ◌≡◌, ℕ, refl, ◌-◌, drop, Option, None, Some}
use Rattle.bits.specs.Bits.{tab, tab_from}
use Rattle.answers.specs.Answers.{Answer}
use Rattle.answers.specs.Calls.{answers_to}
use Rattle.hub.specs.Classroom.{hub_answers}
use Rattle.hub.specs.Hub.{standing, who_at, first_where, place_of, fresh_hub, stands_now, afterwards, enrol_judged, enrol_told, enrol_answer, remove_told, remove_answer, Call, enrol, remove, hub_answer}
use Rattle.hub.specs.Says.{of_said, place_said}
use Rattle.hub.specs.declared.Answered.{Answered}

-- what the calls are answered: places, and numbers
abbrev places_of : List Call → List (Option ℕ)
places_of calls = map (λ (a : Answer Answered). place_said a.result.said) (hub_answers calls)

abbrev numbers_of : List Call → List (Option ℕ)
numbers_of calls = map (λ (a : Answer Answered). (of_said a.result.said).number) (hub_answers calls)

-- the firm's thirty kits: all have identity 7. One gets a place, and each other is refused with 14
one_identity : numbers_of (enrol 7 ∷ enrol 7 ∷ enrol 7 ∷ []) ≡ None ∷ Some 14 ∷ Some 14 ∷ []
unfolding answers_to hub_answer enrol_answer enrol_told enrol_judged afterwards place_of first_where standing stands_now fresh_hub tab tab_from
one_identity = refl

-- thirty kits, thirty identities, 63 down to 34: they get the places 0 to 29
abbrev class : List Call
class = map enrol (tab 30 (λ k. 63 - k))

thirty_kits : places_of class ≡ map Some (tab 30 (λ k. k))
unfolding answers_to hub_answer enrol_answer enrol_told enrol_judged afterwards place_of first_where standing stands_now fresh_hub tab tab_from
thirty_kits = refl

-- then the hub is full: 15 for another, still 14 for one that is there and 3 for 64
full_hub : drop 30 (numbers_of (class ++ (enrol 7 ∷ enrol 40 ∷ enrol 64 ∷ []))) ≡ Some 15 ∷ Some 14 ∷ Some 3 ∷ []
unfolding answers_to hub_answer enrol_answer enrol_told enrol_judged afterwards place_of first_where standing stands_now fresh_hub tab tab_from
full_hub = refl

-- two of them are removed, and their places are used again, the smaller one first
used_again : drop 30 (places_of (class ++ (remove 20 ∷ remove 12 ∷ enrol 7 ∷ enrol 51 ∷ []))) ≡ None ∷ None ∷ Some 12 ∷ Some 20 ∷ []
unfolding answers_to hub_answer enrol_answer enrol_told enrol_judged remove_answer remove_told afterwards place_of who_at first_where standing stands_now fresh_hub tab tab_from
used_again = refl

-- a place at which nobody stands, and one that there is not
empty_places : numbers_of (enrol 7 ∷ remove 1 ∷ remove 0 ∷ remove 0 ∷ remove 30 ∷ []) ≡ None ∷ Some 16 ∷ None ∷ Some 16 ∷ Some 16 ∷ []
unfolding answers_to hub_answer enrol_answer enrol_told enrol_judged remove_answer remove_told afterwards place_of who_at first_where standing stands_now fresh_hub tab tab_from
empty_places = refl
