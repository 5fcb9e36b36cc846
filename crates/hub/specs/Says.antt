-- What enrol, remove and hear answer, in 02's numbers and places, for every value of a hub: the first refusal that applies, with nothing besides it and all as before; what a
-- call that is done returns, writes and hands back. Proved in proofs/laws/Says.
use Rattle.std.specs.Prelude.{List, [], ◌≡◌, ℕ, ◌≤◌, ◌<◌, length, Option, None, Some, Ok, Err}
use Rattle.bits.specs.Bits.{Symbols}
use Rattle.answers.specs.Answers.{Answer, number_of, returned}
use Rattle.answers.specs.declared.Returned.{Returned}
use Rattle.coder.specs.Entries.{Given}
use Rattle.coder.specs.Received.{access_received}
use Rattle.coder.specs.Says.{Accepts}
use Rattle.hub.specs.Hub.{HubSaid, nobody, standing, who_at, fresh_hub, stands_now, Call, enrol, remove, hear, hub_answer}
use Rattle.hub.specs.declared.Answered.{Answered}
use Rattle.hub.specs.declared.Hub.{Hub}
use Rattle.hub.specs.declared.Said.TheVariants.{Place, Removed, Request}

-- ---- what is said, in numbers: the refusal and the count, and the place
abbrev pub of_said : HubSaid → Returned
of_said (Ok (Place p)) = returned None None
of_said (Ok Removed) = returned None None
of_said (Ok (Request p k)) = returned None (Some k)
of_said (Err r) = returned (Some (number_of r)) None

abbrev pub place_said : HubSaid → Option ℕ
place_said (Ok (Place p)) = Some p
place_said (Ok Removed) = None
place_said (Ok (Request p k)) = Some p
place_said (Err r) = None

-- the number, the place and the count, where they are returned; what the lent buffer then holds; the next hub
pub record HubReturns (a : Answer Answered) (number place count : Option ℕ) (left : List ℕ) (next : Hub) : Type 0 where
  pub told : of_said a.result.said ≡ returned number count
  pub where_to : place_said a.result.said ≡ place
  pub buffer : a.left ≡ left
  pub hub : a.result.next ≡ next

-- refused: this number and nothing besides, the buffer and the hub as before
abbrev pub HubRefuses : Hub → Call → ℕ → List ℕ → Type 0
HubRefuses h c number before = HubReturns (hub_answer h c) (Some number) None None before h

-- ---- who stands where. A hub has thirty places: its type says so
abbrev pub Thirty : Hub → Type 0
Thirty h = length h.places ≡ 30

-- identity i stands at place p
pub record StandsAt (h : Hub) (p i : ℕ) : Type 0 where
  pub place : p ≤ 29
  pub identity : i ≤ 63
  pub there : who_at h p ≡ i

-- i stands at no place
abbrev pub Absent : Hub → ℕ → Type 0
Absent h i = (p : ℕ) → StandsAt h p i → ⊥

-- p is free, and every smaller place is in use
pub record SmallestFree (h : Hub) (p : ℕ) : Type 0 where
  pub place : p ≤ 29
  pub free : who_at h p ≡ nobody
  pub smaller : (q : ℕ) → q < p → who_at h q ≤ 63

-- nobody stands at any of the thirty places
pub record FreshSays : Type 0 where
  pub thirty : Thirty fresh_hub
  pub empty : (p : ℕ) → p ≤ 29 → who_at fresh_hub p ≡ nobody

-- a hub in which somebody, or nobody, now stands at place p: who is there, and every other place is as before
pub record NowStands (h : Hub) (p who : ℕ) : Type 0 where
  pub thirty : Thirty (stands_now h p who)
  pub here : p ≤ 29 → who_at (stands_now h p who) p ≡ standing who
  pub elsewhere : (q : ℕ) → (q ≡ p → ⊥) → who_at (stands_now h p who) q ≡ who_at h q

-- ---- enrol: 3, 14, 15; done, with the place, exactly when none applies
pub record EnrolSays (h : Hub) (i : ℕ) : Type 0 where
  pub three : 63 < i → HubRefuses h (enrol i) 3 []
  pub fourteen : (p : ℕ) → StandsAt h p i → HubRefuses h (enrol i) 14 []
  pub fifteen : i ≤ 63 → Absent h i → ((p : ℕ) → p ≤ 29 → who_at h p ≤ 63) → HubRefuses h (enrol i) 15 []
  pub done : i ≤ 63 → Absent h i → (p : ℕ) → SmallestFree h p → HubReturns (hub_answer h (enrol i)) None (Some p) None [] (stands_now h p i)
  pub only : (p : ℕ) → place_said (hub_answer h (enrol i)).result.said ≡ Some p → (i ≤ 63) × Absent h i × SmallestFree h p

-- ---- remove: 16, for a place over 29 or one at which nobody stands; done exactly when somebody does
pub record RemoveSays (h : Hub) (p : ℕ) : Type 0 where
  pub sixteen : ((i : ℕ) → StandsAt h p i → ⊥) → HubRefuses h (remove p) 16 []
  pub done : (i : ℕ) → StandsAt h p i → HubReturns (hub_answer h (remove p)) None None None [] (stands_now h p nobody)
  pub only : (of_said (hub_answer h (remove p)).result.said).number ≡ None → StandsAt h p (who_at h p)

-- ---- hear: 1, 2, 17. The identity at place p accepts, by the access entry's own answer, and none at a smaller place does
pub record AcceptedAt (h : Hub) (e d : List ℕ) (p i count : ℕ) (bits : List ℕ) : Type 0 where
  pub stands : StandsAt h p i
  pub accepted : Accepts (access_received i e d) count bits
  pub smaller : (q j : ℕ) → q < p → StandsAt h q j → (k : ℕ) (b : List ℕ) → Accepts (access_received j e d) k b → ⊥

-- no identity at the hub accepts
abbrev pub NoneAccepts : Hub → List ℕ → List ℕ → Type 0
NoneAccepts h e d = (p i : ℕ) → StandsAt h p i → (count : ℕ) (bits : List ℕ) → Accepts (access_received i e d) count bits → ⊥

-- the place, the count and the bits
abbrev pub Hears : Hub → List ℕ → List ℕ → ℕ → ℕ → List ℕ → Type 0
Hears h e d p count bits = HubReturns (hub_answer h (hear e d)) None (Some p) (Some count) bits h

pub record HearSays (h : Hub) (e d : List ℕ) : Type 0 where
  pub one : ((length e ≡ 36) × (length d ≡ 8) → ⊥) → HubRefuses h (hear e d) 1 d
  pub two : length e ≡ 36 → length d ≡ 8 → (Symbols e → ⊥) → HubRefuses h (hear e d) 2 d
  pub seventeen : Given 2 36 8 e d → NoneAccepts h e d → HubRefuses h (hear e d) 17 d
  pub heard : (p i count : ℕ) (bits : List ℕ) → AcceptedAt h e d p i count bits → Hears h e d p count bits
  pub only : (p count : ℕ) (bits : List ℕ) → Hears h e d p count bits → AcceptedAt h e d p (who_at h p) count bits
  pub hub : (hub_answer h (hear e d)).result.next ≡ h
