-- What is promised of a hub after any calls, each answered as its contract says, from a fresh one. Proved in proofs/laws/Classroom.
use Rattle.std.specs.Prelude.{List, [], ◌∷◌, ◌⊎◌, ◌≡◌, ℕ, ◌+◌, ◌*◌, ◌≤◌, ◌<◌, Some, Ok}
use Rattle.bits.specs.Bits.{missing}
use Rattle.answers.specs.Answers.{Answer}
use Rattle.answers.specs.Calls.{answers_to, Happened, handed_back}
use Rattle.coder.specs.Entries.{Given, access_sent}
use Rattle.coder.specs.Promises.{altered, whole}
use Rattle.coder.specs.Received.{access_received}
use Rattle.coder.specs.Says.{Accepts, FindsBad}
use Rattle.hub.specs.Hub.{who_at, fresh_hub, Call, enrol, remove, hear, hub_answer}
use Rattle.hub.specs.Says.{place_said, HubRefuses, StandsAt, Absent, Hears}
use Rattle.hub.specs.declared.Answered.{Answered}
use Rattle.hub.specs.declared.Hub.{Hub}
use Rattle.hub.specs.declared.Said.TheVariants.{Place}

-- any calls, one after another: what the definition answers, what happened by the contracts, and the hub that the last of them handed back
abbrev pub hub_answers : List Call → List (Answer Answered)
hub_answers calls = answers_to hub_answer (λ r. r.next) fresh_hub calls

abbrev pub HubGave : List Call → List (Answer Answered) → Type 0
HubGave calls given = Happened hub_answer (λ r. r.next) fresh_hub calls given

abbrev pub hub_after : List (Answer Answered) → Hub
hub_after given = handed_back (λ (r : Answered). r.next) fresh_hub given

-- what is promised of every hub that calls lead to
abbrev pub Always : (Hub → Type 0) → Type 0
Always P = (calls : List Call) (given : List (Answer Answered)) → HubGave calls given → P (hub_after given)

-- ---- no identity stands at two places
abbrev pub OnePlace : Hub → Type 0
OnePlace h = (i p q : ℕ) → StandsAt h p i → StandsAt h q i → p ≡ q

-- ---- no burst is accepted by the identities of two places, whatever 36 bytes it is
abbrev pub NotByTwo : Hub → Type 0
NotByTwo h =
    (e out : List ℕ) (p q i j : ℕ) → StandsAt h p i → StandsAt h q j
    → (k n : ℕ) (b c : List ℕ) → Accepts (access_received i e out) k b → Accepts (access_received j e out) n c → p ≡ q

-- so none is given to two: whoever is given a burst accepts it, with that count and those bits, and every other place's identity refuses it with 8
pub record GivenToOne (h : Hub) (e out : List ℕ) (p count : ℕ) (bits : List ℕ) : Type 0 where
  pub identity : ℕ
  pub stands : StandsAt h p identity
  pub accepted : Accepts (access_received identity e out) count bits
  pub others : (q j : ℕ) → (q ≡ p → ⊥) → StandsAt h q j → FindsBad (access_received j e out) count out

abbrev pub GivenRightly : Hub → Type 0
GivenRightly h = (e out : List ℕ) (p count : ℕ) (bits : List ℕ) → Hears h e out p count bits → GivenToOne h e out p count bits

-- and whoever accepts it is given it
abbrev pub WhoAcceptsIsGiven : Hub → Type 0
WhoAcceptsIsGiven h =
    (e out : List ℕ) (p i : ℕ) → StandsAt h p i → (count : ℕ) (bits : List ℕ) → Accepts (access_received i e out) count bits → Hears h e out p count bits

-- ---- a request is sent for identity i, and of its 36 bits t are altered and m are missing, so few. It reaches the place at which i stands at that moment, with its bits and
-- the count t, and gets 17 if i stands at none
abbrev pub Reaches : (ℕ → ℕ → Type 0) → Hub → Type 0
Reaches few h =
    (i : ℕ) → i ≤ 63 → (d c e out : List ℕ) → Given 1 8 36 d c → Given 2 36 8 e out → few (altered whole (access_sent i d c).left e) (missing e)
    → ((p : ℕ) → StandsAt h p i → Hears h e out p (altered whole (access_sent i d c).left e) d) × (Absent h i → HubRefuses h (hear e out) 17 out)

-- none is missing and at most three are altered
abbrev pub ReachesPlace : Hub → Type 0
ReachesPlace = Reaches (λ t m. (t ≤ 3) × (m ≡ 0))

-- by 02, M-102
abbrev pub BearsToPlace : Hub → Type 0
BearsToPlace = Reaches (λ t m. 2 * t + m ≤ 6)

-- ---- a freed place is used again: it is the next one to be given, if all smaller ones are in use. Whoever is enrolled stood there, or nowhere
abbrev pub UsedAgain : Hub → Type 0
UsedAgain h =
    (p i j : ℕ) → StandsAt h p i → ((q : ℕ) → q < p → who_at h q ≤ 63) → j ≤ 63 → ((q : ℕ) → StandsAt h q j → q ≡ p)
    → place_said (hub_answer (hub_answer h (remove p)).result.next (enrol j)).result.said ≡ Some p

-- ---- the places are those that the calls say: i stands at p exactly when some call was `enrol i` and was answered p, and no call after it was `remove p`
unfoldable pub Kept : ℕ → List Call → Type 0
Kept p [] = Unit {0}
Kept p (c ∷ cs) = (c ≡ remove p → ⊥) × Kept p cs

unfoldable pub EnrolledBy : List Call → List (Answer Answered) → ℕ → ℕ → Type 0
EnrolledBy [] given p i = ⊥
EnrolledBy (c ∷ cs) [] p i = ⊥
EnrolledBy (c ∷ cs) (x ∷ xs) p i = ((c ≡ enrol i) × (x.result.said ≡ Ok (Place p)) × Kept p cs) ⊎ EnrolledBy cs xs p i

abbrev pub AsTheCallsSay : Type 0
AsTheCallsSay =
    (calls : List Call) (given : List (Answer Answered)) → HubGave calls given
    → (p i : ℕ) → (StandsAt (hub_after given) p i → EnrolledBy calls given p i) × (EnrolledBy calls given p i → StandsAt (hub_after given) p i)
