-- 02, M-112: the classroom hub. Thirty places, at each of which the identity of a kit stands or nobody; and the whole answer of each call, for every value of a hub.
use Rattle.std.specs.Prelude.{Bool, true, false, List, [], ◌∷◌, ℕ, suc, eqb, leb, ltb, get_or, set, Result, Ok, Err}
use Rattle.bits.specs.Bits.{pick, both, none_over, tab}
use Rattle.answers.specs.Answers.{Answer, of_heard, or_none, sent_or, Told, Heard}
use Rattle.answers.specs.declared.Refusal.{Refusal}
use Rattle.answers.specs.declared.Refusal.TheVariants.{Length, NotBits, Identity, Taken, AllInUse, EmptyPlace, NoneAccepts}
use Rattle.coder.specs.Entries.{lengths}
use Rattle.coder.specs.Received.{access_received}
use Rattle.hub.specs.declared.Answered.{Answered}
use Rattle.hub.specs.declared.Hub.{Hub}
use Rattle.hub.specs.declared.Said.{Said}
use Rattle.hub.specs.declared.Said.TheVariants as said
use Rattle.answers.specs.declared.Unheard.TheVariants as unheard

-- ---- the places, 0 to 29
-- who stands at a place that holds the byte x: an identity, 0 to 63, or nobody
abbrev pub nobody : ℕ
nobody = 64

unfoldable pub standing : ℕ → ℕ
standing x = pick (leb x 63) x nobody

-- who stands at place p
unfoldable pub who_at : Hub → ℕ → ℕ
who_at h p = standing (get_or h.places p 0)

-- the smallest place at which `holds` is true of who stands there; 30, as many as there are, where it is true at none
unfoldable pub first_where : (ℕ → Bool) → List ℕ → ℕ
first_where holds [] = 0
first_where holds (x ∷ xs) = pick (holds (standing x)) 0 (suc (first_where holds xs))

unfoldable pub place_of : Hub → ℕ → ℕ
place_of h who = first_where (λ x. eqb x who) h.places

-- nobody stands at any place
unfoldable pub fresh_hub : Hub
fresh_hub = record { places = tab 30 (λ p. nobody) }

-- the same hub, but that `who` stands at place p
unfoldable pub stands_now : Hub → ℕ → ℕ → Hub
stands_now h p who = record { places = set h.places p who }

-- what is said of a call: what is done, or why not
abbrev pub HubSaid : Type 0
HubSaid = Result Said Refusal

-- done: what is said, and the next hub; refused: the number, and the hub as before
unfoldable pub afterwards : Told → Said → Hub → Hub → Answered
afterwards (Ok done) x next h = record { said = Ok x; next = next }
afterwards (Err r) x next h = record { said = Err r; next = h }

-- ---- enrol: a kit with identity i gets the smallest free place. Where several apply: 3, 14, 15. Is i at most 63, does it stand at a place, is a place free?
unfoldable pub enrol_judged : Bool → Bool → Bool → Told
enrol_judged false stands free = Err Identity
enrol_judged true true free = Err Taken
enrol_judged true false false = Err AllInUse
enrol_judged true false true = Ok tt

unfoldable pub enrol_told : Hub → ℕ → Told
enrol_told h i = enrol_judged (leb i 63) (ltb (place_of h i) 30) (ltb (place_of h nobody) 30)

unfoldable pub enrol_answer : Hub → ℕ → Answered
enrol_answer h i = afterwards (enrol_told h i) (said.Place (place_of h nobody)) (stands_now h (place_of h nobody) i) h

-- ---- remove: place p is free again. 16: it is over 29, or nobody stands there
unfoldable pub remove_told : Hub → ℕ → Told
remove_told h p = pick (both (ltb p 30) (leb (who_at h p) 63)) (Ok tt) (Err EmptyPlace)

unfoldable pub remove_answer : Hub → ℕ → Answered
remove_answer h p = afterwards (remove_told h p) said.Removed (stands_now h p nobody) h

-- ---- hear: 36 received bytes go to the place whose identity accepts them, by the access entry's own answer
abbrev pub is_good : Heard → Bool
is_good (Ok k) = true
is_good (Err (unheard.Refused r)) = false
is_good (Err (unheard.Bad k)) = false

unfoldable pub accepts : List ℕ → List ℕ → ℕ → Bool
accepts e d i = is_good (access_received i e d).result

unfoldable pub accepting_place : Hub → List ℕ → List ℕ → ℕ
accepting_place h e d = first_where (accepts e d) h.places

-- where several apply: 1, 2, 17. Are the lengths right, is no byte over 2, does an identity accept?
unfoldable pub hear_judged : Bool → Bool → Bool → Told
hear_judged false symbols accepted = Err Length
hear_judged true false accepted = Err NotBits
hear_judged true true false = Err NoneAccepts
hear_judged true true true = Ok tt

unfoldable pub hear_told : Hub → List ℕ → List ℕ → Told
hear_told h e d = hear_judged (lengths e 36 d 8) (none_over 2 e) (ltb (accepting_place h e d) 30)

-- the place, with the count and the bits that the access entry gives under its identity; the hub as before
unfoldable pub hear_answer : Hub → List ℕ → List ℕ → Answer Answered
hear_answer h e d =
    let p : ℕ = accepting_place h e d in
    let a : Answer Heard = access_received (who_at h p) e d in
    record { result = afterwards (hear_told h e d) (said.Request p (or_none (of_heard a.result).count)) h h; left = sent_or (hear_told h e d) a.left d }

-- ---- a call, with all that it is given: an identity, a place, or the received bytes and what the lent buffer held. Its whole answer: what is said, the next hub, and what
-- the lent buffer then holds, of which only `hear` has one
pub data Call : Type 0 where
  enrol : ℕ → Call
  remove : ℕ → Call
  hear : List ℕ → List ℕ → Call

unfoldable pub hub_answer : Hub → Call → Answer Answered
hub_answer h (enrol i) = record { result = enrol_answer h i; left = [] }
hub_answer h (remove p) = record { result = remove_answer h p; left = [] }
hub_answer h (hear e d) = hear_answer h e d
