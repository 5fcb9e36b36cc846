-- How two calls end, as the code's own functions say it: one that is refused, and one that hears.
use Rattle.std.specs.Prelude.{ℕ, Option, Some, None, ltb, Ok, Err}
use mathlib.Core.List.{List}
use Rattle.bits.specs.Bits.{pick}
use Rattle.answers.specs.Answers.{Answer, sent_or, Told}
use Rattle.answers.specs.declared.Refusal.{Refusal}
use Rattle.answers.specs.declared.Refusal.TheVariants.{NoneAccepts}
use Rattle.hub.specs.Hub.{HubSaid, place_of, afterwards}
use Rattle.hub.specs.declared.Answered.{Answered}
use Rattle.hub.specs.declared.Hub.{Hub}
use Rattle.hub.specs.declared.Said.TheVariants as said

-- what a call says, and the next hub
abbrev pub answered : HubSaid → Hub → Answered
answered x next = record { said = x; next = next }

-- a call that is refused says so, and the hub is as before
abbrev pub refuses : Refusal → Hub → Answered
refuses r h = record { said = Err r; next = h }

-- the smallest place at which somebody, or nobody, stands, if there is one
unfoldable pub place_found : Hub → ℕ → Option ℕ
place_found h who = pick (ltb (place_of h who) 30) (Some (place_of h who)) None

-- ---- hear: the request of identity i, with its count and its bits, goes to the place at which i stands, if it does
unfoldable pub goes : Hub → ℕ → ℕ → List ℕ → List ℕ → Answer Answered
goes h i k bits d =
    let t : Told = pick (ltb (place_of h i) 30) (Ok tt) (Err NoneAccepts) in
    record { result = afterwards t (said.Request (place_of h i) k) h h; left = sent_or t bits d }
