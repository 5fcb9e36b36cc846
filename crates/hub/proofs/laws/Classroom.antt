-- The promises of Classroom are kept: of every hub that calls lead to, since of every call.
use Rattle.std.specs.Prelude.{List, ◌≡◌, ℕ, Ok}
use Rattle.std.proofs.Common.{⊎_elim, sym, ap, ◌∙◌, subst, arith}
use Rattle.answers.specs.Answers.{or_none}
use Rattle.answers.specs.declared.Returned.{Returned}
use Rattle.answers.proofs.laws.Calls.{holds_after}
use Rattle.coder.specs.Entries.{Given, access_sent}
use Rattle.coder.specs.Promises.{altered, whole}
use Rattle.coder.specs.Received.{access_received}
use Rattle.coder.specs.Says.{Accepts, FindsBad}
use Rattle.coder.specs.Whose.{HandsOver}
use Rattle.coder.proofs.laws.Promises.{access_bears}
use Rattle.coder.proofs.laws.Says.{access_receives}
use Rattle.coder.proofs.laws.Whose.{hands_over}
use Rattle.hub.specs.Classroom.{Always, OnePlace, NotByTwo, GivenRightly, WhoAcceptsIsGiven, ReachesPlace, BearsToPlace, UsedAgain}
use Rattle.hub.specs.Hub.{HubSaid, nobody, who_at, fresh_hub, Call, enrol, remove, hub_answer}
use Rattle.hub.specs.Says.{place_said, Thirty, StandsAt}
use Rattle.hub.specs.declared.Hub.{Hub}
use Rattle.hub.specs.declared.Said.TheVariants.{Place}
use Rattle.hub.proofs.laws.Calls.{next_of, thirty_next, next_stands, used_again}
use Rattle.hub.proofs.laws.Says.{enrol_says, hear_says, accepts_named}
use Rattle.hub.proofs.laws.Standing.{fresh_says}

-- ---- thirty places, and no identity at two of them: so it is of a fresh hub, and of the next one after any call
pub record Sound (h : Hub) : Type 0 where
  pub thirty : Thirty h
  pub one : OnePlace h

fresh_sound : Sound fresh_hub
fresh_sound = record {
  thirty = fresh_says.thirty;
  one = λ i p q s t. let who : nobody ≡ i = sym (fresh_says.empty p s.place) ∙ s.there in let z : ⊥ = omega (arith, who, s.identity) in absurd z;
}

module _ (h : Hub) (c : Call) (sound : Sound h) where
  -- an identity that is enrolled stood nowhere
  stood_nowhere : (i p q : ℕ) → c ≡ enrol i → (hub_answer h c).result.said ≡ Ok (Place p) → StandsAt h q i → ⊥
  stood_nowhere i p q e f s =
      ((enrol_says h sound.thirty i).only p (ap place_said (sym (ap (λ (x : Call). (hub_answer h x).result.said) e) ∙ f))).1 q s

  one_next : OnePlace (next_of h c)
  one_next i p q s t =
      ⊎_elim (λ (b : StandsAt h p i × (c ≡ remove p → ⊥)).
      ⊎_elim (λ (d : StandsAt h q i × (c ≡ remove q → ⊥)). sound.one i p q b.0 d.0)
      (λ (d : (c ≡ enrol i) × ((hub_answer h c).result.said ≡ Ok (Place q))). absurd (stood_nowhere i q p d.0 d.1 b.0))
      (next_stands h sound.thirty q i c t))
      (λ (b : (c ≡ enrol i) × ((hub_answer h c).result.said ≡ Ok (Place p))).
      ⊎_elim (λ (d : StandsAt h q i × (c ≡ remove q → ⊥)). absurd (stood_nowhere i p q b.0 b.1 d.0))
      (λ (d : (c ≡ enrol i) × ((hub_answer h c).result.said ≡ Ok (Place q))). ap (λ (x : HubSaid). or_none (place_said x)) (sym b.1 ∙ d.1))
      (next_stands h sound.thirty q i c t))
      (next_stands h sound.thirty p i c s)

  sound_next : Sound (next_of h c)
  sound_next = record { thirty = thirty_next h sound.thirty c; one = one_next }

pub always_sound : Always Sound
always_sound calls given g = holds_after hub_answer (λ r. r.next) Sound sound_next fresh_hub calls given g fresh_sound

-- ---- what follows of such a hub
module _ (h : Hub) (sound : Sound h) where
  -- two that accept one burst are one identity
  module _ (e out : List ℕ) (i k : ℕ) (b : List ℕ) (a : Accepts (access_received i e out) k b) where
    asked : Given 2 36 8 e out
    asked = ((access_receives i e out).only k (ap (λ (r : Returned). r.count) a.0)).0

    same_one : (j n : ℕ) (c : List ℕ) → Accepts (access_received j e out) n c → i ≡ j
    same_one j n c d = (accepts_named h sound.thirty e out asked i k b a).0 ∙ sym (accepts_named h sound.thirty e out asked j n c d).0

  not_by_two : NotByTwo h
  not_by_two e out p q i j s t k n b c a d = sound.one i p q s (subst (StandsAt h q) (sym (same_one e out i k b a j n c d)) t)

  given_rightly : GivenRightly h
  given_rightly e out p count bits r =
      let a = (hear_says h sound.thirty e out).only p count bits r in
      let g = asked e out (who_at h p) count bits a.accepted in
      let x : HandsOver e = hands_over e g.reads g.bits in
      let named = accepts_named h sound.thirty e out g (who_at h p) count bits a.accepted in
      record {
        identity = who_at h p;
        stands = a.stands;
        accepted = a.accepted;
        others = λ q j apart t.
            subst (λ (k : ℕ). FindsBad (access_received j e out) k out) (sym named.1)
            (x.refused out g.lends j t.identity (λ (same : j ≡ x.identity). apart (sound.one j q p t (subst (StandsAt h p) (named.0 ∙ sym same) a.stands))));
      }

  who_accepts_is_given : WhoAcceptsIsGiven h
  who_accepts_is_given e out p i s count bits a =
      (hear_says h sound.thirty e out).heard p i count bits (record {
        stands = s;
        accepted = a;
        smaller = λ q j m t k b d. let at_p : p ≡ q = not_by_two e out p q i j s t count k bits b a d in omega (arith, m, at_p);
      })

  bears_to_place : BearsToPlace h
  bears_to_place i l d c e out gd ge few =
      let back = ((access_bears i l).0 d c e out gd ge few).1 in
      let t : ℕ = altered whole (access_sent i d c).left e in (
        λ p s. who_accepts_is_given e out p i s t d back,
        λ none. (hear_says h sound.thirty e out).seventeen ge (λ p j s k b a. none p (subst (StandsAt h p) (sym (same_one e out i t d back j k b a)) s)),
      )

  reaches_place : ReachesPlace h
  reaches_place i l d c e out gd ge few = bears_to_place i l d c e out gd ge (omega (arith, few.0, few.1))

-- ---- so it is after any calls
pub always_one_place : Always OnePlace
always_one_place calls given g = (always_sound calls given g).one

pub always_not_by_two : Always NotByTwo
always_not_by_two calls given g = not_by_two _ (always_sound calls given g)

pub always_given_rightly : Always GivenRightly
always_given_rightly calls given g = given_rightly _ (always_sound calls given g)

pub always_given : Always WhoAcceptsIsGiven
always_given calls given g = who_accepts_is_given _ (always_sound calls given g)

pub always_reaches : Always ReachesPlace
always_reaches calls given g = reaches_place _ (always_sound calls given g)

pub always_bears : Always BearsToPlace
always_bears calls given g = bears_to_place _ (always_sound calls given g)

pub always_used_again : Always UsedAgain
always_used_again calls given g = used_again _ (always_sound calls given g).thirty
