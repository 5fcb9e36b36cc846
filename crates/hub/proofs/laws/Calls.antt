-- One call more: who stands where afterwards. And any calls: the places are those that the calls say.
use Rattle.std.specs.Prelude.{Bool, true, false, ◌⊎◌, ◌≡◌, refl, ℕ, ◌≤◌, eqb, Ok, Err}
use mathlib.Core.List.{List, [], ◌∷◌}
use Rattle.std.proofs.Math.Logic.{inl, inr, ⊎_elim}
use Rattle.std.proofs.Math.Path.{sym, ap, subst}
use Rattle.std.proofs.Common.{◌∙◌, arith, eqb-true}
use Rattle.std.proofs.lemmas.Bool.{eqb-false}
use Rattle.answers.specs.Answers.{Answer, or_none}
use Rattle.answers.specs.Calls.{Happened, handed_back}
use Rattle.answers.specs.declared.Refusal.TheVariants.{EmptyPlace}
use Rattle.answers.proofs.laws.Calls.{every_order}
use Rattle.hub.specs.Classroom.{HubGave, hub_answers, Kept, EnrolledBy, AsTheCallsSay, UsedAgain}
use Rattle.hub.specs.Hub.{HubSaid, nobody, who_at, fresh_hub, stands_now, enrol_answer, remove_answer, Call, enrol, remove, hear, hub_answer}
use Rattle.hub.specs.Says.{place_said, Thirty, StandsAt, Absent, SmallestFree}
use Rattle.hub.specs.declared.Answered.{Answered}
use Rattle.hub.specs.declared.Hub.{Hub}
use Rattle.hub.specs.declared.Said.TheVariants.{Place, Removed}
use Rattle.hub.specs.laws.Answers.{refuses}
use Rattle.hub.proofs.laws.Answers.{hears_only}
use Rattle.hub.proofs.laws.Ends.{NotEnrolled, Enrolled, enrol_ends, NotRemoved, Freed, remove_ends}
use Rattle.hub.proofs.laws.Says.{enrol_says}
use Rattle.hub.proofs.laws.Standing.{now_stands, standing_identity, standing_nobody, fresh_says}

-- the hub that a call hands back
abbrev pub next_of : Hub → Call → Hub
next_of h c = (hub_answer h c).result.next

-- ---- a place that is written to
module _ (h : Hub) (thirty : Thirty h) where
  other_stands : (p who q i : ℕ) → (q ≡ p → ⊥) → StandsAt h q i → StandsAt (stands_now h p who) q i
  other_stands p who q i apart s = record { place = s.place; identity = s.identity; there = (now_stands h thirty p who).elsewhere q apart ∙ s.there }

  stood : (p who q i : ℕ) → (q ≡ p → ⊥) → StandsAt (stands_now h p who) q i → StandsAt h q i
  stood p who q i apart s = record { place = s.place; identity = s.identity; there = sym ((now_stands h thirty p who).elsewhere q apart) ∙ s.there }

  -- ---- what each call hands back, and says
  module _ (j : ℕ) (a : Answered) (e : enrol_answer h j ≡ a) where
    enrol_next : next_of h (enrol j) ≡ a.next
    unfolding hub_answer
    enrol_next = ap (λ (x : Answered). x.next) e

    enrol_said : (hub_answer h (enrol j)).result.said ≡ a.said
    unfolding hub_answer
    enrol_said = ap (λ (x : Answered). x.said) e

  remove_next : (q : ℕ) (a : Answered) → remove_answer h q ≡ a → next_of h (remove q) ≡ a.next
  unfolding hub_answer
  remove_next q a e = ap (λ (x : Answered). x.next) e

  hear_next : (e d : List ℕ) → next_of h (hear e d) ≡ h
  unfolding hub_answer
  hear_next e d = hears_only h e d

  module _ (j : ℕ) (n : NotEnrolled h j) where
    same_hub : next_of h (enrol j) ≡ h
    same_hub = enrol_next j (refuses n.why h) n.is

  module _ (j : ℕ) (n : Enrolled h j) where
    abbrev done : Answered
    done = record { said = Ok (Place n.place); next = stands_now h n.place j }

    enrolled_hub : next_of h (enrol j) ≡ stands_now h n.place j
    enrolled_hub = enrol_next j done n.is

    enrolled_place : (hub_answer h (enrol j)).result.said ≡ Ok (Place n.place)
    enrolled_place = enrol_said j done n.is

    enrolled_there : StandsAt (stands_now h n.place j) n.place j
    enrolled_there = record { place = n.free.place; identity = n.within; there = (now_stands h thirty n.place j).here n.free.place ∙ standing_identity j n.within }

  module _ (q : ℕ) (n : NotRemoved h q) where
    same_hub_too : next_of h (remove q) ≡ h
    same_hub_too = remove_next q (refuses EmptyPlace h) n.is

  module _ (q : ℕ) (n : Freed h q) where
    freed_hub : next_of h (remove q) ≡ stands_now h q nobody
    freed_hub = remove_next q (record { said = Ok Removed; next = stands_now h q nobody }) n.is

    freed_there : (i : ℕ) → StandsAt (stands_now h q nobody) q i → ⊥
    freed_there i s =
        let who : nobody ≡ i = sym ((now_stands h thirty q nobody).here n.stands.place ∙ standing_nobody) ∙ s.there in
        omega (arith, who, s.identity)

  -- ---- a hub has thirty places after every call
  pub thirty_next : (c : Call) → Thirty (next_of h c)
  thirty_next (enrol j) =
      ⊎_elim (λ (n : NotEnrolled h j). subst Thirty (sym (same_hub j n)) thirty)
      (λ (n : Enrolled h j). subst Thirty (sym (enrolled_hub j n)) (now_stands h thirty n.place j).thirty) (enrol_ends h thirty j)
  thirty_next (remove q) =
      ⊎_elim (λ (n : NotRemoved h q). subst Thirty (sym (same_hub_too q n)) thirty)
      (λ (n : Freed h q). subst Thirty (sym (freed_hub q n)) (now_stands h thirty q nobody).thirty) (remove_ends h q)
  thirty_next (hear e d) = subst Thirty (sym (hear_next e d)) thirty

  module _ (p i : ℕ) where
    -- ---- whoever stands at a place after a call stood there before, and the call does not remove the place; or the call enrolled it there
    abbrev Before : Call → Type 0
    Before c = (StandsAt h p i × (c ≡ remove p → ⊥)) ⊎ ((c ≡ enrol i) × ((hub_answer h c).result.said ≡ Ok (Place p)))

    after_enrol : (j : ℕ) (n : Enrolled h j) (b : Bool) → eqb p n.place ≡ b → StandsAt (stands_now h n.place j) p i → Before (enrol j)
    after_enrol j n true f s =
        let here : p ≡ n.place = eqb-true p n.place f in
        let who : j ≡ i = sym (enrolled_there j n).there ∙ ap (who_at (stands_now h n.place j)) (sym here) ∙ s.there in
        inr (ap enrol who, enrolled_place j n ∙ ap (λ (q : ℕ). Ok (Place q)) (sym here))
    after_enrol j n false f s = inl (stood n.place j p i (eqb-false p n.place f) s, λ e. let z : ◌≡◌ {A = ℕ} 0 1 = cc in omega (arith, z))

    after_remove : (q : ℕ) (n : Freed h q) (b : Bool) → eqb p q ≡ b → StandsAt (stands_now h q nobody) p i → Before (remove q)
    after_remove q n true f s = absurd (freed_there q n i (subst (λ (k : ℕ). StandsAt (stands_now h q nobody) k i) (eqb-true p q f) s))
    after_remove q n false f s = inl (stood q nobody p i (eqb-false p q f) s, λ e. eqb-false p q f (let z : p ≡ q = cc in z))

    pub next_stands : (c : Call) → StandsAt (next_of h c) p i → Before c
    next_stands (enrol j) s =
        ⊎_elim (λ (n : NotEnrolled h j). inl (subst (λ (k : Hub). StandsAt k p i) (same_hub j n) s, λ e. let z : ◌≡◌ {A = ℕ} 0 1 = cc in omega (arith, z)))
        (λ (n : Enrolled h j). after_enrol j n (eqb p n.place) refl (subst (λ (k : Hub). StandsAt k p i) (enrolled_hub j n) s)) (enrol_ends h thirty j)
    next_stands (remove q) s =
        ⊎_elim (λ (n : NotRemoved h q).
        let t : StandsAt h p i = subst (λ (k : Hub). StandsAt k p i) (same_hub_too q n) s in
        inl (t, λ e. n.none i (subst (λ (k : ℕ). StandsAt h k i) (let z : p ≡ q = cc in z) t)))
        (λ (n : Freed h q). after_remove q n (eqb p q) refl (subst (λ (k : Hub). StandsAt k p i) (freed_hub q n) s)) (remove_ends h q)
    next_stands (hear e d) s = inl (subst (λ (k : Hub). StandsAt k p i) (hear_next e d) s, λ f. let z : ◌≡◌ {A = ℕ} 0 1 = cc in omega (arith, z))

    -- ---- whoever stands at a place stands there after a call that does not remove the place
    pub stands_on : (c : Call) → StandsAt h p i → (c ≡ remove p → ⊥) → StandsAt (next_of h c) p i
    stands_on (enrol j) s kept =
        ⊎_elim (λ (n : NotEnrolled h j). subst (λ (k : Hub). StandsAt k p i) (sym (same_hub j n)) s)
        (λ (n : Enrolled h j).
        let apart : p ≡ n.place → ⊥ = λ (here : p ≡ n.place).
        let who : nobody ≡ i = sym n.free.free ∙ ap (who_at h) (sym here) ∙ s.there in omega (arith, who, s.identity) in
        subst (λ (k : Hub). StandsAt k p i) (sym (enrolled_hub j n)) (other_stands n.place j p i apart s)) (enrol_ends h thirty j)
    stands_on (remove q) s kept =
        ⊎_elim (λ (n : NotRemoved h q). subst (λ (k : Hub). StandsAt k p i) (sym (same_hub_too q n)) s)
        (λ (n : Freed h q). subst (λ (k : Hub). StandsAt k p i) (sym (freed_hub q n)) (other_stands q nobody p i (λ (here : p ≡ q). kept (ap remove (sym here))) s)) (remove_ends h q)
    stands_on (hear e d) s kept = subst (λ (k : Hub). StandsAt k p i) (sym (hear_next e d)) s

    -- ---- whoever is enrolled at a place stands there
    pub stands_new : (c : Call) → c ≡ enrol i → (hub_answer h c).result.said ≡ Ok (Place p) → StandsAt (next_of h c) p i
    stands_new c e f = subst (λ (x : Call). StandsAt (next_of h x) p i) (sym e) (new (sym (ap (λ (x : Call). (hub_answer h x).result.said) e) ∙ f))
      where
        new : (hub_answer h (enrol i)).result.said ≡ Ok (Place p) → StandsAt (next_of h (enrol i)) p i
        new g =
            ⊎_elim (λ (n : NotEnrolled h i). let r : ◌≡◌ {A = HubSaid} (Err n.why) (Ok (Place p)) = sym (enrol_said i (refuses n.why h) n.is) ∙ g in let z : ◌≡◌ {A = ℕ} 0 1 = cc in let w : ⊥ = omega (arith, z) in absurd w)
            (λ (n : Enrolled h i).
            let here : n.place ≡ p = ap (λ (x : HubSaid). or_none (place_said x)) (sym (enrolled_place i n) ∙ g) in
            subst (λ (k : Hub). StandsAt k p i) (sym (enrolled_hub i n)) (subst (λ (q : ℕ). StandsAt (stands_now h n.place i) q i) here (enrolled_there i n))) (enrol_ends h thirty i)

  -- ---- a freed place is the smallest free one, if all smaller ones are in use
  pub used_again : UsedAgain h
  used_again p i j s used l only =
      ⊎_elim (λ (n : NotRemoved h p). absurd (n.none i s))
      (λ (n : Freed h p).
      let w = now_stands h thirty p nobody in
      let none : Absent (stands_now h p nobody) j = λ q t. not_there n q t (eqb q p) refl in
      let free : SmallestFree (stands_now h p nobody) p = record {
        place = s.place;
        free = w.here s.place ∙ standing_nobody;
        smaller = λ q m. let same : who_at (stands_now h p nobody) q ≡ who_at h q = w.elsewhere q (λ (e : q ≡ p). omega (arith, m, e)) in let u : who_at h q ≤ 63 = used q m in omega (arith, same, u);
      } in
      ap (λ (k : Hub). place_said (hub_answer k (enrol j)).result.said) (freed_hub p n) ∙ ((enrol_says (stands_now h p nobody) w.thirty j).done l none p free).where_to)
      (remove_ends h p)
    where
      not_there : Freed h p → (q : ℕ) → StandsAt (stands_now h p nobody) q j → (b : Bool) → eqb q p ≡ b → ⊥
      not_there n q t true f = freed_there p n j (subst (λ (k : ℕ). StandsAt (stands_now h p nobody) k j) (eqb-true q p f) t)
      not_there n q t false f = eqb-false q p f (only q (stood p nobody q j (eqb-false q p f) t))

-- ---- any calls: who stands at a place stood there before them all and was kept, or was enrolled there by one and kept since
module _ (p i : ℕ) where
  abbrev next : Answered → Hub
  next r = r.next

  said_by : (h : Hub) → Thirty h → (cs : List Call) (xs : List (Answer Answered)) → Happened hub_answer next h cs xs → StandsAt (handed_back next h xs) p i
      → (StandsAt h p i × Kept p cs) ⊎ EnrolledBy cs xs p i
  unfolding Happened handed_back Kept EnrolledBy
  said_by h thirty [] [] g s = inl (s, tt)
  said_by h thirty [] (x ∷ xs) g s = absurd g
  said_by h thirty (c ∷ cs) [] g s = absurd g
  said_by h thirty (c ∷ cs) (x ∷ xs) g s =
      let same : x.result ≡ (hub_answer h c).result = g.0.result in
      let on = thirty_next h thirty c in
      ⊎_elim (λ (k : StandsAt x.result.next p i × Kept p cs).
      ⊎_elim (λ (b : StandsAt h p i × (c ≡ remove p → ⊥)). inl (b.0, (b.1, k.1)))
      (λ (b : (c ≡ enrol i) × ((hub_answer h c).result.said ≡ Ok (Place p))). inr (inl (b.0, ap (λ (r : Answered). r.said) same ∙ b.1, k.1)))
      (next_stands h thirty p i c (subst (λ (r : Answered). StandsAt r.next p i) same k.0)))
      (λ (k : EnrolledBy cs xs p i). inr (inr k))
      (said_by x.result.next (subst (λ (r : Answered). Thirty r.next) (sym same) on) cs xs g.1 s)

  kept_on : (h : Hub) → Thirty h → (cs : List Call) (xs : List (Answer Answered)) → Happened hub_answer next h cs xs → StandsAt h p i → Kept p cs → StandsAt (handed_back next h xs) p i
  unfolding Happened handed_back Kept
  kept_on h thirty [] [] g s k = s
  kept_on h thirty [] (x ∷ xs) g s k = absurd g
  kept_on h thirty (c ∷ cs) [] g s k = absurd g
  kept_on h thirty (c ∷ cs) (x ∷ xs) g s k =
      let same : (hub_answer h c).result ≡ x.result = sym g.0.result in
      kept_on x.result.next (subst (λ (r : Answered). Thirty r.next) same (thirty_next h thirty c)) cs xs g.1 (subst (λ (r : Answered). StandsAt r.next p i) same (stands_on h thirty p i c s k.0)) k.1

  by_calls : (h : Hub) → Thirty h → (cs : List Call) (xs : List (Answer Answered)) → Happened hub_answer next h cs xs → EnrolledBy cs xs p i → StandsAt (handed_back next h xs) p i
  unfolding Happened handed_back EnrolledBy
  by_calls h thirty [] [] g b = absurd b
  by_calls h thirty [] (x ∷ xs) g b = absurd g
  by_calls h thirty (c ∷ cs) [] g b = absurd g
  by_calls h thirty (c ∷ cs) (x ∷ xs) g b =
      let same : (hub_answer h c).result ≡ x.result = sym g.0.result in
      let on : Thirty x.result.next = subst (λ (r : Answered). Thirty r.next) same (thirty_next h thirty c) in
      ⊎_elim (λ (n : (c ≡ enrol i) × (x.result.said ≡ Ok (Place p)) × Kept p cs).
      kept_on x.result.next on cs xs g.1
      (subst (λ (r : Answered). StandsAt r.next p i) same (stands_new h thirty p i c n.0 (ap (λ (r : Answered). r.said) same ∙ n.1))) n.2)
      (λ (n : EnrolledBy cs xs p i). by_calls x.result.next on cs xs g.1 n) b

pub as_the_calls_say : AsTheCallsSay
as_the_calls_say calls given g p i = (
  λ s. ⊎_elim (λ (k : StandsAt fresh_hub p i × Kept p calls). absurd (nobody_there p i k.0)) (λ (k : EnrolledBy calls given p i). k) (said_by p i fresh_hub fresh_says.thirty calls given g s),
  λ b. by_calls p i fresh_hub fresh_says.thirty calls given g b,
)
  where
    nobody_there : (p i : ℕ) → StandsAt fresh_hub p i → ⊥
    nobody_there p i s = let who : nobody ≡ i = sym (fresh_says.empty p s.place) ∙ s.there in omega (arith, who, s.identity)

-- every answer is the definition's
pub hub_order : (calls : List Call) (given : List (Answer Answered)) → HubGave calls given → given ≡ hub_answers calls
hub_order calls given g = every_order hub_answer (λ r. r.next) fresh_hub calls given g
