-- What enrol, remove and hear answer is what Says has, for every value of a hub.
use Rattle.std.specs.Prelude.{Bool, true, false, ◌≡◌, refl, ℕ, ◌≤◌, ◌<◌, eqb, length, Option, None, Some, Ok, Err}
use mathlib.Core.List.{List, []}
use Rattle.std.proofs.Common.{⊎_elim, sym, ◌∙◌, subst, arith, eqb-true, eq-eqb}
use Rattle.std.proofs.Math.Path.{ap}
use Rattle.std.proofs.lemmas.Bool.{eqb-false}
use Rattle.bits.specs.Bits.{Symbols, none_over}
use Rattle.bits.proofs.laws.Cases.{lt_or_le, both_first, both_second, false_true}
use Rattle.bits.proofs.laws.Check.{none_over_lem, over_none}
use Rattle.answers.specs.Answers.{Answer, number_of, or_none, of_heard}
use Rattle.answers.specs.declared.Refusal.{Refusal}
use Rattle.answers.specs.declared.Refusal.TheVariants as refusal
use Rattle.answers.specs.declared.Returned.{Returned}
use Rattle.coder.specs.Entries.{Given, lengths}
use Rattle.coder.specs.Received.{access_received}
use Rattle.coder.specs.Says.{Accepts}
use Rattle.coder.specs.Whose.{HandsOver}
use Rattle.coder.proofs.laws.Says.{access_receives}
use Rattle.coder.proofs.laws.Whose.{hands_over}
use Rattle.hub.specs.Hub.{HubSaid, nobody, who_at, place_of, stands_now, enrol_answer, remove_answer, hear_answer, enrol, remove, hear, hub_answer, Call}
use Rattle.hub.specs.Says.{of_said, place_said, HubReturns, HubRefuses, Thirty, Absent, SmallestFree, EnrolSays, RemoveSays, AcceptedAt, NoneAccepts, Hears, HearSays}
use Rattle.hub.specs.declared.Answered.{Answered}
use Rattle.hub.specs.declared.Hub.{Hub}
use Rattle.hub.specs.declared.Said.TheVariants.{Place, Removed, Request}
use Rattle.hub.specs.laws.Answers.{refuses, goes}
use Rattle.hub.proofs.laws.Answers.{enrols_none, enrols_taken, enrols_full, enrols, removes, goes_there, goes_nowhere, hears_length, hears_symbols, hears, hears_only}
use Rattle.hub.proofs.laws.Ends.{NotEnrolled, Enrolled, enrol_ends, NotRemoved, Freed, remove_ends}
use Rattle.hub.proofs.laws.Standing.{found_there, found_first, found_at, found_within, absent_nowhere, smallest_found, all_in_use}

-- an answer that is this one returns this
returns_so : (a : Answer Answered) (x : HubSaid) (left : List ℕ) (next : Hub) → a ≡ record { result = record { said = x; next = next }; left = left }
    → (number place count : Option ℕ) → of_said x ≡ record { number = number; count = count } → place_said x ≡ place → HubReturns a number place count left next
returns_so a x left next e number place count f g = record {
  told = ap (λ (b : Answer Answered). of_said b.result.said) e ∙ f;
  where_to = ap (λ (b : Answer Answered). place_said b.result.said) e ∙ g;
  buffer = ap (λ (b : Answer Answered). b.left) e;
  hub = ap (λ (b : Answer Answered). b.result.next) e;
}

refuses_so : (h : Hub) (c : Call) (r : Refusal) (left : List ℕ) → hub_answer h c ≡ record { result = refuses r h; left = left } → HubRefuses h c (number_of r) left
refuses_so h c r left e = returns_so (hub_answer h c) (Err r) left h e (Some (number_of r)) None None refl refl

-- a refusal has no place
no_place : (r : Refusal) (p : ℕ) → place_said (Err r) ≡ Some p → ⊥
no_place r p e = let z : ◌≡◌ {A = ℕ} 0 1 = cc in omega (arith, z)

-- ---- enrol
module _ (h : Hub) (thirty : Thirty h) (i : ℕ) where
  enrol_so : (a : Answered) → enrol_answer h i ≡ a → hub_answer h (enrol i) ≡ record { result = a; left = [] }
  unfolding hub_answer
  enrol_so a e = ap (λ (x : Answered). record { result = x; left = [] }) e

  -- a place is said only of an enrolment that is done
  enrolled : (p : ℕ) → place_said (hub_answer h (enrol i)).result.said ≡ Some p → (i ≤ 63) × Absent h i × SmallestFree h p
  enrolled p q =
      ⊎_elim (λ (n : NotEnrolled h i). absurd (no_place n.why p (said_so (refuses n.why h) n.is)))
      (λ (n : Enrolled h i).
      let at_p : n.place ≡ p = ap or_none (said_so (record { said = Ok (Place n.place); next = stands_now h n.place i }) n.is) in
      (n.within, n.absent, subst (SmallestFree h) at_p n.free))
      (enrol_ends h thirty i)
    where
      said_so : (a : Answered) → enrol_answer h i ≡ a → place_said a.said ≡ Some p
      said_so a e = sym (ap (λ (x : Answer Answered). place_said x.result.said) (enrol_so a e)) ∙ q

  pub enrol_says : EnrolSays h i
  enrol_says = record {
    three = λ over. refuses_so h (enrol i) refusal.Identity [] (enrol_so (refuses refusal.Identity h) (enrols_none h i over));
    fourteen = λ p s. refuses_so h (enrol i) refusal.Taken [] (enrol_so (refuses refusal.Taken h) (enrols_taken h i s.identity (found_within h i thirty p s.place s.there)));
    fifteen = λ l none used. refuses_so h (enrol i) refusal.AllInUse [] (enrol_so (refuses refusal.AllInUse h) (enrols_full h i l (absent_nowhere h thirty i l none) (all_in_use h thirty used)));
    done = λ l none p f.
        let is : place_of h nobody ≡ p = smallest_found h thirty p f in
        let m : place_of h nobody < 30 = omega (arith, is, f.place) in
        returns_so (hub_answer h (enrol i)) (Ok (Place p)) [] (stands_now h p i)
        (enrol_so (record { said = Ok (Place p); next = stands_now h p i })
        (enrols h i l (absent_nowhere h thirty i l none) m ∙ ap (λ (q : ℕ). record { said = Ok (Place q); next = stands_now h q i }) is))
        None (Some p) None refl refl;
    only = enrolled;
  }

-- ---- remove
module _ (h : Hub) (p : ℕ) where
  remove_so : (a : Answered) → remove_answer h p ≡ a → hub_answer h (remove p) ≡ record { result = a; left = [] }
  unfolding hub_answer
  remove_so a e = ap (λ (x : Answered). record { result = x; left = [] }) e

  -- a refusal has a number
  numbered : remove_answer h p ≡ refuses refusal.EmptyPlace h → (of_said (hub_answer h (remove p)).result.said).number ≡ None → ⊥
  numbered e q =
      let z : ◌≡◌ {A = ℕ} 16 0 = ap or_none (sym (ap (λ (x : Answer Answered). (of_said x.result.said).number) (remove_so (refuses refusal.EmptyPlace h) e)) ∙ q) in
      omega (arith, z)

  pub remove_says : RemoveSays h p
  remove_says = record {
    sixteen = λ none.
        ⊎_elim (λ (n : NotRemoved h p). refuses_so h (remove p) refusal.EmptyPlace [] (remove_so (refuses refusal.EmptyPlace h) n.is))
        (λ (n : Freed h p). absurd (none (who_at h p) n.stands)) (remove_ends h p);
    done = λ i s.
        returns_so (hub_answer h (remove p)) (Ok Removed) [] (stands_now h p nobody)
        (remove_so (record { said = Ok Removed; next = stands_now h p nobody }) (removes h p (omega (arith, s.place)) (omega (arith, s.there, s.identity))))
        None None None refl refl;
    only = λ q. ⊎_elim (λ (n : NotRemoved h p). absurd (numbered n.is q)) (λ (n : Freed h p). n.stands) (remove_ends h p);
  }

-- ---- hear
module _ (h : Hub) (thirty : Thirty h) (e d : List ℕ) where
  hear_so : (a : Answer Answered) → hear_answer h e d ≡ a → hub_answer h (hear e d) ≡ a
  unfolding hub_answer
  hear_so a f = f

  -- 36 bytes, none over 2, and eight lent ones: one identity is named, and the burst goes to the place at which it stands
  module _ (g : Given 2 36 8 e d) where
    abbrev x : HandsOver e
    x = hands_over e g.reads g.bits

    goes_so : hub_answer h (hear e d) ≡ goes h x.identity x.count x.bits d
    goes_so = hear_so (goes h x.identity x.count x.bits d) (hears h e d thirty g x)

    there_so : place_of h x.identity < 30 → hub_answer h (hear e d) ≡ record { result = record { said = Ok (Request (place_of h x.identity) x.count); next = h }; left = x.bits }
    there_so l = goes_so ∙ goes_there h x.identity x.count x.bits d l

    nowhere_so : 30 ≤ place_of h x.identity → hub_answer h (hear e d) ≡ record { result = refuses refusal.NoneAccepts h; left = d }
    nowhere_so l = goes_so ∙ goes_nowhere h x.identity x.count x.bits d l

    -- whoever accepts is the one that is named, with its count and its bits
    pub accepts_named : (i count : ℕ) (bits : List ℕ) → Accepts (access_received i e d) count bits → (i ≡ x.identity) × (count ≡ x.count) × (bits ≡ x.bits)
    accepts_named i count bits a = go (eqb i x.identity) refl
      where
        within : i ≤ 63
        within = ((access_receives i e d).only count (ap (λ (r : Returned). r.count) a.0)).1

        go : (b : Bool) → eqb i x.identity ≡ b → (i ≡ x.identity) × (count ≡ x.count) × (bits ≡ x.bits)
        go true q =
            let same : i ≡ x.identity = eqb-true i x.identity q in
            let it = x.accepted d g.lends in (
              same,
              ap (λ (r : Returned). or_none r.count) (sym a.0 ∙ ap (λ (j : ℕ). of_heard (access_received j e d).result) same ∙ it.0),
              sym a.1 ∙ ap (λ (j : ℕ). (access_received j e d).left) same ∙ it.1,
            )
        go false q =
            let eight : ◌≡◌ {A = ℕ} 8 0 = ap (λ (r : Returned). or_none r.number) (sym (x.refused d g.lends i within (eqb-false i x.identity q)).0 ∙ a.0) in
            let z : ⊥ = omega (arith, eight) in
            absurd z

    is_seventeen : NoneAccepts h e d → HubRefuses h (hear e d) 17 d
    is_seventeen none =
        ⊎_elim (λ (l : place_of h x.identity < 30).
        absurd (none (place_of h x.identity) x.identity (record { place = omega (arith, l); identity = x.within; there = found_there h x.identity thirty l }) x.count x.bits (x.accepted d g.lends)))
        (λ (l : 30 ≤ place_of h x.identity). refuses_so h (hear e d) refusal.NoneAccepts d (nowhere_so l)) (lt_or_le (place_of h x.identity) 30)

    -- whoever is given it accepts it
    given_at : (p count : ℕ) (bits : List ℕ) → Hears h e d p count bits → AcceptedAt h e d p (who_at h p) count bits
    given_at p count bits r =
        ⊎_elim (λ (l : place_of h x.identity < 30).
        let a = there_so l in
        let at_p : place_of h x.identity ≡ p = ap or_none (sym (ap (λ (y : Answer Answered). place_said y.result.said) a) ∙ r.where_to) in
        let counts : x.count ≡ count = ap (λ (y : Returned). or_none y.count) (sym (ap (λ (y : Answer Answered). of_said y.result.said) a) ∙ r.told) in
        let these : x.bits ≡ bits = sym (ap (λ (y : Answer Answered). y.left) a) ∙ r.buffer in
        let who : who_at h p ≡ x.identity = ap (who_at h) (sym at_p) ∙ found_there h x.identity thirty l in
        record {
          stands = record { place = omega (arith, at_p, l); identity = omega (arith, who, x.within); there = refl };
          accepted = subst (λ (j : ℕ). Accepts (access_received j e d) count bits) (sym who) (subst (λ (b : List ℕ). Accepts (access_received x.identity e d) count b) these (subst (λ (k : ℕ). Accepts (access_received x.identity e d) k x.bits) counts (x.accepted d g.lends)));
          smaller = λ q j m s k b acc. found_first h x.identity thirty q (omega (arith, m, at_p)) (s.there ∙ (accepts_named j k b acc).0);
        })
        (λ (l : 30 ≤ place_of h x.identity). absurd (no_place refusal.NoneAccepts p (sym (ap (λ (y : Answer Answered). place_said y.result.said) (nowhere_so l)) ∙ r.where_to)))
        (lt_or_le (place_of h x.identity) 30)

    -- and whoever accepts it is given it, if none at a smaller place does
    at_given : (p i count : ℕ) (bits : List ℕ) → AcceptedAt h e d p i count bits → Hears h e d p count bits
    at_given p i count bits a =
        let same = accepts_named i count bits a.accepted in
        let at_p : place_of h x.identity ≡ p =
        found_at h x.identity thirty p a.stands.place (a.stands.there ∙ same.0)
        (λ q m there. a.smaller q x.identity m (record { place = omega (arith, m, a.stands.place); identity = x.within; there = there }) x.count x.bits (x.accepted d g.lends)) in
        let l : place_of h x.identity < 30 = omega (arith, at_p, a.stands.place) in
        returns_so (hub_answer h (hear e d)) (Ok (Request (place_of h x.identity) x.count)) bits h
        (there_so l ∙ ap (λ (b : List ℕ). record { result = record { said = Ok (Request (place_of h x.identity) x.count); next = h }; left = b }) (sym same.2))
        None (Some p) (Some count) (ap (λ (k : ℕ). record { number = None; count = Some k }) (sym same.1)) (ap Some at_p)

  -- a place is said only of 36 bytes, none over 2, and eight lent ones
  hear_given : (p : ℕ) → place_said (hub_answer h (hear e d)).result.said ≡ Some p → Given 2 36 8 e d
  hear_given p q = go (lengths e 36 d 8) (none_over 2 e) refl refl
    where
      refused : (r : Refusal) → hear_answer h e d ≡ record { result = refuses r h; left = d } → ⊥
      refused r f = no_place r p (sym (ap (λ (y : Answer Answered). place_said y.result.said) (hear_so (record { result = refuses r h; left = d }) f)) ∙ q)

      go : (l n : Bool) → lengths e 36 d 8 ≡ l → none_over 2 e ≡ n → Given 2 36 8 e d
      go false n f t =
          absurd (refused refusal.Length (hears_length h e d (λ right. false_true (sym f ∙ rw (eq-eqb (length e) 36 right.0, eq-eqb (length d) 8 right.1) refl))))
      go true n f t =
          let le : length e ≡ 36 = eqb-true (length e) 36 (both_first (eqb (length e) 36) (eqb (length d) 8) f) in
          let ld : length d ≡ 8 = eqb-true (length d) 8 (both_second (eqb (length e) 36) (eqb (length d) 8) f) in
          record { reads = le; bits = symbols n t le ld; lends = ld }
        where
          symbols : (n : Bool) → none_over 2 e ≡ n → length e ≡ 36 → length d ≡ 8 → Symbols e
          symbols true t le ld = none_over_lem 2 e t
          symbols false t le ld = absurd (refused refusal.NotBits (hears_symbols h e d le ld (λ (y : Symbols e). false_true (sym t ∙ over_none 2 e y))))

  pub hear_says : HearSays h e d
  hear_says = record {
    one = λ wrong. refuses_so h (hear e d) refusal.Length d (hear_so (record { result = refuses refusal.Length h; left = d }) (hears_length h e d wrong));
    two = λ le ld wrong. refuses_so h (hear e d) refusal.NotBits d (hear_so (record { result = refuses refusal.NotBits h; left = d }) (hears_symbols h e d le ld wrong));
    seventeen = is_seventeen;
    heard = λ p i count bits a. at_given ((access_receives i e d).only count (ap (λ (r : Returned). r.count) a.accepted.0)).0 p i count bits a;
    only = λ p count bits r. given_at (hear_given p r.where_to) p count bits r;
    hub = ap (λ (a : Answer Answered). a.result.next) (hear_so (hear_answer h e d) refl) ∙ hears_only h e d;
  }
