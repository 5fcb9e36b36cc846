-- Who stands where, and at which place somebody is found.
use Rattle.std.specs.Prelude.{Bool, true, false, ◌≡◌, ◌≢◌, refl, ℕ, ◌≤◌, ◌<◌, eqb, leb, ltb, get_or, Option, None, Some, MatchOption}
use Rattle.std.proofs.Common.{⊎_elim, sym, ◌∙◌, arith, get_or-set_same, get_or-set_other}
use Rattle.std.proofs.Math.Path.{ap}
use Rattle.std.proofs.Math.ListN.{length-set}
use borrow.Author.Tests.{eqb-true, eqb-false, eq-eqb, ne_eqb, leb-true, le-leb, lt-ltb, le-ltb}
use Rattle.bits.specs.Bits.{pick}
use Rattle.bits.proofs.laws.Cases.{lt_or_le}
use Rattle.bits.proofs.laws.Tab.{length_tab, at_tab}
use Rattle.hub.specs.Hub.{nobody, standing, who_at, place_of, fresh_hub, stands_now}
use Rattle.hub.specs.Says.{Thirty, Absent, SmallestFree, FreshSays, NowStands}
use Rattle.hub.specs.declared.Hub.{Hub}
use Rattle.hub.specs.laws.Answers.{place_found}
use Rattle.hub.proofs.laws.Places.{first, first_some, first_is}
use Rattle.std.specs.Option.{is_some}

-- ---- who is not nobody is an identity, and an identity stands as itself
pub standing_within : (x : ℕ) → (standing x ≡ nobody → ⊥) → standing x ≤ 63
unfolding standing
standing_within x some = go (leb x 63) refl some
  where
    go : (b : Bool) → leb x 63 ≡ b → (pick b x nobody ≡ nobody → ⊥) → pick b x nobody ≤ 63
    go true e h = leb-true x 63 e
    go false e h = absurd (h refl)

pub standing_identity : (i : ℕ) → i ≤ 63 → standing i ≡ i
unfolding standing
standing_identity i h = rw (le-leb i 63 h) refl

pub standing_nobody : standing nobody ≡ nobody
unfolding standing
standing_nobody = refl

pub who_within : (h : Hub) (p : ℕ) → (who_at h p ≡ nobody → ⊥) → who_at h p ≤ 63
unfolding who_at
who_within h p some = standing_within (get_or h.places p 0) some

-- ---- the place at which somebody, or nobody, is found
module _ (h : Hub) (who : ℕ) (thirty : Thirty h) where
  abbrev test : ℕ → Bool
  test x = eqb x who

  -- he stands there, and at no smaller place
  pub found_there : place_of h who < 30 → who_at h (place_of h who) ≡ who
  unfolding place_of who_at
  found_there l = eqb-true _ who ((first test h.places).here (omega (arith, l, thirty)))

  pub found_first : (q : ℕ) → q < place_of h who → who_at h q ≡ who → ⊥
  unfolding place_of who_at
  found_first q l = eqb-false _ who ((first test h.places).before q l)

  -- he is found where he stands, if at no smaller place
  pub found_at : (p : ℕ) → p ≤ 29 → who_at h p ≡ who → ((q : ℕ) → q < p → who_at h q ≡ who → ⊥) → place_of h who ≡ p
  unfolding place_of who_at
  found_at p l there smaller =
      first_is test h.places p (record {
        within = omega (arith, l, thirty);
        before = λ q m. ne_eqb _ who (smaller q m);
        here = λ m. eq-eqb _ who there;
      })

  pub found_within : (p : ℕ) → p ≤ 29 → who_at h p ≡ who → place_of h who < 30
  unfolding place_of who_at
  found_within p l there = let m : place_of h who ≤ p = first_some test h.places p (eq-eqb _ who there) in omega (arith, l, m)

  -- he is found nowhere if he stands nowhere
  pub found_nowhere : ((p : ℕ) → p ≤ 29 → who_at h p ≡ who → ⊥) → 30 ≤ place_of h who
  found_nowhere none =
      ⊎_elim (λ (l : place_of h who < 30). absurd (none (place_of h who) (omega (arith, l)) (found_there l))) (λ (l : 30 ≤ place_of h who). l) (lt_or_le (place_of h who) 30)

-- ---- the same of an identity, and of nobody
module _ (h : Hub) (thirty : Thirty h) where
  pub absent_nowhere : (i : ℕ) → i ≤ 63 → Absent h i → 30 ≤ place_of h i
  absent_nowhere i l none = found_nowhere h i thirty (λ p m there. none p (record { place = m; identity = l; there = there }))

  pub nowhere_absent : (i : ℕ) → 30 ≤ place_of h i → Absent h i
  nowhere_absent i l p s = let m : place_of h i < 30 = found_within h i thirty p s.place s.there in let z : ⊥ = omega (arith, l, m) in absurd z

  pub smallest_found : (p : ℕ) → SmallestFree h p → place_of h nobody ≡ p
  smallest_found p f =
      found_at h nobody thirty p f.place f.free (λ q m there. let l : who_at h q ≤ 63 = f.smaller q m in let z : ⊥ = omega (arith, l, there) in absurd z)

  pub found_smallest : place_of h nobody < 30 → SmallestFree h (place_of h nobody)
  found_smallest l = record {
    place = omega (arith, l);
    free = found_there h nobody thirty l;
    smaller = λ q m. who_within h q (found_first h nobody thirty q m);
  }

  pub all_in_use : ((p : ℕ) → p ≤ 29 → who_at h p ≤ 63) → 30 ≤ place_of h nobody
  all_in_use used = found_nowhere h nobody thirty (λ p m there. let l : who_at h p ≤ 63 = used p m in let z : ⊥ = omega (arith, l, there) in absurd z)

  -- ---- a place that is written to
  pub now_stands : (p who : ℕ) → NowStands h p who
  unfolding stands_now who_at
  now_stands p who = record {
    thirty = length-set h.places p who ∙ thirty;
    here = λ l. ap standing (get_or-set_same h.places p who 0 (omega (arith, l, thirty)));
    elsewhere = λ q other. ap standing (get_or-set_other h.places p q who 0 other);
  }

pub fresh_says : FreshSays
unfolding fresh_hub who_at
fresh_says = record {
  thirty = length_tab 30 (λ p. nobody);
  empty = λ p l. ap standing (at_tab 30 (λ q. nobody) p (omega (arith, l))) ∙ standing_nobody;
}

-- ---- the place that is found, as the code looks for it: none, or the smallest at which he stands
module _ (h : Hub) (who : ℕ) where
  found_at_all : (b : Bool) → ltb (place_of h who) 30 ≡ b → place_found h who ≡ pick b (Some (place_of h who)) None
  unfolding place_found
  found_at_all b e = ap (λ (x : Bool). pick x (Some (place_of h who)) None) e

  pub found_is : place_of h who < 30 → place_found h who ≡ Some (place_of h who)
  found_is l = found_at_all true (lt-ltb (place_of h who) 30 l)

  pub found_not : 30 ≤ place_of h who → place_found h who ≡ None
  found_not l = found_at_all false (le-ltb (place_of h who) 30 l)

  -- told the other way round
  pub some_found : (p : ℕ) → place_found h who ≡ Some p → (place_of h who ≡ p) × (p < 30)
  some_found p e =
      ⊎_elim (λ (l : place_of h who < 30). let is : place_of h who ≡ p = let q : Some (place_of h who) ≡ Some p = sym (found_is l) ∙ e in cc in (is, omega (arith, is, l)))
      (λ (l : 30 ≤ place_of h who). let q : None ≡ Some p = sym (found_not l) ∙ e in cc) (lt_or_le (place_of h who) 30)

  pub any_found : is_some (place_found h who) ≡ true → place_of h who < 30
  any_found e =
      ⊎_elim (λ (l : place_of h who < 30). l)
      (λ (l : 30 ≤ place_of h who). let q : false ≡ true = sym (ap is_some (found_not l)) ∙ e in cc) (lt_or_le (place_of h who) 30)

  pub none_found : is_some (place_found h who) ≡ false → 30 ≤ place_of h who
  none_found e =
      ⊎_elim (λ (l : place_of h who < 30). let q : true ≡ false = sym (ap is_some (found_is l)) ∙ e in cc)
      (λ (l : 30 ≤ place_of h who). l) (lt_or_le (place_of h who) 30)

  -- what a search from place 0 on gives
  pub search_found : Thirty h → (r : Option ℕ)
      → MatchOption r ((k : ℕ) → 0 ≤ k → k < 30 → who_at h k ≢ who) (λ i. (0 ≤ i) × (i < 30) × (who_at h i ≡ who) × ((k : ℕ) → 0 ≤ k → k < i → who_at h k ≢ who))
      → r ≡ place_found h who
  search_found thirty None none = sym (found_not (found_nowhere h who thirty (λ p l. none p (omega arith) (omega (arith, l)))))
  search_found thirty (Some i) first =
      let is : place_of h who ≡ i = found_at h who thirty i (omega (arith, first.1)) first.2 (λ q l. first.3 q (omega arith) l) in
      sym (found_is (omega (arith, is, first.1)) ∙ ap (λ (p : ℕ). Some p) is)
