-- How each call ends: the tests on the way lead to the answer.
use Rattle.std.specs.Prelude.{Bool, ◌≡◌, ℕ, ◌≤◌, ◌<◌, ltb, Ok, Err}
use Rattle.std.proofs.Math.Bool.{true, false}
use mathlib.Core.List.{List, []}
use Rattle.std.proofs.Math.Path.{refl, sym}
use Rattle.std.proofs.Common.{ap, ap₂, ◌∙◌}
use Rattle.std.proofs.Math.Dec.{eqb}
use Rattle.std.proofs.Math.ListN.{length}
use borrow.Author.Tests.{eqb-true, eqb-false, eq-eqb, le-leb, lt-leb, ltb-true, lt-ltb, le-ltb}
use Rattle.bits.specs.Bits.{Symbols, none_over}
use Rattle.bits.proofs.laws.Check.{none_over_lem, over_none}
use Rattle.bits.proofs.laws.Cases.{both_first, both_second, not_true, false_true}
use Rattle.answers.specs.Answers.{Answer, Meets, of_heard, or_none, sent_or, Told}
use Rattle.answers.specs.declared.Refusal.{Refusal}
use Rattle.answers.specs.declared.Refusal.TheVariants.{Length, NotBits, Identity, Taken, AllInUse, EmptyPlace, NoneAccepts}
use Rattle.answers.proofs.laws.Answers.{meets_as}
use Rattle.coder.specs.Entries.{Given, lengths}
use Rattle.coder.specs.Received.{access_received}
use Rattle.coder.specs.Whose.{Whose, named, any_access_received, HandsOver}
use Rattle.coder.proofs.laws.Whose.{any_access_says}
use Rattle.hub.specs.Hub.{nobody, standing, who_at, place_of, stands_now, afterwards, enrol_judged, enrol_told, enrol_answer, remove_told, remove_answer, accepts, accepting_place, hear_judged, hear_told, hear_answer, enrol, remove, hear, hub_answer}
use Rattle.hub.specs.declared.Answered.{Answered}
use Rattle.hub.specs.declared.Hub.{Hub}
use Rattle.hub.specs.declared.Said.{Said}
use Rattle.hub.proofs.laws.Heard.{tells_named, tells_refused, accepts_one}
use Rattle.hub.proofs.laws.Places.{first_same}
use Rattle.hub.proofs.laws.Standing.{found_there}
use Rattle.hub.specs.declared.Said.TheVariants as said
use Rattle.hub.specs.laws.Answers.{goes, refuses}

-- ---- enrol
module _ (h : Hub) (i : ℕ) where
  pub enrols_none : 63 < i → enrol_answer h i ≡ refuses Identity h
  unfolding enrol_answer enrol_told enrol_judged afterwards
  enrols_none over = rw (lt-leb i 63 over) refl

  pub enrols_taken : i ≤ 63 → place_of h i < 30 → enrol_answer h i ≡ refuses Taken h
  unfolding enrol_answer enrol_told enrol_judged afterwards
  enrols_taken l stands = rw (le-leb i 63 l, lt-ltb (place_of h i) 30 stands) refl

  pub enrols_full : i ≤ 63 → 30 ≤ place_of h i → 30 ≤ place_of h nobody → enrol_answer h i ≡ refuses AllInUse h
  unfolding enrol_answer enrol_told enrol_judged afterwards
  enrols_full l none full = rw (le-leb i 63 l, le-ltb (place_of h i) 30 none, le-ltb (place_of h nobody) 30 full) refl

  pub enrols : i ≤ 63 → 30 ≤ place_of h i → place_of h nobody < 30 → enrol_answer h i ≡ record { said = Ok (said.Place (place_of h nobody)); next = stands_now h (place_of h nobody) i }
  unfolding enrol_answer enrol_told enrol_judged afterwards
  enrols l none free = rw (le-leb i 63 l, le-ltb (place_of h i) 30 none, lt-ltb (place_of h nobody) 30 free) refl

-- ---- remove
module _ (h : Hub) (p : ℕ) where
  pub removes_over : 30 ≤ p → remove_answer h p ≡ refuses EmptyPlace h
  unfolding remove_answer remove_told afterwards
  removes_over over = rw (le-ltb p 30 over) refl

  pub removes_none : p < 30 → 63 < who_at h p → remove_answer h p ≡ refuses EmptyPlace h
  unfolding remove_answer remove_told afterwards
  removes_none l empty = rw (lt-ltb p 30 l, lt-leb (who_at h p) 63 empty) refl

  pub removes : p < 30 → who_at h p ≤ 63 → remove_answer h p ≡ record { said = Ok said.Removed; next = stands_now h p nobody }
  unfolding remove_answer remove_told afterwards
  removes l stands = rw (lt-ltb p 30 l, le-leb (who_at h p) 63 stands) refl

module _ (h : Hub) (i k : ℕ) (bits d : List ℕ) where
  pub goes_there : place_of h i < 30 → goes h i k bits d ≡ record { result = record { said = Ok (said.Request (place_of h i) k); next = h }; left = bits }
  unfolding goes afterwards sent_or
  goes_there stands = rw (lt-ltb (place_of h i) 30 stands) refl

  pub goes_nowhere : 30 ≤ place_of h i → goes h i k bits d ≡ record { result = refuses NoneAccepts h; left = d }
  unfolding goes afterwards sent_or
  goes_nowhere none = rw (le-ltb (place_of h i) 30 none) refl

-- whatever is told of it, the hub is as before
stays : (t : Told) (x : Said) (h : Hub) → (afterwards t x h h).next ≡ h
unfolding afterwards
stays (Ok done) x h = refl
stays (Err r) x h = refl

pub hears_only : (h : Hub) (e d : List ℕ) → (hear_answer h e d).result.next ≡ h
unfolding hear_answer
hears_only h e d =
    stays (hear_told h e d) (said.Request (accepting_place h e d) (or_none (of_heard (access_received (who_at h (accepting_place h e d)) e d).result).count)) h

-- what one decoding says is handed on
unfoldable pub handed_on : Hub → Whose → List ℕ → List ℕ → Answer Answered
handed_on h (Ok x) bits d = goes h x.identity x.count bits d
handed_on h (Err r) bits d = record { result = refuses r h; left = d }

module _ (h : Hub) (e d : List ℕ) where
  pub hears_length : ((length e ≡ 36) × (length d ≡ 8) → ⊥) → hear_answer h e d ≡ record { result = refuses Length h; left = d }
  unfolding hear_answer hear_told hear_judged afterwards sent_or
  hears_length wrong =
      let right : lengths e 36 d 8 ≡ true → ⊥ = λ (t : lengths e 36 d 8 ≡ true).
      wrong (eqb-true (length e) 36 (both_first (eqb (length e) 36) (eqb (length d) 8) t), eqb-true (length d) 8 (both_second (eqb (length e) 36) (eqb (length d) 8) t)) in
      rw (not_true (lengths e 36 d 8) right) refl

  pub hears_symbols : length e ≡ 36 → length d ≡ 8 → (Symbols e → ⊥) → hear_answer h e d ≡ record { result = refuses NotBits h; left = d }
  unfolding hear_answer hear_told hear_judged afterwards sent_or
  hears_symbols le ld wrong =
      rw (eq-eqb (length e) 36 le, eq-eqb (length d) 8 ld, not_true (none_over 2 e) (λ (t : none_over 2 e ≡ true). wrong (none_over_lem 2 e t))) refl

  module _ (thirty : length h.places ≡ 30) (g : Given 2 36 8 e d) (x : HandsOver e) where
    -- the place whose identity accepts is the one at which the identity that is named stands
    placed : accepting_place h e d ≡ place_of h x.identity
    unfolding accepting_place place_of
    placed = first_same (accepts e d) (λ y. eqb y x.identity) (λ y. accepts_one e d g x (standing y)) h.places

    hears_at : (b : Bool) → ltb (place_of h x.identity) 30 ≡ b → hear_answer h e d ≡ goes h x.identity x.count x.bits d
    unfolding hear_answer hear_told hear_judged afterwards sent_or goes
    hears_at true q =
        let found = found_there h x.identity thirty (ltb-true (place_of h x.identity) 30 q) in
        let taken = x.accepted d g.lends in
        rw (eq-eqb (length e) 36 g.reads, eq-eqb (length d) 8 g.lends, over_none 2 e g.bits, placed, q, found, taken.0, taken.1) refl
    hears_at false q = rw (eq-eqb (length e) 36 g.reads, eq-eqb (length d) 8 g.lends, over_none 2 e g.bits, placed, q) refl

    pub hears : hear_answer h e d ≡ goes h x.identity x.count x.bits d
    hears = hears_at (ltb (place_of h x.identity) 30) refl

  -- so one decoding, into eight bytes of one's own, serves
  module _ (thirty : length h.places ≡ 30) (own : List ℕ) (lo : length own ≡ 8) (ld : length d ≡ 8) where
    abbrev a : Answer Whose
    a = any_access_received e own

    once : (le ne : Bool) → eqb (length e) 36 ≡ le → none_over 2 e ≡ ne → hear_answer h e d ≡ handed_on h a.result a.left d
    unfolding handed_on
    once false ne q s =
        let wrong : length e ≡ 36 → ⊥ = eqb-false (length e) 36 q in
        let is = (any_access_says e own).one (λ (both_right : (length e ≡ 36) × (length own ≡ 8)). wrong both_right.0) in
        hears_length (λ (both_right : (length e ≡ 36) × (length d ≡ 8)). wrong both_right.0)
        ∙ sym (ap (λ (w : Whose). handed_on h w a.left d) (tells_refused a.result Length is.0))
    once true false q s =
        let le : length e ≡ 36 = eqb-true (length e) 36 q in
        let wrong : Symbols e → ⊥ = λ (y : Symbols e). false_true (sym s ∙ over_none 2 e y) in
        let is = (any_access_says e own).two le lo wrong in
        hears_symbols le ld wrong ∙ sym (ap (λ (w : Whose). handed_on h w a.left d) (tells_refused a.result NotBits is.0))
    once true true q s =
        let le : length e ≡ 36 = eqb-true (length e) 36 q in
        let se : Symbols e = none_over_lem 2 e s in
        let x = (any_access_says e own).handed le se in
        let is = x.handed own lo in
        hears thirty (record { reads = le; bits = se; lends = ld }) x
        ∙ sym (ap₂ (λ (w : Whose) (bits : List ℕ). handed_on h w bits d) (tells_named a.result x.identity x.count is.0) is.1)

    pub one_decoding : hear_answer h e d ≡ handed_on h a.result a.left d
    one_decoding = once (eqb (length e) 36) (none_over 2 e) refl refl

-- ---- the contracts, by the answers
module _ (h : Hub) (r : Answered) where
  pub enrol_met : (i : ℕ) → r ≡ enrol_answer h i → Meets (hub_answer h (enrol i)) r []
  unfolding hub_answer
  enrol_met i e = record { result = e; left = refl }

  pub remove_met : (p : ℕ) → r ≡ remove_answer h p → Meets (hub_answer h (remove p)) r []
  unfolding hub_answer
  remove_met p e = record { result = e; left = refl }

  pub hear_met : (e d left : List ℕ) → record { result = r; left = left } ≡ hear_answer h e d → Meets (hub_answer h (hear e d)) r left
  unfolding hub_answer
  hear_met e d left f = meets_as (hear_answer h e d) r left f

  module _ (w : Whose) (bits d : List ℕ) where
    pub on_named : (i k : ℕ) → w ≡ Ok (named i k) → (left : List ℕ) → Meets (goes h i k bits d) r left → Meets (handed_on h w bits d) r left
    unfolding handed_on
    on_named i k f left m = rw f m

    pub on_refused : (x : Refusal) → w ≡ Err x → r ≡ refuses x h → Meets (handed_on h w bits d) r d
    unfolding handed_on
    on_refused x f g = rw f (record { result = g; left = refl })

    -- what one decoding says, handed on, is the hub's answer
    pub heard_so : (e own left : List ℕ) → length h.places ≡ 30 → length own ≡ 8 → length d ≡ 8 → Meets (any_access_received e own) w bits → Meets (handed_on h w bits d) r left
        → Meets (hear_answer h e d) r left
    heard_so e own left thirty lo ld m o =
        meets_as (hear_answer h e d) r left
        (ap₂ (λ (x : Answered) (y : List ℕ). record { result = x; left = y }) o.result o.left
        ∙ ap₂ (λ (x : Whose) (y : List ℕ). handed_on h x y d) m.result m.left
        ∙ sym (one_decoding h e d thirty own lo ld))

    pub heard_on : (e own left : List ℕ) → length h.places ≡ 30 → length own ≡ 8 → length d ≡ 8 → Meets (any_access_received e own) w bits → Meets (handed_on h w bits d) r left
        → Meets (hub_answer h (hear e d)) r left
    unfolding hub_answer
    heard_on e own left thirty lo ld m o = heard_so e own left thirty lo ld m o
