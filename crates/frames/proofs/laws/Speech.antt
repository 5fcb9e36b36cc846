-- 19: the type is that of the first five bits, as the code looks at them.
use Rattle.std.specs.Prelude.{Bool, true, false, List, ◌≡◌, refl, ℕ, ◌≤◌, ◌<◌, Decides, eqb, length, get_or, take}
use Rattle.std.specs.List.{starts_with}
use Rattle.std.proofs.Common.{sym, ap, ap₂, ◌∙◌, arith, eqb-true, eq-eqb, ext_get_or, length-take-le, get_or-take}
use Rattle.std.proofs.lemmas.Bool.Decides.{same_from_decides, Decides-eqb}
use Rattle.std.proofs.lemmas.Slice.Eq.{slice_eq-Decides}
use Rattle.bits.specs.Bits.{pick, all_below}
use Rattle.bits.proofs.laws.Cases.{not_true}
use Rattle.bits.proofs.laws.Tab.{all_at, all_true, all_same}
use Rattle.frames.specs.Frame.{uplink, downlink, begins, is_speech}

abbrev pub agrees : List ℕ → List ℕ → ℕ → Bool
agrees c type i = eqb (get_or c i 0) (get_or type i 0)

pub begins_with : (c type : List ℕ) → ((i : ℕ) → i < 5 → agrees c type i ≡ true) → begins c type ≡ true
unfolding begins
begins_with c type each = all_true (agrees c type) 5 each

pub begins_not : (c type : List ℕ) (i : ℕ) → i < 5 → (get_or c i 0 ≡ get_or type i 0 → ⊥) → begins c type ≡ false
unfolding begins
begins_not c type i h n = not_true (all_below (agrees c type) 5) (λ t. n (eqb-true (get_or c i 0) (get_or type i 0) (all_at (agrees c type) 5 t i h)))

-- a list that starts with the type begins so
decided : (c type : List ℕ) → 5 ≤ length c → length type ≡ 5 → Decides (begins c type) (type ≡ take (length type) c)
unfolding begins
decided c type h l =
    let long : length type ≡ length (take (length type) c) = sym (length-take-le (length type) c (omega arith)) in (
      λ t. ext_get_or 0 type (take (length type) c) long
          (λ i lt. sym (get_or-take (length type) c i 0 lt ∙ eqb-true (get_or c i 0) (get_or type i 0) (all_at (agrees c type) 5 t i (omega arith)))),
      λ e. begins_with c type
          (λ i lt. let less : i < length type = omega arith in
          eq-eqb (get_or c i 0) (get_or type i 0) (sym (ap (λ (w : List ℕ). get_or w i 0) e ∙ get_or-take (length type) c i 0 less))),
    )

pub starts_so : (c type : List ℕ) → 5 ≤ length c → length type ≡ 5 → starts_with eqb c type ≡ begins c type
starts_so c type h l =
    same_from_decides (starts_with eqb c type) (begins c type) (slice_eq-Decides Decides-eqb type (take (length type) c) (starts_with eqb c type) refl) (decided c type h l)

pub begins_same : (c b type : List ℕ) → ((i : ℕ) → i < 5 → get_or c i 0 ≡ get_or b i 0) → begins c type ≡ begins b type
unfolding begins
begins_same c b type e = all_same (agrees c type) (agrees b type) 5 (λ i h. ap (λ (x : ℕ). eqb x (get_or type i 0)) (e i h))

pub speech_same : (c b : List ℕ) → ((i : ℕ) → i < 5 → get_or c i 0 ≡ get_or b i 0) → is_speech c ≡ is_speech b
unfolding is_speech
speech_same c b e = ap₂ (λ (x y : Bool). pick x true y) (begins_same c b uplink e) (begins_same c b downlink e)
