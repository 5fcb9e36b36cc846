-- `same_bytes` is true of two lists exactly when they are equal.
use Rattle.std.specs.Prelude.{◌&&◌, Bool, true, false, List, [], ◌∷◌, ◌≡◌, refl, ℕ, eqb}
use Rattle.std.proofs.Common.{ap₂, subst, eq-eqb, eqb-true}
use Rattle.bits.proofs.laws.Cases.{both_first, both_second}
use Rattle.std.specs.Cmp.Lexicographic.{pointwise}
use Rattle.bits.specs.Bits.{both}
use Rattle.text.specs.Text.{same_bytes}

equal : (a b : List ℕ) → same_bytes a b ≡ true → a ≡ b
unfolding same_bytes
equal [] [] t = refl
equal [] (b ∷ w) t = cc
equal (a ∷ v) [] t = cc
equal (a ∷ v) (b ∷ w) t =
    ap₂ (λ (x : ℕ) (l : List ℕ). x ∷ l) (eqb-true a b (both_first (eqb a b) (same_bytes v w) t))
    (equal v w (both_second (eqb a b) (same_bytes v w) t))

itself : (a : List ℕ) → same_bytes a a ≡ true
unfolding same_bytes
itself [] = refl
itself (x ∷ v) = rw (eq-eqb x x refl) (itself v)

pub same_bytes_lem : (a b : List ℕ) → (same_bytes a b ≡ true → a ≡ b) × (a ≡ b → same_bytes a b ≡ true)
same_bytes_lem a b = (equal a b, λ e. subst (λ (l : List ℕ). same_bytes a l ≡ true) e (itself a))

pub other_bytes : (a b : List ℕ) → (a ≡ b → ⊥) → same_bytes a b ≡ false
other_bytes a b apart = go (same_bytes a b) refl
  where
    go : (t : Bool) → same_bytes a b ≡ t → t ≡ false
    go true e = absurd (apart (equal a b e))
    go false e = refl

-- std's `&&` is `both`
pub and_both : (t : Bool) {x y : Bool} → x ≡ y → (t && x) ≡ both t y
and_both true e = e
and_both false e = refl

-- `==` on slices of bytes is `same_bytes`
pub pointwise_same : (a b : List ℕ) → pointwise eqb a b ≡ same_bytes a b
unfolding same_bytes
pointwise_same [] [] = refl
pointwise_same [] (y ∷ b) = refl
pointwise_same (x ∷ a) [] = refl
pointwise_same (x ∷ a) (y ∷ b) = and_both (eqb x y) (pointwise_same a b)
