-- A text with and without a mark before it, a line with and without a carriage return at its end.
use Rattle.std.specs.Prelude.{Bool, ◌&&◌, true, false, List, [], ◌∷◌, ◌≡◌, ℕ, suc, ◌+◌, ◌-◌, ◌<◌, length, get_or, take, drop, eqb, Option, Some, None, MatchOption}
use Rattle.std.specs.Option.{unwrap_or}
use Rattle.std.specs.Cmp.Lexicographic.{pointwise}
use Rattle.std.proofs.Math.Path.{refl}
use Rattle.std.proofs.Common.{Bor, drop-cons, drop_of_length-le, sym, ◌∙◌, ap, arith, length-take, take_all}
use borrow.Author.Tests.{eq-eqb, ne_eqb}
use Rattle.std.proofs.Math.ListN.{length-drop}
use Rattle.text.specs.Text.{same_bytes, mark, without_mark, without_return}
use Rattle.text.proofs.laws.Same.{other_bytes, pointwise_same}

module _ (text : List ℕ) where
  pub marked : same_bytes (take 3 text) mark ≡ true → take (length text - 3) (drop 3 text) ≡ without_mark text
  unfolding without_mark
  marked e = rw e (take_all (length text - 3) (drop 3 text) (omega (arith, length-drop 3 text)))

  pub unmarked : same_bytes (take 3 text) mark ≡ false → text ≡ without_mark text
  unfolding without_mark
  unmarked e = rw e refl

  pub too_short : length text < 3 → text ≡ without_mark text
  too_short l = unmarked (other_bytes (take 3 text) mark (λ e. omega (arith, ap length e, length-take 3 text)))

  pub returned : (m : ℕ) → m ≡ length text - 1 → get_or text (length text - 1) 0 ≡ 13 → take m text ≡ without_return text
  unfolding without_return
  returned m l e = rw (l, eq-eqb (get_or text (length text - 1) 0) 13 e) refl

  pub unreturned : (get_or text (length text - 1) 0 ≡ 13 → ⊥) → text ≡ without_return text
  unfolding without_return
  unreturned n = rw (ne_eqb (get_or text (length text - 1) 0) 13 n) refl

pub empty : (text : List ℕ) → length text ≡ 0 → text ≡ without_return text
unfolding without_return
empty [] e = refl
empty (b ∷ text) e = absurd (omega arith)

-- ---- what `strip_prefix` and `strip_suffix` give, or the whole where they give nothing
and_true : (t : Bool) → (t && true) ≡ t
and_true true = refl
and_true false = refl

pub mark_stripped : (text : List ℕ) (whole : Bor (List ℕ)) → whole.now ≡ text → (r : Option (Bor (List ℕ)))
    → MatchOption r (pointwise eqb (take 3 text) mark ≡ false) (λ x. (pointwise eqb (take 3 text) mark ≡ true) × (x.now ≡ drop 3 text) × (length x.now + 3 ≡ length text))
    → (unwrap_or r whole).now ≡ without_mark text
unfolding without_mark
mark_stripped text whole e None h = rw (sym (pointwise_same (take 3 text) mark) ∙ h) e
mark_stripped text whole e (Some x) h = rw (sym (pointwise_same (take 3 text) mark) ∙ h.0) h.1

-- the last byte alone is 13 exactly when the byte at the last place is
last_alone : (line : List ℕ) → pointwise eqb (drop (length line - 1) line) (13 ∷ []) ≡ eqb (get_or line (length line - 1) 0) 13
last_alone [] = refl
last_alone (b ∷ w) =
    let line : List ℕ = b ∷ w in
    let e : drop (length line - 1) line ≡ get_or line (length line - 1) 0 ∷ [] =
    drop-cons line (length line - 1) 0 (omega arith) ∙ ap (λ (l : List ℕ). get_or line (length line - 1) 0 ∷ l) (drop_of_length-le line {i = suc (length line - 1)} (omega arith)) in
    ap (λ (l : List ℕ). pointwise eqb l (13 ∷ [])) e ∙ and_true (eqb (get_or line (length line - 1) 0) 13)

pub return_stripped : (line : List ℕ) (whole : Bor (List ℕ)) → whole.now ≡ line → (r : Option (Bor (List ℕ)))
    → MatchOption r (pointwise eqb (drop (length line - 1) line) (13 ∷ []) ≡ false) (λ x. (pointwise eqb (drop (length line - 1) line) (13 ∷ []) ≡ true) × (x.now ≡ take (length line - 1) line) × (length x.now + 1 ≡ length line))
    → (unwrap_or r whole).now ≡ without_return line
unfolding without_return
return_stripped line whole e None h = rw (sym (last_alone line) ∙ h) e
return_stripped line whole e (Some x) h = rw (sym (last_alone line) ∙ h.0) h.1
