-- In every order of calls, every answer is the definition's: once over the stream and its calls.
use mathlib.Core.List.{List, [], ◌∷◌}
use Rattle.std.specs.Prelude.{◌≡◌}
use Rattle.std.proofs.Math.Path.{refl, ap, ap₂}
use Rattle.std.proofs.Common.{sym, ◌∙◌, subst}
use Rattle.answers.specs.Answers.{Answer, Meets}
use Rattle.answers.specs.Calls.{answers_to, handed_back, Happened}

is_answer : {A : Type 0} (a b : Answer A) → Meets b a.result a.left → a ≡ b
is_answer a b m = ap₂ (λ x y. record { result = x; left = y }) m.result m.left

module _ {S C R : Type 0} (answer : S → C → Answer R) (next : R → S) where
  pub every_order : (s : S) (cs : List C) (xs : List (Answer R)) → Happened answer next s cs xs → xs ≡ answers_to answer next s cs
  unfolding answers_to Happened
  every_order s [] [] h = refl
  every_order s [] (x ∷ xs) h = absurd h
  every_order s (c ∷ cs) [] h = absurd h
  every_order s (c ∷ cs) (x ∷ xs) h =
      ap₂ ◌∷◌ (is_answer x (answer s c) h.0)
      (every_order (next x.result) cs xs h.1 ∙ ap (λ (r : R). answers_to answer next (next r) cs) h.0.result)

  -- what holds of a stream, and of the next one after any call, holds after any calls
  pub holds_after : (P : S → Type 0) → ((s : S) (c : C) → P s → P (next (answer s c).result)) → (s : S) (cs : List C) (xs : List (Answer R))
      → Happened answer next s cs xs → P s → P (handed_back next s xs)
  unfolding Happened handed_back
  holds_after P more s [] [] h p = p
  holds_after P more s [] (x ∷ xs) h p = absurd h
  holds_after P more s (c ∷ cs) [] h p = absurd h
  holds_after P more s (c ∷ cs) (x ∷ xs) h p = holds_after P more (next x.result) cs xs h.1 (subst (λ (r : R). P (next r)) (sym h.0.result) (more s c p))
