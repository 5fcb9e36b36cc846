-- Calls one after another: each is made of the stream that the one before handed back.
use Rattle.std.specs.Prelude.{List, [], ◌∷◌}
use Rattle.answers.specs.Answers.{Answer, Meets}

-- S is a stream, C a call with all that it is given, R its result, in which the next stream is
module _ {S C R : Type 0} (answer : S → C → Answer R) (next : R → S) where
  -- what the definition answers to the calls, the first of stream s
  unfoldable pub answers_to : S → List C → List (Answer R)
  answers_to s [] = []
  answers_to s (c ∷ cs) = answer s c ∷ answers_to (next (answer s c).result) cs

  -- what happened: as many results as calls, each with what its buffer then held, and each meets the contract of its call
  unfoldable pub Happened : S → List C → List (Answer R) → Type 0
  Happened s [] [] = Unit {0}
  Happened s [] (x ∷ xs) = ⊥
  Happened s (c ∷ cs) [] = ⊥
  Happened s (c ∷ cs) (x ∷ xs) = Meets (answer s c) x.result x.left × Happened (next x.result) cs xs

-- the stream after some calls: the one that the last of them handed back
module _ {S R : Type 0} (next : R → S) where
  unfoldable pub handed_back : S → List (Answer R) → S
  handed_back s [] = s
  handed_back s (x ∷ xs) = handed_back (next x.result) xs
