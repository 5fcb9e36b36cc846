-- What a write to the rest of a buffer leaves, behind its first place and behind a part that was written before.
use Rattle.std.specs.Prelude.{List, [], ◌∷◌, ◌++◌, ◌≡◌, ℕ, ◌+◌, ◌≤◌, ◌<◌, length, drop, set}
use Rattle.std.proofs.Common.{ap, ap₂, ◌∙◌, arith, append-nil, drop_of_length-le, take_at, drop_at}
use borrow.Rule.Slice.PartMut.{put_mid}

pub put_behind_first : (s y : List ℕ) (b k : ℕ) → 0 < length s → length s ≤ k + 1 → put_mid 1 k (set s 0 b) y ≡ b ∷ y
put_behind_first [] y b k some long = absurd (omega arith)
put_behind_first (a ∷ s) y b k some long = ap (λ (t : List ℕ). b ∷ (y ++ t)) (drop_of_length-le s {i = k} (omega arith)) ∙ ap (λ (t : List ℕ). b ∷ t) (append-nil y)

pub put_rest : (w r y : List ℕ) (a k : ℕ) → length w ≡ a → length r ≤ k → put_mid a k (w ++ r) y ≡ w ++ y
put_rest w r y a k lw lr =
    ap₂ (λ (s t : List ℕ). s ++ (y ++ drop k t)) (take_at w r a lw) (drop_at w r a lw)
    ∙ ap (λ (t : List ℕ). w ++ (y ++ t)) (drop_of_length-le r {i = k} lr)
    ∙ ap (λ (t : List ℕ). w ++ t) (append-nil y)
