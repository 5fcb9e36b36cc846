-- `frames::layout::put_group` is right: the one, then the fifteen.
use Rattle.std.proofs.Common.{◌∷◌, List, ℕ, length, set, ap, ◌∙◌, ◌≡◌, arith, length-set}
use Rattle.frames.proofs.laws.Parts.{put_behind_first}
use Rattle.frames.proofs.layout.put_group.Goals as goal

pub returns : goal.returns
returns c =
    let w = c.args.sixteen.now in
    let long : length (set w 0 1) ≡ 16 = length-set w 0 1 ∙ c.requires.1 in
    put_behind_first w c.copy_from_slice.new.self 1 _ (omega (arith, c.requires.1)) (omega (arith, c.requires.1, long))
    ∙ ap (λ (y : List ℕ). 1 ∷ y) c.copy_from_slice.ensures.after
