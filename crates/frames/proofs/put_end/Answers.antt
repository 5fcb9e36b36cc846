-- `frames::put_end` is right: the six bits, then the four ones.
use Rattle.std.proofs.Common.{List, ◌++◌, ℕ, ◌≡◌, length, take, drop, ◌-◌, ap, ap₂, ◌∙◌, arith, length-append, length-drop, length-take}
use Rattle.std.specs.Prelude.{replicate}
use Rattle.bits.specs.Bits.{ones}
use Rattle.frames.proofs.laws.Parts.{put_rest}
use Rattle.frames.proofs.put_end.Goals as goal

pub returns : goal.returns
unfolding ones
returns c =
    let e = c.args.end.now in
    let copied = c.copy_from_slice in
    let filled = c.fill in
    let six : length copied.new.self ≡ 6 = ap length copied.ensures.after ∙ c.requires.0 in
    let four : length (drop 6 e) ≡ 4 = length-drop 6 e ∙ omega (arith, c.requires.1) in
    let ten : length (copied.new.self ++ drop 6 e) ≡ 10 = length-append copied.new.self (drop 6 e) ∙ omega (arith, six, four) in
    let w : List ℕ = copied.new.self ++ drop 6 e in
    let lent : length (take (length w - 6) (drop 6 w)) ≡ 4 = simp (length-take, length-drop) (omega (arith, ten)) in
    put_rest copied.new.self (drop 6 e) filled.new.self 6 _ six (omega (arith, four, ten))
    ∙ ap₂ (λ (x y : List ℕ). x ++ y) copied.ensures.after (filled.ensures.after (λ y h. h) ∙ ap (λ (n : ℕ). replicate n 1) lent)
