-- `coder::sacch::code` is right: the control block stands in both halves of each burst.
use mathlib.Core.List.{List}
use mathlib.Core.Path.{◌≡◌, ap, ◌∙◌}
use Prim.Native.Nat.{ℕ}
use Rattle.places.specs.Places.{four}
use Rattle.coder.specs.Blocks.{control_block, sacch_message}
use Rattle.coder.proofs.sacch.code.Goals as goal

interleaved : (d c e : List ℕ) → c ≡ control_block d → e ≡ four c c 255 → e ≡ sacch_message d
unfolding sacch_message
interleaved d c e f g = g ∙ ap (λ (l : List ℕ). four l l 255) f

pub returns : goal.returns
returns c =
    let coded = c.code in
    let laid = c.fill_four in
    interleaved c.args.d.now coded.new.c laid.new.e coded.ensures laid.ensures
