-- `drawing::is_control` is right: the bits that are worked out again are the parity bits.
use mathlib.Core.List.{List}
use mathlib.Core.Path.{◌≡◌, refl, sym, ◌∙◌}
use Prim.Native.Nat.{ℕ}
use native.Mathlib.Omega.{arith}
use lib.ListN.{length, take, drop, length-drop}
use lib.Seq.{length-take-le, take_all}
use Rattle.std.proofs.lemmas.Bool.Decides.{Decides-eqb}
use Rattle.std.specs.Bool.{Decides}
use Rattle.std.proofs.lemmas.Slice.Eq.{slice_eq-Decides}
use Rattle.bits.proofs.laws.Sum.{bits_take}
use Rattle.drawing.proofs.is_control.Goals as goal

-- the last forty are all that stands behind the 184
behind : (w : List ℕ) → length w ≡ 224 → take 40 (drop 184 w) ≡ drop 184 w
behind w l = take_all 40 (drop 184 w) (rw (length-drop 184 w) (omega (arith, l)))

pub put_control-requires : goal.put_control-requires
put_control-requires c =
    let w = c.args.w.now in
    (bits_take 184 w c.requires.0, length-take-le 184 w (omega (arith, c.requires.1)), refl)

pub returns : goal.returns
returns c =
    let last = behind c.args.w.now c.requires.1 in
    let again = c.as_slice.ensures ∙ c.put_control.ensures in
    let w = c.args.w.now in
    let told : Decides c.eq.result (c.as_slice.result.now ≡ take 40 (drop 184 w)) = slice_eq-Decides Decides-eqb c.as_slice.result.now (take 40 (drop 184 w)) c.eq.result c.eq.ensures in
    (λ t. sym last ∙ sym (told.0 t) ∙ again, λ e. told.1 (again ∙ sym e ∙ sym last))
