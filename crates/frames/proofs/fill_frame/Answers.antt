-- `frames::fill_frame` is right: the carried bits, laid out and packed.
use mathlib.Core.Path.{refl, sym, ap, ◌∙◌}
use Prim.Native.Nat.{ℕ, ◌*◌}
use lib.ListN.{length}
use Rattle.frames.specs.Frame.{data_bits, frame}
use Rattle.frames.specs.Octets.{packed}
use Rattle.frames.specs.laws.Layout.{laid_out, carries}
use Rattle.frames.proofs.laws.Layout.{bits_laid, length_laid, bits_carries, bits_data, length_data, is_laid_out}
use Rattle.frames.proofs.fill_frame.Goals as goal

pub pack-requires : goal.pack-requires
pack-requires c =
    let carried = c.carry in
    let laid = c.lay_out in
    let w = data_bits c.args.d.now in
    let same = laid.ensures ∙ ap laid_out carried.ensures in
    (rw same (bits_laid (carries c.args.c.now w) (bits_carries c.args.c.now w c.requires.2 (bits_data c.args.d.now c.requires.3))), ap length same ∙ length_laid (carries c.args.c.now w) ∙ ap (λ (n : ℕ). 8 * n) (sym c.requires.4))

pub returns : goal.returns
unfolding frame
returns c =
    let carried = c.carry in
    let laid = c.lay_out in
    let d = c.args.d.now in
    c.pack.ensures ∙ ap packed (laid.ensures ∙ ap laid_out carried.ensures ∙ sym (is_laid_out c.args.c.now (data_bits d) c.requires.0 (length_data d) d refl))
