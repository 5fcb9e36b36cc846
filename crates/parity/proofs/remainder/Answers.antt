-- `parity::remainder` is right: it holds what the bits so far, brought down one by one, leave.
use mathlib.Core.Path.{◌≡◌, refl, sym, ap, ◌∙◌}
use Prim.Native.Nat.{ℕ, ◌^◌, ◌<◌}
use native.Mathlib.Omega.{arith}
use borrow.Author.Rules.{rules}
use lib.ListN.{length, get_or}
use lib.Pow.{pow_pos}
use lib.Seq.{take_all}
use Rattle.bits.specs.Bits.{digits}
use Rattle.bits.proofs.laws.Value.{length_digits, bits_digits, value_digits}
use Rattle.parity.specs.laws.Brought.{brought_down}
use Rattle.parity.proofs.laws.Brought.{along_n, along_n_more, brought_down_lt, remainder_value}
use Rattle.parity.proofs.remainder.Goals as goal

pub loop-bit-init : goal.loop-bit-init
unfolding along_n
loop-bit-init c = (pow_pos c.args.degree, refl)

pub loop-bit-preserved : goal.loop-bit-preserved
loop-bit-preserved c =
    let l = c.loop-bit in
    let k = l.bit-index in
    let g = c.args.generator in
    let n = c.args.degree in
    let w = c.args.w.now in
    let lt : k < length w = omega arith in
    let bit : ℕ = get_or w k 0 in
    let next : ℕ = c.bring_down-held.result in
    let from : c.from.result ≡ bit = search rules in
    let brought : next ≡ brought_down g (2 ^ n) l.held bit = c.bring_down-held.ensures ∙ ap (brought_down g (2 ^ n) l.held) from in (
      rw brought (brought_down_lt g n l.held bit c.requires.0.below l.invariant.0 (c.requires.2 k)),
      brought ∙ ap (λ (h : ℕ). brought_down g (2 ^ n) h bit) l.invariant.1 ∙ sym (along_n_more g (2 ^ n) 0 w k lt),
    )

pub returns : goal.returns
returns c =
    let l = c.loop-bit in
    let n = c.args.degree in
    let g = c.args.generator in
    let w = c.args.w.now in
    let long = length_digits n g in
    l.invariant.1
    ∙ ap (along_n g (2 ^ n) 0) (take_all l.bit-index w (omega arith))
    ∙ ap (λ (k : ℕ). along_n g (2 ^ k) 0 w) (sym long)
    ∙ ap (λ (x : ℕ). along_n x (2 ^ length (digits n g)) 0 w) (sym (value_digits n g c.requires.0.below))
    ∙ remainder_value (digits n g) w (rw long c.requires.0.some) (rw long c.requires.1) (bits_digits n g) c.requires.2
