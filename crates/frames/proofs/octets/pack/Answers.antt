-- `frames::octets::pack` is right: it fills the octets in turn.
use Rattle.std.proofs.Common.{◌≡◌, ℕ, ◌/◌, length, ap, ◌∙◌, arith}
use Rattle.bits.specs.Bits.{tab}
use Rattle.bits.proofs.laws.Tab.{filled_all}
use Rattle.frames.specs.Octets.{packed}
use Rattle.frames.proofs.octets.pack.Invariants.{value_at}
use Rattle.frames.proofs.octets.pack.Goals as goal

pub returns : goal.returns
unfolding packed
returns c =
    let l = c.loop-o in
    let f = c.args.bits.now in
    let n : length c.args.octets.now ≡ length f / 8 = omega (arith, c.requires.1) in
    filled_all (value_at f) (length c.args.octets.now) l.o l.octets l.invariant (omega arith) ∙ ap (λ (k : ℕ). tab k (value_at f)) n
