-- `coder::block::name` is right: of the nearest block, its bits with their colour bits are divided, and what is left is turned over.
use mathlib.Core.Path.{ap₂}
use Prim.Native.Nat.{◌+◌, ◌-◌}
use native.Mathlib.Omega.{arith}
use Rattle.std.specs.Prelude.{ℕ, Ok}
use Rattle.coder.specs.Whose.{named, naming}
use Rattle.coder.proofs.laws.Heard.{divisible}
use Rattle.coder.proofs.laws.Whose.{name_is, name_fits, name_count, front_bits}
use Rattle.coder.proofs.block.name.Goals as goal

pub colour_of-identity-requires : goal.colour_of-identity-requires
colour_of-identity-requires c =
    let s = c.args in
    let found = c.decode-count in
    divisible s.f s.c.now _ found.new.u found.ensures.0 (s.f.bits + s.f.degree - 0) (omega arith)

pub overflow_cast-result : goal.overflow_cast-result
overflow_cast-result c =
    let s = c.args in
    let found = c.decode-count in
    let x = c.colour_of-identity in
    let is = name_is s.f s.c.now _ found.new.u found.ensures.0 (s.f.bits + s.f.degree - 0) x.result (omega arith) x.ensures in
    omega (arith, name_fits s.f s.c.now _ found.new.u found.ensures.0 c.requires.0 x.result is)

pub returns : goal.returns
unfolding naming
returns c =
    let s = c.args in
    let found = c.decode-count in
    let x = c.colour_of-identity in (
      ap₂ (λ (i k : ℕ). Ok (named i k)) (name_is s.f s.c.now _ found.new.u found.ensures.0 (s.f.bits + s.f.degree - 0) x.result (omega arith) x.ensures)
          (name_count s.f s.c.now _ found.new.u found.ensures.0 found.result found.ensures.1),
      front_bits s.f s.c.now _ found.new.u found.ensures.0,
    )
