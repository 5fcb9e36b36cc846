-- `burst::held::gather_flags` is right: whether each flag says b is put behind those before it in a number.
use mathlib.Core.Path.{◌≡◌, refl, ap, ◌∙◌}
use Prim.Native.Nat.{ℕ}
use native.Mathlib.Omega.{arith}
use Rattle.bits.specs.Bits.{tab, tab_from, value}
use Rattle.burst.specs.Held.{held_flag_at, held_flags, saying, sayers}
use Rattle.burst.proofs.laws.Held.{flags_more, flags_room, saying_bit}
use Rattle.burst.proofs.held.gather_flags.Goals as goal

pub loop-i-init : goal.loop-i-init
unfolding tab tab_from value
loop-i-init c = refl

pub overflow_mul-flags : goal.overflow_mul-flags
overflow_mul-flags c =
    let s = c.args in
    let l = c.loop-i in
    let f : ℕ → ℕ = λ j. saying s.b (held_flag_at s.held.now s.n.0 j) in
    omega (arith, flags_room f (λ j. saying_bit s.b (held_flag_at s.held.now s.n.0 j)) l.i l.flags 0 c.loop-i-test.true l.invariant (omega arith))

pub overflow_add-flags : goal.overflow_add-flags
overflow_add-flags c =
    let s = c.args in
    let l = c.loop-i in
    let f : ℕ → ℕ = λ j. saying s.b (held_flag_at s.held.now s.n.0 j) in
    omega (arith, flags_room f (λ j. saying_bit s.b (held_flag_at s.held.now s.n.0 j)) l.i l.flags c.says.result c.loop-i-test.true l.invariant c.says.ensures.1)

pub loop-i-preserved : goal.loop-i-preserved
loop-i-preserved c =
    let s = c.args in
    let l = c.loop-i in
    let f : ℕ → ℕ = λ j. saying s.b (held_flag_at s.held.now s.n.0 j) in
    flags_more f l.i l.flags c.says.result l.invariant (c.says.ensures.0 ∙ ap (saying s.b) c.held_flag.ensures)

pub returns : goal.returns
unfolding held_flags sayers
returns c =
    let s = c.args in
    let l = c.loop-i in
    let all : l.i ≡ 8 = omega arith in
    l.invariant ∙ ap (λ (k : ℕ). value (tab k (λ j. saying s.b (held_flag_at s.held.now s.n.0 j)))) all
