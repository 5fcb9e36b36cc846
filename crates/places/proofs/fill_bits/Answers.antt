-- `places::fill_bits` is right: it fills the bytes two by two, each with the bit that the table says.
use mathlib.Core.Path.{◌∙◌, ap}
use Prim.Native.Nat.{ℕ, ◌*◌, ◌+◌}
use native.Mathlib.Omega.{arith}
use lib.ListN.{get_or}
use Rattle.bits.proofs.laws.Tab.{filled_pair, filled_all}
use Rattle.places.specs.laws.Table.{laid}
use Rattle.places.proofs.laws.Table.{bit_in_lem, laid_even, laid_odd}
use Rattle.places.proofs.fill_bits.Goals as goal

pub bounds-a-from : goal.bounds-a-from
bounds-a-from c = let rows = c.bit_rows in omega (arith, c.from.ensures, (bit_in_lem rows.result rows.ensures c.args.i c.loop-x.x c.requires.0 c.loop-x-test.true).0)

pub bounds-b-from : goal.bounds-b-from
bounds-b-from c = let rows = c.bit_rows in omega (arith, c.from-in-loop-x.ensures, (bit_in_lem rows.result rows.ensures c.args.i c.loop-x.x c.requires.0 c.loop-x-test.true).1)

pub loop-x-preserved : goal.loop-x-preserved
loop-x-preserved c =
    let l = c.loop-x in
    let rows = c.bit_rows in
    let s = c.args in
    let h = c.loop-x-test.true in (
      omega (arith, h),
      filled_pair (laid s.i s.a.now s.b.now) 116 l.x _ _ l.e l.invariant.1 (omega (arith, h))
          (ap (λ (k : ℕ). get_or s.a.now (k + 57 * s.i) 0) c.from.ensures ∙ laid_even rows.result rows.ensures s.i l.x s.a.now s.b.now)
          (ap (λ (k : ℕ). get_or s.b.now (k + 57 * s.i) 0) c.from-in-loop-x.ensures ∙ laid_odd rows.result rows.ensures s.i l.x s.a.now s.b.now),
    )

pub returns : goal.returns
returns c =
    let s = c.args in
    let l = c.loop-x in
    filled_all (laid s.i s.a.now s.b.now) 116 (2 * l.x) l.e l.invariant.1 (omega (arith, c.loop-x-test.false))
