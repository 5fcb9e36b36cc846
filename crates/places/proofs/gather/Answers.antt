-- `places::gather` is right: it fills the places row by row, each with what stands where the table says.
use mathlib.Core.List.{List}
use mathlib.Core.Path.{◌≡◌, ◌∙◌, subst, ap}
use Prim.Native.Nat.{ℕ, ◌+◌, ◌*◌}
use native.Mathlib.Omega.{arith}
use lib.ListN.{get_or, set}
use Rattle.bits.proofs.laws.Tab.{Filled, filled_more, filled_all}
use Rattle.places.specs.laws.Table.{placed_in}
use Rattle.places.proofs.laws.Table.{place_in, placed}
use Rattle.places.proofs.gather.Goals as goal

pub bounds-bursts-from : goal.bounds-bursts-from
bounds-bursts-from c =
    let rows = c.place_rows in
    omega (arith, c.from.ensures, place_in rows.result rows.ensures c.loop-row.row c.loop-x.x c.loop-row-test.true c.loop-x-test.true)

-- a place that is said in another way
same : (f : ℕ → ℕ) (x y : ℕ) (out : List ℕ) → x ≡ y → Filled f 456 x out → Filled f 456 y out
same f x y out e h = subst (λ (k : ℕ). Filled f 456 k out) e h

pub loop-x-preserved : goal.loop-x-preserved
loop-x-preserved c =
    let rows = c.place_rows in
    let w = c.args.bursts.now in
    let row = c.loop-row.row in
    let l = c.loop-x in
    let hr = c.loop-row-test.true in
    let hx = c.loop-x-test.true in
    let v : ℕ = get_or w c.from.result 0 in (
      omega (arith, hx),
      same (placed_in w) (8 * row + l.x + 1) (8 * row + (l.x + 1)) (set l.c (8 * row + l.x) v) (omega arith)
          (filled_more (placed_in w) 456 (8 * row + l.x) v l.c l.invariant.1 (omega (arith, hr, hx)) (ap (λ (k : ℕ). get_or w k 0) c.from.ensures ∙ placed rows.result rows.ensures row l.x hr hx w)),
    )

pub returns : goal.returns
returns c =
    let l = c.loop-row in
    filled_all (placed_in c.args.bursts.now) 456 (8 * l.row) l.c l.invariant.1 (omega (arith, c.loop-row-test.false))
