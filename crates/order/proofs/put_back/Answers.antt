-- `order::put_back` is right: row by row, each bit is put to its place, and no later one is written over it.
use mathlib.Core.List.{[]}
use mathlib.Core.Path.{◌≡◌, refl, sym, ◌∙◌, subst}
use Prim.Native.Nat.{ℕ, ◌+◌, ◌-◌, ◌*◌, ◌<◌}
use native.Mathlib.Omega.{arith}
use borrow.Author.Rules.{rules}
use lib.ListN.{length, get_or, set}
use Rattle.order.specs.Order.{entries}
use Rattle.order.proofs.laws.Loops.{in_row, row_within, same_place, Returned, returned_more, returned_all}
use Rattle.order.proofs.put_back.Goals as goal

pub overflow_sub-w : goal.overflow_sub-w
overflow_sub-w c =
    let within = c.requires.0.within in
    let row = c.loop-row.row in
    let x = c.loop-x.x in
    let table = c.args.table.now in
    let hr : row < length table = omega arith in
    let hx : x < 5 = omega arith in
    let from : c.from.result ≡ get_or (get_or table row []) x 0 = search rules in
    omega (arith, from, (row_within (5 * length table) table within row x hr hx).0)

pub bounds-w-from : goal.bounds-w-from
bounds-w-from c =
    let within = c.requires.0.within in
    let row = c.loop-row.row in
    let x = c.loop-x.x in
    let table = c.args.table.now in
    let hr : row < length table = omega arith in
    let hx : x < 5 = omega arith in
    let from : c.from.result ≡ get_or (get_or table row []) x 0 = search rules in
    let place = row_within (5 * length table) table within row x hr hx in
    omega (arith, from, place.0, place.1, c.loop-x.invariant.1)

pub loop-x-preserved : goal.loop-x-preserved
loop-x-preserved c =
    let permutation = c.requires.0 in
    let table = c.args.table.now in
    let d = c.args.d.now in
    let row = c.loop-row.row in
    let l = c.loop-x in
    let x = l.x in
    let hr : row < length table = omega arith in
    let hx : x < 5 = omega arith in
    let from : c.from.result ≡ get_or (get_or table row []) x 0 = search rules in
    let here : get_or (entries table) (5 * row + x) 0 ≡ c.from.result = in_row table row x hr hx ∙ sym from in
    let v : ℕ = get_or d (5 * row + x) 0 in
    let After : ℕ → ℕ → Type 0 = λ k place. Returned (5 * length table) (entries table) d k (set l.w (place - 1) v) in
    same_place (λ k. After k c.from.result) (5 * row + x + 1) (5 * row + (x + 1)) (omega arith)
    (subst (After (5 * row + x + 1)) here (returned_more (5 * length table) (entries table) d permutation (5 * row + x) v l.w l.invariant (omega (arith, hr, hx)) refl))

pub returns : goal.returns
returns c =
    let permutation = c.requires.0 in
    let l = c.loop-row in
    let table = c.args.table.now in
    returned_all (5 * length table) (entries table) c.args.d.now permutation (5 * l.row) l.w l.invariant (omega arith)
