-- `order::fetch` is right: row by row, each bit is fetched from its place.
use mathlib.Core.List.{List, []}
use mathlib.Core.Path.{◌≡◌, sym, ap, ◌∙◌}
use Prim.Native.Nat.{ℕ, ◌+◌, ◌*◌, ◌<◌}
use native.Mathlib.Omega.{arith}
use borrow.Author.Rules.{rules}
use lib.ListN.{length, get_or, set}
use Rattle.bits.specs.Bits.{tab}
use Rattle.bits.proofs.laws.Tab.{Filled, filled_more, filled_all}
use Rattle.order.specs.Order.{from1, entries, fetched}
use Rattle.order.proofs.laws.Loops.{in_row, row_within, length_entries, same_place}
use Rattle.order.proofs.fetch.Goals as goal

-- what is filled
abbrev fetches : List (List ℕ) → List ℕ → ℕ → ℕ
fetches table w i = from1 w (get_or (entries table) i 0)

pub overflow_sub-d : goal.overflow_sub-d
overflow_sub-d c =
    let within = c.requires.0 in
    let row = c.loop-row.row in
    let x = c.loop-x.x in
    let table = c.args.table.now in
    let hr : row < length table = omega arith in
    let hx : x < 5 = omega arith in
    let from : c.from.result ≡ get_or (get_or table row []) x 0 = search rules in
    omega (arith, from, (row_within (length c.args.w.now) table within row x hr hx).0)

pub bounds-w-from : goal.bounds-w-from
bounds-w-from c =
    let within = c.requires.0 in
    let row = c.loop-row.row in
    let x = c.loop-x.x in
    let table = c.args.table.now in
    let hr : row < length table = omega arith in
    let hx : x < 5 = omega arith in
    let from : c.from.result ≡ get_or (get_or table row []) x 0 = search rules in
    let place = row_within (length c.args.w.now) table within row x hr hx in
    omega (arith, from, place.0, place.1)

pub loop-x-preserved : goal.loop-x-preserved
loop-x-preserved c =
    let table = c.args.table.now in
    let w = c.args.w.now in
    let row = c.loop-row.row in
    let l = c.loop-x in
    let x = l.x in
    let hr : row < length table = omega arith in
    let hx : x < 5 = omega arith in
    let from : c.from.result ≡ get_or (get_or table row []) x 0 = search rules in
    let v : ℕ = from1 w c.from.result in
    let After : ℕ → Type 0 = λ k. Filled (fetches table w) (5 * length table) k (set l.d (5 * row + x) v) in
    same_place After (5 * row + x + 1) (5 * row + (x + 1)) (omega arith)
    (filled_more (fetches table w) (5 * length table) (5 * row + x) v l.d l.invariant (omega (arith, hr, hx)) (ap (from1 w) (from ∙ sym (in_row table row x hr hx))))

pub returns : goal.returns
unfolding fetched
returns c =
    let l = c.loop-row in
    let table = c.args.table.now in
    let w = c.args.w.now in
    filled_all (fetches table w) (5 * length table) (5 * l.row) l.d l.invariant (omega arith)
    ∙ ap (λ n. tab n (fetches table w)) (sym (length_entries table))
