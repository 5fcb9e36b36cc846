-- `frames::hand_over` is right: C1 to C15 and C16 to C21, then D1 to D260 in the order of table 2.
use Rattle.std.proofs.Common.{List, ◌++◌, ℕ, ◌≡◌, length, take, drop, sym, ap, ap₂, ◌∙◌, arith, length-append, length-drop}
use Rattle.bits.proofs.laws.Parts.{length_lent}
use Rattle.order.specs.Order.{entries, fetched}
use Rattle.tables.proofs.laws.FullRate.{importance_fetches, importance_entries}
use Rattle.frames.proofs.laws.Parts.{put_rest}
use Rattle.frames.proofs.hand_over.Goals as goal

pub copy_from_slice-requires : goal.copy_from_slice-requires
copy_from_slice-requires c = length_lent c.args.c.now 0 15 (omega (arith, c.requires.1)) ∙ sym (length_lent c.args.carried.now 0 15 (omega (arith, c.requires.0)))

pub fetch-requires : goal.fetch-requires
fetch-requires c =
    let table = c.importance-table in
    importance_fetches table.result (take 260 (drop 15 c.args.carried.now)) c.args.d.now table.ensures (length_lent c.args.carried.now 15 260 (omega (arith, c.requires.0))) c.requires.2

pub returns : goal.returns
returns c =
    let p = c.args.carried.now in
    let e = c.args.c.now in
    let table = c.importance-table in
    let copied = c.copy_from_slice in
    let copied2 = c.copy_from_slice-2 in
    let long : length copied.new.self ≡ 15 = ap length copied.ensures.after ∙ length_lent p 0 15 (omega (arith, c.requires.0)) in
    let six : length (drop 15 e) ≡ 6 = length-drop 15 e ∙ omega (arith, c.requires.1) in
    let whole : length (copied.new.self ++ drop 15 e) ≡ 21 = length-append copied.new.self (drop 15 e) ∙ omega (arith, long, six) in (
      put_rest copied.new.self (drop 15 e) copied2.new.self 15 _ long (omega (arith, six, whole)) ∙ ap₂ (λ (x y : List ℕ). x ++ y) copied.ensures.after copied2.ensures.after,
      c.fetch.ensures ∙ ap (λ t. fetched t (take 260 (drop 15 p))) (ap entries table.ensures ∙ importance_entries),
    )
