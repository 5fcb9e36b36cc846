-- `preliminary::fetch_important` is right: every entry of the table is a place of s.
use mathlib.Core.Path.{ap, ◌∙◌}
use Rattle.order.specs.Order.{entries, fetched}
use Rattle.tables.proofs.laws.Tables.{important_asked, important_entries}
use Rattle.preliminary.proofs.fetch_important.Goals as goal

pub fetch-requires : goal.fetch-requires
fetch-requires c =
    let table = c.important-table in
    important_asked table.result c.args.s.now c.args.b.now table.ensures c.requires.0 c.requires.1

pub returns : goal.returns
returns c =
    let s = c.args.s.now in
    c.fetch.ensures ∙ ap (λ t. fetched t s) (ap entries c.important-table.ensures ∙ important_entries)
