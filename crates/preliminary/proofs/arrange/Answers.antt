-- `preliminary::arrange` is right: w is filled, then fetched in the order of the table.
use mathlib.Core.Path.{ap, ap₂, ◌∙◌}
use lib.ListN.{length}
use Rattle.order.specs.Order.{entries, fetched}
use Rattle.preliminary.specs.Stage.{efr_d}
use Rattle.preliminary.proofs.laws.Stage.{length_w}
use Rattle.tables.proofs.laws.Tables.{ordering_fetches, ordering_entries}
use Rattle.preliminary.proofs.arrange.Goals as goal

pub fetch-requires : goal.fetch-requires
fetch-requires c =
    let w = c.fill_w in
    let table = c.ordering-table in
    ordering_fetches table.result w.new.w c.args.d.now table.ensures (ap length w.ensures ∙ length_w c.args.s.now) c.requires.2

pub returns : goal.returns
unfolding efr_d
returns c =
    c.fetch.ensures ∙ ap₂ fetched (ap entries c.ordering-table.ensures ∙ ordering_entries) c.fill_w.ensures
