-- `preliminary::put_back` is right: the table is a permutation.
use mathlib.Core.Path.{ap, ◌∙◌}
use Rattle.order.specs.Order.{entries, put_back}
use Rattle.preliminary.specs.Stage.{w_of}
use Rattle.tables.proofs.laws.Tables.{ordering_puts_back, ordering_entries}
use borrow.Author.Rules.{rules}
use Rattle.preliminary.proofs.put_back.Goals as goal

pub put_back-requires : goal.put_back-requires
put_back-requires c =
    let table = c.ordering-table in
    ordering_puts_back table.result c.args.d.now c.args.w.now table.ensures c.requires (search rules)

pub returns : goal.returns
unfolding w_of
returns c =
    let d = c.args.d.now in
    c.put_back.ensures ∙ ap (λ t. put_back t d) (ap entries c.ordering-table.ensures ∙ ordering_entries)
