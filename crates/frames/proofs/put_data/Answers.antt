-- `frames::put_data` is right: table 2 is a permutation.
use mathlib.Core.Path.{ap, ◌∙◌}
use Rattle.frames.specs.Frame.{data_bits}
use Rattle.order.specs.Order.{entries, put_back}
use Rattle.tables.proofs.laws.FullRate.{importance_puts_back, importance_entries}
use Rattle.frames.proofs.put_data.Goals as goal

pub put_back-requires : goal.put_back-requires
put_back-requires c =
    let table = c.importance-table in
    importance_puts_back table.result c.args.d.now c.args.w.now table.ensures c.requires.0 c.requires.1

pub returns : goal.returns
unfolding data_bits
returns c =
    let d = c.args.d.now in
    c.put_back.ensures ∙ ap (λ t. put_back t d) (ap entries c.importance-table.ensures ∙ importance_entries)
