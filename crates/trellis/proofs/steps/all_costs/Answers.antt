-- `trellis::steps::all_costs` is right: its nine calls are made for the nine pairs.
use Rattle.trellis.proofs.laws.Steps.{table_is}
use Rattle.trellis.proofs.steps.all_costs.Goals as goal

pub returns : goal.returns
returns c =
    table_is c.costs.result c.costs-2.result c.costs-3.result c.costs-4.result c.costs-5.result c.costs-6.result c.costs-7.result c.costs-8.result c.costs-9.result
    c.costs.ensures c.costs-2.ensures c.costs-3.ensures c.costs-4.ensures c.costs-5.ensures c.costs-6.ensures c.costs-7.ensures c.costs-8.ensures c.costs-9.ensures
