-- `trellis::steps::costs` is right: its sixteen calls are made for the pairs that lead into the sixteen states.
use Rattle.trellis.proofs.laws.Steps.{costs_are}
use Rattle.trellis.proofs.steps.costs.Goals as goal

pub returns : goal.returns
returns c =
    let s = c.args in
    costs_are s.x s.y
    c.pair_cost.result c.pair_cost-2.result c.pair_cost-3.result c.pair_cost-4.result c.pair_cost-5.result c.pair_cost-6.result c.pair_cost-7.result c.pair_cost-8.result c.pair_cost-9.result c.pair_cost-10.result c.pair_cost-11.result c.pair_cost-12.result c.pair_cost-13.result c.pair_cost-14.result c.pair_cost-15.result c.pair_cost-16.result
    c.pair_cost.ensures.0 c.pair_cost-2.ensures.0 c.pair_cost-3.ensures.0 c.pair_cost-4.ensures.0 c.pair_cost-5.ensures.0 c.pair_cost-6.ensures.0 c.pair_cost-7.ensures.0 c.pair_cost-8.ensures.0 c.pair_cost-9.ensures.0 c.pair_cost-10.ensures.0 c.pair_cost-11.ensures.0 c.pair_cost-12.ensures.0 c.pair_cost-13.ensures.0 c.pair_cost-14.ensures.0 c.pair_cost-15.ensures.0 c.pair_cost-16.ensures.0
