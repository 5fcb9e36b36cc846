-- `trellis::steps::step` is right: each state has the fewer of its two ways.
use Rattle.trellis.proofs.laws.Steps.{row_is}
use Rattle.trellis.proofs.steps.step.Goals as goal

pub returns : goal.returns
returns c =
    let s = c.args in
    row_is s.row s.w
    c.join.result c.join-2.result c.join-3.result c.join-4.result c.join-5.result c.join-6.result c.join-7.result c.join-8.result c.join-9.result c.join-10.result c.join-11.result c.join-12.result c.join-13.result c.join-14.result c.join-15.result c.join-16.result
    c.join.ensures c.join-2.ensures c.join-3.ensures c.join-4.ensures c.join-5.ensures c.join-6.ensures c.join-7.ensures c.join-8.ensures c.join-9.ensures c.join-10.ensures c.join-11.ensures c.join-12.ensures c.join-13.ensures c.join-14.ensures c.join-15.ensures c.join-16.ensures
