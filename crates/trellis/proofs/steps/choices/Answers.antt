-- The word of choices is the sixteen answers of `cheaper`, put together in the order of the states.
use Rattle.trellis.proofs.laws.Steps.{word_is}
use Rattle.trellis.proofs.steps.choices.Goals as goal

pub returns : goal.returns
returns c =
    let s = c.args in
    word_is s.row s.w
    c.cheaper-n14.result c.cheaper.result c.cheaper-2.result c.cheaper-3.result c.cheaper-4.result c.cheaper-5.result c.cheaper-6.result c.cheaper-7.result c.cheaper-8.result c.cheaper-9.result c.cheaper-10.result c.cheaper-11.result c.cheaper-12.result c.cheaper-13.result c.cheaper-14.result c.cheaper-15.result
    c.cheaper-n14.ensures.0 c.cheaper.ensures.0 c.cheaper-2.ensures.0 c.cheaper-3.ensures.0 c.cheaper-4.ensures.0 c.cheaper-5.ensures.0 c.cheaper-6.ensures.0 c.cheaper-7.ensures.0 c.cheaper-8.ensures.0 c.cheaper-9.ensures.0 c.cheaper-10.ensures.0 c.cheaper-11.ensures.0 c.cheaper-12.ensures.0 c.cheaper-13.ensures.0 c.cheaper-14.ensures.0 c.cheaper-15.ensures.0
