-- `places::fill_parts` is right: four parts, one after another, make the whole.
use Rattle.places.proofs.laws.Table.{parts_twice}
use Rattle.places.proofs.fill_parts.Goals as goal

pub returns : goal.returns
returns c =
    let f₁ = c.fill in
    let f₂ = c.fill-2 in
    let f₃ = c.fill-3 in
    let f₄ = c.fill-4 in
    let s = c.args in
    parts_twice s.a.now s.b.now s.flags s.e.now f₁.new.e f₂.new.e f₃.new.e f₄.new.e
    c.requires f₁.ensures f₂.ensures f₃.ensures f₄.ensures
