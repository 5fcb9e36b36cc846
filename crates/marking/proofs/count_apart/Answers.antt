-- `marking::count_apart` is right: after some places it has summed up their disagreements, at most one each.
use Rattle.std.proofs.Common.{[], ◌∷◌, ◌++◌, ◌≡◌, ◌+◌, ap₂, ◌∙◌, arith, rules, length, length-append}
use Rattle.std.proofs.lemmas.Slice.Zip.{zip_turn, zip_end}
use Rattle.bits.specs.Bits.{differ}
use Rattle.marking.proofs.laws.Counted.{apart_none, apart_more, apart_all}
use Rattle.marking.proofs.count_apart.Goals as goal

pub loop-c-init : goal.loop-c-init
loop-c-init c = (omega arith, apart_none c.args.c.now c.args.x.now)

pub loop-c-preserved : goal.loop-c-preserved
loop-c-preserved c =
    let s = c.args in
    let l = c.loop-c in
    let a = c.apart-sum in
    let turn = zip_turn s.c.now s.x.now l.yielded c.into_iter-c-iterator.result l.c-iterator c.next.new.self c.next.result (search rules) (search rules) l.yielded_by (c.in-Some.c, c.in-Some.x) c.in-Some.is c.next.ensures.steps in
    let more : length (l.yielded ++ ((c.in-Some.c, c.in-Some.x) ∷ [])) ≡ length l.yielded + 1 = length-append l.yielded ((c.in-Some.c, c.in-Some.x) ∷ []) in
    rw more (omega (arith, l.invariant.0, a.ensures.1), apart_more s.c.now s.x.now (length l.yielded) l.sum a.result l.invariant.1 (a.ensures.0 ∙ ap₂ differ (turn.3 0) (turn.2 0)))

pub returns : goal.returns
returns c =
    let s = c.args in
    let l = c.loop-c in
    let end = zip_end s.c.now s.x.now l.yielded c.into_iter-c-iterator.result l.c-iterator c.next.new.self c.next.result (search rules) (search rules) l.yielded_by c.in-None.is c.next.ensures.steps in
    apart_all s.c.now s.x.now (length l.yielded) l.sum l.invariant.1 (omega (arith, end, c.requires.0))
