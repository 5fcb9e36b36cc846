-- `coder::whose_access` is right: where both tests hold, the nearest burst names its identity.
use Rattle.std.specs.Prelude.{Ok}
use mathlib.Core.List.{[]}
use lib.Dec.{lit≤}
use Rattle.coder.proofs.laws.Entries.{done_given}
use Rattle.coder.proofs.laws.Whose.{whose_done, whose_refused}
use Rattle.std.proofs.lemmas.Result.{err_from_is_err_and}
use Rattle.coder.proofs.whose_access.Goals as goal

pub name-requires : goal.name-requires
name-requires c =
    let s = c.args in
    let j = c.judge in
    let given = done_given 2 s.e.now [] 36 0 0 j.result j.ensures c.in_ok-judge.was in
    (lit≤ tt, given.bits, given.reads)

pub returns : goal.returns
returns c =
    let s = c.args in
    let j = c.judge in
    whose_done s.e.now j.result j.ensures c.in_ok-judge.was (Ok c.name.result) c.name.ensures.0

pub returns-in_err-judge : goal.returns-in_err-judge
returns-in_err-judge c =
    let s = c.args in
    let j = c.judge in
    let p = err_from_is_err_and c.from_residual.result c.from_residual.ensures.1 in
    rw (p.1, p.2) (whose_refused s.e.now j.result j.ensures c.in_err-judge.field-0.0 c.in_err-judge.was)
