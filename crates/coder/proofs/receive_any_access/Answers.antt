-- `coder::receive_any_access` is right: where every test holds, the nearest burst names its identity and its bits are handed over.
use Rattle.std.specs.Prelude.{Ok}
use lib.Dec.{lit≤}
use Rattle.std.proofs.Common.{arith, sym, ◌∙◌, length-take-le}
use Rattle.coder.proofs.laws.Entries.{done_given}
use Rattle.coder.proofs.laws.Whose.{any_done, any_refused}
use Rattle.std.proofs.lemmas.Result.{err_from_is_err_and}
use Rattle.coder.proofs.receive_any_access.Goals as goal

pub name-named-requires : goal.name-named-requires
name-named-requires c =
    let s = c.args in
    let j = c.judge in
    let given = done_given 2 s.e.now s.d.now 36 8 0 j.result j.ensures c.in_ok-judge.was in
    (lit≤ tt, given.bits, given.reads)

pub copy_from_slice-requires : goal.copy_from_slice-requires
copy_from_slice-requires c =
    let s = c.args in
    let j = c.judge in
    let given = done_given 2 s.e.now s.d.now 36 8 0 j.result j.ensures c.in_ok-judge.was in
    given.lends ∙ sym (length-take-le 8 c.name-named.new.u (omega (arith, c.name-named.array_long)))

pub returns : goal.returns
returns c =
    let s = c.args in
    let j = c.judge in
    let named = c.name-named in
    let given = done_given 2 s.e.now s.d.now 36 8 0 j.result j.ensures c.in_ok-judge.was in
    any_done s.e.now s.d.now given (Ok named.result) c.copy_from_slice.new.self named.ensures.0 (c.copy_from_slice.ensures.after ∙ named.ensures.1)

pub returns-in_err-judge : goal.returns-in_err-judge
returns-in_err-judge c =
    let s = c.args in
    let j = c.judge in
    let p = err_from_is_err_and c.from_residual.result c.from_residual.ensures.1 in
    rw (p.1, p.2) (any_refused s.e.now s.d.now j.result j.ensures c.in_err-judge.field-0.0 c.in_err-judge.was)
