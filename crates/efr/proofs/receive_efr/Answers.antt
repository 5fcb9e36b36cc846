-- `efr::receive_efr` is right: what the speech entry hears, with the CRC judged where the parity is good.
use mathlib.Core.Path.{refl}
use Rattle.std.proofs.lemmas.Result.{err_from_is_err_and}
use Rattle.efr.proofs.laws.Entries.{wrong_length, judged_asked, received_good, received_unheard}
use Rattle.efr.proofs.receive_efr.Goals as goal

pub returns-then-s-ne244 : goal.returns-then-s-ne244
returns-then-s-ne244 c = wrong_length c.args.c.now c.args.s.now c.if-s-ne244.true

pub judge_crc-requires : goal.judge_crc-requires
judge_crc-requires c =
    let s = c.args in
    let heard = c.receive_speech in
    judged_asked s.c.now s.s.now _ heard.new.d heard.result refl c.if-s-ne244.false heard.ensures _ c.in_ok-count.was

pub returns : goal.returns
returns c =
    let s = c.args in
    let heard = c.receive_speech in
    let done = c.judge_crc in
    received_good s.c.now s.s.now _ heard.new.d heard.result refl c.if-s-ne244.false heard.ensures _ c.in_ok-count.was done.result done.new.s done.ensures

pub returns-in_err-count : goal.returns-in_err-count
returns-in_err-count c =
    let s = c.args in
    let heard = c.receive_speech in
    let p = err_from_is_err_and c.from_residual.result c.from_residual.ensures.1 in
    rw (p.1, p.2) (received_unheard s.c.now s.s.now _ heard.new.d heard.result refl c.if-s-ne244.false heard.ensures _ c.in_err-count.was)
