-- `efr::judge_crc` is right: s is read out of d, and handed over where the CRC is good.
use mathlib.Core.Path.{◌∙◌}
use Rattle.efr.proofs.laws.Entries.{crc_good_lem, crc_bad}
use Rattle.efr.proofs.judge_crc.Goals as goal

pub returns-then-not-restore : goal.returns-then-not-restore
returns-then-not-restore c =
    let s = c.args in
    let read = c.restore in
    crc_bad s.count s.d.now s.s.now read.result read.ensures.0 (c.if-not-restore.true)

pub returns : goal.returns
returns c =
    let s = c.args in
    let read = c.restore in
    let over = c.copy_from_slice in
    crc_good_lem s.count s.d.now s.s.now read.result read.ensures.0 over.new.self (c.if-not-restore.false) (over.ensures.after ∙ read.ensures.1)
