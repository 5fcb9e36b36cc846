-- `coder::speech::receive` is right: the nearest block is judged by its parity bits, and handed over where they are good.
use mathlib.Core.Path.{refl}
use native.Mathlib.Omega.{arith}
use lib.Dec.{lit≤}
use lib.Seq.{length-take-le}
use Rattle.bits.proofs.laws.Sum.{over_take}
use Rattle.coder.specs.Received.{speech_heard}
use Rattle.coder.proofs.laws.Heard.{handed_good, handed_bad}
use Rattle.coder.proofs.laws.SpeechHeard.{bits_v, long_v, bits_f, long_f, speech_is, count_is, bits_are}
use Rattle.coder.proofs.speech.receive.Goals as goal

pub nearest-count-requires : goal.nearest-count-requires
nearest-count-requires c =
    let bits = c.args.c.now in
    (length-take-le 378 bits (omega (arith, c.requires.reads)), lit≤ tt, refl, over_take 2 378 bits c.requires.bits)

pub is_good-requires : goal.is_good-requires
is_good-requires c =
    let s = c.args in
    let filled = c.fill_d in
    let found = c.nearest-count in
    (bits_f s.c.now _ found.new.u _ filled.new.d c.requires.reads found.ensures.0 refl filled.ensures, bits_v s.c.now _ found.new.u _ filled.new.d c.requires.reads found.ensures.0 refl filled.ensures, long_f s.c.now _ found.new.u _ filled.new.d c.requires.reads found.ensures.0 refl filled.ensures, long_v s.c.now _ found.new.u _ filled.new.d c.requires.reads found.ensures.0 refl filled.ensures)

pub returns-then-not-is_good : goal.returns-then-not-is_good
returns-then-not-is_good c =
    let s = c.args in
    let filled = c.fill_d in
    let found = c.nearest-count in
    let held = c.is_good in
    handed_bad (speech_heard s.c.now) s.d.now
    held.result (speech_is s.c.now _ found.new.u _ filled.new.d c.requires.reads found.ensures.0 refl filled.ensures held.result held.ensures)
    found.result (count_is s.c.now _ found.new.u _ filled.new.d c.requires.reads found.ensures.0 refl filled.ensures found.result found.ensures.1)
    (c.if-not-is_good.true)

pub returns : goal.returns
returns c =
    let s = c.args in
    let filled = c.fill_d in
    let found = c.nearest-count in
    let held = c.is_good in
    let over = c.hand_over in
    handed_good (speech_heard s.c.now) s.d.now
    held.result (speech_is s.c.now _ found.new.u _ filled.new.d c.requires.reads found.ensures.0 refl filled.ensures held.result held.ensures)
    found.result (count_is s.c.now _ found.new.u _ filled.new.d c.requires.reads found.ensures.0 refl filled.ensures found.result found.ensures.1)
    over.new.d (c.if-not-is_good.false) (bits_are s.c.now _ found.new.u _ filled.new.d c.requires.reads found.ensures.0 refl filled.ensures over.new.d over.ensures)
