-- `kinds::receive_tied` is right: what is good as FACCH is brought so; else the buffer is as before, and what is good as speech is brought so.
use Rattle.std.proofs.Common.{arith, ◌≡◌, refl, ap}
use Rattle.std.specs.Prelude.{Ok, Err, is_ok}
use Rattle.std.proofs.lemmas.Grind.{common_steps}
use Rattle.answers.specs.Answers.{Meets}
use Rattle.answers.proofs.laws.Answers.{known}
use Rattle.chart.specs.Answers.{Take}
use Rattle.chart.specs.declared.Kind.TheVariants.{Neither}
use Rattle.chart.specs.declared.Untaken.TheVariants.{Tie}
use Rattle.kinds.specs.Kinds.{by_kind}
use Rattle.kinds.proofs.laws.Kinds.{tied_facch_ok, tied_speech_ok, tied_neither_ok}
use Rattle.kinds.proofs.receive_tied.Goals as goal

pub returns-in-Ok : goal.returns-in-Ok
returns-in-Ok c =
    let s = c.args in
    let facch = c.receive_facch in
    known c.in-Ok.is (tied_facch_ok s.n.0 s.c.now s.d.now facch.result facch.new.d facch.ensures (ap is_ok c.in-Ok.is))

-- as speech, by what that says
as_speech : (c : goal.After-map_err) (told : Take) → c.receive_speech.result ≡ told
    → Meets (by_kind Neither c.args.n.0 c.args.c.now c.args.d.now) c.map_err.result c.receive_speech.new.d
as_speech c (Ok t) e =
    let s = c.args in
    let facch = c.receive_facch in
    let speech = c.receive_speech in
    let same : speech.result ≡ c.map_err.result = grind (arith, common_steps) in
    known same
    (tied_speech_ok s.n.0 s.c.now s.d.now facch.result facch.new.d facch.ensures (ap is_ok c.in_default.is) speech.result speech.new.d speech.ensures (ap is_ok e))
as_speech c (Err why) e =
    let s = c.args in
    let facch = c.receive_facch in
    let speech = c.receive_speech in
    let nine : Err (Tie s.n) ≡ c.map_err.result = grind (arith, common_steps) in
    known nine
    (tied_neither_ok s.n.0 s.c.now s.d.now facch.result facch.new.d facch.ensures (ap is_ok c.in_default.is) speech.result speech.new.d speech.ensures (ap is_ok e))

pub returns : goal.returns
returns c = as_speech c c.receive_speech.result refl
