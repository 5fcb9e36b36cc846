-- `kinds::receive_speech` is right: coder's entry receives the coded bits, and take says what it says.
use Rattle.std.proofs.Common.{arith, ◌≡◌, refl, ◌∙◌, false}
use Rattle.std.specs.Prelude.{Ok, Err}
use Rattle.std.proofs.lemmas.Grind.{common_steps}
use Rattle.answers.specs.Answers.{Heard}
use Rattle.kinds.specs.laws.Kinds.{as_taken}
use Rattle.kinds.proofs.laws.Kinds.{speech_brought}
use Rattle.kinds.proofs.receive_speech.Goals as goal

said : (c : goal.After-map_err) (heard : Heard) → c.receive_speech.result ≡ heard → c.map_err.result ≡ as_taken false c.args.n.0 heard
unfolding as_taken
said c (Ok k) e = grind (arith, common_steps)
said c (Err why) e = grind (arith, common_steps)

pub returns : goal.returns
returns c =
    let s = c.args in
    let heard = c.receive_speech in
    let told = speech_brought s.c.now s.d.now s.n.0 c.requires.0 c.requires.1 c.requires.2 heard.result heard.new.d heard.ensures in
    record { result = said c heard.result refl ∙ told.result; left = told.left }
