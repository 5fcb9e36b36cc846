-- `kinds::receive_facch` is right: coder's entry receives the coded bits, and take says what it says.
use Rattle.std.proofs.Common.{arith, ◌≡◌, refl, ◌∙◌, true}
use Rattle.std.specs.Prelude.{Ok, Err}
use Rattle.std.proofs.lemmas.Grind.{common_steps}
use Rattle.answers.specs.Answers.{Heard}
use Rattle.kinds.specs.laws.Kinds.{as_taken}
use Rattle.kinds.proofs.laws.Kinds.{facch_brought}
use Rattle.kinds.proofs.receive_facch.Goals as goal

said : (c : goal.After-map_err) (heard : Heard) → c.receive_control.result ≡ heard → c.map_err.result ≡ as_taken true c.args.n.0 heard
unfolding as_taken
said c (Ok k) e = grind (arith, common_steps)
said c (Err why) e = grind (arith, common_steps)

pub returns : goal.returns
returns c =
    let s = c.args in
    let heard = c.receive_control in
    let told = facch_brought s.c.now s.d.now s.n.0 c.requires.0 c.requires.1 c.requires.2 heard.result heard.new.d heard.ensures in
    record { result = said c heard.result refl ∙ told.result; left = told.left }
