-- `answer` is right: each way through it is one of the answer's.
use Rattle.std.proofs.Common.{rules, arith, sym, ap, ◌∙◌, ◌≡◌, ℕ, ◌-◌, List, ◌++◌, length, take, drop, length-append, length-drop, length-take-le, take_all}
use Rattle.text.specs.Text.{put_at}
use Rattle.text.proofs.laws.Put.{put_then}
use Rattle.access_sheet.specs.Sheet.{said, sheet_answer}
use Rattle.access_sheet.proofs.laws.Sheet.{answer_short, answer_bad, answer_said}
use Rattle.access_sheet.proofs.sheet.answer.Goals as goal

pub returns-then-line-ne11 : goal.returns-then-line-ne11
returns-then-line-ne11 c =
    let a = c.args in
    let e = answer_short a.line.now c.if-line-ne11.true in
    let put = c.put_word.ensures in
    (search rules, put.0 ∙ ap length e, put.1 ∙ ap (put_at a.out.now 0) e)

pub returns-in_default : goal.returns-in_default
returns-in_default c =
    let a = c.args in
    let e = answer_bad a.line.now c.if-line-ne11.false (sym c.read_head.ensures ∙ c.in_default.is) in
    let put = c.put_word-in_default.ensures in
    (search rules, put.0 ∙ ap length e, put.1 ∙ ap (put_at a.out.now 0) e)

pub returns : goal.returns
returns c =
    let a = c.args in
    let line : List ℕ = a.line.now in
    let identity : ℕ = c.in-Some.identity in
    let head : List ℕ = take 3 line in
    let put = c.put_word-n.ensures in
    let access = c.put_access.ensures in
    let rest : List ℕ = take (length line - 3) (drop 3 line) in
    let all : rest ≡ drop 3 line = take_all (length line - 3) (drop 3 line) (rw (length-drop 3 line) (omega arith)) in
    let e = answer_said line identity c.if-line-ne11.false (sym c.read_head.ensures ∙ c.in-Some.is) in
    let whole : head ++ said identity rest ≡ sheet_answer line = ap (λ (x : List ℕ). head ++ said identity x) all ∙ e in (
      omega (arith, length-take-le 3 line (omega arith)),
      omega (arith, access.1, put.0, length-append head (said identity rest), ap length whole),
      access.2
          ∙ ap (λ (o : List ℕ). put_at o c.put_word-n.result (said identity rest)) put.1
          ∙ put_then a.out.now head (said identity rest) 0 c.put_word-n.result (omega arith) put.0
          ∙ ap (put_at a.out.now 0) whole,
    )
