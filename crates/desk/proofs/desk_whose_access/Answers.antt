-- `desk::desk_whose_access` is right: it is coder's entry, told in one number.
use mathlib.Core.Path.{sym, ap, ap₂, ◌∙◌}
use Prim.Native.Nat.{ℕ, ◌+◌, ◌*◌}
use Rattle.desk.proofs.laws.Desk.{named_in_one, refused_in_one}
use Rattle.desk.proofs.desk_whose_access.Goals as goal

pub returns-in-Ok : goal.returns-in-Ok
returns-in-Ok c =
    let w = c.whose_access in
    named_in_one _ c.in-Ok.named.identity c.in-Ok.named.count _ (sym w.ensures ∙ c.in-Ok.is) (ap₂ (λ (i k : ℕ). 16777216 * i + k) c.from.ensures c.from-in-Ok.ensures)

pub returns-in-Err : goal.returns-in-Err
returns-in-Err c =
    let w = c.whose_access in
    refused_in_one _ c.in-Err.why _ (sym w.ensures ∙ c.in-Err.is) (ap (λ (k : ℕ). 65536 * k) (c.from-in-Err-2.ensures ∙ c.from-in-Err.ensures))
