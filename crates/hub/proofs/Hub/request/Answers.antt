-- `hub::Hub::request` is right: what one decoding says is handed on.
use Rattle.std.proofs.Common.{ap, ◌≡◌, ℕ, List, Ok, length, refl, sym, ap₂, ◌∙◌, arith, rules}
use Rattle.std.specs.Option.{is_some}
use Rattle.std.proofs.lemmas.Result.{err_from_is_err_and}
use Rattle.answers.proofs.laws.Answers.{meets_as}
use Rattle.hub.specs.Hub.{hear_answer}
use Rattle.hub.specs.declared.Said.TheVariants.{Request}
use Rattle.hub.specs.laws.Answers.{answered, goes}
use Rattle.hub.proofs.laws.Answers.{hears_length, on_named, on_refused, heard_so, goes_there, goes_nowhere}
use Rattle.hub.proofs.laws.Standing.{none_found, some_found}
use Rattle.hub.proofs.Hub.request.Goals as goal

pub returns-then-d-ne8 : goal.returns-then-d-ne8
returns-then-d-ne8 c =
    let h = c.args.self.now in
    let d = c.args.d.now in
    meets_as (hear_answer h c.args.e.now d) _ d (sym (hears_length h c.args.e.now d (λ right. c.if-d-ne8.true right.1)))

pub returns-in_err-named : goal.returns-in_err-named
returns-in_err-named c =
    let s = c.args in
    let h = s.self.now in
    let any = c.receive_any_access in
    let thirty : length h.places ≡ 30 = search rules in
    let p = err_from_is_err_and c.from_residual.result c.from_residual.ensures.1 in
    heard_so h (answered c.from_residual.result h) any.result any.new.d s.d.now s.e.now _ s.d.now thirty refl c.if-d-ne8.false any.ensures
    (on_refused h (answered c.from_residual.result h) any.result any.new.d s.d.now c.in_err-named.field-0.0 c.in_err-named.was (rw (p.1, p.2) refl))

pub returns-in_default : goal.returns-in_default
returns-in_default c =
    let s = c.args in
    let h = s.self.now in
    let any = c.receive_any_access in
    let thirty : length h.places ≡ 30 = search rules in
    let x = c.in_ok-named.named in
    heard_so h _ any.result any.new.d s.d.now s.e.now _ s.d.now thirty refl c.if-d-ne8.false any.ensures
    (on_named h _ any.result any.new.d s.d.now x.identity x.count c.in_ok-named.was s.d.now
    (meets_as (goes h x.identity x.count any.new.d s.d.now) _ s.d.now (sym (goes_nowhere h x.identity x.count any.new.d s.d.now (none_found h x.identity (ap is_some (sym c.in_default.ensures)))))))

pub overflow_cast-result : goal.overflow_cast-result
overflow_cast-result c =
    let h = c.args.self.now in
    record { fits = omega (arith, (some_found h c.in_ok-named.named.identity c.in-Some.place (sym c.in-Some.ensures)).1) }

pub returns : goal.returns
returns c =
    let s = c.args in
    let h = s.self.now in
    let any = c.receive_any_access in
    let thirty : length h.places ≡ 30 = search rules in
    let x = c.in_ok-named.named in
    let found = some_found h x.identity c.in-Some.place (sym c.in-Some.ensures) in
    heard_so h _ any.result any.new.d s.d.now s.e.now _ _ thirty refl c.if-d-ne8.false any.ensures
    (on_named h _ any.result any.new.d s.d.now x.identity x.count c.in_ok-named.was _
    (meets_as (goes h x.identity x.count any.new.d s.d.now) _ _
    (ap₂ (λ (k : ℕ) (bits : List ℕ). record { result = answered (Ok (Request k x.count)) h; left = bits }) (sym found.0) c.copy_from_slice.ensures.after
    ∙ sym (goes_there h x.identity x.count any.new.d s.d.now (omega (arith, found))))))
