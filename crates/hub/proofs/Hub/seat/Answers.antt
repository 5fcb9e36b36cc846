-- `hub::Hub::seat` is right: each answer is the one to which the tests on the way lead.
use Rattle.std.proofs.Common.{◌≡◌, ℕ, true, false, Ok, sym, ap, ◌∙◌, arith}
use Rattle.std.specs.Option.{is_some}
use Rattle.hub.specs.Hub.{nobody, stands_now}
use Rattle.hub.specs.declared.Said.TheVariants.{Place}
use Rattle.hub.specs.laws.Answers.{answered, place_found}
use Rattle.hub.proofs.laws.Answers.{enrols_none, enrols_taken, enrols_full, enrols}
use Rattle.hub.proofs.laws.Standing.{any_found, none_found, some_found}
use Rattle.hub.proofs.Hub.seat.Goals as goal

pub returns-then-identity-gt63 : goal.returns-then-identity-gt63
returns-then-identity-gt63 c = sym (enrols_none c.args.self.now c.args.identity c.if-identity-gt63.true)

pub returns-then-taken : goal.returns-then-taken
returns-then-taken c =
    let h = c.args.self.now in
    let taken : is_some (place_found h c.args.identity) ≡ true = grind arith in
    sym (enrols_taken h c.args.identity c.if-identity-gt63.false (any_found h c.args.identity taken))

pub returns-in_default : goal.returns-in_default
returns-in_default c =
    let h = c.args.self.now in
    let apart : is_some (place_found h c.args.identity) ≡ false = grind arith in
    sym (enrols_full h c.args.identity c.if-identity-gt63.false (none_found h c.args.identity apart) (none_found h nobody (ap is_some (sym c.in_default.ensures))))

pub bounds-self-free : goal.bounds-self-free
bounds-self-free c =
    let h = c.args.self.now in
    (some_found h nobody c.in-Some.free (sym c.in-Some.ensures)).1

pub overflow_cast-result : goal.overflow_cast-result
overflow_cast-result c =
    let h = c.args.self.now in
    record { fits = omega (arith, (some_found h nobody c.in-Some.free (sym c.in-Some.ensures)).1) }

pub returns : goal.returns
unfolding stands_now
returns c =
    let h = c.args.self.now in
    let i = c.args.identity in
    let apart : is_some (place_found h i) ≡ false = grind arith in
    let found = some_found h nobody c.in-Some.free (sym c.in-Some.ensures) in
    ap (λ (p : ℕ). answered (Ok (Place p)) (stands_now h p i)) (sym found.0)
    ∙ sym (enrols h i c.if-identity-gt63.false (none_found h i apart) (omega (arith, found)))
